use Rattle.std.proofs.Common.{rules, ℕ, ◌≡◌, ◌+◌, ◌-◌, ◌/◌, ◌<◌, ◌≤◌, inl, List, length, get_or, sym, ap, ◌∙◌, arith}
use Rattle.std.proofs.lemmas.List.{get_or-replicate, length-set}
use Rattle.szg_code.specs.Canonical.{CanonicalCode, base}
use Rattle.szg_code.specs.CodeHeader.{code_of}
use Rattle.szg_code.proofs.BaseSteps.{values_more, base_here, read_falls, base_at_last, rooms_none, rooms_more, overfull_here}
use Rattle.szg_code.proofs.checks.CodeHeader.bases.Goals as goal

pub loop-below-init : goal.loop-below-init
loop-below-init c =
    let lengths = c.requires.lengths in
    let code : CanonicalCode = code_of c.args.self.now in
    let count : ℕ = c.len-count.result in
    let is : count ≡ length code.lowest = search rules in
    let each : length code.lowest + code.min_length ≡ code.max_length + 1 = lengths.each in
    let order : code.min_length ≤ code.max_length = lengths.in_order in
    let most : code.max_length ≤ 32 = lengths.at_most in
    let some : 1 ≤ code.min_length = lengths.some_bits in
    record {
      placed = search rules;
      bases = λ k from less. let last : k + 1 ≡ length code.lowest = omega arith in get_or-replicate 32 k 0 0 (omega arith) ∙ sym (base_at_last code lengths k last);
      small = let e = base_at_last code lengths (count - 1) (omega arith) in omega arith;
      rooms = rooms_none code lengths;
    }

pub overflow_sub-index : goal.overflow_sub-index
overflow_sub-index c =
    let code : CanonicalCode = code_of c.args.self.now in
    let j : ℕ = c.len-count.result - 1 - c.loop-below.below in
    let is : c.len-count.result ≡ length code.lowest = search rules in
    let from : 1 ≤ c.loop-below.below = c.loop-below.auto.below in
    let test : c.loop-below.below < c.len-count.result = c.loop-below-test.true in
    read_falls code c.requires.lengths c.requires.ordered j c.index.result.now c.index-in-loop-below.result.now (omega arith) c.index.ensures c.index-in-loop-below.ensures

pub returns-then-here-longer-clause-overfull : goal.returns-then-here-longer-clause-overfull
returns-then-here-longer-clause-overfull c =
    let code : CanonicalCode = code_of c.args.self.now in
    let below : ℕ = c.loop-below.below in
    let j : ℕ = c.len-count.result - 1 - below in
    let is : c.len-count.result ≡ length code.lowest = search rules in
    let from : 1 ≤ below = c.loop-below.auto.below in
    let test : below < c.len-count.result = c.loop-below-test.true in
    let count_is : j + 1 + below ≡ length code.lowest = omega arith in
    let longer = c.loop-below.invariant.bases (j + 1) (omega arith) (omega arith) in
    let here = base_here code c.requires.lengths c.requires.ordered j c.index.result.now c.index-in-loop-below.result.now (get_or c.loop-below.bases (j + 1) 0) c.from-apart.result (omega arith) c.index.ensures c.index-in-loop-below.ensures longer c.from-apart.ensures in
    let over = c.if-here-longer.true in
    inl (overfull_here code c.requires.lengths j below (omega arith) count_is (omega (arith, here, longer, over)) c.loop-below.invariant.rooms)

pub loop-below-preserved : goal.loop-below-preserved
loop-below-preserved c =
    let code : CanonicalCode = code_of c.args.self.now in
    let lengths = c.requires.lengths in
    let xs : List ℕ = c.loop-below.bases in
    let below : ℕ = c.loop-below.below in
    let j : ℕ = c.len-count.result - 1 - below in
    let is : c.len-count.result ≡ length code.lowest = search rules in
    let from : 1 ≤ below = c.loop-below.auto.below in
    let test : below < c.len-count.result = c.loop-below-test.true in
    let placed : length xs ≡ 32 = c.loop-below.invariant.placed in
    let each : length code.lowest + code.min_length ≡ code.max_length + 1 = lengths.each in
    let most : code.max_length ≤ 32 = lengths.at_most in
    let some : 1 ≤ code.min_length = lengths.some_bits in
    let count_is : j + 1 + below ≡ length code.lowest = omega arith in
    let longer = c.loop-below.invariant.bases (j + 1) (omega arith) (omega arith) in
    let here = base_here code lengths c.requires.ordered j c.index.result.now c.index-in-loop-below.result.now (get_or xs (j + 1) 0) c.from-apart.result (omega arith) c.index.ensures c.index-in-loop-below.ensures longer c.from-apart.ensures in
    let room = c.if-here-longer.false in
    record {
      placed = ap (λ (n : ℕ). n) (length-set xs j ((get_or xs (j + 1) 0 + c.from-apart.result) / 2)) ∙ placed;
      bases = values_more (λ (k : ℕ). base code (code.min_length + k)) xs c.len-count.result below ((get_or xs (j + 1) 0 + c.from-apart.result) / 2) j (omega arith) (omega arith) c.loop-below.invariant.bases here;
      small =
          let old : base code (code.min_length + (c.len-count.result - below)) ≤ 65535 = c.loop-below.invariant.small in
          let at_next : c.len-count.result - below ≡ j + 1 = omega arith in
          let old' : base code (code.min_length + (j + 1)) ≤ 65535 = rw at_next at old in
          let at_j : c.len-count.result - (below + 1) ≡ j = omega arith in
          let a_small : c.index.result.now < 65536 = search rules in
          rw at_j (omega (arith, here, longer, old', a_small, c.from-apart.ensures));
      rooms = rooms_more code lengths j below count_is (omega (arith, here, longer, room)) c.loop-below.invariant.rooms;
    }
