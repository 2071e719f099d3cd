use Rattle.std.proofs.Common.{ℕ, ◌≡◌, ◌-◌, ◌<◌, ◌≤◌, suc, List, length, ap, sym, ◌∙◌, arith}
use Rattle.std.specs.List.{slice_get}
use Rattle.std.proofs.lemmas.Option.{get_or_from_slice_get}
use Rattle.szg_pairs.specs.Expansion.{expansion_of, depths_of}
use Rattle.szg_block.specs.Spelled.{values_spelled, word_at, pairs_above}
use Rattle.szg_block.proofs.Spelling.{values_spelled-none, values_spelled-taken, length-values_spelled-taken}
use Rattle.szg_block.proofs.WordAt.{word_at-here, word_at-rest_location, pairs_above-here, pairs_above-rest_location}
use Rattle.szg_block.proofs.Joined.{slice_get-append_before, slice_get-append_after}
use Rattle.szg_block.proofs.words.find_in_block.Goals as goal

pub returns-then-ahead-from : goal.returns-then-ahead-from
returns-then-ahead-from c =
    let xs : List ℕ = expansion_of c.args.dict.now c.in-Some.symbol in
    let ys : List ℕ = values_spelled c.args.code.now c.args.dict.now c.next.new.bits.left in
    let e = values_spelled-taken c.args.code.now c.requires.accepted c.args.dict.now c.loop-symbol.words c.next.new.bits c.in-Some.symbol c.in-Some.ensures.found in
    let inside : c.loop-symbol.ahead < length xs = omega (arith, c.len-count.ensures.number, c.from.ensures) in
    let n = word_at-here c.args.code.now c.requires.accepted c.args.dict.now c.loop-symbol.words c.next.new.bits c.in-Some.symbol c.in-Some.ensures.found c.loop-symbol.ahead inside in
    let d = pairs_above-here c.args.code.now c.requires.accepted c.args.dict.now c.loop-symbol.words c.next.new.bits c.in-Some.symbol c.in-Some.ensures.found c.loop-symbol.ahead inside in
    record {
      value = sym c.loop-symbol.invariant.same ∙ ap (λ u. slice_get u c.loop-symbol.ahead) e ∙ slice_get-append_before xs ys c.loop-symbol.ahead inside ∙ c.descend.ensures.value;
      words = omega (arith, n, c.loop-symbol.invariant.counted);
      pairs = sym (c.loop-symbol.invariant.pairs ∙ d ∙ get_or_from_slice_get (depths_of c.args.dict.now c.in-Some.symbol) c.loop-symbol.ahead _ 0 c.descend.ensures.pairs);
    }

pub loop-symbol-preserved : goal.loop-symbol-preserved
loop-symbol-preserved c =
    let xs : List ℕ = expansion_of c.args.dict.now c.in-Some.symbol in
    let ys : List ℕ = values_spelled c.args.code.now c.args.dict.now c.next.new.bits.left in
    let e = values_spelled-taken c.args.code.now c.requires.accepted c.args.dict.now c.loop-symbol.words c.next.new.bits c.in-Some.symbol c.in-Some.ensures.found in
    let n = length-values_spelled-taken c.args.code.now c.requires.accepted c.args.dict.now c.loop-symbol.words c.next.new.bits c.in-Some.symbol c.in-Some.ensures.found in
    let l : c.from-ahead.result ≡ length xs = omega (arith, c.len-count.ensures.number, c.from-ahead.ensures) in
    let past : length xs ≤ c.loop-symbol.ahead = omega (arith, c.len-count.ensures.number, c.from.ensures) in
    let w = word_at-rest_location c.args.code.now c.requires.accepted c.args.dict.now c.loop-symbol.words c.next.new.bits c.in-Some.symbol c.in-Some.ensures.found c.loop-symbol.ahead past in
    let d = pairs_above-rest_location c.args.code.now c.requires.accepted c.args.dict.now c.loop-symbol.words c.next.new.bits c.in-Some.symbol c.in-Some.ensures.found c.loop-symbol.ahead past in
    let w' : (word_at c.args.code.now c.args.dict.now c.loop-symbol.words.left c.loop-symbol.ahead).list ≡ suc (word_at c.args.code.now c.args.dict.now c.next.new.bits.left (c.loop-symbol.ahead - c.from-ahead.result)).list =
    w ∙ ap (λ k. suc (word_at c.args.code.now c.args.dict.now c.next.new.bits.left (c.loop-symbol.ahead - k)).list) (sym l) in
    record {
      within = omega (arith, n, l, c.loop-symbol.invariant.within);
      same = ap (λ k. slice_get ys (c.loop-symbol.ahead - k)) l ∙ sym (slice_get-append_after xs ys c.loop-symbol.ahead past) ∙ ap (λ u. slice_get u c.loop-symbol.ahead) (sym e) ∙ c.loop-symbol.invariant.same;
      counted = omega (arith, w', c.loop-symbol.invariant.counted);
      pairs = c.loop-symbol.invariant.pairs ∙ d ∙ ap (λ k. pairs_above c.args.code.now c.args.dict.now c.next.new.bits.left (c.loop-symbol.ahead - k)) (sym l);
      few = omega (arith, l, c.len-count.ensures.at_least, c.loop-symbol.invariant.few);
    }

pub unreachable-requires : goal.unreachable-requires
unreachable-requires c =
    let e = values_spelled-none c.args.code.now c.args.dict.now c.loop-symbol.words.left c.in_default.ensures.none.0 in
    omega (arith, ap (λ u. length u) e, c.loop-symbol.invariant.within)
