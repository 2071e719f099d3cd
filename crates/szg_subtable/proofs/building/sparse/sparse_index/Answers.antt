use Rattle.std.proofs.Common.{ℕ, [], ◌∷◌, ◌≡◌, ◌+◌, ◌*◌, ◌%◌, ◌^◌, length, map, ap, sym, ◌∙◌, arith, length-append}
use Rattle.std.specs.Int.{div_ceil}
use Rattle.std.proofs.lemmas.Nat.{pow_pos}
use Rattle.std.proofs.lemmas.List.{length-map, map-append}
use Rattle.szg_block.specs.Sound.{entry_count}
use Rattle.szg_block.proofs.Powers.{shifted_one, rounded_up}
use Rattle.szg_block.proofs.Values.{start-zero}
use Rattle.szg_block.specs.Indexed.{entry_of}
use Rattle.szg_subtable.proofs.Builders.SparseLaws.{middle-is, middle-next, index_none, index_more, entry_is}
use Rattle.szg_subtable.proofs.building.sparse.sparse_index.Goals as goal

pub loop-span_number-init : goal.loop-span_number-init
loop-span_number-init c = record {
  count = ap length c.new-sparse.ensures.items;
  index = index_none c.args.lengths.now c.args.span_bits (map entry_of c.new-sparse.result.items) (ap (map entry_of) c.new-sparse.ensures.items);
  there = c.requires.some;
  at = sym (start-zero c.args.lengths.now);
  from = omega arith;
}

pub entry_to-requires-clause-from : goal.entry_to-requires-clause-from
entry_to-requires-clause-from c =
    let w = shifted_one c.args.span_bits (omega (arith, c.requires.most_bits)) in
    let at = middle-is c.args.span_bits c.loop-span_number.span_number (1 * 2 ^ c.args.span_bits % 18446744073709551616) w in
    omega (arith, at, c.loop-span_number.invariant.from)

pub loop-span_number-preserved : goal.loop-span_number-preserved
loop-span_number-preserved c =
    let old = c.loop-span_number in
    let j : ℕ = old.span_number in
    let w = shifted_one c.args.span_bits (omega (arith, c.requires.most_bits)) in
    let at = middle-is c.args.span_bits j (1 * 2 ^ c.args.span_bits % 18446744073709551616) w in
    record {
      count = ap length c.in_ok-push.ensures.items ∙ length-append old.sparse.items (c.entry_to.result ∷ []) ∙ ap (λ (k : ℕ). k + 1) old.invariant.count;
      index = index_more c.args.lengths.now c.args.span_bits j (map entry_of old.sparse.items) (map entry_of c.push.new.self.items) (entry_of c.entry_to.result) old.invariant.index
          (length-map old.sparse.items entry_of ∙ old.invariant.count)
          (ap (map entry_of) c.in_ok-push.ensures.items ∙ map-append entry_of old.sparse.items (c.entry_to.result ∷ []))
          (entry_is c.args.lengths.now c.args.span_bits j _ c.args.size (entry_of c.entry_to.result) at c.requires.total c.entry_to.ensures.block c.entry_to.ensures.place c.entry_to.ensures.inside c.entry_to.ensures.beyond);
      there = c.entry_to.ensures.there;
      at = c.entry_to.ensures.at;
      from = omega (arith, c.entry_to.ensures.from, at, middle-next c.args.span_bits j);
    }

pub returns-clause-count : goal.returns-clause-count
unfolding entry_count
returns-clause-count c =
    let w = shifted_one c.args.span_bits (omega (arith, c.requires.most_bits)) in
    let whole : c.div_ceil-count.result ≡ entry_count c.args.span_bits c.args.size =
    c.div_ceil-count.ensures ∙ ap (λ k. div_ceil c.args.size k) w ∙ rounded_up c.args.size (2 ^ c.args.span_bits) (pow_pos c.args.span_bits) in
    let all : c.loop-span_number.span_number ≡ c.div_ceil-count.result = omega (arith, c.loop-span_number-test.false, c.loop-span_number.auto.span_number-end) in
    c.loop-span_number.invariant.count ∙ all ∙ whole
