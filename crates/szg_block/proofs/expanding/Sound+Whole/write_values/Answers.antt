use Rattle.std.proofs.Common.{ℕ, ◌≡◌, ◌+◌, ◌-◌, ◌≤◌, ◌++◌, min, List, length, take, ap, sym, ◌∙◌, subst, arith, length-take}
use Rattle.std.specs.List.{slice_index}
use Rattle.std.proofs.lemmas.List.{get_or_read, take_all}
use Rattle.szg_code.specs.Bits.{bits}
use Rattle.szg_block.specs.Views.{Shown, values_shown}
use Rattle.szg_block.specs.Block.{block_at, needed}
use Rattle.szg_block.specs.Spelled.{values_spelled}
use Rattle.szg_block.proofs.Values.{start-zero, start-more, length-joined_values}
use Rattle.szg_block.proofs.Parts.{spells_of, count-needed}
use Rattle.szg_block.proofs.Reading.{block_enough, spelled_to, spelled_to-none, spelled_to-more, spelled_to-all}
use Rattle.szg_block.proofs.Written.{more_fits, front_written, room_is}
use Rattle.szg_block.proofs.expanding.Sound+Whole.write_values.Goals as goal

pub loop-n-init : goal.loop-n-init
loop-n-init c = record {
  known = sym (start-zero c.in-Pairs.lengths.items);
  small = omega arith;
  there = omega arith;
  joined = sym (spelled_to-none c.in-Pairs.code c.in-Pairs.dict c.in-Pairs.lengths.items c.self.inside.size (block_at c.self.inside.blocks.block_bits c.self.inside.blocks.packed.now));
}

pub write_values-requires-clause-within : goal.write_values-requires-clause-within
write_values-requires-clause-within c =
    let ready = rw c.in-Pairs.is at c.self.invariant in
    let few : length c.in-Pairs.lengths.items ≡ c.in-Pairs.blocks + c.in-Pairs.extra = ready.head.1.lengths in
    let size_is : length c.args.values.now ≡ c.self.inside.size = c.requires ∙ sym (ap (λ (s : Shown). s.size) c.self.view_is) in
    let r : c.index-count.result.now ≡ slice_index c.in-Pairs.lengths.items c.loop-n.n = get_or_read c.in-Pairs.lengths.items _ _ (omega arith) c.index-count.ensures 0 in
    let e : c.needed_from-needed.result ≡ min (slice_index c.in-Pairs.lengths.items c.loop-n.n + 1) (c.self.inside.size - c.loop-n.start) = c.needed_from-needed.ensures ∙ ap (λ k. min (k + 1) (c.self.inside.size - c.loop-n.start)) r in
    let room = room_is c.loop-n.at c.needed_from-needed.result c.loop-n.values (omega (arith, e, size_is, c.loop-n.invariant.there, c.loop-n.auto.values)) in
    let enough = spells_of c.in-Pairs.code c.in-Pairs.dict c.in-Pairs.lengths.items c.self.inside.size c.loop-n.n c.loop-n.start c.needed_from-needed.result c.block_of-block.result.now _ e c.loop-n.invariant.known c.block_of-block.ensures
    (block_enough _ _ _ _ ready.head.1 ready.code ready.all ready.whole ready.sound c.loop-n.n c.loop-n-test.true) in
    omega (arith, room, enough)

pub loop-n-preserved : goal.loop-n-preserved
loop-n-preserved c =
    let ready = rw c.in-Pairs.is at c.self.invariant in
    let few : length c.in-Pairs.lengths.items ≡ c.in-Pairs.blocks + c.in-Pairs.extra = ready.head.1.lengths in
    let size_is : length c.args.values.now ≡ c.self.inside.size = c.requires ∙ sym (ap (λ (s : Shown). s.size) c.self.view_is) in
    let k : ℕ = c.needed_from-needed.result in
    let r : c.index-count.result.now ≡ slice_index c.in-Pairs.lengths.items c.loop-n.n = get_or_read c.in-Pairs.lengths.items _ _ (omega arith) c.index-count.ensures 0 in
    let e : k ≡ min (slice_index c.in-Pairs.lengths.items c.loop-n.n + 1) (c.self.inside.size - c.loop-n.start) = c.needed_from-needed.ensures ∙ ap (λ k. min (k + 1) (c.self.inside.size - c.loop-n.start)) r in
    let w = count-needed c.in-Pairs.code c.in-Pairs.dict c.in-Pairs.lengths.items c.self.inside.size c.loop-n.n c.loop-n.start k c.block_of-block.result.now _ e c.loop-n.invariant.known c.block_of-block.ensures in
    let s = start-more c.in-Pairs.lengths.items c.loop-n.n (omega arith) in
    let old = spelled_to c.in-Pairs.code c.in-Pairs.dict c.in-Pairs.lengths.items c.self.inside.size (block_at c.self.inside.blocks.block_bits c.self.inside.blocks.packed.now) c.loop-n.n in
    let spelled : List ℕ = values_spelled c.in-Pairs.code c.in-Pairs.dict (bits c.block_of-block.result.now) in
    let within : c.loop-n.at + k ≤ length c.loop-n.values = omega (arith, e, size_is, c.loop-n.invariant.there, c.loop-n.auto.values) in
    let room = room_is c.loop-n.at k c.loop-n.values within in
    let new : c.write_values.new.values ≡ take k spelled = c.write_values.ensures ∙ ap (λ m. take m spelled) room in
    let enough = spells_of c.in-Pairs.code c.in-Pairs.dict c.in-Pairs.lengths.items c.self.inside.size c.loop-n.n c.loop-n.start k c.block_of-block.result.now _ e c.loop-n.invariant.known c.block_of-block.ensures
    (block_enough _ _ _ _ ready.head.1 ready.code ready.all ready.whole ready.sound c.loop-n.n c.loop-n-test.true) in
    let long : length c.write_values.new.values ≡ k = omega (arith, ap (λ u. length u) new, length-take k spelled, enough) in
    let fits = more_fits c.loop-n.at k c.loop-n.values c.write_values.new.values within long in
    record {
      known = omega arith;
      small = omega arith;
      there = omega (arith, fits, e, r, c.from.ensures, size_is, c.loop-n.invariant.there, c.loop-n.auto.values);
      joined = front_written c.loop-n.at k c.loop-n.values c.write_values.new.values (omega (arith, within)) long
          ∙ ap (λ u. take c.loop-n.at c.loop-n.values ++ u) new
          ∙ ap (λ u. u ++ take k spelled) c.loop-n.invariant.joined
          ∙ ap (λ m. old ++ take m spelled) w
          ∙ ap (λ u. old ++ take (needed c.in-Pairs.lengths.items c.self.inside.size c.loop-n.n) (values_spelled c.in-Pairs.code c.in-Pairs.dict (bits u))) c.block_of-block.ensures
          ∙ sym (spelled_to-more c.in-Pairs.code c.in-Pairs.dict c.in-Pairs.lengths.items c.self.inside.size (block_at c.self.inside.blocks.block_bits c.self.inside.blocks.packed.now) c.loop-n.n);
    }

pub returns : goal.returns
returns c =
    let ready = rw c.in-Pairs.is at c.self.invariant in
    let size_is : length c.args.values.now ≡ c.self.inside.size = c.requires ∙ sym (ap (λ (s : Shown). s.size) c.self.view_is) in
    let n : c.loop-n.n ≡ c.in-Pairs.blocks = omega arith in
    let all = spelled_to-all _ _ _ _ ready.head.1 ready.code ready.all ready.whole ready.sound in
    let e = c.loop-n.invariant.joined ∙ ap (λ k. spelled_to c.in-Pairs.code c.in-Pairs.dict c.in-Pairs.lengths.items c.self.inside.size (block_at c.self.inside.blocks.block_bits c.self.inside.blocks.packed.now) k) n ∙ all in
    let whole = length-joined_values _ _ _ ready.code ready.head.1 ready.sound in
    let at_end : length c.loop-n.values ≤ c.loop-n.at = omega (arith, ap (λ u. length u) e, whole, length-take c.loop-n.at c.loop-n.values, size_is, c.loop-n.auto.values) in
    let done = sym (take_all c.loop-n.at c.loop-n.values at_end) ∙ e in
    subst (λ (s : Shown). c.loop-n.values ≡ values_shown s) c.self.view_is (rw c.in-Pairs.is done)
