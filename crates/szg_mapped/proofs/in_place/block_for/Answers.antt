use Rattle.std.proofs.Common.{◌≡◌, ℕ, ◌+◌, ◌*◌, ◌-◌, ◌^◌, ◌<◌, min, ap, arith, subst, sym, ◌∙◌}
use Rattle.szg_block.specs.Block.{needed}
use Rattle.szg_block.specs.Subtable.{layout_of}
use Rattle.szg_mapped.proofs.InPlaceLaws.{held, needed_is, sound_in_place, standing}
use Rattle.szg_mapped.proofs.in_place.block_for.Goals as goal

pub returns-in_err-value-clause-found : goal.returns-in_err-value-clause-found
returns-in_err-value-clause-found c = λ placed stands shaped index.
    let is = ap layout_of c.in-Pairs.is in
    let layout = (standing placed c.args.sub.now stands c.args.size shaped index _ is).layout in
    absurd (c.in_err-value.ensures.found layout c.args.size (sound_in_place placed c.args.sub.now stands c.args.size shaped index _ is) c.requires.below)

pub returns-in_err-before-clause-found : goal.returns-in_err-before-clause-found
returns-in_err-before-clause-found c = λ placed stands shaped index.
    let is = ap layout_of c.in-Pairs.is in
    let layout = (standing placed c.args.sub.now stands c.args.size shaped index _ is).layout in
    let at = c.in_ok-value.ensures.found layout c.args.size (sound_in_place placed c.args.sub.now stands c.args.size shaped index _ is) c.requires.below in
    let h = held placed c.args.sub.now stands c.args.size shaped index _ is c.args.i _ _ c.requires.below at.block at.item in
    absurd (omega (arith, h.within, c.in_err-before.ensures))

pub returns-clause-found : goal.returns-clause-found
returns-clause-found c = λ placed stands shaped index.
    let is = ap layout_of c.in-Pairs.is in
    let head = standing placed c.args.sub.now stands c.args.size shaped index _ is in
    let at = c.in_ok-value.ensures.found head.layout c.args.size (sound_in_place placed c.args.sub.now stands c.args.size shaped index _ is) c.requires.below in
    let count : c.block_bytes-count.result ≡ 2 ^ head.layout.block_bits = (rw c.in-Pairs.is at c.block_bytes-count.ensures.bytes) ∙ ap (λ n. 2 ^ n) (sym head.same.block_bits) in
    let short : c.in_ok-value.value.item < 65536 = omega (arith, c.in_ok-value.ensures.inside) in
    let before : c.in_ok-before.before ≡ c.args.i - c.in_ok-value.value.item = omega (arith, c.in_ok-before.ensures) in
    record {
      spot = rw head.is (record {
        block = at.block;
        item = at.item;
        short = short;
        there = omega (arith, c.in_ok-value.ensures.there, head.same.blocks);
        count = count;
        offset = ap (λ n. n + c.from.result * c.block_bytes-count.result) stands.first ∙ ap (λ n. placed.first + n * c.block_bytes-count.result) c.from.ensures ∙ ap (λ n. placed.first + c.in_ok-value.value.block * n) count;
      });
      needed = rw head.is (subst (λ (n : ℕ). c.needed_from.result ≡ needed head.layout.lengths c.args.size n) at.block (needed_is placed c.args.sub.now stands c.args.size shaped index _ is c.args.i _ _ c.requires.below at.block at.item c.in_ok-value.value.length c.needed_from.result (sym c.in_ok-value.ensures.length) (c.needed_from.ensures ∙ ap (λ (n : ℕ). min (c.in_ok-value.value.length + 1) (c.args.size - n)) before)));
    }
