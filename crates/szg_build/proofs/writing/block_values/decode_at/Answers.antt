use Rattle.std.proofs.Common.{◌≡◌, ℕ, ◌+◌, ◌<◌, ◌++◌, List, length, take, ap, sym, ◌∙◌, arith}
use Rattle.std.specs.Prelude.{slice_index}
use Rattle.std.proofs.lemmas.List.{get_or_read}
use Rattle.szg_block.specs.Block.{block_at, block_values, needed}
use Rattle.szg_block.specs.Expansion.{needed_values}
use Rattle.szg_block.specs.Layout.{Layout}
use Rattle.szg_block.specs.Subtable.{layout_from}
use Rattle.szg_block.proofs.KeptLayouts.{shaped_is_headed}
use Rattle.szg_block.proofs.Reading.{block_whole}
use Rattle.szg_block.proofs.Values.{start-more}
use Rattle.szg_build.specs.BlockValues.{values_on}
use Rattle.szg_build.proofs.Writers.StoredLaws.{values_next}
use Rattle.szg_build.proofs.writing.block_values.decode_at.Goals as goal

pub decode_block-requires-clause-head : goal.decode_block-requires-clause-head
decode_block-requires-clause-head c = shaped_is_headed c.args.sub.now c.args.size c.requires.at.shaped.0

pub decode_block-requires-clause-spelled : goal.decode_block-requires-clause-spelled
decode_block-requires-clause-spelled c =
    let sound = rw c.in-Pairs.is at c.requires.at.sound in
    let there = rw c.in-Pairs.is at c.requires.there in
    rw (c.in-Pairs.is, c.block_of-block.ensures, c.deref.ensures.value) (sound.words c.args.n there)

pub decode_block-requires-clause-whole : goal.decode_block-requires-clause-whole
decode_block-requires-clause-whole c =
    let shaped = rw c.in-Pairs.is at c.requires.at.shaped in
    let there = rw c.in-Pairs.is at c.requires.there in
    rw (c.in-Pairs.is, c.block_of-block.ensures, c.deref.ensures.value) (block_whole c.in-Pairs.block_bits c.in-Pairs.packed.items c.in-Pairs.blocks shaped.1 c.args.n there)

pub overflow_add-result : goal.overflow_add-result
overflow_add-result c = omega (arith, c.requires.at.few)

pub overflow_add-result-2 : goal.overflow_add-result-2
overflow_add-result-2 c = omega (arith, c.requires.at.few)

pub returns-clause-values : goal.returns-clause-values
unfolding needed_values
returns-clause-values c =
    let layout : Layout = layout_from c.in-Pairs.block_bits c.in-Pairs.span_bits c.in-Pairs.extra c.in-Pairs.blocks c.in-Pairs.code c.in-Pairs.dict c.in-Pairs.sparse.items c.in-Pairs.lengths.items in
    let there = rw c.in-Pairs.is at c.requires.there in
    let decoded = rw c.in-Pairs.is at c.in_ok-decode_block.ensures in
    let block : c.block_of-block.result.now ≡ block_at c.in-Pairs.block_bits c.in-Pairs.packed.items c.args.n =
    c.block_of-block.ensures ∙ ap (λ (z : List ℕ). block_at c.in-Pairs.block_bits z c.args.n) c.deref.ensures.value in
    let here : c.decode_block.new.values.items ≡ needed_values layout c.in-Pairs.packed.items c.args.size c.args.n =
    decoded
    ∙ ap (λ (z : List ℕ). z ++ take (needed layout.lengths c.args.size c.args.n) (block_values layout c.block_of-block.result.now)) c.clear.ensures.items
    ∙ ap (λ (z : List ℕ). take (needed layout.lengths c.args.size c.args.n) (block_values layout z)) block in
    rw c.in-Pairs.is (values_next layout c.in-Pairs.packed.items c.args.size c.args.n there
    ∙ ap (λ (z : List ℕ). z ++ values_on layout c.in-Pairs.packed.items c.args.size (c.args.n + 1)) (sym here))

pub returns-clause-next : goal.returns-clause-next
returns-clause-next c =
    let shaped = rw c.in-Pairs.is at c.requires.at.shaped in
    let there = rw c.in-Pairs.is at c.requires.there in
    let before = rw c.in-Pairs.is at c.requires.at.before_is in
    let below : c.args.n < length c.in-Pairs.lengths.items = omega (arith, shaped.0.1.lengths, there) in
    let long : c.index.result.now ≡ slice_index c.in-Pairs.lengths.items c.args.n = get_or_read c.in-Pairs.lengths.items _ _ below c.index.ensures 0 in
    let next = start-more c.in-Pairs.lengths.items c.args.n below in
    record {
      shaped = c.requires.at.shaped;
      sound = c.requires.at.sound;
      before_is = rw c.in-Pairs.is (omega (arith, before, long, next, c.from.ensures));
      few = omega (arith, c.requires.at.few);
    }
