use Rattle.std.proofs.Common.{◌≡◌, ◌/◌, ◌^◌, Some, ap, sym, ◌∙◌, arith}
use Rattle.std.specs.List.{slice_get}
use Rattle.std.specs.Option.{option_map}
use Rattle.std.proofs.lemmas.Option.{slice_get-get_or, slice_get-map}
use Rattle.szg_block.specs.Indexed.{entry_of}
use Rattle.szg_block.specs.Subtable.{layout_from}
use Rattle.szg_block.specs.declared.Entry.{Entry}
use Rattle.szg_block.proofs.KeptLayouts.{kept_entries, located_at, located_below, moves_to, span_entry, value_before_end}
use Rattle.szg_block.proofs.probing.locate_value.Goals as goal

pub index-entry-requires : goal.index-entry-requires
index-entry-requires c =
    let can = rw c.in-Pairs.is at c.requires.index in
    let there = span_entry c.in-Pairs.block_bits c.in-Pairs.span_bits c.in-Pairs.extra c.in-Pairs.blocks c.in-Pairs.code c.in-Pairs.dict c.in-Pairs.sparse.items c.in-Pairs.lengths.items c.args.size can c.args.i c.requires.below in
    omega (arith, there)

pub find_kept-requires-clause-entry : goal.find_kept-requires-clause-entry
find_kept-requires-clause-entry c =
    let can = rw c.in-Pairs.is at c.requires.index in
    let there = span_entry c.in-Pairs.block_bits c.in-Pairs.span_bits c.in-Pairs.extra c.in-Pairs.blocks c.in-Pairs.code c.in-Pairs.dict c.in-Pairs.sparse.items c.in-Pairs.lengths.items c.args.size can c.args.i c.requires.below in
    let entry : Entry = c.index-entry.result.now in
    let found : slice_get c.in-Pairs.sparse.items (c.args.i / 2 ^ c.in-Pairs.span_bits) ≡ Some entry =
    slice_get-get_or c.in-Pairs.sparse.items (c.args.i / 2 ^ c.in-Pairs.span_bits) entry there ∙ ap Some (sym c.index-entry.ensures) in
    rw c.deref.ensures.value found

pub unreachable-requires : goal.unreachable-requires
unreachable-requires c =
    let can = rw c.in-Pairs.is at c.requires.index in
    let kept = kept_entries c.in-Pairs.block_bits c.in-Pairs.span_bits c.in-Pairs.extra c.in-Pairs.blocks c.in-Pairs.code c.in-Pairs.dict c.in-Pairs.sparse.items c.in-Pairs.lengths.items c.args.size can in
    let layout = layout_from c.in-Pairs.block_bits c.in-Pairs.span_bits c.in-Pairs.extra c.in-Pairs.blocks c.in-Pairs.code c.in-Pairs.dict c.in-Pairs.sparse.items c.in-Pairs.lengths.items in
    let past = (rw (c.deref.ensures.value, c.deref-2.ensures.value) at c.in_default-find_kept.ensures.none) kept in
    omega (arith, past, value_before_end layout c.args.size can.total c.args.i c.requires.below)

pub prove-unreachable-requires : goal.prove-unreachable-requires
prove-unreachable-requires c =
    let can = rw c.in-Pairs.is at c.requires.index in
    let kept = kept_entries c.in-Pairs.block_bits c.in-Pairs.span_bits c.in-Pairs.extra c.in-Pairs.blocks c.in-Pairs.code c.in-Pairs.dict c.in-Pairs.sparse.items c.in-Pairs.lengths.items c.args.size can in
    let layout = layout_from c.in-Pairs.block_bits c.in-Pairs.span_bits c.in-Pairs.extra c.in-Pairs.blocks c.in-Pairs.code c.in-Pairs.dict c.in-Pairs.sparse.items c.in-Pairs.lengths.items in
    let some = rw c.deref-2.ensures.value at c.in-Some.ensures.there in
    let is = (rw (c.deref.ensures.value, c.deref-2.ensures.value) at c.in-Some.ensures.location) kept in
    let there = located_below layout c.args.size can.total c.args.i c.requires.below c.in-Some.at.block c.in-Some.at.item c.in-Some.at.length some is in
    omega (arith, there, c.if-prove.true)

pub returns-clause-there : goal.returns-clause-there
returns-clause-there c = rw c.in-Pairs.is c.if-prove.false

pub returns-clause-block : goal.returns-clause-block
returns-clause-block c =
    let can = rw c.in-Pairs.is at c.requires.index in
    let kept = kept_entries c.in-Pairs.block_bits c.in-Pairs.span_bits c.in-Pairs.extra c.in-Pairs.blocks c.in-Pairs.code c.in-Pairs.dict c.in-Pairs.sparse.items c.in-Pairs.lengths.items c.args.size can in
    let layout = layout_from c.in-Pairs.block_bits c.in-Pairs.span_bits c.in-Pairs.extra c.in-Pairs.blocks c.in-Pairs.code c.in-Pairs.dict c.in-Pairs.sparse.items c.in-Pairs.lengths.items in
    let some = rw c.deref-2.ensures.value at c.in-Some.ensures.there in
    let is = (rw (c.deref.ensures.value, c.deref-2.ensures.value) at c.in-Some.ensures.location) kept in
    rw c.in-Pairs.is (located_at layout c.args.size can.total c.args.i c.requires.below c.in-Some.at.block c.in-Some.at.item c.in-Some.at.length some c.in-Some.ensures.inside is).0

pub returns-clause-item : goal.returns-clause-item
returns-clause-item c =
    let can = rw c.in-Pairs.is at c.requires.index in
    let kept = kept_entries c.in-Pairs.block_bits c.in-Pairs.span_bits c.in-Pairs.extra c.in-Pairs.blocks c.in-Pairs.code c.in-Pairs.dict c.in-Pairs.sparse.items c.in-Pairs.lengths.items c.args.size can in
    let layout = layout_from c.in-Pairs.block_bits c.in-Pairs.span_bits c.in-Pairs.extra c.in-Pairs.blocks c.in-Pairs.code c.in-Pairs.dict c.in-Pairs.sparse.items c.in-Pairs.lengths.items in
    let some = rw c.deref-2.ensures.value at c.in-Some.ensures.there in
    let is = (rw (c.deref.ensures.value, c.deref-2.ensures.value) at c.in-Some.ensures.location) kept in
    rw c.in-Pairs.is (located_at layout c.args.size can.total c.args.i c.requires.below c.in-Some.at.block c.in-Some.at.item c.in-Some.at.length some c.in-Some.ensures.inside is).1

pub returns-clause-moves : goal.returns-clause-moves
returns-clause-moves c =
    let can = rw c.in-Pairs.is at c.requires.index in
    let kept = kept_entries c.in-Pairs.block_bits c.in-Pairs.span_bits c.in-Pairs.extra c.in-Pairs.blocks c.in-Pairs.code c.in-Pairs.dict c.in-Pairs.sparse.items c.in-Pairs.lengths.items c.args.size can in
    let layout = layout_from c.in-Pairs.block_bits c.in-Pairs.span_bits c.in-Pairs.extra c.in-Pairs.blocks c.in-Pairs.code c.in-Pairs.dict c.in-Pairs.sparse.items c.in-Pairs.lengths.items in
    let some = rw c.deref-2.ensures.value at c.in-Some.ensures.there in
    let is = (rw (c.deref.ensures.value, c.deref-2.ensures.value) at c.in-Some.ensures.location) kept in
    let at = (located_at layout c.args.size can.total c.args.i c.requires.below c.in-Some.at.block c.in-Some.at.item c.in-Some.at.length some c.in-Some.ensures.inside is).0 in
    let there = span_entry c.in-Pairs.block_bits c.in-Pairs.span_bits c.in-Pairs.extra c.in-Pairs.blocks c.in-Pairs.code c.in-Pairs.dict c.in-Pairs.sparse.items c.in-Pairs.lengths.items c.args.size can c.args.i c.requires.below in
    let entry : Entry = c.index-entry.result.now in
    let found : slice_get c.in-Pairs.sparse.items (c.args.i / 2 ^ c.in-Pairs.span_bits) ≡ Some entry =
    slice_get-get_or c.in-Pairs.sparse.items (c.args.i / 2 ^ c.in-Pairs.span_bits) entry there ∙ ap Some (sym c.index-entry.ensures) in
    let mapped : slice_get layout.sparse (c.args.i / 2 ^ layout.span_bits) ≡ Some (entry_of entry) =
    slice_get-map entry_of c.in-Pairs.sparse.items (c.args.i / 2 ^ c.in-Pairs.span_bits) ∙ ap (option_map entry_of) found in
    rw c.in-Pairs.is (c.abs_diff.ensures ∙ moves_to layout c.args.i c.in-Some.at.block (entry_of entry) mapped at)
