use Rattle.std.proofs.Common.{◌∙◌, ap, subst, arith}
use Rattle.std.proofs.lemmas.List.{length-map}
use Rattle.szg_count.specs.Grouped.{AreGroupsOf}
use Rattle.szg_count.specs.Groups.{Nibbles, nibbles_of, order_fault}
use Rattle.szg_count.specs.Views.{nibbles_in}
use Rattle.szg_file.specs.Contents.{Slot}
use Rattle.szg_file.specs.Held.{part_of}
use Rattle.szg_file.proofs.Tables.IndexGroups.{nibbles_read}
use Rattle.szg_file.proofs.table_index.groups_of_slot.Goals as goal

pub of-requires-clause-ordered : goal.of-requires-clause-ordered
of-requires-clause-ordered c =
    ap (order_fault c.args.material.now) (c.of_side-order.ensures ∙ ap (λ (s : Slot). nibbles_of s.side c.deref.result.now c.deref-2.result.now) c.slot.view_is ∙ nibbles_read c.args.parts.now c.args.slot.part c.args.slot.side c.from.result c.index-parts-from.result c.deref.result.now c.deref-2.result.now
    (let n = length-map c.args.parts.now part_of in let h = c.requires.part in omega (arith, n, h)) (c.from.ensures ∙ ap (λ (s : Slot). s.part) c.slot.view_is) c.index-parts-from.is c.deref.ensures.value c.deref-2.ensures.value) ∙ c.requires.ordered

pub returns : goal.returns
returns c =
    subst (λ (n : Nibbles). AreGroupsOf c.args.material.now c.args.slot.part n c.of.result)
    (c.of_side-order.ensures ∙ ap (λ (s : Slot). nibbles_of s.side c.deref.result.now c.deref-2.result.now) c.slot.view_is ∙ nibbles_read c.args.parts.now c.args.slot.part c.args.slot.side c.from.result c.index-parts-from.result c.deref.result.now c.deref-2.result.now
    (let n = length-map c.args.parts.now part_of in let h = c.requires.part in omega (arith, n, h)) (c.from.ensures ∙ ap (λ (s : Slot). s.part) c.slot.view_is) c.index-parts-from.is c.deref.ensures.value c.deref-2.ensures.value) (subst (λ (s : Slot). AreGroupsOf c.args.material.now s.part (nibbles_in c.of_side-order.result) c.of.result) c.slot.view_is c.of.ensures)
