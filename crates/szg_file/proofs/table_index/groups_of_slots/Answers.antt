use Rattle.std.proofs.Common.{length, get_or, ◌∙◌, List, map, sym, ap, subst, arith, Some}
use Rattle.szg_values.specs.Material.{Sides}
use Rattle.szg_count.specs.Laws.{IsIn}
use Rattle.szg_count.proofs.Differ.{IsIn-at}
use Rattle.szg_file.specs.Contents.{Slot}
use Rattle.szg_file.specs.Held.{part_of}
use Rattle.szg_file.specs.Index.{AreSlotGroups, IsOrderedSlot}
use Rattle.szg_file.specs.declared.table.PartBytes.{PartBytes}
use Rattle.szg_file.proofs.Tables.IndexGroups.{groups_more, groups_so_far, ordered_slot}
use Rattle.szg_file.proofs.table_index.groups_of_slots.Goals as goal

pub groups_of_slot-requires : goal.groups_of_slot-requires
groups_of_slot-requires c =
    let xs = c.as_slice-slot-items.result.now in let parts = map part_of c.args.parts.now.bytes.items in
    let there : IsIn c.slot-item.result xs = subst (λ (s : Slot). IsIn s xs) (sym c.slot-item.is) (IsIn-at xs c.loop-slot.slot-index c.slot-item.result c.loop-slot-test.true) in
    let ordered = ordered_slot c.args.material.now c.args.kind parts c.slot-item.result c.material-material.ensures.named c.requires.valid
    (subst (λ (l : List Slot). IsIn c.slot-item.result l) (c.as_slice-slot-items.ensures.value ∙ c.requires.slots) there) in
    subst (λ (m : Sides). IsOrderedSlot m (map part_of c.deref.result.now) c.slot-item.result) (sym c.material-material.ensures.material)
    (subst (λ (l : List PartBytes). IsOrderedSlot c.args.material.now (map part_of l) c.slot-item.result) (sym c.deref.ensures.value) ordered)

pub push-requires : goal.push-requires
push-requires c =
    let xs = c.args.parts.now.slots.items in let long = ap (λ (l : List Slot). length l) c.as_slice-slot-items.ensures.value in let test = c.loop-slot-test.true in
    let few = groups_so_far (AreSlotGroups c.material-material.result.now (map part_of c.args.parts.now.bytes.items)) xs c.loop-slot.groups.items c.loop-slot.slot-index
    (omega (arith, long, test)) c.parts_fit.ensures c.loop-slot.invariant in
    omega (arith, few)

pub loop-slot-preserved : goal.loop-slot-preserved
loop-slot-preserved c =
    let P = AreSlotGroups c.material-material.result.now (map part_of c.args.parts.now.bytes.items) in
    let xs = c.args.parts.now.slots.items in let value = c.as_slice-slot-items.ensures.value in let long = ap (λ (l : List Slot). length l) value in let test = c.loop-slot-test.true in
    let is = c.slot-item.is ∙ ap (λ (l : List Slot). get_or l c.loop-slot.slot-index c.slot-item.result) value in
    groups_more P xs c.loop-slot.groups.items c.push.new.self.items c.loop-slot.slot-index c.slot-item.result (Some c.groups_of_slot.result) (omega (arith, long, test)) is c.push.ensures.items c.loop-slot.invariant
    (subst (λ (l : List PartBytes). P c.slot-item.result (Some c.groups_of_slot.result)) c.deref.ensures.value
    (subst (λ (l : List PartBytes). AreSlotGroups c.material-material.result.now (map part_of l) c.slot-item.result (Some c.groups_of_slot.result)) c.deref.ensures.value c.groups_of_slot.ensures))
