use Rattle.std.proofs.Common.{ℕ, ap, ◌∙◌, map}
use Rattle.szg_count.specs.Groups.{product, size_of, order_fault}
use Rattle.szg_count.specs.Views.{nibbles_in}
use Rattle.szg_file.specs.Contents.{Slot}
use Rattle.szg_file.proofs.Readers.PartLaws.{size_stated, stated_groups}
use Rattle.szg_file.proofs.reading.parts.slot_of_side.Goals as goal

pub returns-in-Ok-clause-slot : goal.returns-in-Ok-clause-slot
returns-in-Ok-clause-slot c =
    let m = c.args.material.now in
    let stated = stated_groups (order_fault m (nibbles_in c.of_side.result)) c.in-Ok.groups _ c.in-Ok.ensures.ordered c.in-Ok.ensures.refused in
    ap (λ (n : ℕ). let slot : Slot = record { part = c.args.part; side = c.args.side; size = n } in slot)
    (c.size.ensures.product ∙ ap (λ groups. product (map (λ group. group.ways) groups)) stated
    ∙ size_stated m c.args.part (nibbles_in c.of_side.result) ∙ ap (size_of m c.args.part) c.of_side.ensures)
