use Rattle.std.proofs.Common.{◌∙◌, ap, option_map}
use Rattle.szg_file.specs.Contents.{Slot, Subtable}
use Rattle.szg_file.specs.Held.{Shown}
use Rattle.szg_file.specs.Index.{Index, slot_in}
use Rattle.szg_file.specs.Values.{subtable_at}
use Rattle.szg_file.specs.contracts.table.Table.{the_view}
use Rattle.szg_file.proofs.Tables.IndexLaws.{size_of_table}
use Rattle.szg_file.proofs.table.Table.size.Goals as goal

pub returns : goal.returns
returns c =
    let part = c.args.part in let side = c.args.side in
    c.size.ensures ∙ ap (λ (x : Index). option_map (λ (slot : Slot). slot.size) (slot_in x part side)) c.self.invariant.1
    ∙ size_of_table (the_view c.self.inside).contents c.self.inside.filled.items part side c.self.invariant.0
    ∙ ap (λ (t : Shown). option_map (λ (found : Slot × Subtable). found.0.size) (subtable_at t.contents part side)) c.self.view_is
