use Rattle.std.proofs.Common.{◌≡◌, ◌<◌, sym, subst, Option}
use Rattle.std.specs.Prelude.{IsSome, IfSome, IsNone, Ok, Err}
use Rattle.szg_file.specs.Contents.{Slot}
use Rattle.szg_file.specs.Index.{Index, slot_in}
use Rattle.szg_file.specs.Values.{subtable_at}
use Rattle.szg_file.proofs.Tables.IndexLaws.{slot_there, slot_of_table}
use Rattle.szg_place.specs.Spots.{placement_refusal, board_at}
use Rattle.szg_place.specs.Tables.{numbering_in}
use Rattle.szg_place.proofs.Indexes.Found.{if_first}
use Rattle.szg_place.proofs.tables.placement_of.Goals as goal

pub placement-requires-clause-there : goal.placement-requires-clause-there
placement-requires-clause-there c =
    subst (λ (x : Index). IsSome (slot_in x c.args.part c.args.side)) (sym c.index.ensures.index)
    (slot_there c.args.table.now.contents c.args.table.now.filled c.args.part c.args.side c.index.ensures.accepted c.requires.there)

pub placement-requires-clause-below : goal.placement-requires-clause-below
placement-requires-clause-below c =
    let t = c.args.table.now.contents in
    subst (λ (x : Index). IfSome (slot_in x c.args.part c.args.side) (λ slot. c.args.index < slot.size)) (sym c.index.ensures.index)
    (subst (λ (o : Option Slot). IfSome o (λ slot. c.args.index < slot.size)) (slot_of_table t c.args.table.now.filled c.args.part c.args.side c.index.ensures.accepted)
    (if_first (λ slot. c.args.index < slot.size) (subtable_at t c.args.part c.args.side) c.requires.below))

pub returns-clause-refused : goal.returns-clause-refused
returns-clause-refused c =
    subst (λ (x : Index). IfSome (placement_refusal (numbering_in x) c.args.part c.args.side) (λ fault. c.placement.result ≡ Err fault)) c.index.ensures.index c.placement.ensures.refused

pub returns-clause-placed : goal.returns-clause-placed
returns-clause-placed c =
    subst (λ (x : Index). IsNone (placement_refusal (numbering_in x) c.args.part c.args.side) → c.placement.result ≡ Ok (board_at (numbering_in x) c.args.part c.args.side c.args.index)) c.index.ensures.index c.placement.ensures.placed
