use Rattle.std.proofs.Common.{◌≡◌, ◌<◌, sym, subst, Option}
use Rattle.std.specs.Prelude.{IsSome, IfSome, IsNone}
use Rattle.szg_file.specs.Contents.{Slot}
use Rattle.szg_file.specs.Index.{Index, slot_in}
use Rattle.szg_file.specs.Values.{subtable_at}
use Rattle.szg_file.proofs.Tables.IndexLaws.{slot_there, slot_of_table}
use Rattle.szg_place.specs.Spots.{board_at, place_fault, placement_refusal, spot_of}
use Rattle.szg_place.specs.Tables.{numbering_in}
use Rattle.szg_place.specs.declared.Spot.{Spot}
use Rattle.szg_place.proofs.Indexes.Found.{if_first}
use Rattle.szg_place.proofs.laws.index_of_placement.Goals as goal

pub index_in_placement-requires-clause-there : goal.index_in_placement-requires-clause-there
index_in_placement-requires-clause-there c =
    subst (λ (x : Index). IsSome (slot_in x c.args.part c.args.side)) (sym c.index.ensures.index)
    (slot_there c.args.table.now.contents c.args.table.now.filled c.args.part c.args.side c.index.ensures.accepted c.requires.there)

pub index_in_placement-requires-clause-below : goal.index_in_placement-requires-clause-below
index_in_placement-requires-clause-below c =
    let t = c.args.table.now.contents in
    subst (λ (x : Index). IfSome (slot_in x c.args.part c.args.side) (λ slot. c.args.index < slot.size)) (sym c.index.ensures.index)
    (subst (λ (o : Option Slot). IfSome o (λ slot. c.args.index < slot.size)) (slot_of_table t c.args.table.now.filled c.args.part c.args.side c.index.ensures.accepted)
    (if_first (λ slot. c.args.index < slot.size) (subtable_at t c.args.part c.args.side) c.requires.below))

pub returns-clause-accepted : goal.returns-clause-accepted
returns-clause-accepted c =
    subst (λ (x : Index). IsNone (placement_refusal (numbering_in x) c.args.part c.args.side) → IsNone (place_fault (numbering_in x) (board_at (numbering_in x) c.args.part c.args.side c.args.index)))
    c.index.ensures.index c.index_in_placement.ensures.accepted

pub returns-clause-spot : goal.returns-clause-spot
returns-clause-spot c =
    let spot : Spot = record { part = c.args.part; side = c.args.side; index = c.args.index } in
    subst (λ (x : Index). IsNone (placement_refusal (numbering_in x) c.args.part c.args.side) → spot_of (numbering_in x) (board_at (numbering_in x) c.args.part c.args.side c.args.index) ≡ spot)
    c.index.ensures.index c.index_in_placement.ensures.spot
