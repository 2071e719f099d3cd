-- For a TableIndex: ranking the placement of an index returns the index.
use Rattle.std.proofs.Common.{◌≡◌, ℕ, ◌<◌, refl, Option, Some, None}
use Rattle.std.specs.Prelude.{IsNone, IsSome, IfSome}
use Rattle.szg_values.specs.Material.{IsMaterial}
use Rattle.szg_file.specs.Index.{Index, IsIndex, slot_in}
use Rattle.szg_place.specs.Laws.{HasSpot}
use Rattle.szg_place.specs.Spots.{board_at, place_fault, placement_refusal, spot_of}
use Rattle.szg_place.specs.Tables.{numbering_in}
use Rattle.szg_place.proofs.Placements.BoardStated.{spot_of_placement}
use Rattle.szg_place.proofs.Placements.Placed.{at_of, none_holds}

is_none : {A : Type 0} (o : Option A) → IsNone o → o ≡ None
is_none None h = refl
is_none (Some x) h = absurd cc

module _ (t : Index) (part side index : ℕ) (is : IsIndex t) (material : IsMaterial t.material) (there : IsSome (slot_in t part side)) (below : IfSome (slot_in t part side) (λ slot. index < slot.size)) (stated : IsNone (placement_refusal (numbering_in t) part side)) where
  again : HasSpot (numbering_in t) (board_at (numbering_in t) part side index) × (spot_of (numbering_in t) (board_at (numbering_in t) part side index) ≡ record { part = part; side = side; index = index })
  again =
      let a = at_of part side index is refl material there below refl in
      spot_of_placement (numbering_in t) part side index a.layout (record {
        has_part = a.has_part;
        has_side = a.has_side;
        below = a.below;
        allowed = is_none (placement_refusal (numbering_in t) part side) stated;
      })

  pub answered_again : IsNone (place_fault (numbering_in t) (board_at (numbering_in t) part side index))
  answered_again = none_holds (place_fault (numbering_in t) (board_at (numbering_in t) part side index)) again.0.place

  pub spot_again : spot_of (numbering_in t) (board_at (numbering_in t) part side index) ≡ record { part = part; side = side; index = index }
  spot_again = again.1
