-- Images of a placement: its men in another order, the colours exchanged, the board flipped.
use Rattle.std.specs.Prelude.{◌≡◌, ◌↔◌, ◌==◌, Bool, false, true, not, ◌&&◌, ◌||◌, map, None, if◌then◌else◌}
use Rattle.szg_values.specs.Material.{Sides, has_pawns, lead_pawns}
use Rattle.szg_values.specs.Placement.{PlacedMan, Board, IsPlacement}
use Rattle.szg_count.specs.Laws.{IsIn}
use Rattle.szg_place.specs.Layout.{Layout, IsLayout}
use Rattle.szg_place.specs.Normal.{exchanged_color}
use Rattle.szg_place.specs.Slots.{flipped_by}
use Rattle.szg_place.specs.Spots.{place_fault, spot_of}

-- a man after the colours are exchanged, the files flipped and the ranks flipped, each or not
abbrev pub man_image : Bool → Bool → Bool → PlacedMan → PlacedMan
man_image exchanged files ranks s = (s.0, exchanged_color exchanged s.1, flipped_by files ranks false s.2)

-- The board b has the images of a's men, in any order.
pub record IsBoardImage (exchanged files ranks : Bool) (a b : Board) : Type 0 where
  pub men : (s : PlacedMan) → IsIn s b.placed_men ↔ IsIn s (map (man_image exchanged files ranks) a.placed_men)
  pub mover : b.mover ≡ exchanged_color exchanged a.mover

-- The images that share a spot in each table of the material. With pawns the ranks are flipped exactly if the colours are
-- exchanged, so that pawns still advance, and the files only if there is one lead pawn: if two lead pawns are mirror images,
-- a placement and its flip have two spots. For the same reason no reflection in the diagonal is here: if all lead men are on
-- the diagonal, a placement and its reflection have two spots.
abbrev pub keeps_spot : Sides → Bool → Bool → Bool → Bool
keeps_spot sides exchanged files ranks =
    not (has_pawns sides) || ((not files || lead_pawns sides == 1) && (if exchanged then ranks else not ranks))

-- a table refuses such an image for the same reason as the placement, and has the same spot for both
abbrev pub LawImageSpot : Type 0
LawImageSpot = (l : Layout) (a b : Board) (exchanged files ranks : Bool) → IsLayout l → IsPlacement a.placed_men → IsPlacement b.placed_men →
    IsBoardImage exchanged files ranks a b → keeps_spot l.material exchanged files ranks ≡ true →
    (place_fault l b ≡ place_fault l a) × (place_fault l a ≡ None → spot_of l b ≡ spot_of l a)
