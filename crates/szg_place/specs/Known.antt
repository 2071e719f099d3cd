-- What is known about a placement before its index is computed.
use Rattle.std.specs.List.{concat}
use Rattle.std.specs.Prelude.{◌≡◌, ℕ, ◌<◌, ◌≤◌, ◌==◌, ◌&&◌, true, List, [], ◌∷◌, slice_index, length, None, IsNone, IfSome, IsSomeAnd, Result, Ok, Err, IfOk, if◌then◌else◌}
use Rattle.szg_values.specs.declared.Kind.{Kind}
use Rattle.szg_values.specs.Material.{Sides, IsMaterial, has_pawns, lead_pawn_code}
use Rattle.szg_values.specs.Placement.{Board, placement_fault}
use Rattle.szg_count.specs.Groups.{IsPart, Nibbles, order_fault, counted, has_other_pawns}
use Rattle.szg_count.specs.Leads.{pawn_squares, pawn_order, squares_down}
use Rattle.szg_count.specs.Laws.{IsIn, AllDiffer}
use Rattle.szg_count.specs.Views.{groups_in_slot_order}
use Rattle.szg_count.specs.declared.Group.{Group}
use Rattle.szg_file.specs.Index.{Index, slot_in}
use Rattle.szg_place.specs.Layout.{Layout, IsLayout, is_dtz, nibbles_at}
use Rattle.szg_place.specs.Normal.{CodedMan, pieces_of, part_of, moving_side, subtable_side, is_exchanged, squares_with}
use Rattle.szg_place.specs.Spots.{is_of_material, place_fault, spot_of}
use Rattle.szg_place.specs.Laws.{IsOnBoard, HasSpot}
use Rattle.szg_place.specs.Tables.{numbering_in}
use Rattle.szg_place.specs.declared.Spot.{Spot}
use Rattle.szg_place.specs.declared.spots.Query.{Query}
use Rattle.szg_place.specs.declared.PlaceFault.{PlaceFault}

-- a placement whose men are the material's
pub record IsKnown (sides : Sides) (board : Board) : Type 0 where
  pub material : IsMaterial sides
  pub inside : IsOnBoard board
  pub placement : placement_fault board.placed_men ≡ None
  pub men : is_of_material sides board ≡ true

-- the placement's men as a file codes them, its part, its subtable's side, and the side to move as the table numbers
-- sides
pub record IsQuery (sides : Sides) (kind : Kind) (board : Board) (pieces : List CodedMan) (part side queried : ℕ) : Type 0 where
  pub known : IsKnown sides board
  pub pieces_are : pieces ≡ pieces_of sides board
  pub few : length pieces ≤ 6
  pub part_is : part ≡ part_of sides (pieces_of sides board)
  pub side_is : side ≡ (if is_dtz kind then 0 else queried)
  pub query_is : queried ≡ moving_side sides board

-- `Query` for a placement
pub record IsQueryOf (sides : Sides) (kind : Kind) (board : Board) (a : Query) : Type 0 where
  pub queried : IsQuery sides kind board (pieces_of sides board) a.part a.side a.mover
  pub exchanged : a.exchanged ≡ is_exchanged sides board
  pub first : has_pawns sides ≡ true → a.first ≡ slice_index (squares_with (lead_pawn_code sides ∷ []) (pieces_of sides board) pawn_order) 0

-- the subtable of a placement, and the nibbles of that side of the part
pub record IsFound (l : Layout) (board : Board) (part side queried : ℕ) (n : Nibbles) : Type 0 where
  pub layout : IsLayout l
  pub known : IsKnown l.material board
  pub part_is : part ≡ part_of l.material (pieces_of l.material board)
  pub side_is : side ≡ subtable_side l board
  pub query_is : queried ≡ moving_side l.material board
  pub nibbles : n ≡ nibbles_at l (part_of l.material (pieces_of l.material board)) (subtable_side l board)
  pub at : n ≡ nibbles_at l part side

-- the result for a placement: the first fault that applies, or else its spot
pub record IsLocated (l : Layout) (board : Board) (result : Result Spot PlaceFault) : Type 0 where
  pub refused : IfSome (place_fault l board) (λ fault. result ≡ Err fault)
  pub spot : IsNone (place_fault l board) → result ≡ Ok (spot_of l board)
  pub answered : IfOk result (λ _. HasSpot l board)

-- the result for a placement; if it is a spot, the table has a subtable there, and the index is below its size
pub record IsLocatedIn (x : Index) (board : Board) (result : Result Spot PlaceFault) : Type 0 where
  pub refused : IfSome (place_fault (numbering_in x) board) (λ fault. result ≡ Err fault)
  pub spot : IsNone (place_fault (numbering_in x) board) → result ≡ Ok (spot_of (numbering_in x) board)
  pub below : IfOk result (λ spot. IsSomeAnd (slot_in x spot.part spot.side) (λ slot. spot.index < slot.size))

-- the groups of an order without a fault, in a part of the material
pub record AreGrouped (sides : Sides) (part : ℕ) (n : Nibbles) (groups : List Group) : Type 0 where
  pub has_part : IsPart sides part
  pub ordered : order_fault sides n ≡ None
  pub groups_are : groups ≡ groups_in_slot_order (counted sides part n)

-- group `number` comes after the groups on the squares `before`; `taken` has all these squares
pub record ComesAfterGroups (sides : Sides) (part number : ℕ) (taken : List ℕ) (before : List (List ℕ)) : Type 0 where
  pub has_part : IsPart sides part
  pub taken_are : taken ≡ concat before
  pub number_is : number ≡ length before
  pub differ : AllDiffer taken
  pub inside : 0 < number → (x : ℕ) → IsIn x taken → IsIn x (if has_other_pawns sides && number == 1 then pawn_squares else squares_down)
