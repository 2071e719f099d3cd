-- The normal form of a placement: its part, its subtable's side, and the squares of each group.
use Rattle.std.specs.Prelude.{ℕ, ◌-◌, Bool, false, not, ◌&&◌, ◌==◌, nat_lt, min, List, [], ◌∷◌, map, filter, flat_map, slice_get, slice_index, unwrap_or, if◌then◌else◌}
use Rattle.std.specs.List.{list_any}
use Rattle.szg_values.specs.Men.{file_of, rank_of, square_at, is_color, other_color}
use Rattle.szg_values.specs.Material.{Sides, is_same_men, is_symmetric, has_pawns, lead_pawn_code}
use Rattle.szg_values.specs.Placement.{Board, side_of}
use Rattle.szg_values.specs.declared.Color.{Color}
use Rattle.szg_values.specs.declared.Color.TheVariants.{White, Black}
use Rattle.szg_count.specs.Leads.{contains, pawn_order, squares_down, is_on_diagonal}
use Rattle.szg_count.specs.Groups.{groups_of}
use Rattle.szg_place.specs.Layout.{Layout, is_dtz, nibbles_at}
-- a man's code: that of its kind, plus 8 for Black, which is the name's second side here
pub use Rattle.szg_values.specs.Placement.{colored_code}
-- a man's code and square
pub use Rattle.szg_place.specs.declared.men.CodedMan.{CodedMan}

-- ---- colours

-- Whether colours are exchanged. If both sides have the same men, they are exchanged when Black is to move; otherwise
-- when White does not have the men of the name's first side.
abbrev pub is_exchanged : Sides → Board → Bool
is_exchanged sides board = if is_symmetric sides then is_color Black board.mover else not (is_same_men (side_of White board.placed_men) sides.first)

abbrev pub exchanged_color : Bool → Color → Color
exchanged_color exchanged color = if exchanged then other_color color else color

-- the side to move as the table numbers sides: 0 if it is the name's first side, else 1
abbrev pub moving_side : Sides → Board → ℕ
moving_side sides board = if is_color White (exchanged_color (is_exchanged sides board) board.mover) then 0 else 1

-- ---- men as a file codes them

abbrev pub flip_file : ℕ → ℕ
flip_file square = square_at (7 - file_of square) (rank_of square)

abbrev pub flip_rank : ℕ → ℕ
flip_rank square = square_at (file_of square) (7 - rank_of square)

-- the flip along the diagonal a1-h8: file and rank exchanged
abbrev pub reflect : ℕ → ℕ
reflect square = square_at (rank_of square) (file_of square)

-- the men as a file codes them, colours exchanged if needed; with pawns an exchange of colours flips the ranks too
unfoldable pub pieces_of : Sides → Board → List CodedMan
pieces_of sides board = let exchanged = is_exchanged sides board in map (λ s. record {
  code = colored_code s.0 (exchanged_color exchanged s.1);
  square = if exchanged && has_pawns sides then flip_rank s.2 else s.2;
}) board.placed_men

-- the squares of a list that have a man of one of these codes
abbrev pub squares_with : List ℕ → List CodedMan → List ℕ → List ℕ
squares_with codes pieces order = filter (λ square. list_any (λ p. p.square == square && contains codes p.code) pieces) order

-- ---- the subtable

-- the part: 0 to 3 by the file of the first lead pawn (greatest value P, `ptwist` in the probing code), for the files a
-- and h, b and g, c and f, d and e; 0 without pawns
abbrev pub part_of : Sides → List CodedMan → ℕ
part_of sides pieces = let file = file_of (slice_index (squares_with (lead_pawn_code sides ∷ []) pieces pawn_order) 0) in
    if has_pawns sides then min file (7 - file) else 0

-- the subtable's side: in WDL the side to move; 0 in DTZ, where each part has one subtable
abbrev pub subtable_side : Layout → Board → ℕ
subtable_side l board = if is_dtz l.kind then 0 else moving_side l.material board

-- the men of each group in the placement's subtable
unfoldable pub chosen_groups : Layout → Board → List (List ℕ)
chosen_groups l board = groups_of l.material (nibbles_at l (part_of l.material (pieces_of l.material board)) (subtable_side l board)).men

-- ---- flips

-- the squares of a lead group: with pawns those of the lead pawns, the greatest value P first; else slot by slot
unfoldable pub lead_squares : Sides → List ℕ → List CodedMan → List ℕ
lead_squares sides lead pieces = if has_pawns sides then squares_with lead pieces pawn_order else
    flat_map (λ code. squares_with (code ∷ []) pieces squares_down) lead

abbrev pub moved : (ℕ → ℕ) → List CodedMan → List CodedMan
moved move pieces = map (λ p. record { code = p.code; square = move p.square }) pieces

-- the first square off the diagonal is above the diagonal
abbrev pub is_first_above : List ℕ → Bool
is_first_above [] = false
is_first_above (s ∷ more) = if is_on_diagonal s then is_first_above more else nat_lt (file_of s) (rank_of s)

-- if the first lead square is on files e to h, all files are flipped
unfoldable pub with_file : Sides → List ℕ → List CodedMan → List CodedMan
with_file sides lead pieces = if nat_lt 3 (file_of (slice_index (lead_squares sides lead pieces) 0)) then moved flip_file pieces else pieces

-- without pawns, if the first lead square is on ranks 5 to 8, all ranks are flipped
unfoldable pub with_rank : Sides → List ℕ → List CodedMan → List CodedMan
with_rank sides lead pieces = if not (has_pawns sides) && nat_lt 3 (rank_of (slice_index (lead_squares sides lead pieces) 0)) then moved flip_rank pieces else pieces

-- without pawns, if the first lead square off the diagonal is above the diagonal, all squares are reflected
unfoldable pub with_reflection : Sides → List ℕ → List CodedMan → List CodedMan
with_reflection sides lead pieces = if not (has_pawns sides) && is_first_above (lead_squares sides lead pieces) then moved reflect pieces else pieces

unfoldable pub normal_pieces : Sides → List ℕ → List CodedMan → List CodedMan
normal_pieces sides lead pieces = with_reflection sides lead (with_rank sides lead (with_file sides lead pieces))

-- the squares of each group: those of the lead group as lead_squares lists them, others from the greatest down
unfoldable pub squares_by_group : Sides → List (List ℕ) → List CodedMan → List (List ℕ)
squares_by_group sides [] pieces = []
squares_by_group sides (lead ∷ groups) pieces = lead_squares sides lead pieces ∷ map (λ group. squares_with group pieces squares_down) groups

-- ---- the normal form

pub record Normal : Type 0 where
  pub part : ℕ
  pub side : ℕ
  pub squares : List (List ℕ)

unfoldable pub normal_of : Layout → Board → Normal
normal_of l board = let pieces = pieces_of l.material board in let groups = chosen_groups l board in record {
  part = part_of l.material pieces;
  side = subtable_side l board;
  squares = squares_by_group l.material groups (normal_pieces l.material (unwrap_or (slice_get groups 0) []) pieces);
}
