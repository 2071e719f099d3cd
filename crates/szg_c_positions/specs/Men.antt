-- Placements as C passes them.
use Rattle.std.specs.Prelude.{◌≡◌, ℕ, Bool, IsTrue, true, not, ◌&&◌, ◌==◌, nat_lt, List, ◌++◌, length, drop, map, Option, Some, None, Result, Ok, Err, if◌then◌else◌}
use Rattle.std.specs.List.{list_all}
use Rattle.szg_values.specs.Men.{code_of, man_at}
use Rattle.szg_values.specs.Placement.{PlacedMan, Board, AreStanding, men_key, placement_fault}
use Rattle.szg_values.specs.declared.Color.{Color}
use Rattle.szg_values.specs.declared.Color.TheVariants.{White, Black}
use Rattle.szg_values.specs.declared.PlacementFault.{PlacementFault}
use Rattle.szg_values.specs.declared.PlacementFault.TheVariants as fault
use Rattle.szg_c_positions.specs.declared.men.RawMan.{RawMan}
use Rattle.szg_c_positions.specs.declared.status.TheConstants.{RANGE}

-- a man's numbers encode a kind, a colour and a square
abbrev pub is_coded_man : RawMan → Bool
is_coded_man man = nat_lt 0 man.kind && nat_lt man.kind 7 && nat_lt man.color 2 && nat_lt man.square 64

abbrev pub color_of : ℕ → Color
color_of color = if color == 0 then White else Black

-- the number of a kind is its code in a file
abbrev pub placed_man_of : RawMan → PlacedMan
placed_man_of man = (man_at man.kind, color_of man.color, man.square)

-- ---- statuses: 6 invalid number; 7 to 9 no placement

abbrev pub placement_status : PlacementFault → ℕ
placement_status fault.Men = 7
placement_status fault.SameSquare = 8
placement_status fault.PawnRank = 9

-- a board, unless its men have a fault
abbrev pub board_unless : Option PlacementFault → Board → Result Board ℕ
board_unless None board = Ok board
board_unless (Some why) board = Err (placement_status why)

-- the placement of men and a side to move, or the status that says why there is none
unfoldable pub board_of : List RawMan → ℕ → Result Board ℕ
board_of men mover =
    if not (nat_lt mover 2 && list_all is_coded_man men) then Err 6 else
    board_unless (placement_fault (map placed_man_of men)) (record { placed_men = map placed_man_of men; mover = color_of mover })

-- men that are put on their squares into a list, with their key, and a side to move that has a number
pub record ArePut (men : List RawMan) (mover : ℕ) (placed_men : List PlacedMan) (key : ℕ) : Type 0 where
  pub mover_stated : nat_lt mover 2 ≡ true
  pub reported : list_all is_coded_man men ≡ true
  pub placed : placed_men ≡ map placed_man_of men
  pub standing : AreStanding placed_men
  pub key_is : key ≡ men_key placed_men

-- the side to move has no number of a colour, a man's numbers are invalid, or the men have a fault that one or two of them show
abbrev pub HaveFault : List RawMan → ℕ → Type 0
HaveFault men mover = IsTrue (nat_lt mover 2 && list_all is_coded_man men) → ¬ AreStanding (map placed_man_of men)

-- ---- placements that C gets

abbrev pub color_code : Color → ℕ
color_code White = 0
color_code Black = 1

-- a man on a square as its numbers
abbrev pub coded_man : PlacedMan → RawMan
coded_man man = record { kind = code_of man.0; color = color_code man.1; square = man.2 }

-- a placement, if a list of this length has room for its men
abbrev pub with_room : ℕ → Result Board ℕ → Result Board ℕ
with_room room (Err status) = Err status
with_room room (Ok board) = if nat_lt room (length board.placed_men) then Err RANGE else Ok board

-- the list begins with the men, and its rest is as before; their number and the side to move are written
pub record IsWritten (board : Board) (before after : List RawMan) (count mover : ℕ) : Type 0 where
  pub men : after ≡ map coded_man board.placed_men ++ drop (length board.placed_men) before
  pub number : count ≡ length board.placed_men
  pub side : mover ≡ color_code board.mover
