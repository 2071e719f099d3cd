-- Entries that were found before, in cells. A cell belongs to positions of the men of a walk, and knows which of them it has.
use Rattle.std.specs.Prelude.{ℕ, ◌≡◌, ◌+◌, ◌-◌, ◌*◌, ◌/◌, ◌%◌, ◌≤◌, ◌<◌, ◌==◌, ◌&&◌, nat_lt, Bool, true, false, List, [], ◌∷◌, slice_get, length, Option, Some, None, if◌then◌else◌}
use Rattle.std.specs.List.{list_any}
use Rattle.szg_values.specs.Men.{is_man}
use Rattle.szg_values.specs.Placement.{PlacedMan}
use Rattle.szg_values.specs.declared.Man.{Man}
use Rattle.szg_values.specs.declared.Man.TheVariants.{Pawn}
use Rattle.szg_values.specs.declared.Color.{Color}
use Rattle.szg_values.specs.declared.Color.TheVariants.{White, Black}
use Rattle.szg_game.specs.declared.Class.{Class}
use Rattle.szg_game.specs.declared.Class.TheVariants.{Loss, BlessedLoss, Draw, CursedWin, Win}
use Rattle.szg_game.specs.declared.Entry.{Entry}
use Rattle.szg_chess.specs.Laws.{kinds_of}
use Rattle.szg_chess.specs.Position.{Position, IsPosition}
use Rattle.szg_verify.specs.Entries.{StoredTables, near_entry, plain_entry}
use Rattle.szg_verify.specs.declared.memory.Cell.{Cell}

-- ---- the number of a position

-- the squares of men as the digits of a number in base 64
abbrev pub digits_of : List PlacedMan → ℕ
digits_of [] = 0
digits_of (s ∷ men) = s.2 + 64 * digits_of men

-- The place value of the man on a square in that number: 64 to the power of the number of men before him.
abbrev pub unit_on : ℕ → PlacedMan → ℕ
unit_on square s = if s.2 == square then 1 else 0

abbrev pub place_value : ℕ → List PlacedMan → ℕ
place_value square [] = 0
place_value square (s ∷ men) = unit_on square s + 64 * place_value square men

abbrev pub holds_pawn : List PlacedMan → Bool
holds_pawn men = list_any (λ s. is_man Pawn s.0) men

-- These are the men's number, whether one of them is a pawn, and the place value of the man on a square.
pub record IsNumbered (men : List PlacedMan) (digits : ℕ) (pawn : Bool) (square place : ℕ) : Type 0 where
  pub number : digits ≡ digits_of men
  pub holds : pawn ≡ holds_pawn men
  pub value : place ≡ place_value square men

-- Without pawns a walk meets the first man, White's king, on the ranks 1 to 5 of the files a to e alone: his digit is one of 25.
abbrev pub packed : Bool → ℕ → Option ℕ
packed true n = Some n
packed false n = if nat_lt (n % 8) 5 && nat_lt (n / 8 % 8) 5 then Some (n % 8 + (5 * (n / 8 % 8) + 25 * (n / 64))) else None

-- ---- the cell of a position

-- A walk changes Black's men least often, so it comes back late to positions with White to move, and soon to the others: those
-- have the last one of 16 cells.
abbrev pub start_of : Color → ℕ → ℕ
start_of White len = 0
start_of Black len = len - len / 16

abbrev pub size_of : Color → ℕ → ℕ
size_of White len = len - len / 16
size_of Black len = len / 16

-- the entry of the position is kept at this place with this tag, or nowhere
pub record IsSpotOf (len : ℕ) (p : Position) (tag place : ℕ) : Type 0 where
  pub plain : p.en_passant ≡ None
  pub from : start_of p.mover len ≤ place
  pub to : place < start_of p.mover len + size_of p.mover len
  pub number : packed (holds_pawn p.placed_men) (digits_of p.placed_men) ≡ Some (tag * size_of p.mover len + (place - start_of p.mover len))

-- ---- what a cell has

abbrev pub class_code : Class → ℕ
class_code Loss = 1
class_code BlessedLoss = 2
class_code Draw = 3
class_code CursedWin = 4
class_code Win = 5

-- a class, whether the upper bound is one above the lower one, and whether the entry is by the stored number alone
abbrev pub code_of : Class → Bool → Bool → ℕ
code_of k wide near = class_code k + (if wide then 8 else 0) + (if near then 16 else 0)

-- the class of a code. None: the cell is empty.
abbrev pub class_by : ℕ → Option Class
class_by n =
    if n == 1 then Some Loss else
    if n == 2 then Some BlessedLoss else
    if n == 3 then Some Draw else
    if n == 4 then Some CursedWin else
    if n == 5 then Some Win else None

abbrev pub is_wide : ℕ → Bool
is_wide code = code / 8 % 2 == 1

abbrev pub is_near : ℕ → Bool
is_near code = code / 16 == 1

-- the entry by the stored number of the position alone, or the whole one
abbrev pub found_by : Bool → StoredTables → Position → Option Entry
found_by true tables p = near_entry tables p
found_by false tables p = plain_entry tables p

-- what the cell has is an entry of the position
abbrev pub IsRight : StoredTables → Position → Cell → Type 0
IsRight tables p cell = (k : Class) → class_by (cell.code % 8) ≡ Some k →
    found_by (is_near cell.code) tables p ≡ Some (record { class = k; lower = cell.lower; upper = cell.lower + (if is_wide cell.code then 1 else 0) })

-- each cell has the entry of the position of these men that its place and its tag say
abbrev pub AreRight : List (Man × Color) → StoredTables → List Cell → Type 0
AreRight kinds tables cells = (p : Position) (place : ℕ) (cell : Cell) → IsPosition p → kinds_of p.placed_men ≡ kinds → slice_get cells place ≡ Some cell → IsSpotOf (length cells) p cell.tag place → IsRight tables p cell
