-- The walk over the positions of a material. It leaves out images.
use Rattle.std.specs.Prelude.{ℕ, ◌≡◌, ◌+◌, ◌*◌, ◌≤◌, ◌<◌, ◌%◌, ◌/◌, ◌^◌, ◌-◌, nat_le, Bool, not, is_none, sum_by, min, take, slice_get, count_by, ◌&&◌, ◌||◌, List, [], ◌∷◌, ◌++◌, map, length, Some, None, IsTrue, Contains, if◌then◌else◌, IsFalse}
use Rattle.std.specs.List.{list_any, range_with_len}
use Rattle.szg_values.specs.Men.{man_at, color_at, is_man, is_color, file_of, rank_of}
use Rattle.szg_values.specs.Material.{Sides}
use Rattle.szg_values.specs.Placement.{PlacedMan}
use Rattle.szg_values.specs.declared.Man.{Man}
use Rattle.szg_values.specs.declared.Man.TheVariants.{Pawn}
use Rattle.szg_values.specs.declared.Color.{Color}
use Rattle.szg_values.specs.declared.Color.TheVariants.{White, Black}
use Rattle.szg_game.specs.declared.Class.{Class}
use Rattle.szg_chess.specs.Position.{Position, IsPosition, position_fault}
use Rattle.szg_probe.specs.Chess.{ChessClass}
use Rattle.szg_probe.specs.Probing.{probed}
use Rattle.szg_verify.specs.Entries.{StoredTables}
use Rattle.szg_verify.specs.Verified.{AreSymmetric, HasCheckedImage, is_checked}
use Rattle.szg_verify.specs.Conditions.{breaks}
use Rattle.szg_verify.specs.declared.conditions.Condition.{Condition}
use Rattle.szg_verify.specs.Materials.{are_closed, covers, is_of}

-- the men of a material with their colors, the first side as White; White's king comes first
abbrev pub colored_men : Sides → List (Man × Color)
colored_men sides = map (λ man. (man, White)) sides.first ++ map (λ man. (man, Black)) sides.second

-- the man of a code and its color, where the second side's men add 8
abbrev pub colored_man : ℕ → Man × Color
colored_man code = (man_at code, color_at code)

-- the men of a color
abbrev pub side_in : Color → List (Man × Color) → List Man
side_in color [] = []
side_in color (man ∷ men) = if is_color color man.1 then man.0 ∷ side_in color men else side_in color men

-- A number places men: its digits in base 64 are their squares, the last digit that of the first man.
abbrev pub placed_by : ℕ → List (Man × Color) → List PlacedMan
placed_by number [] = []
placed_by number (man ∷ men) = (man.0, man.1, number % 64) ∷ placed_by (number / 64) men

abbrev pub position_by : ℕ → List (Man × Color) → Color → Position
position_by number men mover = record { placed_men = placed_by number men; mover = mover; en_passant = None }

-- as many numbers as there are ways to put men on squares
abbrev pub number_count : List (Man × Color) → ℕ
number_count men = 64 ^ length men

-- no side has two pawns
abbrev pub has_lone_pawns : List (Man × Color) → Bool
has_lone_pawns men = nat_le (count_by (λ man. is_man Pawn man.0 && is_color White man.1) men) 1 && nat_le (count_by (λ man. is_man Pawn man.0 && is_color Black man.1) men) 1

abbrev pub has_pawn : List (Man × Color) → Bool
has_pawn men = list_any (λ man. is_man Pawn man.0) men

-- The squares of White's king that are walked: files a to d, unless a side has two pawns, and without pawns ranks 1 to 4.
abbrev pub is_walked : Bool → Bool → ℕ → Bool
is_walked lone none square = (nat_le (file_of square) 3 || not lone) && (nat_le (rank_of square) 3 || not none)

abbrev pub is_king_walked : List (Man × Color) → ℕ → Bool
is_king_walked men square = is_walked (has_lone_pawns men) (not (has_pawn men)) square

-- each position that a number below `to`, and not below `from`, places was checked, if White's king is on a walked square
abbrev pub IsRangeChecked : StoredTables → Sides → ℕ → ℕ → Type 0
IsRangeChecked tables sides from to = (number : ℕ) (mover : Color) → from ≤ number → number < to → IsTrue (is_king_walked (colored_men sides) (number % 64)) →
    IsPosition (position_by number (colored_men sides) mover) → IsTrue (is_checked tables (position_by number (colored_men sides) mover))

-- The men and the side to move are a position, if the squares are on the board.
abbrev pub is_position : Position → Bool
is_position p = is_none (position_fault p)

-- The sides to move with which the men of a number are checked, White first, up to this one.
abbrev pub movers_to : Color → List Color
movers_to White = White ∷ []
movers_to Black = White ∷ Black ∷ []

-- how many positions a number places, with these sides to move
abbrev pub positions_by : List (Man × Color) → List Color → ℕ → ℕ
positions_by men movers number = count_by (λ mover. is_position (position_by number men mover)) movers

-- How many positions the numbers from `from` to `to` place, `to` left out, if White's king is on a walked square, with each
-- side to move.
unfoldable pub position_count : List (Man × Color) → ℕ → ℕ → ℕ
position_count men from to =
    sum_by (λ number. if is_king_walked men (number % 64) then positions_by men (White ∷ Black ∷ []) number else 0) (range_with_len from (to - from))

-- how many positions are checked up to the one that a number places with this side to move, from the number `from` on
abbrev pub count_to : List (Man × Color) → ℕ → ℕ → Color → ℕ
count_to men from number mover = position_count men from number + positions_by men (movers_to mover) number

-- how many positions of a material are walked
abbrev pub material_count : Sides → ℕ
material_count sides = position_count (colored_men sides) 0 (number_count (colored_men sides))

-- A position of these men is not accepted, since it breaks the condition.
pub record IsRefused (tables : StoredTables) (men : List PlacedMan) (p : Position) (c : Condition) : Type 0 where
  pub placed : p ≡ record { placed_men = men; mover = p.mover; en_passant = None }
  pub position : IsPosition p
  pub refused : IsFalse (is_checked tables p)
  pub broken : IsTrue (breaks tables p c)

-- The number, of this range, places the position, with White's king on a walked square. It is refused; the positions of
-- the numbers before it in the range are not.
pub record IsFirstRefused (tables : StoredTables) (sides : Sides) (from to number : ℕ) (p : Position) (c : Condition) : Type 0 where
  pub not_below : from ≤ number
  pub below : number < to
  pub walked : IsTrue (is_king_walked (colored_men sides) (number % 64))
  pub refused : IsRefused tables (placed_by number (colored_men sides)) p c
  pub before : IsRangeChecked tables sides from number

-- A position of one of the materials, the first of its material that is refused.
abbrev pub IsRefusedOf : StoredTables → List Sides → ℕ → Position → Condition → Type 0
IsRefusedOf tables materials number p c = (sides : Sides) × Contains materials sides × IsFirstRefused tables sides 0 (number_count (colored_men sides)) number p c

-- how many positions are checked up to a refused one, which a number places: those of the materials before its own, and those
-- of this one up to it
abbrev pub IsCountTo : List Sides → ℕ → Position → ℕ → Type 0
IsCountTo materials number p positions = (i : ℕ) × (sides : Sides) × (slice_get materials i ≡ Some sides) × (p.placed_men ≡ placed_by number (colored_men sides))
    × (positions ≡ min (sum_by material_count (take i materials) + count_to (colored_men sides) 0 number p.mover) 18446744073709551615)

-- of each position of the material an image was checked
abbrev pub IsMaterialChecked : StoredTables → Sides → Type 0
IsMaterialChecked tables sides = (p : Position) → IsPosition p → p.en_passant ≡ None → IsTrue (is_of p.placed_men sides) → HasCheckedImage tables p

-- ---- laws

-- The walk leaves out no position of the material.
abbrev pub WalkIsWhole : Type 0
WalkIsWhole = (tables : StoredTables) (sides : Sides) → IsRangeChecked tables sides 0 (number_count (colored_men sides)) → IsMaterialChecked tables sides

-- A walk in shards: where the one after `before` others begins, of `shards` shards that have as many numbers each, but for one.
abbrev pub shard_start : ℕ → ℕ → ℕ → ℕ
shard_start count shards before = count * before / shards

-- the positions of this shard of the material were checked: of `shards` shards, the one after `before` others
abbrev pub IsShardChecked : StoredTables → Sides → ℕ → ℕ → Type 0
IsShardChecked tables sides shards before =
    let count = number_count (colored_men sides) in
    IsRangeChecked tables sides (shard_start count shards before) (shard_start count shards (before + 1))

-- If each shard was checked, the material was.
abbrev pub ShardsAreWhole : Type 0
ShardsAreWhole = (tables : StoredTables) (sides : Sides) (shards : ℕ) → 0 < shards →
    ((before : ℕ) → before < shards → IsShardChecked tables sides shards before) → IsMaterialChecked tables sides

-- two ranges make one
abbrev pub RangesJoin : Type 0
RangesJoin = (tables : StoredTables) (sides : Sides) (from middle to : ℕ) → IsRangeChecked tables sides from middle → IsRangeChecked tables sides middle to → IsRangeChecked tables sides from to

-- If the materials are closed, the tables store the same for images, and each material was checked, each probe of a
-- position of these materials, with an en passant square or without, says its class in chess.
abbrev pub VerifiedIsTrue : Type 0
VerifiedIsTrue = (tables : StoredTables) (materials : List Sides) (p : Position) → IsTrue (are_closed materials) → AreSymmetric tables →
    ((sides : Sides) → Contains materials sides → IsMaterialChecked tables sides) → IsPosition p → IsTrue (covers materials p.placed_men) →
    (k : Class) × (probed tables.classes p ≡ Some k) × ChessClass p k
