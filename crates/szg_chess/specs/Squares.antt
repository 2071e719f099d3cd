-- Sets of squares as numbers: a square is in a set if its bit is set. No public contract speaks of them.
use Rattle.std.specs.Prelude.{ℕ, zero, suc, ◌+◌, ◌^◌, ◌≡◌, Bool, not, ◌&&◌, ◌||◌, ◌==◌, List, [], if◌then◌else◌}
use Rattle.std.specs.List.{list_any}
use Rattle.std.specs.Int.{bit_at}
use Rattle.std.specs.Int.Bits.{bit_and}
use Rattle.szg_values.specs.Men.{is_color, other_color}
use Rattle.szg_values.specs.Placement.{PlacedMan, men_key}
use Rattle.szg_chess.specs.Attacks.{attacks, is_between, is_occupied}
use Rattle.szg_values.specs.declared.Color.{Color}
use Rattle.szg_chess.specs.Position.{Position, IsPosition}

-- the square is in the set
abbrev pub is_in : ℕ → ℕ → Bool
is_in squares square = bit_at squares square == 1

-- the set of the squares below n that pass a test
unfoldable pub set_below : (ℕ → Bool) → ℕ → ℕ
set_below test zero = 0
set_below test (suc n) = (if test n then 2 ^ n else 0) + set_below test n

-- the squares that men are on
abbrev pub squares_of : List PlacedMan → ℕ
squares_of men = set_below (is_occupied men) 64

-- the squares strictly between two squares on a line
abbrev pub squares_between : ℕ → ℕ → ℕ
squares_between from to = set_below (is_between from to) 64

-- the squares that a man attacks on an empty board
abbrev pub reach_of : PlacedMan → ℕ
reach_of s = set_below (attacks [] s) 64

-- the squares of the other colour's men that some man of the colour would attack on an empty board
abbrev pub reached_of : List PlacedMan → Color → ℕ
reached_of men color = set_below (λ square. list_any (λ s. is_color color s.1 && attacks [] s square) men && list_any (λ s. is_color (other_color color) s.1 && s.2 == square) men) 64

-- a man attacks the square `to`, if men are on the squares of the set `occupied`, and on no others
unfoldable pub attacks_past : ℕ → PlacedMan → ℕ → Bool
attacks_past occupied s to = is_in (reach_of s) to && bit_and (squares_between s.2 to) occupied == 0

-- The man on the square `captured`, if any, is taken off, and then the man on `from`, if any, goes to `to`: whether there is a man
-- on the square afterwards.
abbrev pub is_in_moved : (ℕ → Bool) → ℕ → ℕ → ℕ → ℕ → Bool
is_in_moved occupied captured from to square =
    (occupied from && not (captured == from) && square == to) || (occupied square && not (square == captured) && not (square == from))

-- a position is stored together with the set of its men's squares, with their key, and with the set of the enemy men's squares
-- that the side to move reaches
pub record IsStored (p : Position) (occupied key reached : ℕ) : Type 0 where
  pub position : IsPosition p
  pub squares : occupied ≡ squares_of p.placed_men
  pub key_is : key ≡ men_key p.placed_men
  pub reached_is : reached ≡ reached_of p.placed_men p.mover
