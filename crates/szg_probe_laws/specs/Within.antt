-- The distance of a position: how many plies there are to mate or to the next zeroing move, by best play.
use Rattle.std.specs.Prelude.{ℕ, zero, suc, ◌≡◌, ◌+◌, ◌<◌, ◌≤◌, ◌⊎◌, ◌↔◌, IsTrue, IsFalse, Some, None, Contains}
use Rattle.szg_game.specs.Game.{Move, Game, is_empty, mate, HasClass, IsWon, IsLost}
use Rattle.szg_game.specs.declared.Class.{Class}
use Rattle.szg_game.specs.declared.Class.TheVariants.{Loss, BlessedLoss, Draw, CursedWin, Win}

-- A zeroing move led to q, and n plies are left: q is lost for the player to move. If it is lost only without the limit, as
-- many plies as the limit have to be left.
abbrev pub IsLostWith : {P : Type 0} → Game P → ℕ → ℕ → P → Type 0
IsLostWith game limit n q = IsLost game (Some limit) 0 q ⊎ ((limit ≤ n) × IsLost game None 0 q)

-- the same if q is won
abbrev pub IsWonWith : {P : Type 0} → Game P → ℕ → ℕ → P → Type 0
IsWonWith game limit n q = IsWon game (Some limit) 0 q ⊎ ((limit ≤ n) × IsWon game None 0 q)

unfoldable mutual
  -- Within n plies the player to move forces mate, or a zeroing move to a position that is lost for the opponent.
  pub WinsWithin : {P : Type 0} → Game P → ℕ → ℕ → P → Type 0
  WinsWithin game limit zero p = ⊥
  WinsWithin {P} game limit (suc n) p =
      (m : Move P) × Contains (game.moves p) m × (IsTrue (mate game m.0) ⊎ ((IsTrue m.1 × IsLostWith game limit n m.0) ⊎ (IsFalse m.1 × LosesWithin game limit n m.0)))

  -- Within n plies the player to move is mated, or has to make a zeroing move to a position that is won for the opponent,
  -- whatever it plays. One that is mated already counts as one ply.
  pub LosesWithin : {P : Type 0} → Game P → ℕ → ℕ → P → Type 0
  LosesWithin game limit zero p = ⊥
  LosesWithin {P} game limit (suc n) p =
      IsTrue (mate game p)
      ⊎ (IsFalse (is_empty (game.moves p)) × ((m : Move P) → Contains (game.moves p) m → (IsTrue m.1 × IsWonWith game limit n m.0) ⊎ (IsFalse m.1 × WinsWithin game limit n m.0)))

-- n is the least number of which this holds
abbrev pub IsLeast : (ℕ → Type 0) → ℕ → Type 0
IsLeast Holds n = Holds n × ((k : ℕ) → k < n → ¬ Holds k)

-- The distance of a position of this class: for the winner the least number of plies, for the loser the longest resistance.
abbrev pub HasDistance : {P : Type 0} → Game P → ℕ → P → Class → ℕ → Type 0
HasDistance game limit p Win n = IsLeast (λ k. WinsWithin game limit k p) n
HasDistance game limit p CursedWin n = IsLeast (λ k. WinsWithin game limit k p) n
HasDistance game limit p Draw n = n ≡ 0
HasDistance game limit p BlessedLoss n = IsLeast (λ k. LosesWithin game limit k p) n
HasDistance game limit p Loss n = IsLeast (λ k. LosesWithin game limit k p) n

-- which distances a class has
abbrev pub IsDistanceOf : ℕ → Class → ℕ → Type 0
IsDistanceOf limit Win n = (0 < n) × (n ≤ limit)
IsDistanceOf limit CursedWin n = limit < n
IsDistanceOf limit Draw n = n ≡ 0
IsDistanceOf limit BlessedLoss n = limit < n
IsDistanceOf limit Loss n = (0 < n) × (n ≤ limit)

-- ---- laws

-- Within the plies that a counter leaves to the limit a player forces mate or a zeroing move exactly if the position is
-- won from this counter; and so with a loss.
abbrev pub WithinIsFromCounter : Type 0 → Type 0
WithinIsFromCounter P = (game : Game P) (limit counter n : ℕ) (p : P) → 0 < n → counter + n ≡ limit →
    (WinsWithin game limit n p ↔ IsWon game (Some limit) counter p) × (LosesWithin game limit n p ↔ IsLost game (Some limit) counter p)

-- a win or a loss is at most as far as the limit, a cursed win or a blessed loss farther
abbrev pub DistanceOfClass : Type 0 → Type 0
DistanceOfClass P = (game : Game P) (limit : ℕ) (p : P) (k : Class) (n : ℕ) → 0 < limit → HasClass game limit p k → HasDistance game limit p k n → IsDistanceOf limit k n
