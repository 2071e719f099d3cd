-- The class of a position and of a move at a counter.
use Rattle.std.specs.Prelude.{ℕ, ◌<◌, ◌⊎◌, IsTrue, Some, None, Option, List, ◌∷◌}
use Rattle.szg_game.specs.Game.{Move, Game, mate, counter_after, goes_on, IsWon, IsLost}
use Rattle.szg_game.specs.declared.Class.{Class}
use Rattle.szg_game.specs.declared.Class.TheVariants.{Loss, BlessedLoss, Draw, CursedWin, Win}
use Rattle.szg_chess.specs.Position.{Position, IsPosition}
use Rattle.szg_probe.specs.Chess.{chess, ply_limit, step_of}
use Rattle.szg_probe.specs.Probing.{StoredClasses, AreTrue}
use Rattle.szg_probe.specs.Distances.{StoredNumbers}
use Rattle.szg_probe.specs.declared.assessments.RankedMove.{RankedMove}
use Rattle.szg_probe_laws.specs.Laws.{AreExact, AreRanked}

-- the class of a position, from this counter
abbrev pub HasClassAt : {P : Type 0} → Game P → ℕ → ℕ → P → Class → Type 0
HasClassAt game limit counter p Win = IsWon game (Some limit) counter p
HasClassAt game limit counter p CursedWin = IsWon game None counter p × ¬ IsWon game (Some limit) counter p
HasClassAt game limit counter p Draw = ¬ IsWon game None counter p × ¬ IsLost game None counter p
HasClassAt game limit counter p BlessedLoss = IsLost game None counter p × ¬ IsLost game (Some limit) counter p
HasClassAt game limit counter p Loss = IsLost game (Some limit) counter p

-- the move mates, or the game goes on after it and the opponent loses
abbrev pub MoveWins : {P : Type 0} → Game P → Option ℕ → ℕ → Move P → Type 0
MoveWins game limit counter m = IsTrue (mate game m.0) ⊎ (IsTrue (goes_on limit (counter_after m.1 counter)) × IsLost game limit (counter_after m.1 counter) m.0)

-- the game goes on after the move, and the opponent wins
abbrev pub MoveLoses : {P : Type 0} → Game P → Option ℕ → ℕ → Move P → Type 0
MoveLoses game limit counter m = IsTrue (goes_on limit (counter_after m.1 counter)) × IsWon game limit (counter_after m.1 counter) m.0

-- the class that a move from this counter gives the player who makes it
abbrev pub GivesClass : {P : Type 0} → Game P → ℕ → ℕ → Move P → Class → Type 0
GivesClass game limit counter m Win = MoveWins game (Some limit) counter m
GivesClass game limit counter m CursedWin = MoveWins game None counter m × ¬ MoveWins game (Some limit) counter m
GivesClass game limit counter m Draw = ¬ MoveWins game None counter m × ¬ MoveLoses game None counter m
GivesClass game limit counter m BlessedLoss = MoveLoses game None counter m × ¬ MoveLoses game (Some limit) counter m
GivesClass game limit counter m Loss = MoveLoses game (Some limit) counter m

-- Over true tables with exact numbers the reported class of the first ranked move is the class of the position at the
-- counter, and what the move gives: so the first move keeps the class.
abbrev pub FirstKeepsClass : Type 0
FirstKeepsClass = (classes : StoredClasses) (numbers : StoredNumbers) (counter : ℕ) (p : Position) (first : RankedMove) (rest : List RankedMove) → AreTrue classes → AreExact classes numbers → IsPosition p → counter < ply_limit →
    AreRanked classes numbers counter p (first ∷ rest) → HasClassAt chess ply_limit counter p first.distance.class × GivesClass chess ply_limit counter (step_of p first.m) first.distance.class
