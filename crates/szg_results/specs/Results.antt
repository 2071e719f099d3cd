-- The result of a position: what a set of tables says of a text in Forsyth-Edwards Notation.
use Rattle.std.specs.Prelude.{ℕ, ◌≡◌, List, map, Some, All, Contains, IsPermutation, if◌then◌else◌}
use Rattle.std.specs.List.Sorted.{IsNonDecreasingBy}
use Rattle.szg_file.specs.Held.{Shown}
use Rattle.szg_game.specs.declared.Class.{Class}
use Rattle.szg_chess.specs.Position.{Position}
use Rattle.szg_chess.specs.Moves.{is_mate, legal_moves}
use Rattle.szg_chess.specs.declared.FenRecord.{FenRecord}
use Rattle.szg_probe.specs.Probing.{StoredClasses, all_known}
use Rattle.szg_probe.specs.Distances.{StoredNumbers, probed_distance, at_counter, ranked, rank_of}
use Rattle.szg_probe.specs.declared.distances.Distance.{Distance}
use Rattle.szg_probe.specs.declared.assessments.RankedMove.{RankedMove}
use Rattle.szg_tables.specs.Fetched.{IsOfTable, fetched_classes, fetched_numbers}
use Rattle.szg_tables.specs.Stored.{stored_classes, stored_numbers}
use Rattle.szg_tables.specs.declared.fetched.FetchedTable.{FetchedTable}
use Rattle.szg_results.specs.declared.results.Answer.{Answer}

-- The class and the distance with the fifty-move counter. A mate comes before the fifty-move rule.
abbrev pub counted : Position → ℕ → Class → ℕ → Distance
counted p counter k d = if is_mate p then record { class = k; plies = d } else at_counter counter k d

-- what full probing says of the position, and of each legal move with the counter, the best first
pub record IsAnswer (classes : StoredClasses) (numbers : StoredNumbers) (p : Position) (counter : ℕ) (answer : Answer) : Type 0 where
  pub class : Class
  pub plies : ℕ
  pub probed : probed_distance classes numbers p ≡ Some (class, plies)
  pub distance : answer.distance ≡ counted p counter class plies
  pub all : List RankedMove
  pub known : all_known (map (ranked classes numbers counter p) (legal_moves p)) ≡ Some all
  pub same_moves : IsPermutation all answer.moves.items
  pub best_first : IsNonDecreasingBy rank_of answer.moves.items
  pub legal : All (λ r. Contains (legal_moves p) r.m) answer.moves.items

-- the number 0 for each position, where no DTZ table is used
abbrev pub zero_numbers : StoredNumbers
zero_numbers men mover k = Some (Some 0)

-- The answer for a position with its counters, over stored classes and numbers. Without distances the classes alone count: no
-- DTZ table is used, and no fifty-move counter.
abbrev pub IsAnswerOf : StoredClasses → StoredNumbers → FenRecord → Answer → Type 0
IsAnswerOf classes numbers fen a =
    IsAnswer classes (if a.has_distances then numbers else zero_numbers) fen.position (if a.has_distances then fen.halfmove else 0) a

-- An answer over what was fetched of the files of tables is the answer over the tables.
abbrev pub FetchedAnswers : Type 0
FetchedAnswers = (parts : List FetchedTable) (tables : List Shown) (fen : FenRecord) (a : Answer) → All (IsOfTable tables) parts →
    IsAnswerOf (fetched_classes parts) (fetched_numbers parts) fen a → IsAnswerOf (stored_classes tables) (stored_numbers tables) fen a
