-- Answers with distances and without.
use Rattle.std.proofs.Common.{◌≡◌, sym, subst, Bool, List}
use Rattle.std.specs.Prelude.{IfOk, Result, Ok, Err, if◌then◌else◌}
use Rattle.szg_chess.specs.declared.FenRecord.{FenRecord}
use Rattle.szg_probe.specs.Probing.{StoredClasses}
use Rattle.szg_probe.specs.Distances.{StoredNumbers}
use Rattle.szg_tables.specs.Fetched.{fetched_classes, fetched_numbers}
use Rattle.szg_tables.specs.declared.fetched.FetchedTable.{FetchedTable}
use Rattle.szg_results.specs.Results.{IsAnswer, IsAnswerOf, zero_numbers}
use Rattle.szg_results.specs.declared.results.Answer.{Answer}

answered : (classes : StoredClasses) (numbers : StoredNumbers) (fen : FenRecord) (a : Answer) (b : Bool) → a.has_distances ≡ b →
    IsAnswer classes (if b then numbers else zero_numbers) fen.position (if b then fen.halfmove else 0) a → IsAnswerOf classes numbers fen a
answered classes numbers fen a b is h = subst (λ (c : Bool). IsAnswer classes (if c then numbers else zero_numbers) fen.position (if c then fen.halfmove else 0) a) (sym is) h

-- over the tables of a set
pub answered_over : {F : Type 0} (tables' tables : List FetchedTable) (fen : FenRecord) (b : Bool) (o : Result Answer F) → tables' ≡ tables → IfOk o (λ a. a.has_distances ≡ b) →
    IfOk o (λ a. IsAnswer (fetched_classes tables') (if b then fetched_numbers tables' else zero_numbers) fen.position (if b then fen.halfmove else 0) a) →
    IfOk o (λ a. IsAnswerOf (fetched_classes tables) (fetched_numbers tables) fen a)
answered_over tables' tables fen b (Err fault) same is h = tt
answered_over tables' tables fen b (Ok a) same is h =
    subst (λ (ts : List FetchedTable). IsAnswerOf (fetched_classes ts) (fetched_numbers ts) fen a) same (answered (fetched_classes tables') (fetched_numbers tables') fen a b is h)
