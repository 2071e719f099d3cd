-- What a verification that finds no fault says of tables.
use Rattle.std.specs.Prelude.{ℕ, ◌≡◌, ◌+◌, ◌⊎◌, ◌&&◌, not, map, All, Bool, Contains, List, [], ◌∷◌, ◌++◌, Option, Some, IsSomeAnd, IsFalse, IsTrue, is_some, min, find, string_bytes, if◌then◌else◌}
use denote.Ref.{Bor}
use Rattle.szg_values.specs.Material.{IsMaterial, Sides, name_of}
use Rattle.szg_values.specs.declared.Kind.{Kind}
use Rattle.szg_file.specs.Accepted.{AreNumbers}
use Rattle.szg_file.specs.Held.{Shown}
use Rattle.szg_game.specs.Game.{is_empty}
use Rattle.szg_game.specs.declared.Class.{Class}
use Rattle.szg_chess.specs.Position.{Position, IsPosition}
use Rattle.szg_chess.specs.declared.FenRecord.{FenRecord}
use Rattle.szg_probe.specs.Chess.{ChessClass}
use Rattle.szg_probe.specs.Probing.{probed}
use Rattle.szg_verify.specs.Entries.{tables_of}
use Rattle.szg_verify.specs.Materials.{are_closed, covers, leads_to}
use Rattle.szg_verify.specs.Walk.{IsFirstRefused, IsMaterialChecked, colored_men, material_count, number_count, position_count, shard_start}
use Rattle.szg_tables.specs.Distances.{stored_distances}
use Rattle.szg_tables.specs.Fetched.{IsOfTable, fetched_classes, fetched_numbers}
use Rattle.szg_tables.specs.Stored.{is_for, stored_classes, stored_numbers}
use Rattle.szg_tables.specs.declared.fetched.FetchedTable.{FetchedTable}
use Rattle.szg_verified.specs.Digests.{IsDigestOf}
use Rattle.szg_verified.specs.Logs.{AreRecorded}
use Rattle.szg_verified.specs.declared.verifying.Cause.{Cause}
use Rattle.szg_verified.specs.declared.verifying.Cause.TheVariants.{Refused, NoTable, Missing, Unchecked}
use Rattle.szg_verified.specs.declared.verifying.MaterialFinding.{MaterialFinding}
use Rattle.szg_verified.specs.declared.verifying.MaterialFinding.TheVariants.{Verified, Logged, Failed}
use Rattle.szg_verified.specs.declared.verifying.Unverified.{Unverified}
use Rattle.szg_results.specs.Folders.{AreFetched, IsAbsent, IsReadFrom}
use Rattle.szg_results.specs.Results.{IsAnswerOf, counted}
use Rattle.szg_results.specs.declared.results.Answer.{Answer}

-- For each position of these materials, with an en passant square or without, a probe of the tables finds its class in
-- chess with the fifty-move rule.
abbrev pub AreTrue : List Shown → List Sides → Type 0
AreTrue tables materials = (p : Position) → IsPosition p → IsTrue (covers materials p.placed_men) →
    (k : Class) × (probed (stored_classes tables) p ≡ Some k) × ChessClass p k

-- each position of the material was checked over these tables, but for images
abbrev pub IsCheckedIn : List Shown → Sides → Type 0
IsCheckedIn tables sides = IsMaterialChecked (tables_of (stored_classes tables) (stored_distances tables)) sides

abbrev pub AreCheckedIn : List Shown → List Sides → Type 0
AreCheckedIn tables materials = (sides : Sides) → Contains materials sides → IsCheckedIn tables sides

-- the materials of a list of those that are not verified
abbrev pub materials_in : List Unverified → List Sides
materials_in unverified = map (λ u. u.material) unverified

abbrev pub has_table : List Shown → Kind → Sides → Bool
has_table tables kind material = is_some (find (is_for kind material) tables)

-- Among these files: each of the tables is of one of the materials, and is in the file that the folder has for it; a table of
-- the materials that is not among them is in no file.
pub record AreReadFrom (files : List ℕ → Option (List ℕ)) (folder : List ℕ) (materials : List Sides) (tables : List Shown) : Type 0 where
  pub each : All (λ t. Contains materials t.contents.material × IsReadFrom files (folder ∷ []) t.contents.material t.contents.kind t) tables
  pub absent : (kind : Kind) (material : Sides) → Contains materials material → IsFalse (has_table tables kind material) → IsAbsent files (folder ∷ []) material kind

-- the table of this material and kind was added, unless the folder has no file of it
abbrev pub IsAdded : (List ℕ → Option (List ℕ)) → List ℕ → Sides → Kind → List Shown → List Shown → Type 0
IsAdded files folder material kind old new =
    ((t : Shown) × IsReadFrom files (folder ∷ []) material kind t × (new ≡ old ++ t ∷ [])) ⊎ (IsAbsent files (folder ∷ []) material kind × (new ≡ old))

-- Why the walk over these numbers of the material did not pass. A refusal names a legal position of the material, the first
-- that is not accepted, and a condition that it breaks over these tables. A table that is not there is not among them; if one
-- lacks something, it is there. A material that was not looked at leads to another one that is not verified.
abbrev pub IsCause : List Shown → List Unverified → Sides → ℕ → ℕ → Cause → Type 0
IsCause tables unverified sides from to (Refused r) = IsFirstRefused (tables_of (stored_classes tables) (stored_distances tables)) sides from to r.number r.position r.condition
IsCause tables unverified sides from to (NoTable kind material) = IsFalse (has_table tables kind material)
IsCause tables unverified sides from to (Missing missing) = IsTrue (has_table tables missing.kind missing.material)
IsCause tables unverified sides from to (Unchecked other) = IsTrue (leads_to sides other) × Contains (materials_in unverified) other

abbrev pub IsCauseOf : List Shown → List Unverified → Sides → Cause → Type 0
IsCauseOf tables unverified sides cause = IsCause tables unverified sides 0 (number_count (colored_men sides)) cause

-- why this shard of the material did not pass: of `shards` shards, the one after `before` others
abbrev pub IsCauseInShard : List Shown → Sides → ℕ → ℕ → Cause → Type 0
IsCauseInShard tables sides shards before cause =
    let count = number_count (colored_men sides) in
    IsCause tables [] sides (shard_start count shards before) (shard_start count shards (before + 1)) cause

-- how many legal positions a shard of the material walks: of `shards` shards, the one after `before` others
abbrev pub shard_count : Sides → ℕ → ℕ → ℕ
shard_count sides shards before =
    let count = number_count (colored_men sides) in
    position_count (colored_men sides) (shard_start count shards before) (shard_start count shards (before + 1))

-- by the lines of a log the material was verified, with tables of the same digest
abbrev pub IsLoggedIn : Option (Bor (List ℕ)) → List Shown → Sides → Type 0
IsLoggedIn log tables sides = IsSomeAnd log (λ text. (digest : List ℕ) × IsDigestOf tables sides digest × AreRecorded text.now (name_of sides) digest)

-- what was found of a material, after those that are not verified, and by a log
abbrev pub IsFinding : List Shown → List Unverified → Option (Bor (List ℕ)) → Sides → MaterialFinding → Type 0
IsFinding tables unverified log sides (Verified positions) = IsCheckedIn tables sides × (positions ≡ min (material_count sides) 18446744073709551615)
IsFinding tables unverified log sides (Logged positions) = IsLoggedIn log tables sides
IsFinding tables unverified log sides (Failed cause) = IsCauseOf tables unverified sides cause

-- it is one of the materials, and has its cause, given all that are not verified
abbrev pub IsCaused : List Shown → List Sides → List Unverified → Unverified → Type 0
IsCaused tables materials unverified u = Contains materials u.material × IsCauseOf tables unverified u.material u.cause

-- there are materials, captures and promotions do not leave them, and none is not verified
abbrev pub is_whole : List Sides → List Unverified → Bool
is_whole materials unverified = not (is_empty materials) && are_closed materials && is_empty unverified

-- The answer for a position with its counters is its class in chess, and a number of plies, with the halfmove counter. Without
-- DTZ tables the counter does not count.
abbrev pub IsTrueAnswer : FenRecord → Answer → Type 0
IsTrueAnswer fen a =
    (k : Class) × (plies : ℕ) × ChessClass fen.position k × (a.distance ≡ counted fen.position (if a.has_distances then fen.halfmove else 0) k plies)

-- The answer over true tables for a position of their materials is true.
abbrev pub AnswersAreTrue : Type 0
AnswersAreTrue = (tables : List Shown) (materials : List Sides) (fen : FenRecord) (a : Answer) → AreTrue tables materials →
    IsPosition fen.position → IsTrue (covers materials fen.position.placed_men) → IsAnswerOf (stored_classes tables) (stored_numbers tables) fen a → IsTrueAnswer fen a

-- So is the answer over what was fetched of the files of true tables.
abbrev pub ProbesAreTrue : Type 0
ProbesAreTrue = (tables : List Shown) (materials : List Sides) (parts : List FetchedTable) (fen : FenRecord) (a : Answer) → AreTrue tables materials →
    All (IsOfTable tables) parts → IsPosition fen.position → IsTrue (covers materials fen.position.placed_men) →
    IsAnswerOf (fetched_classes parts) (fetched_numbers parts) fen a → IsTrueAnswer fen a

-- a fetched table of a material, whose file is among these files
abbrev pub IsKnownIn : (List ℕ → Option (List ℕ)) → FetchedTable → Type 0
IsKnownIn files t = IsMaterial t.front.index.material × IsSomeAnd (files (string_bytes t.path)) (AreNumbers 1)

-- Over one folder: if the tables that were read of it are true for closed materials, the answer for a position of these, over
-- what was fetched of the folder's files, is true.
abbrev pub FolderIsTrue : Type 0
FolderIsTrue = (files : List ℕ → Option (List ℕ)) (folder : List ℕ) (tables : List Shown) (materials : List Sides) (parts : List FetchedTable) (fen : FenRecord) (a : Answer) →
    AreReadFrom files folder materials tables → All (λ sides. IsMaterial sides) materials → IsTrue (are_closed materials) → AreTrue tables materials →
    AreFetched files (folder ∷ []) parts → All (IsKnownIn files) parts → IsPosition fen.position → IsTrue (covers materials fen.position.placed_men) →
    IsAnswerOf (fetched_classes parts) (fetched_numbers parts) fen a → IsTrueAnswer fen a
