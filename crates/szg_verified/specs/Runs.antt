-- What a run of a verification came to.
use Rattle.std.specs.Prelude.{ℕ, ◌≡◌, All, Bool, false, Contains, List, [], ◌∷◌, Ok, ⊤, IfErr, IfOk, IsNone, IsOk, IsSomeAnd, IsTrue, is_ok, min}
use denote.Ref.{Bor}
use Rattle.szg_values.specs.Material.{Sides, parsed}
use Rattle.szg_verify.specs.Entries.{tables_of}
use Rattle.szg_verify.specs.Walk.{IsShardChecked}
use Rattle.szg_tables.specs.Distances.{stored_distances}
use Rattle.szg_tables.specs.Stored.{stored_classes}
use Rattle.szg_verified.specs.Logs.{IsShardText}
use Rattle.szg_verified.specs.Verified.{AreCheckedIn, AreTrue, IsCauseInShard, IsCaused, is_whole, shard_count}
use Rattle.szg_verified.specs.declared.folder.ShardVerification.{ShardVerification}
use Rattle.szg_verified.specs.declared.folder.Verification.{Verification}
use Rattle.szg_verified.specs.declared.run.Run.{Run}
use Rattle.szg_verified.specs.declared.run.Run.TheVariants.{Folder, Shard, Refused}
use Rattle.szg_verified.specs.declared.run.VerificationAsked.{VerificationAsked}

-- each of the names is that of one of the materials
abbrev pub IsNamedIn : List Sides → Bor (List ℕ) → Type 0
IsNamedIn materials name = (m : Sides) × (parsed name.now ≡ Ok m) × Contains materials m

abbrev pub AreNamed : List (Bor (List ℕ)) → List Sides → Type 0
AreNamed names materials = All (IsNamedIn materials) names

-- The materials that are named, if some are, were verified over the tables that were read, as `verify_folder` says.
pub record IsFolderRun (asked : VerificationAsked) (v : Verification) : Type 0 where
  pub whole : IsNone asked.shard
  pub named : AreNamed asked.names.now v.materials.items
  pub true_tables : IsTrue v.is_all → AreCheckedIn v.tables.items v.logged.items → AreTrue v.tables.items v.materials.items
  pub logged : IsNone asked.log → v.logged.items ≡ []
  pub all : v.is_all ≡ is_whole v.materials.items v.unverified.items
  pub caused : All (IsCaused v.tables.items v.materials.items v.unverified.items) v.unverified.items

-- The shard of the one material that is named was checked over the tables that were read, as `verify_folder_shard` says.
pub record IsShardRun (asked : VerificationAsked) (v : ShardVerification) : Type 0 where
  pub name : Bor (List ℕ)
  pub material : Sides
  pub before : ℕ
  pub shards : ℕ
  pub alone : asked.names.now ≡ name ∷ []
  pub named : parsed name.now ≡ Ok material
  pub shard : IsSomeAnd asked.shard (λ text. IsShardText text.now before shards)
  pub checked : IsOk v.positions → IsShardChecked (tables_of (stored_classes v.tables.items) (stored_distances v.tables.items)) material shards before
  pub caused : IfErr v.positions (IsCauseInShard v.tables.items material shards before)
  pub counted : IfOk v.positions (λ n. n ≡ min (shard_count material shards before) 18446744073709551615)

-- what a run came to, by what was asked
abbrev pub IsRun : VerificationAsked → Run → Type 0
IsRun asked (Folder v) = IsFolderRun asked v
IsRun asked (Shard v) = IsShardRun asked v
IsRun asked Refused = ⊤

-- all are verified or logged, or each position of the shard passes
abbrev pub is_passed : Run → Bool
is_passed (Folder v) = v.is_all
is_passed (Shard v) = is_ok v.positions
is_passed Refused = false
