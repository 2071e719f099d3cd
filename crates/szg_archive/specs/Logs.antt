-- The records of earlier runs.
use Rattle.std.specs.Prelude.{ℕ, List, [], ◌∷◌, map, Option, None, if◌then◌else◌}
use Rattle.std.specs.Str.{bytes_eq}
use Rattle.szg_sums.specs.Names.{normal}
use Rattle.szg_archive.specs.declared.log.FileState.{FileState}
use Rattle.szg_archive.specs.declared.log.Log.{Log}
use Rattle.szg_archive.specs.declared.log.LogEntry.{LogEntry}

-- the normal path of a record, and the state in which the file was good, if it was
pub record Entry : Type 0 where
  pub path : List ℕ
  pub good : Option FileState

abbrev pub entry_of : LogEntry → Entry
entry_of entry = record { path = entry.path.items; good = entry.good }

abbrev pub entries_of : Log → List Entry
entries_of log = map entry_of log.entries.items

-- what is known of a path after one more record
abbrev pub past_of : List ℕ → Option FileState → Entry → Option FileState
past_of path known entry = if bytes_eq entry.path path then entry.good else known

abbrev pub last : List ℕ → Option FileState → List Entry → Option FileState
last path known [] = known
last path known (entry ∷ entries) = last path (past_of path known entry) entries

-- the state in which the file at a path was good by its last record
abbrev pub last_state : List Entry → List ℕ → Option FileState
last_state entries path = last (normal path) None entries
