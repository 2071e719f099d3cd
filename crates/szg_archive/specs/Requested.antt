-- Command lines that check files.
use Rattle.std.specs.Prelude.{ℕ, Bool, true, false, ◌&&◌, nat_lt, is_some, List, [], ◌∷◌, length, drop, slice_get, codes, Option, Some, None, if◌then◌else◌}
use Rattle.std.specs.Str.{bytes_eq}
use Rattle.szg_named.specs.Named.{named_by}

-- each path has the extension of a kind of table
abbrev pub all_named : List (List ℕ) → Bool
all_named [] = true
all_named (path ∷ paths) = is_some (named_by path) && all_named paths

abbrev pub is_check : Option (List ℕ) → Bool
is_check None = false
is_check (Some command) = bytes_eq command (codes "check")

-- the paths after `szg check`, at least one, if each has the extension of a table file
abbrev pub files_to_check : List (List ℕ) → Option (List (List ℕ))
files_to_check words =
    if nat_lt 2 (length words) && (is_check (slice_get words 1) && all_named (drop 2 words)) then Some (drop 2 words) else None
