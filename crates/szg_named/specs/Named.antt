-- The table's name and kind in a path.
use Rattle.std.specs.Prelude.{ℕ, List, codes, Option, Some, None, option_map, if◌then◌else◌}
use Rattle.std.specs.Option.{option_or}
use Rattle.std.specs.Str.{bytes_eq}
use Rattle.std.specs.Path.{path_extension, path_file_stem}
use Rattle.szg_values.specs.declared.Kind.{Kind}
use Rattle.szg_values.specs.declared.Kind.TheVariants.{Wdl, Dtz}
use Rattle.szg_named.specs.declared.named.Naming.{Naming}

-- the kind of table of an extension
abbrev pub kind_of_ending : List ℕ → Option Kind
kind_of_ending ending = if bytes_eq ending (codes "rtbw") then Some Wdl else if bytes_eq ending (codes "rtbz") then Some Dtz else None

abbrev pub kind_of_extension : Option (List ℕ) → Option Kind
kind_of_extension None = None
kind_of_extension (Some ending) = kind_of_ending ending

-- the kind of a path's extension
abbrev pub kind_by : List ℕ → Option Kind
kind_by path = kind_of_extension (path_extension path)

abbrev pub both : Option (List ℕ) → Option Kind → Option (List ℕ × Kind)
both (Some name) (Some kind) = Some (name, kind)
both name kind = None

-- the table's name, before the last dot of the file name, and the kind, after that dot
abbrev pub named_by : List ℕ → Option (List ℕ × Kind)
named_by path = both (path_file_stem path) (kind_by path)

-- the same, with the path's name or kind replaced by a given one
abbrev pub named_as : Option (List ℕ) → Option Kind → List ℕ → Option (List ℕ × Kind)
named_as name kind path = both (option_or name (path_file_stem path)) (option_or kind (kind_by path))

abbrev pub name_given : Naming → Option (List ℕ)
name_given naming = option_map (λ name. name.now) naming.name
