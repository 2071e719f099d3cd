-- The digest of the files that the check of a material reads.
use Rattle.std.specs.Prelude.{ℕ, ◌≡◌, List, [], ◌++◌, flat_map, find, option_map, unwrap_or, Contains}
use Rattle.hex.specs.Hex.{encode_lower}
use Rattle.sha2.specs.Sha256.{sha256}
use Rattle.szg_values.specs.Material.{Sides}
use Rattle.szg_values.specs.declared.Kind.{Kind}
use Rattle.szg_values.specs.declared.Kind.TheVariants.{Wdl, Dtz}
use Rattle.szg_file.specs.Held.{Shown, file_bytes}
use Rattle.szg_tables.specs.Stored.{is_for}

-- the file of the first of these tables of a kind and material; nothing if there is none
abbrev pub file_for : List Shown → Kind → Sides → List ℕ
file_for tables kind material = unwrap_or (option_map file_bytes (find (is_for kind material) tables)) []

-- the WDL files of some materials, joined, and the DTZ file of one
abbrev pub files_for : List Shown → List Sides → Sides → List ℕ
files_for tables needed material = flat_map (file_for tables Wdl) needed ++ file_for tables Dtz material

-- The SHA-256 digest, in hex digits, of the material's own files and of WDL files of other materials.
abbrev pub IsDigestOf : List Shown → Sides → List ℕ → Type 0
IsDigestOf tables material digest = (needed : List Sides) × Contains needed material × (digest ≡ encode_lower (sha256 (files_for tables needed material)))
