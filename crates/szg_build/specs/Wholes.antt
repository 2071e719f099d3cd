-- What is left of a dump's text after its first lines, and the subtables that were read so far.
use Rattle.std.specs.Prelude.{◌≡◌, ℕ, List, [], ◌∷◌, map, option_map}
use Rattle.szg_values.specs.Material.{Sides}
use Rattle.szg_values.specs.declared.Kind.{Kind}
use Rattle.szg_values.specs.declared.Kind.TheVariants.{Wdl, Dtz}
use Rattle.szg_file.specs.Contents.{Part}
use Rattle.szg_file.specs.Held as held
use Rattle.szg_build.specs.declared.reading.gathering.Subs.{Subs}
use Rattle.szg_build.specs.declared.reading.subreading.SubText.{SubText}
use Rattle.szg_build.specs.Dump.{Dump, SubDump, subtable_ids_of, flags_in, maps_in, dump_of_subs}
use Rattle.szg_build.specs.Packed.{lists_in, values_held}
use Rattle.szg_build.specs.Text.{Form}
use Rattle.szg_build.specs.Plan.{sizes_if_valid}
use Rattle.szg_build.specs.Lines.{Lines, means, ◌>>=◌}
use Rattle.szg_build.specs.Grammar.{subtables_format}

-- what is left of a dump after the parts
abbrev pub dump_after_parts : Form → Sides → Kind → List ℕ → List Part → Lines Dump
dump_after_parts form material kind last parts = do
  subs ← subtables_format form kind (sizes_if_valid material kind parts) 0 (subtable_ids_of material kind)
  means (dump_of_subs material kind parts last subs)

-- the content of a subtable
abbrev pub subtable_shown : SubText → SubDump
subtable_shown sub = record { flags = sub.flags; lists = option_map held.map_of sub.map; values = values_held sub.values }

-- a list of one item in DTZ, the empty list in WDL
abbrev pub only_in_dtz : {A : Type 0} → Kind → A → List A
only_in_dtz Wdl item = []
only_in_dtz Dtz item = item ∷ []

-- `subs` has the subtables that were read
abbrev pub AreSubs : Kind → Subs → List SubDump → Type 0
AreSubs kind subs read =
    (subs.flags.items ≡ flags_in kind read)
    × (map (option_map held.map_of) subs.maps.items ≡ maps_in kind read)
    × (lists_in kind subs ≡ map (λ sub. sub.values) read)
