-- The subtables of a dump while it is read: their values, or subtables that are packed already.
use Rattle.std.specs.Prelude.{◌≡◌, ◌⊎◌, ℕ, List, [], ◌∷◌, ◌++◌, ◌<◌, length, map, option_map, replicate}
use Rattle.std.specs.List.{AllByRecursion}
use Rattle.szg_values.specs.declared.Kind.{Kind}
use Rattle.szg_values.specs.declared.Kind.TheVariants.{Wdl, Dtz}
use Rattle.szg_file.specs.Held.{map_of, part_of, subtable_of}
use Rattle.szg_file.specs.Values.{values_in}
use Rattle.szg_subtable.specs.declared.building.Choice.{Choice}
use Rattle.szg_build.specs.declared.reading.packing.PackedSub.{PackedSub}
use Rattle.szg_build.specs.declared.reading.gathering.Subs.{Subs}
use Rattle.szg_build.specs.declared.reading.gathering.Gathered.{Gathered}
use Rattle.szg_build.specs.declared.reading.values.Values.{Values}
use Rattle.szg_build.specs.declared.reading.values.Values.TheVariants.{Run, Listed}
use Rattle.szg_build.specs.Dump.{Dump}
use Rattle.szg_build.specs.Tabling.{IsBuildable, IsBuiltSub}

-- ---- values

-- the values, one after another
abbrev pub values_held : Values → List ℕ
values_held (Run value count) = replicate count value
values_held (Listed list) = list.items

-- the values of a packed subtable
abbrev pub packed_values : Kind → PackedSub → List ℕ
packed_values kind packed = values_in kind packed.size (subtable_of packed.sub)

-- the values of all subtables: those of the packed ones come first
abbrev pub lists_held : Kind → List PackedSub → List (List ℕ) → List (List ℕ)
lists_held kind packed rest = map (packed_values kind) packed ++ rest

-- the values of subtables that were read
abbrev pub lists_in : Kind → Subs → List (List ℕ)
lists_in kind subs = lists_held kind subs.packed.items (map (λ list. list.items) subs.rest.items)

-- ---- packed subtables

-- a subtable that the builder makes of its values
pub record IsPackedSub (kind : Kind) (choice : Choice) (packed : PackedSub) : Type 0 where
  pub built : IsBuiltSub kind packed.flags (packed_values kind packed) choice (subtable_of packed.sub)
  pub fits : IsBuildable kind (packed_values kind packed)
  pub size : length (packed_values kind packed) ≡ packed.size
  pub small : packed.flags < 32

-- a packed subtable with these flags and values
pub record IsPackedAs (kind : Kind) (choice : Choice) (flags : ℕ) (values : List ℕ) (packed : PackedSub) : Type 0 where
  pub good : IsPackedSub kind choice packed
  pub flagged : packed.flags ≡ flags
  pub valued : packed_values kind packed ≡ values

-- the flags of a subtable; in WDL they are 0
abbrev pub flags_in : Kind → ℕ → ℕ
flags_in Wdl flags = 0
flags_in Dtz flags = flags

-- the flags of subtables are those of the plan; a WDL plan has none
abbrev pub AreFlagsOf : Kind → List PackedSub → List ℕ → Type 0
AreFlagsOf Wdl packed flags = (flags ≡ []) × AllByRecursion (λ p. p.flags ≡ 0) packed
AreFlagsOf Dtz packed flags = flags ≡ map (λ p. p.flags) packed

-- the first subtables are packed; if all are, their flags are those of the plan
pub record ArePacked (kind : Kind) (choice : Choice) (subs : Subs) : Type 0 where
  pub each : AllByRecursion (IsPackedSub kind choice) subs.packed.items
  pub flags : subs.rest.items ≡ [] → AreFlagsOf kind subs.packed.items subs.flags.items

-- the same subtables, some of them packed again
pub record IsSettled (kind : Kind) (choice : Choice) (old new : List PackedSub) : Type 0 where
  pub each : AllByRecursion (IsPackedSub kind choice) new
  pub values : map (packed_values kind) new ≡ map (packed_values kind) old
  pub flags : map (λ p. p.flags) new ≡ map (λ p. p.flags) old

-- ---- a subtable is added

-- the added subtable is packed, as all before it are
pub record IsPackedOn (kind : Kind) (choice : Choice) (flags : ℕ) (values : List ℕ) (old new : Subs) : Type 0 where
  pub packed : PackedSub
  pub good : IsPackedAs kind choice flags values packed
  pub first : old.rest.items ≡ []
  pub rest : new.rest ≡ old.rest
  pub more : new.packed.items ≡ old.packed.items ++ packed ∷ []

-- the values of the added subtable are listed
pub record IsListedOn (values : List ℕ) (old new : Subs) : Type 0 where
  pub packed : new.packed ≡ old.packed
  pub more : map (λ list. list.items) new.rest.items ≡ map (λ list. list.items) old.rest.items ++ values ∷ []

-- the values of a subtable are added, and its flags and map are not added yet
pub record IsAdded (kind : Kind) (choice : Choice) (flags : ℕ) (values : List ℕ) (old new : Subs) : Type 0 where
  pub same_flags : new.flags ≡ old.flags
  pub same_maps : new.maps ≡ old.maps
  pub added : IsPackedOn kind choice flags values old new ⊎ IsListedOn values old new

-- ---- the content of a dump

abbrev pub gathered_dump : Gathered → Dump
gathered_dump gathered = record {
  material = gathered.header.material;
  kind = gathered.header.kind;
  parts = map part_of gathered.header.parts.items;
  flags = gathered.subs.flags.items;
  maps = map (option_map map_of) gathered.subs.maps.items;
  last = gathered.header.last;
  lists = lists_in gathered.header.kind gathered.subs;
}
