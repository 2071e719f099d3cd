-- What tables store of which single values were fetched.
use Rattle.std.specs.Prelude.{ℕ, ◌≡◌, ◌<◌, ◌==◌, ◌&&◌, Bool, true, List, find, All, Option, Some, option_map, IsSomeAnd}
use Rattle.szg_file.specs.Accepted.{AreNumbers}
use Rattle.szg_file.specs.FrontTable.{FrontKept, IsFrontOf}
use Rattle.szg_file.specs.Held.{Shown}
use Rattle.szg_file.specs.Index.{slot_in}
use Rattle.szg_file.specs.Opened.{table_in}
use Rattle.szg_place.specs.Probes.{IsValueAt}
use Rattle.szg_place.specs.declared.Spot.{Spot}
use Rattle.szg_values.specs.Material.{Sides}
use Rattle.szg_values.specs.Placement.{PlacedMan}
use Rattle.szg_values.specs.declared.Color.{Color}
use Rattle.szg_values.specs.declared.Kind.{Kind}
use Rattle.szg_game.specs.declared.Class.{Class}
use Rattle.szg_probe.specs.Probing.{StoredClasses}
use Rattle.szg_probe.specs.Distances.{StoredNumbers}
use Rattle.szg_tables.specs.Opened.{Opened, is_for as is_opened_for, opened_classes, opened_numbers}
use Rattle.szg_tables.specs.Stored.{is_for, stored_classes, stored_numbers}
use Rattle.szg_tables.specs.declared.fetched.FetchedTable.{FetchedTable}
use Rattle.szg_tables.specs.declared.fetched.FetchedValue.{FetchedValue}

abbrev pub is_at : Spot → FetchedValue → Bool
is_at spot v = v.spot.index == spot.index && (v.spot.part == spot.part && v.spot.side == spot.side)

-- the value at a spot. None if it was not fetched.
abbrev pub fetched_at : List FetchedValue → Spot → Option ℕ
fetched_at values spot = option_map (λ v. v.value) (find (is_at spot) values)

abbrev pub fetched : FetchedTable → Opened
fetched t = record { index = t.front.index; value_at = fetched_at t.values.items }

-- what the tables store as far as it was fetched
abbrev pub fetched_classes : List FetchedTable → StoredClasses
fetched_classes tables = opened_classes fetched tables

abbrev pub fetched_numbers : List FetchedTable → StoredNumbers
fetched_numbers tables = opened_numbers fetched tables

-- ---- the files that it was fetched from

-- the table has such a spot, and the value is the one that its block in these bytes spells there
abbrev pub IsValueIn : FrontKept → List ℕ → FetchedValue → Type 0
IsValueIn front content v = IsSomeAnd (slot_in front.index v.spot.part v.spot.side) (λ slot. v.spot.index < slot.size) × IsValueAt front content v.spot v.value

-- the front is that of these bytes, and so is each value that was fetched
pub record IsOfFile (t : FetchedTable) (content : List ℕ) : Type 0 where
  pub front : IsFrontOf t.front content
  pub values : All (IsValueIn t.front content) t.values.items

-- a file of a table, from which the fetched one was fetched
pub record IsFileOf (f : FetchedTable) (t : Shown) : Type 0 where
  pub content : List ℕ
  pub small : AreNumbers 1 content
  pub there : table_in f.front.index.material f.front.index.kind content ≡ Some t.contents
  pub is : IsOfFile f content

-- wherever the fetched table is for a kind and a material, so is one of the tables, and the first of these has such a file
abbrev pub IsOfTable : List Shown → FetchedTable → Type 0
IsOfTable tables f = (kind : Kind) (sides : Sides) → is_opened_for kind sides f.front.index ≡ true → IsSomeAnd (find (is_for kind sides) tables) (IsFileOf f)

-- ---- knowing less

-- each class that the first knows is that of the second
abbrev pub AreAmong : StoredClasses → StoredClasses → Type 0
AreAmong few many = (men : List PlacedMan) (mover : Color) (k : Class) → few men mover ≡ Some k → many men mover ≡ Some k

-- each number that the first knows is that of the second
abbrev pub AreNumbersAmong : StoredNumbers → StoredNumbers → Type 0
AreNumbersAmong few many = (men : List PlacedMan) (mover : Color) (k : Class) (n : Option ℕ) → few men mover k ≡ Some n → many men mover k ≡ Some n

-- What was fetched of the files of tables is what the tables store.
abbrev pub FetchedIsStored : Type 0
FetchedIsStored = (parts : List FetchedTable) (tables : List Shown) → All (IsOfTable tables) parts →
    AreAmong (fetched_classes parts) (stored_classes tables) × AreNumbersAmong (fetched_numbers parts) (stored_numbers tables)
