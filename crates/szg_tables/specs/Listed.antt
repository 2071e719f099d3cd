-- Lists of the values of tables in memory.
use Rattle.std.specs.Prelude.{◌≡◌, All, List, find, Some, IsSomeAnd}
use Rattle.szg_file.specs.Contents.{Contents}
use Rattle.szg_file.specs.Held.{Shown}
use Rattle.szg_file.specs.Values.{subtable_at, values_of}
use Rattle.szg_tables.specs.Stored.{is_for}
use Rattle.szg_tables.specs.declared.listed.TableLists.{TableLists}
use Rattle.szg_tables.specs.declared.listed.ValueList.{ValueList}

-- the values of a subtable of the table, in their order
abbrev pub IsListOf : Contents → ValueList → Type 0
IsListOf t list = IsSomeAnd (subtable_at t list.part list.side) (λ found. list.values.items ≡ values_of t.kind found)

-- the first of the tables of this kind and material, with lists of its values
pub record IsListed (tables : List Shown) (l : TableLists) : Type 0 where
  pub first : find (is_for l.kind l.material) tables ≡ Some l.table.now
  pub kind : l.table.now.contents.kind ≡ l.kind
  pub lists : All (IsListOf l.table.now.contents) l.lists.items
