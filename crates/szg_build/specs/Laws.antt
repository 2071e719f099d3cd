-- Laws: the text of a dump is read back, also that of the dump of an accepted table; a built table is found in its
-- file; a table built from the dump of another table has the other table's values.
use Rattle.std.specs.Prelude.{◌≡◌, ℕ, suc, ◌+◌, ◌≤◌, false, true, List, [], ◌∷◌, ◌++◌, length, Option, Some, None, option_and_then, option_map, slice_index}
use Rattle.std.specs.List.{AllByRecursion}
use Rattle.szg_values.specs.Material.{Sides, IsMaterial}
use Rattle.szg_values.specs.declared.Kind.{Kind}
use Rattle.szg_values.specs.declared.Kind.TheVariants.{Wdl, Dtz}
use Rattle.szg_file.specs.Format as file_format
use Rattle.szg_file.specs.Contents.{Part, Map, narrow, wide, Contents, has_bit}
use Rattle.szg_file.specs.File.{file}
use Rattle.szg_file.specs.FileOf.{file_of}
use Rattle.szg_file.specs.Values.{item, subtable_at, values_of}
use Rattle.szg_file.specs.Accepted.{SideBySide, AreNumbers, IsAccepted}
use Rattle.szg_build.specs.Plan.{Plan, sizes_if_valid}
use Rattle.szg_build.specs.Built.{IsBuilt, IsDumpOf, dump_plan, plan_flags, value_lists}
use Rattle.szg_build.specs.Dump.{Dump, SubDump, parts_of, subtable_ids_of, subs_of, dump_of_subs}
use Rattle.szg_build.specs.Text.{Form, single, runs, dump_text, dump_lines}
use Rattle.szg_build.specs.Lines.{line_ends, verdict, good, ended}
use Rattle.szg_build.specs.Grammar.{greatest_count, greatest_item, list_numbers, dump_with, dump_format}

-- ---- which dumps have a text that is read back

abbrev pub AreUpTo : ℕ → List ℕ → Type 0
AreUpTo greatest values = AllByRecursion (λ v. v ≤ greatest) values

-- four lists, with items up to `greatest`
abbrev pub AreMapLists : ℕ → List (List ℕ) → Type 0
AreMapLists greatest lists = SideBySide (λ j list. (length list ≤ greatest_count) × AreUpTo greatest list) list_numbers lists

-- there is a map exactly with flag 2, a wide one exactly with flag 16
abbrev pub IsMapReadBack : ℕ → Option Map → Type 0
IsMapReadBack flags None = has_bit 1 flags ≡ false
IsMapReadBack flags (Some (narrow lists)) = (has_bit 1 flags ≡ true) × (has_bit 4 flags ≡ false) × AreMapLists 255 lists
IsMapReadBack flags (Some (wide lists)) = (has_bit 1 flags ≡ true) × (has_bit 4 flags ≡ true) × AreMapLists greatest_item lists

abbrev pub AreFlagsReadBack : Kind → SubDump → Type 0
AreFlagsReadBack Wdl sub = (sub.flags ≡ 0) × (sub.lists ≡ None)
AreFlagsReadBack Dtz sub = (sub.flags ≤ 31) × IsMapReadBack sub.flags sub.lists

-- in form 2, the number of values of subtable s is its size
abbrev pub IsSized : Form → Option (List ℕ) → ℕ → ℕ → Type 0
IsSized single sizes s count = Unit {0}
IsSized runs None s count = ⊥
IsSized runs (Some sizes) s count = slice_index sizes s ≡ count

pub record IsSubtableReadBack (form : Form) (kind : Kind) (sizes : Option (List ℕ)) (s : ℕ) (sub : SubDump) : Type 0 where
  pub flags : AreFlagsReadBack kind sub
  pub count : length sub.values ≤ greatest_count
  pub values : AreUpTo greatest_item sub.values
  pub sized : IsSized form sizes s (length sub.values)

abbrev pub AreSubtablesReadBack : Form → Kind → Option (List ℕ) → ℕ → List (ℕ × ℕ) → List SubDump → Type 0
AreSubtablesReadBack form kind sizes s [] [] = Unit {0}
AreSubtablesReadBack form kind sizes s (place ∷ subtable_ids) (sub ∷ subs) = IsSubtableReadBack form kind sizes s sub × AreSubtablesReadBack form kind sizes (suc s) subtable_ids subs
AreSubtablesReadBack form kind sizes s _ _ = ⊥

-- the bytes of a part fit one line
pub record IsPartReadBack (number : ℕ) (part : Part) : Type 0 where
  pub order : AreNumbers 1 part.order
  pub men : AreNumbers 1 part.men
  pub short : length part.order + length part.men ≤ 31

-- a dump whose text is read back: the material has a name, and the numbers of parts, flags, maps and lists are those
-- that material and kind require
pub record IsReadBack (form : Form) (sizes : Sides → Kind → List Part → Option (List ℕ)) (dump : Dump) : Type 0 where
  pub material : IsMaterial dump.material
  pub last_bytes : AreNumbers 1 dump.last
  pub last_count : length dump.last ≡ 16
  pub parts : SideBySide IsPartReadBack (parts_of dump.material) dump.parts
  pub subs : AreSubtablesReadBack form dump.kind (sizes dump.material dump.kind dump.parts) 0 (subtable_ids_of dump.material dump.kind) (subs_of dump.kind dump.flags dump.maps dump.lists)
  pub counts : dump_of_subs dump.material dump.kind dump.parts dump.last (subs_of dump.kind dump.flags dump.maps dump.lists) ≡ dump

-- The text of a dump is read back as that dump, whatever follows it.
abbrev pub TextIsRead : Type 0
TextIsRead = (sizes : Sides → Kind → List Part → Option (List ℕ)) (form : Form) (dump : Dump) (rest : List ℕ) → IsReadBack form sizes dump →
    verdict (dump_with sizes) 0 (dump_text form dump ++ rest) ≡ good dump (length (dump_lines form dump)) rest

-- The text of a dump that is cut anywhere is refused as `Ended`, at the line after the last whole line.
abbrev pub CutTextIsEnded : Type 0
CutTextIsEnded = (sizes : Sides → Kind → List Part → Option (List ℕ)) (form : Form) (dump : Dump) (front : List ℕ) (byte : ℕ) (back : List ℕ) → IsReadBack form sizes dump →
    dump_text form dump ≡ front ++ (byte ∷ back) → verdict (dump_with sizes) 0 front ≡ ended (1 + line_ends front)

-- Two dumps with the same text are equal.
abbrev pub OneTextOneDump : Type 0
OneTextOneDump = (sizes : Sides → Kind → List Part → Option (List ℕ)) (form form' : Form) (dump dump' : Dump) → IsReadBack form sizes dump → IsReadBack form' sizes dump' →
    dump_text form dump ≡ dump_text form' dump' → dump ≡ dump'

-- The dump of an accepted table has a text that is read back, in both forms.
abbrev pub DumpIsWritable : Type 0
DumpIsWritable = (form : Form) (dump : Dump) (t : Contents) (fill : List ℕ) → IsMaterial t.material → IsAccepted t fill → IsDumpOf dump t → IsReadBack form sizes_if_valid dump

-- The text of the dump of an accepted table is read back as that dump, whatever follows it.
abbrev pub OwnDumpIsRead : Type 0
OwnDumpIsRead = (form : Form) (dump : Dump) (t : Contents) (fill rest : List ℕ) → IsMaterial t.material → IsAccepted t fill → IsDumpOf dump t →
    verdict dump_format 0 (dump_text form dump ++ rest) ≡ good dump (length (dump_lines form dump)) rest

-- two tables that are equal but for byte 4, flags that a dump leaves out, the packing of their values and the second
-- bytes of constant subtables
pub record HasSameValues (t other : Contents) : Type 0 where
  pub material : other.material ≡ t.material
  pub kind : other.kind ≡ t.kind
  pub parts : other.parts ≡ t.parts
  pub flags : plan_flags other ≡ plan_flags t
  pub maps : other.maps ≡ t.maps
  pub last : other.last ≡ t.last
  pub lists : value_lists other ≡ value_lists t
  pub each : (part side : ℕ) → option_map (values_of other.kind) (subtable_at other part side) ≡ option_map (values_of t.kind) (subtable_at t part side)

-- A table that is built from the dump of another table has the other table's values, for each part and side.
abbrev pub RebuiltHasSameValues : Type 0
RebuiltHasSameValues = (dump : Dump) (block_bits span_bits rounds : ℕ) (t rebuilt : Contents) → IsDumpOf dump t → IsBuilt (dump_plan dump block_bits span_bits rounds) dump.lists rebuilt → HasSameValues t rebuilt

-- The dump of a table that is built from a dump is that dump.
abbrev pub BuiltDumpStays : Type 0
BuiltDumpStays = (dump : Dump) (block_bits span_bits rounds : ℕ) (t : Contents) → IsBuilt (dump_plan dump block_bits span_bits rounds) dump.lists t → IsDumpOf dump t

-- The verdict on bytes that begin with the file of a built table accepts them as that table. Value i of the subtable
-- found for a part and a side is item i of the list that was passed for them.
abbrev pub BuiltIsFound : Type 0
BuiltIsFound = (plan : Plan) (lists : List (List ℕ)) (t : Contents) (fill rest : List ℕ) → IsAccepted t fill → IsBuilt plan lists t →
    (file_format.verdict (file plan.material plan.kind) 0 (file_of t fill ++ rest) ≡ file_format.good t fill rest)
    × ((s part side i : ℕ) (list : List ℕ) → item (subtable_ids_of plan.material plan.kind) s ≡ Some (part, side) → item lists s ≡ Some list →
    option_and_then (λ found. item (values_of t.kind found) i) (subtable_at t part side) ≡ item list i)
