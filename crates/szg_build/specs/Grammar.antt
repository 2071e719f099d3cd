-- The grammar of a dump's text, line after line, with the refusals.
use Rattle.std.specs.Prelude.{bytes_eq, ℕ, zero, suc, ◌+◌, ◌-◌, ◌*◌, ◌^◌, ◌==◌, ◌&&◌, nat_lt, nat_le, Bool, true, false, List, [], ◌∷◌, ◌++◌, length, replicate, get_or, Option, Some, None, Result, Ok, Err, option_map, codes, slice_index, if◌then◌else◌}
use Rattle.std.specs.Fmt.{decimal}
use Rattle.std.specs.Str.Parse.{digits_value}
use Rattle.hex.specs.Hex.{encode_lower}
use Rattle.szg_values.specs.Material.{Sides, parsed}
use Rattle.szg_values.specs.declared.NameFault.{NameFault}
use Rattle.szg_values.specs.declared.Kind.{Kind}
use Rattle.szg_values.specs.declared.Kind.TheVariants.{Wdl, Dtz}
use Rattle.szg_file.specs.Contents.{Part, Map, narrow, wide, has_bit}
use Rattle.szg_build.specs.declared.dump.DumpFault.{DumpFault}
use Rattle.szg_build.specs.declared.dump.DumpFault.TheVariants.{Version, Field, Number, Hex, Name, Run}
use Rattle.szg_build.specs.declared.BuildFault.{BuildFault}
use Rattle.szg_build.specs.declared.BuildFault.TheVariants as plan
use Rattle.szg_build.specs.Plan.{sizes_if_valid}
use Rattle.szg_build.specs.Dump.{Dump, SubDump, parts_of, subtable_ids_of, dump_of_subs}
use Rattle.szg_build.specs.Text.{Form, single, runs, kind_word, part_word}
use Rattle.szg_build.specs.Lines.{Lines, means, refuses, line, of_line, of_plan, ◌>>=◌, ◌>>◌}

-- ---- words

-- the number whose decimal text the word is, if it is at most the limit
abbrev pub number_in : ℕ → List ℕ → Option ℕ
number_in limit word = if bytes_eq (decimal (digits_value 10 word)) word && nat_le (digits_value 10 word) limit then Some (digits_value 10 word) else None

-- the value of a lower-case digit
abbrev pub digit_number : ℕ → ℕ
digit_number digit = if nat_lt digit 97 then digit - 48 else digit - 87

-- every two digits make one byte
abbrev pub digit_bytes : List ℕ → List ℕ
digit_bytes (high ∷ low ∷ digits) = (16 * digit_number high + digit_number low) ∷ digit_bytes digits
digit_bytes _ = []

-- the bytes whose lower-case hexadecimal text the word is
abbrev pub bytes_in : List ℕ → Option (List ℕ)
bytes_in word = if bytes_eq (encode_lower (digit_bytes word)) word then Some (digit_bytes word) else None

-- ---- lines

-- a word of a line: a fixed one, or a value
pub data Word : Type 0 where
  fixed : List ℕ → Word
  value : Word

-- the values of a line, if its other words are the pattern's fixed words
abbrev pub values_in : List Word → List (List ℕ) → Option (List (List ℕ))
values_in [] [] = Some []
values_in (fixed text ∷ pattern) (word ∷ words) = if bytes_eq word text then values_in pattern words else None
values_in (value ∷ pattern) (word ∷ words) = option_map (λ values. word ∷ values) (values_in pattern words)
values_in _ _ = None

-- a value if there is one, else the fault of its line
abbrev pub or_fault : {A : Type 0} → DumpFault → Option A → Lines A
or_fault fault None = refuses (of_line fault)
or_fault fault (Some a) = means a

-- a line of this pattern; its meaning is the values in it
abbrev pub line_of : List Word → Lines (List (List ℕ))
line_of pattern = line (λ words. or_fault Field (values_in pattern words))

-- the i-th value of a line: number_at parses it as a decimal up to a limit, bytes_at as hexadecimal text of bytes
abbrev pub number_at : List (List ℕ) → ℕ → ℕ → Lines ℕ
number_at values i limit = or_fault Number (number_in limit (get_or values i []))

abbrev pub bytes_at : List (List ℕ) → ℕ → Lines (List ℕ)
bytes_at values i = or_fault Hex (bytes_in (get_or values i []))

-- a line with one number
abbrev pub number_line : List Word → ℕ → Lines ℕ
number_line pattern limit = do
  values ← line_of pattern
  number_at values 0 limit

-- `count` texts, one after another
abbrev pub repeated : {A : Type 0} → ℕ → Lines A → Lines (List A)
repeated zero lines = means []
repeated (suc count) lines = do
  x ← lines
  xs ← repeated count lines
  means (x ∷ xs)

-- a text for each item
abbrev pub each : {A B : Type 0} → (A → Lines B) → List A → Lines (List B)
each lines [] = means []
each lines (x ∷ xs) = do
  y ← lines x
  ys ← each lines xs
  means (y ∷ ys)

-- ---- limits

abbrev pub greatest_count : ℕ
greatest_count = 2 ^ 63 - 1

abbrev pub greatest_item : ℕ
greatest_item = 2 ^ 16 - 1

-- ---- the front

abbrev pub form_in : List ℕ → Option Form
form_in word = if bytes_eq word (codes "1") then Some single else if bytes_eq word (codes "2") then Some runs else None

abbrev pub version_line : Lines Form
version_line = do
  values ← line_of (fixed (codes "szg-dump") ∷ value ∷ [])
  or_fault Version (form_in (get_or values 0 []))

abbrev pub material_in : Result Sides NameFault → Option Sides
material_in (Ok material) = Some material
material_in (Err fault) = None

abbrev pub name_line : Lines Sides
name_line = do
  values ← line_of (fixed (codes "name") ∷ value ∷ [])
  or_fault Name (material_in (parsed (get_or values 0 [])))

abbrev pub kind_in : List ℕ → Option Kind
kind_in word = if bytes_eq word (kind_word Wdl) then Some Wdl else if bytes_eq word (kind_word Dtz) then Some Dtz else None

abbrev pub kind_line : Lines Kind
kind_line = do
  values ← line_of (fixed (codes "kind") ∷ value ∷ [])
  or_fault Field (kind_in (get_or values 0 []))

abbrev pub bytes_of_length : ℕ → List ℕ → Option (List ℕ)
bytes_of_length count bytes = if length bytes == count then Some bytes else None

-- the line `end`, which has sixteen bytes
abbrev pub end_line : Lines (List ℕ)
end_line = do
  values ← line_of (fixed (codes "end") ∷ value ∷ [])
  bytes ← bytes_at values 0
  or_fault Hex (bytes_of_length 16 bytes)

abbrev pub part_line : ℕ → Lines Part
part_line number = do
  values ← line_of (fixed (codes "part") ∷ fixed (part_word number) ∷ fixed (codes "order") ∷ value ∷ fixed (codes "men") ∷ value ∷ [])
  order ← bytes_at values 0
  men ← bytes_at values 1
  means (record { order = order; men = men })

-- ---- the subtables

-- list j of a map: the number of items, and a line for each item
abbrev pub map_list : ℕ → ℕ → Lines (List ℕ)
map_list greatest j = do
  count ← number_line (fixed (codes "map") ∷ fixed (decimal j) ∷ value ∷ []) greatest_count
  repeated count (number_line (value ∷ []) greatest)

abbrev pub list_numbers : List ℕ
list_numbers = 0 ∷ 1 ∷ 2 ∷ 3 ∷ []

-- with flag 2 there are four lists: of bytes, or with flag 16 of two-byte numbers
abbrev pub map_of : Bool → Bool → Lines (Option Map)
map_of false wide_items = means None
map_of true false = each (map_list 255) list_numbers >>= λ lists. means (Some (narrow lists))
map_of true true = each (map_list greatest_item) list_numbers >>= λ lists. means (Some (wide lists))

-- in DTZ the line of the flags, up to 31
abbrev pub flags_line : Kind → Lines ℕ
flags_line Wdl = means 0
flags_line Dtz = number_line (fixed (codes "flags") ∷ value ∷ []) 31

-- a number that is not 0
abbrev pub positive : Option ℕ → Option ℕ
positive None = None
positive (Some zero) = None
positive (Some (suc more)) = Some (suc more)

-- a run, if it is no longer than the number of values left; this is checked after both its words are parsed
abbrev pub fitting_run : ℕ → ℕ × ℕ → Option (ℕ × ℕ)
fitting_run left run = if nat_le run.0 left then Some run else None

abbrev pub run_line : ℕ → Lines (ℕ × ℕ)
run_line left = do
  values ← line_of (value ∷ value ∷ [])
  count ← or_fault Number (positive (number_in greatest_count (get_or values 0 [])))
  v ← number_at values 1 greatest_item
  or_fault Run (fitting_run left (count, v))

-- runs until `left` values are read; each run has at least one value, so there are at most `left` runs
abbrev pub run_values : ℕ → ℕ → Lines (List ℕ)
run_values zero left = means []
run_values (suc most) zero = means []
run_values (suc most) (suc left) = do
  run ← run_line (suc left)
  values ← run_values most (suc left - run.0)
  means (replicate run.0 run.1 ++ values)

abbrev pub values_lines : Form → ℕ → Lines (List ℕ)
values_lines single count = repeated count (number_line (value ∷ []) greatest_item)
values_lines runs count = run_values count count

-- in form 2, parts that are not valid are refused after the first line `sub`
abbrev pub order_check : Form → Option (List ℕ) → Lines (Unit {0})
order_check single sizes = means tt
order_check runs None = refuses (of_plan plan.Order)
order_check runs (Some sizes) = means tt

abbrev pub demand : Bool → BuildFault → Lines (Unit {0})
demand true fault = means tt
demand false fault = refuses (of_plan fault)

-- in form 2, a number of values that is not the size of subtable s is refused
abbrev pub length_check : Form → Option (List ℕ) → ℕ → ℕ → Lines (Unit {0})
length_check single sizes s count = means tt
length_check runs None s count = means tt
length_check runs (Some sizes) s count = demand (slice_index sizes s == count) (plan.Length s)

abbrev pub subtable_format : Form → Kind → Option (List ℕ) → ℕ → ℕ × ℕ → Lines SubDump
subtable_format form kind sizes s place = do
  line_of (fixed (codes "sub") ∷ fixed (part_word place.0) ∷ fixed (decimal place.1) ∷ [])
  order_check form sizes
  flags ← flags_line kind
  lists ← map_of (has_bit 1 flags) (has_bit 4 flags)
  count ← number_line (fixed (codes "values") ∷ value ∷ []) greatest_count
  length_check form sizes s count
  values ← values_lines form count
  means (record { flags = flags; lists = lists; values = values })

-- the subtables from the s-th on
abbrev pub subtables_format : Form → Kind → Option (List ℕ) → ℕ → List (ℕ × ℕ) → Lines (List SubDump)
subtables_format form kind sizes s [] = means []
subtables_format form kind sizes s (place ∷ places) = do
  sub ← subtable_format form kind sizes s place
  subs ← subtables_format form kind sizes (suc s) places
  means (sub ∷ subs)

-- ---- the whole text

-- the text of a dump; `sizes` gives the sizes of the subtables if the parts are valid
abbrev pub dump_with : (Sides → Kind → List Part → Option (List ℕ)) → Lines Dump
dump_with sizes = do
  form ← version_line
  material ← name_line
  kind ← kind_line
  last ← end_line
  parts ← each part_line (parts_of material)
  subs ← subtables_format form kind (sizes material kind parts) 0 (subtable_ids_of material kind)
  means (dump_of_subs material kind parts last subs)

unfoldable pub dump_format : Lines Dump
dump_format = dump_with sizes_if_valid
