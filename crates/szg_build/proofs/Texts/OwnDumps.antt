-- The dump of an accepted table can be written as a text and read back, and a table built from it has the table's
-- values.
use Rattle.std.proofs.Common.{◌≡◌, ℕ, zero, suc, ◌+◌, ◌/◌, ◌%◌, ◌^◌, ◌<◌, ◌≤◌, Bool, true, false, List, [], ◌∷◌, ◌++◌, length, map, take, get_or, replicate, refl, sym, ap, subst, ◌∙◌, arith, Option, Some, None}
use Rattle.std.specs.Prelude.{◌==◌, ◌&&◌, IfSome, option_map, nat_eq, slice_get, slice_index, if◌then◌else◌}
use Rattle.std.specs.List.{AllByRecursion, flat_map, range_with_len}
use Rattle.std.proofs.lemmas.Bool.{leb-true, and_parts}
use Rattle.std.proofs.lemmas.List.{length-map, length-append, length-replicate}
use Rattle.szg_values.specs.Men.{code_of}
use Rattle.szg_values.specs.Material.{Sides, IsMaterial, has_pawns, man_codes}
use Rattle.szg_values.specs.declared.Kind.{Kind}
use Rattle.szg_values.specs.declared.Kind.TheVariants.{Wdl, Dtz}
use Rattle.szg_count.specs.Groups.{Nibbles, order_fault, size_of, has_other_pawns, IsPart as IsPartNumber}
use Rattle.szg_count.proofs.Sizes.{size_below}
use Rattle.szg_pairs.specs.Entry.{left_of, is_leaf}
use Rattle.szg_pairs.specs.Expansion.{values_of_kind, values_of_entry, values_within, expansion_of}
use Rattle.szg_code.specs.Spelling.{symbols_spelled}
use Rattle.szg_code.specs.Bits.{bits}
use Rattle.szg_block.specs.Layout.{Layout}
use Rattle.szg_block.specs.Block.{needed, block_at, block_values}
use Rattle.szg_block.specs.Expansion.{needed_values, joined_values}
use Rattle.szg_block.proofs.Values.{length-joined_values}
use Rattle.szg_file.specs.Contents.{Part, Slot, Subtable, constant, pairs, layout_of, Map, narrow, wide, Contents, has_bit, slots, slots_from, part_slots, part_numbers, side_numbers, order_bytes, order_of}
use Rattle.szg_file.specs.File.{flags_of}
use Rattle.szg_file.specs.Values.{slotted, found, values_in, values_of}
use Rattle.szg_file.specs.Accepted.{SideBySide, AreNumbers, AreBytes, IsPart, IsSubtable, IsMapOf, AreMaps, AreLists, IsAccepted}
use Rattle.szg_file.proofs.Tables.SoundLaws.{accepted_code, accepted_shape, accepted_subtable}
use Rattle.szg_file.proofs.Tables.TableFinds.{side_lengths}
use Rattle.szg_file.proofs.Tables.AssembledLaws.{all_of_sides}
use Rattle.szg_build.specs.Built.{IsDumpOf, value_lists, plan_flags}
use Rattle.szg_build.specs.Dump.{Dump, SubDump, subtable_ids_of, subs_of, mapped_subs, flags_in, maps_in}
use Rattle.szg_build.specs.Grammar.{greatest_count, greatest_item, dump_format}
use Rattle.szg_build.specs.Plan.{sizes_if_valid}
use Rattle.szg_build.specs.Text.{Form, single, runs}
use Rattle.szg_build.specs.Laws.{AreUpTo, AreMapLists, IsMapReadBack, AreFlagsReadBack, IsSized, IsSubtableReadBack, AreSubtablesReadBack, IsPartReadBack, IsReadBack, DumpIsWritable, OwnDumpIsRead, RebuiltHasSameValues}
use Rattle.szg_build.proofs.Texts.ReadBack.{text_is_read}
use Rattle.szg_build.proofs.Builders.PlaceLaws.{places_are_valid, place_count}
use Rattle.szg_build.proofs.Builders.TableLaws.{sizes_of_parts, flags_shown}

-- ---- lists

all_append : {A : Type 0} (P : A → Type 0) (xs ys : List A) → AllByRecursion P xs → AllByRecursion P ys → AllByRecursion P (xs ++ ys)
all_append P [] ys h k = k
all_append P (x ∷ xs) ys h k = (h.0, all_append P xs ys h.1 k)

all_take : {A : Type 0} (P : A → Type 0) (n : ℕ) (xs : List A) → AllByRecursion P xs → AllByRecursion P (take n xs)
all_take P zero xs h = tt
all_take P (suc n) [] h = tt
all_take P (suc n) (x ∷ xs) h = (h.0, all_take P n xs h.1)

all_flat_map : {A B : Type 0} (P : B → Type 0) (f : A → List B) (xs : List A) → ((x : A) → AllByRecursion P (f x)) → AllByRecursion P (flat_map f xs)
all_flat_map P f [] each = tt
all_flat_map P f (x ∷ xs) each = all_append P (f x) (flat_map f xs) (each x) (all_flat_map P f xs each)

all_replicate : {A : Type 0} (P : A → Type 0) (n : ℕ) (x : A) → P x → AllByRecursion P (replicate n x)
all_replicate P zero x h = tt
all_replicate P (suc n) x h = (h, all_replicate P n x h)

all_get : {A : Type 0} (P : A → Type 0) (xs : List A) (i : ℕ) → AllByRecursion P xs → IfSome (slice_get xs i) P
all_get P [] i h = tt
all_get P (x ∷ xs) zero h = h.0
all_get P (x ∷ xs) (suc i) h = all_get P xs i h.1

all_weaker : {A : Type 0} (P Q : A → Type 0) (xs : List A) → ((x : A) → P x → Q x) → AllByRecursion P xs → AllByRecursion Q xs
all_weaker P Q [] f h = tt
all_weaker P Q (x ∷ xs) f h = (f x h.0, all_weaker P Q xs f h.1)

sides_weaker : {A B : Type 0} (P Q : A → B → Type 0) (xs : List A) (ys : List B) → ((x : A) (y : B) → P x y → Q x y) → SideBySide P xs ys → SideBySide Q xs ys
sides_weaker P Q [] [] f h = tt
sides_weaker P Q [] (y ∷ ys) f h = absurd h
sides_weaker P Q (x ∷ xs) [] f h = absurd h
sides_weaker P Q (x ∷ xs) (y ∷ ys) f h = (f x y h.0, sides_weaker P Q xs ys f h.1)

-- ---- values of accepted subtables fit two bytes

byte_at : (entry : List ℕ) (k : ℕ) → AreNumbers 1 entry → get_or entry k 0 < 256
byte_at [] k h = omega arith
byte_at (x ∷ entry) zero h = h.0
byte_at (x ∷ entry) (suc k) h = byte_at entry k h.1

left_fits : (entry : List ℕ) → AreNumbers 1 entry → left_of entry ≤ greatest_item
unfolding left_of
left_fits entry h = let low : get_or entry 0 0 < 256 = byte_at entry 0 h in omega (arith, low)

kind_fits : (leaf : Bool) (entry : List ℕ) (list_of : ℕ → List ℕ) → AreNumbers 1 entry → ((s : ℕ) → AreUpTo greatest_item (list_of s)) → AreUpTo greatest_item (values_of_kind leaf entry list_of)
kind_fits true entry list_of h each = (left_fits entry h, tt)
kind_fits false entry list_of h each = all_append (λ v. v ≤ greatest_item) (list_of (left_of entry)) _ (each (left_of entry)) (each _)

entry_fits : (entry : Option (List ℕ)) (list_of : ℕ → List ℕ) → IfSome entry (AreBytes 3) → ((s : ℕ) → AreUpTo greatest_item (list_of s)) → AreUpTo greatest_item (values_of_entry entry list_of)
entry_fits None list_of h each = tt
entry_fits (Some entry) list_of h each = kind_fits (is_leaf entry) entry list_of h.1 each

within_fits : (entries : List (List ℕ)) → AllByRecursion (AreBytes 3) entries → (levels s : ℕ) → AreUpTo greatest_item (values_within entries levels s)
unfolding values_within
within_fits entries h zero s = tt
within_fits entries h (suc levels) s = entry_fits (slice_get entries s) (values_within entries levels) (all_get (AreBytes 3) entries s h) (within_fits entries h levels)

expansion_fits : (entries : List (List ℕ)) → AllByRecursion (AreBytes 3) entries → (s : ℕ) → AreUpTo greatest_item (expansion_of entries s)
unfolding expansion_of
expansion_fits entries h s = within_fits entries h 256 s

block_fits : (layout : Layout) → AllByRecursion (AreBytes 3) layout.entries → (block : List ℕ) → AreUpTo greatest_item (block_values layout block)
unfolding block_values
block_fits layout h block = all_flat_map (λ v. v ≤ greatest_item) (expansion_of layout.entries) (symbols_spelled layout.code (bits block)) (expansion_fits layout.entries h)

needed_fit : (layout : Layout) (packed : List ℕ) (size : ℕ) → AllByRecursion (AreBytes 3) layout.entries → (j : ℕ) → AreUpTo greatest_item (needed_values layout packed size j)
unfolding needed_values
needed_fit layout packed size h j =
    all_take (λ v. v ≤ greatest_item) (needed layout.lengths size j) (block_values layout (block_at layout.block_bits packed j)) (block_fits layout h (block_at layout.block_bits packed j))

joined_fit : (layout : Layout) (packed : List ℕ) (size : ℕ) → AllByRecursion (AreBytes 3) layout.entries → AreUpTo greatest_item (joined_values layout packed size)
unfolding joined_values
joined_fit layout packed size h = all_flat_map (λ v. v ≤ greatest_item) (needed_values layout packed size) (range_with_len 0 layout.blocks) (needed_fit layout packed size h)

byte_fits : (kind : Kind) (size flags byte : ℕ) → byte < 256 → AreUpTo greatest_item (values_in kind size (constant flags byte))
byte_fits Wdl size flags byte small = all_replicate (λ v. v ≤ greatest_item) size byte (omega (arith, small))
byte_fits Dtz size flags byte small = all_replicate (λ v. v ≤ greatest_item) size 0 (omega arith)

values_fit : (kind : Kind) (slot : Slot) (subtable : Subtable) → IsSubtable slot subtable → AreUpTo greatest_item (values_in kind slot.size subtable)
values_fit kind slot (constant flags byte) h = byte_fits kind slot.size flags byte h.2
values_fit kind slot (pairs head sparse lengths packed) h = joined_fit (layout_of head sparse lengths) packed slot.size h.head_is_valid.entries

-- ---- an accepted subtable has a value at each index

pub values_count : (kind : Kind) (slot : Slot) (subtable : Subtable) → IsSubtable slot subtable → length (values_in kind slot.size subtable) ≡ slot.size
values_count kind slot (constant flags byte) h = length-replicate slot.size _
values_count kind slot (pairs head sparse lengths packed) h =
    length-joined_values (layout_of head sparse lengths) packed slot.size (accepted_code head.code h.head_is_valid.code)
    (accepted_shape slot.size head sparse lengths packed h) (accepted_subtable slot.size head sparse lengths packed h)

-- ---- sizes fit a dump's numbers

abbrev IsSmall : Slot → Type 0
IsSmall slot = slot.size ≤ greatest_count

order_small : (material : Sides) (number : ℕ) (n : Nibbles) → IsMaterial material → IsPartNumber material number → order_fault material n ≡ None → size_of material number n ≤ greatest_count
unfolding size_of
order_small material number n named there valid = let below = size_below material number n named there valid in omega (arith, below)

part_small : (material : Sides) (number : ℕ) (part : Part) (sides : List ℕ) → IsMaterial material → IsPartNumber material number → AllByRecursion (λ side. order_fault material (order_of side part) ≡ None) sides →
    AllByRecursion IsSmall (part_slots material sides number part)
part_small material number part [] named there h = tt
part_small material number part (side ∷ sides) named there h = (order_small material number (order_of side part) named there h.0, part_small material number part sides named there h.1)

parts_small : (material : Sides) (kind : Kind) (number : ℕ) (parts : List Part) → IsMaterial material → ((n : ℕ) → n < number + length parts → IsPartNumber material n) → AllByRecursion (IsPart material kind) parts →
    AllByRecursion IsSmall (slots_from material (side_numbers material kind) number parts)
parts_small material kind number [] named there h = tt
parts_small material kind number (part ∷ parts) named there h =
    all_append IsSmall (part_slots material (side_numbers material kind) number part) (slots_from material (side_numbers material kind) (number + 1) parts)
    (part_small material number part (side_numbers material kind) named (there number (omega arith)) h.0.sides)
    (parts_small material kind (number + 1) parts named (λ n lt. there n (omega (arith, lt))) h.1)

numbers_valid : (pawns : Bool) (n : ℕ) → n < length {A = ℕ} (if pawns then 0 ∷ 1 ∷ 2 ∷ 3 ∷ [] else 0 ∷ []) → n < (if pawns then 4 else 1)
numbers_valid true n h = h
numbers_valid false n h = h

slots_small : (material : Sides) (kind : Kind) (parts : List Part) → IsMaterial material → SideBySide (λ _. IsPart material kind) (part_numbers material) parts → AllByRecursion IsSmall (slots material kind parts)
slots_small material kind parts named h =
    let count : length (part_numbers material) ≡ length parts = side_lengths (λ _. IsPart material kind) (part_numbers material) parts h in
    parts_small material kind 0 parts named (λ n lt. numbers_valid (has_pawns material) n (let below : n < length (part_numbers material) = omega (arith, lt, count) in below))
    (all_of_sides (IsPart material kind) (part_numbers material) parts h)

-- ---- the size of each subtable, by its number

abbrev AreSizesFrom : List ℕ → ℕ → List Slot → Type 0
AreSizesFrom sizes s [] = Unit {0}
AreSizesFrom sizes s (slot ∷ slots) = (slice_index sizes s ≡ slot.size) × AreSizesFrom sizes (suc s) slots

sizes_later : (size : ℕ) (sizes : List ℕ) (s : ℕ) (slots : List Slot) → AreSizesFrom sizes s slots → AreSizesFrom (size ∷ sizes) (suc s) slots
sizes_later size sizes s [] h = tt
sizes_later size sizes s (slot ∷ slots) h = (h.0, sizes_later size sizes (suc s) slots h.1)

sizes_at : (slots : List Slot) → AreSizesFrom (map (λ slot. slot.size) slots) 0 slots
sizes_at [] = tt
sizes_at (slot ∷ slots) = (refl, sizes_later slot.size (map (λ slot. slot.size) slots) 0 slots (sizes_at slots))

sized_as : (form : Form) (sizes : List ℕ) (s size count : ℕ) → slice_index sizes s ≡ size → count ≡ size → IsSized form (Some sizes) s count
sized_as single sizes s size count e same = tt
sized_as runs sizes s size count e same = e ∙ sym same

-- ---- flags and maps

flag_kept : (byte : ℕ) → has_bit 1 (byte % 32) ≡ has_bit 1 byte
flag_kept byte = ap (λ (n : ℕ). n == 1) (let same : ((byte % 32) / 2) % 2 ≡ (byte / 2) % 2 = omega arith in same)

wide_kept : (byte : ℕ) → has_bit 4 (byte % 32) ≡ has_bit 4 byte
wide_kept byte = ap (λ (n : ℕ). n == 1) (let same : ((byte % 32) / 16) % 2 ≡ (byte / 16) % 2 = omega arith in same)

abbrev IsMapList : ℕ → List ℕ → Type 0
IsMapList greatest list = (length list ≤ greatest_count) × AreUpTo greatest list

four_lists : (greatest : ℕ) (lists : List (List ℕ)) → length lists ≡ 4 → AllByRecursion (IsMapList greatest) lists → AreMapLists greatest lists
four_lists greatest [] e h = absurd (omega (arith, e))
four_lists greatest (a ∷ []) e h = absurd (omega (arith, e))
four_lists greatest (a ∷ b ∷ []) e h = absurd (omega (arith, e))
four_lists greatest (a ∷ b ∷ c ∷ []) e h = absurd (omega (arith, e))
four_lists greatest (a ∷ b ∷ c ∷ d ∷ []) e h = h
four_lists greatest (a ∷ b ∷ c ∷ d ∷ f ∷ lists) e h = absurd (omega (arith, e))

narrow_lists : (lists : List (List ℕ)) → AreLists 1 lists → AreMapLists 255 lists
narrow_lists lists h =
    four_lists 255 lists h.0
    (all_weaker (λ (list : List ℕ). (length list < 256 ^ 1) × AreNumbers 1 list) (IsMapList 255) lists
    (λ list k. (let short : length list < 256 = k.0 in omega (arith, short), all_weaker (λ (v : ℕ). v < 256) (λ (v : ℕ). v ≤ 255) list (λ v lt. omega (arith, lt)) k.1)) h.1)

wide_lists : (lists : List (List ℕ)) → AreLists 2 lists → AreMapLists greatest_item lists
wide_lists lists h =
    four_lists greatest_item lists h.0
    (all_weaker (λ (list : List ℕ). (length list < 256 ^ 2) × AreNumbers 2 list) (IsMapList greatest_item) lists
    (λ list k. (let short : length list < 65536 = k.0 in omega (arith, short), all_weaker (λ (v : ℕ). v < 65536) (λ (v : ℕ). v ≤ greatest_item) list (λ v lt. omega (arith, lt)) k.1)) h.1)

map_writable : (subtable : Subtable) (item : Option Map) → IsMapOf subtable item → IsMapReadBack (flags_of subtable % 32) item
map_writable subtable None h = flag_kept (flags_of subtable) ∙ h
map_writable subtable (Some (narrow lists)) h = (flag_kept (flags_of subtable) ∙ h.0, wide_kept (flags_of subtable) ∙ h.1, narrow_lists lists h.2)
map_writable subtable (Some (wide lists)) h = (flag_kept (flags_of subtable) ∙ h.0, wide_kept (flags_of subtable) ∙ h.1, wide_lists lists h.2)

-- ---- the subtables

sub_writable : (form : Form) (kind : Kind) (sizes : List ℕ) (s flags : ℕ) (item : Option Map) (slot : Slot) (subtable : Subtable) → IsSubtable slot subtable → IsSmall slot → slice_index sizes s ≡ slot.size →
    AreFlagsReadBack kind (record { flags = flags; lists = item; values = values_in kind slot.size subtable }) →
    IsSubtableReadBack form kind (Some sizes) s (record { flags = flags; lists = item; values = values_in kind slot.size subtable })
sub_writable form kind sizes s flags item slot subtable valid small e stated =
    let count : length (values_in kind slot.size subtable) ≡ slot.size = values_count kind slot subtable valid in
    record {
      flags = stated;
      count = omega (arith, count, small);
      values = values_fit kind slot subtable valid;
      sized = sized_as form sizes s slot.size (length (values_in kind slot.size subtable)) e count;
    }

wdl_subs : (form : Form) (sizes : List ℕ) (s : ℕ) (ids : List (ℕ × ℕ)) (slots : List Slot) (subtables : List Subtable) → length ids ≡ length slots → SideBySide IsSubtable slots subtables →
    AllByRecursion IsSmall slots → AreSizesFrom sizes s slots →
    AreSubtablesReadBack form Wdl (Some sizes) s ids (subs_of Wdl [] [] (map (values_of Wdl) (slotted slots subtables)))
wdl_subs form sizes s [] [] [] e valid small at = tt
wdl_subs form sizes s [] [] (y ∷ subtables) e valid small at = absurd valid
wdl_subs form sizes s [] (slot ∷ slots) subtables e valid small at = absurd (omega (arith, e))
wdl_subs form sizes s (id ∷ ids) [] subtables e valid small at = absurd (omega (arith, e))
wdl_subs form sizes s (id ∷ ids) (slot ∷ slots) [] e valid small at = absurd valid
wdl_subs form sizes s (id ∷ ids) (slot ∷ slots) (y ∷ subtables) e valid small at = (
  sub_writable form Wdl sizes s 0 None slot y valid.0 small.0 at.0 (refl, refl),
  wdl_subs form sizes (suc s) ids slots subtables (omega (arith, e)) valid.1 small.1 at.1,
)

dtz_subs : (form : Form) (sizes : List ℕ) (s : ℕ) (ids : List (ℕ × ℕ)) (slots : List Slot) (subtables : List Subtable) (items : List (Option Map)) → length ids ≡ length slots → SideBySide IsSubtable slots subtables →
    SideBySide IsMapOf subtables items → AllByRecursion IsSmall slots → AreSizesFrom sizes s slots →
    AreSubtablesReadBack form Dtz (Some sizes) s ids (mapped_subs (map (λ subtable. flags_of subtable % 32) subtables) items (map (values_of Dtz) (slotted slots subtables)))
dtz_subs form sizes s [] [] [] [] e valid mapped small at = tt
dtz_subs form sizes s [] [] [] (item ∷ items) e valid mapped small at = absurd mapped
dtz_subs form sizes s [] [] (y ∷ subtables) items e valid mapped small at = absurd valid
dtz_subs form sizes s [] (slot ∷ slots) subtables items e valid mapped small at = absurd (omega (arith, e))
dtz_subs form sizes s (id ∷ ids) [] subtables items e valid mapped small at = absurd (omega (arith, e))
dtz_subs form sizes s (id ∷ ids) (slot ∷ slots) [] items e valid mapped small at = absurd valid
dtz_subs form sizes s (id ∷ ids) (slot ∷ slots) (y ∷ subtables) [] e valid mapped small at = absurd mapped
dtz_subs form sizes s (id ∷ ids) (slot ∷ slots) (y ∷ subtables) (item ∷ items) e valid mapped small at = (
  sub_writable form Dtz sizes s (flags_of y % 32) item slot y valid.0 small.0 at.0 (omega arith, map_writable y item mapped.0),
  dtz_subs form sizes (suc s) ids slots subtables items (omega (arith, e)) valid.1 mapped.1 small.1 at.1,
)

-- the subtables of a table, by its kind
own_subs : (form : Form) (kind : Kind) (sizes : List ℕ) (ids : List (ℕ × ℕ)) (slots : List Slot) (subtables : List Subtable) (items : List (Option Map)) → length ids ≡ length slots → SideBySide IsSubtable slots subtables →
    AreMaps kind subtables items → AllByRecursion IsSmall slots → AreSizesFrom sizes 0 slots →
    AreSubtablesReadBack form kind (Some sizes) 0 ids (subs_of kind (flags_shown kind subtables) items (map (values_of kind) (slotted slots subtables)))
own_subs form Wdl sizes ids slots subtables items e valid mapped small at = wdl_subs form sizes 0 ids slots subtables e valid small at
own_subs form Dtz sizes ids slots subtables items e valid mapped small at = dtz_subs form sizes 0 ids slots subtables items e valid mapped small at

-- ---- the dump consists of its subtables

values_again : (lists : List (List ℕ)) → map (λ (sub : SubDump). sub.values) (subs_of Wdl [] [] lists) ≡ lists
values_again [] = refl
values_again (list ∷ lists) = ap (λ (z : List (List ℕ)). list ∷ z) (values_again lists)

abbrev AreCounted : Kind → List ℕ → List (Option Map) → List (List ℕ) → Type 0
AreCounted kind flags items lists =
    (flags_in kind (subs_of kind flags items lists) ≡ flags) × (maps_in kind (subs_of kind flags items lists) ≡ items) × (map (λ (sub : SubDump). sub.values) (subs_of kind flags items lists) ≡ lists)

dtz_counted : (slots : List Slot) (subtables : List Subtable) (items : List (Option Map)) → SideBySide IsSubtable slots subtables → SideBySide IsMapOf subtables items →
    AreCounted Dtz (map (λ subtable. flags_of subtable % 32) subtables) items (map (values_of Dtz) (slotted slots subtables))
dtz_counted [] [] [] valid mapped = (refl, refl, refl)
dtz_counted [] [] (item ∷ items) valid mapped = absurd mapped
dtz_counted [] (y ∷ subtables) items valid mapped = absurd valid
dtz_counted (slot ∷ slots) [] items valid mapped = absurd valid
dtz_counted (slot ∷ slots) (y ∷ subtables) [] valid mapped = absurd mapped
dtz_counted (slot ∷ slots) (y ∷ subtables) (item ∷ items) valid mapped =
    let more = dtz_counted slots subtables items valid.1 mapped.1 in (
      ap (λ (z : List ℕ). (flags_of y % 32) ∷ z) more.0,
      ap (λ (z : List (Option Map)). item ∷ z) more.1,
      ap (λ (z : List (List ℕ)). values_in Dtz slot.size y ∷ z) more.2,
    )

own_counted : (kind : Kind) (slots : List Slot) (subtables : List Subtable) (items : List (Option Map)) → SideBySide IsSubtable slots subtables → AreMaps kind subtables items →
    AreCounted kind (flags_shown kind subtables) items (map (values_of kind) (slotted slots subtables))
own_counted Wdl slots subtables items valid mapped = (refl, sym mapped, values_again (map (values_of Wdl) (slotted slots subtables)))
own_counted Dtz slots subtables items valid mapped = dtz_counted slots subtables items valid mapped

-- ---- parts

bytes_few : (pawns : Bool) → (if pawns then 2 else 1) ≤ 2
bytes_few true = omega arith
bytes_few false = omega arith

men_few : (material : Sides) → IsMaterial material → length (man_codes material) ≤ 6
men_few material h =
    let few : length material.first + length material.second ≤ 6 = leb-true _ 6 (and_parts _ _ ((and_parts _ _ h).1)).1 in
    let joined : length (man_codes material) ≡ length (map code_of material.first) + length (map (λ man. 8 + code_of man) material.second) = length-append (map code_of material.first) (map (λ man. 8 + code_of man) material.second) in
    let first : length (map code_of material.first) ≡ length material.first = length-map material.first code_of in
    let second : length (map (λ man. 8 + code_of man) material.second) ≡ length material.second = length-map material.second (λ man. 8 + code_of man) in
    omega (arith, few, joined, first, second)

part_writable : (material : Sides) (kind : Kind) (number : ℕ) (part : Part) → IsMaterial material → IsPart material kind part → IsPartReadBack number part
part_writable material kind number part named h =
    let orders : length part.order ≡ order_bytes material = h.order.0 in
    let men : length part.men ≡ length (man_codes material) = h.men.0 in
    let few_orders : order_bytes material ≤ 2 = bytes_few (has_other_pawns material) in
    let few_men : length (man_codes material) ≤ 6 = men_few material named in
    record { order = h.order.1; men = h.men.1; short = omega (arith, orders, men, few_orders, few_men) }

-- ---- the dump of a table

abbrev pub own_dump : Contents → Dump
own_dump t = record {
  material = t.material;
  kind = t.kind;
  parts = t.parts;
  flags = plan_flags t;
  maps = t.maps;
  last = t.last;
  lists = value_lists t;
}

slotted_count : (slots : List Slot) (subtables : List Subtable) → length slots ≡ length subtables → length (slotted slots subtables) ≡ length slots
slotted_count [] subtables e = refl
slotted_count (slot ∷ slots) [] e = absurd (omega (arith, e))
slotted_count (slot ∷ slots) (y ∷ subtables) e = ap suc (slotted_count slots subtables (omega (arith, e)))

own_writable : (form : Form) (t : Contents) (fill : List ℕ) → IsMaterial t.material → IsAccepted t fill → IsReadBack form sizes_if_valid (own_dump t)
own_writable form t fill named h =
    let these : List Slot = slots t.material t.kind t.parts in
    let sizes : List ℕ = map (λ slot. slot.size) these in
    let known : sizes_if_valid t.material t.kind t.parts ≡ Some sizes = sizes_of_parts t.material t.kind t.parts h.parts in
    let as_many : length these ≡ length t.subtables = side_lengths IsSubtable these t.subtables h.subtables in
    let count : length (subtable_ids_of t.material t.kind) ≡ length these = sym (place_count t (subtable_ids_of t.material t.kind) (places_are_valid t fill h)) ∙ slotted_count these t.subtables as_many in
    let parts = own_counted t.kind these t.subtables t.maps h.subtables h.maps in
    record {
      material = named;
      last_bytes = h.last.1;
      last_count = h.last.0;
      parts = sides_weaker (λ _. IsPart t.material t.kind) IsPartReadBack (part_numbers t.material) t.parts (λ number part k. part_writable t.material t.kind number part named k) h.parts;
      subs = subst (λ (o : Option (List ℕ)). AreSubtablesReadBack form t.kind o 0 (subtable_ids_of t.material t.kind) (subs_of t.kind (plan_flags t) t.maps (value_lists t))) (sym known)
          (own_subs form t.kind sizes (subtable_ids_of t.material t.kind) these t.subtables t.maps count h.subtables h.maps (slots_small t.material t.kind t.parts named h.parts) (sizes_at these));
      counts = ap (λ (z : List ℕ). record { material = t.material; kind = t.kind; parts = t.parts; flags = z; maps = maps_in t.kind (subs_of t.kind (plan_flags t) t.maps (value_lists t)); last = t.last; lists = map (λ (sub : SubDump). sub.values) (subs_of t.kind (plan_flags t) t.maps (value_lists t)) }) parts.0
          ∙ ap (λ (z : List (Option Map)). record { material = t.material; kind = t.kind; parts = t.parts; flags = plan_flags t; maps = z; last = t.last; lists = map (λ (sub : SubDump). sub.values) (subs_of t.kind (plan_flags t) t.maps (value_lists t)) }) parts.1
          ∙ ap (λ (z : List (List ℕ)). record { material = t.material; kind = t.kind; parts = t.parts; flags = plan_flags t; maps = t.maps; last = t.last; lists = z }) parts.2;
    }

-- a dump is determined by its content
same_dump : (dump : Dump) (t : Contents) → IsDumpOf dump t → own_dump t ≡ dump
same_dump dump t h =
    ap (λ (z : Sides). record { material = z; kind = t.kind; parts = t.parts; flags = plan_flags t; maps = t.maps; last = t.last; lists = value_lists t }) h.material
    ∙ ap (λ (z : Kind). record { material = dump.material; kind = z; parts = t.parts; flags = plan_flags t; maps = t.maps; last = t.last; lists = value_lists t }) h.kind
    ∙ ap (λ (z : List Part). record { material = dump.material; kind = dump.kind; parts = z; flags = plan_flags t; maps = t.maps; last = t.last; lists = value_lists t }) h.parts
    ∙ ap (λ (z : List ℕ). record { material = dump.material; kind = dump.kind; parts = dump.parts; flags = z; maps = t.maps; last = t.last; lists = value_lists t }) h.flags
    ∙ ap (λ (z : List (Option Map)). record { material = dump.material; kind = dump.kind; parts = dump.parts; flags = dump.flags; maps = z; last = t.last; lists = value_lists t }) h.maps
    ∙ ap (λ (z : List ℕ). record { material = dump.material; kind = dump.kind; parts = dump.parts; flags = dump.flags; maps = dump.maps; last = z; lists = value_lists t }) h.last
    ∙ ap (λ (z : List (List ℕ)). record { material = dump.material; kind = dump.kind; parts = dump.parts; flags = dump.flags; maps = dump.maps; last = dump.last; lists = z }) h.values

-- The dump of an accepted table can be written and read back, in both forms.
pub dump_is_writable : DumpIsWritable
dump_is_writable form dump t fill named accepted h = subst (λ (d : Dump). IsReadBack form sizes_if_valid d) (same_dump dump t h) (own_writable form t fill named accepted)

-- The text of a table's dump is read back as that dump, whatever follows it.
pub own_dump_is_read : OwnDumpIsRead
unfolding dump_format
own_dump_is_read form dump t fill rest named accepted h = text_is_read sizes_if_valid form dump rest (dump_is_writable form dump t fill named accepted h)

-- ---- a table that is built from the dump of another

found_cases : (here : Bool) (f : Slot × Subtable → List ℕ) (p q : Slot × Subtable) (o o' : Option (Slot × Subtable)) → f p ≡ f q → option_map f o ≡ option_map f o' →
    option_map f (if here then Some p else o) ≡ option_map f (if here then Some q else o')
found_cases true f p q o o' e e' = ap Some e
found_cases false f p q o o' e e' = e'

same_found : (kind : Kind) (part side : ℕ) (slots : List Slot) (xs ys : List Subtable) → map (values_of kind) (slotted slots xs) ≡ map (values_of kind) (slotted slots ys) →
    option_map (values_of kind) (found part side (slotted slots xs)) ≡ option_map (values_of kind) (found part side (slotted slots ys))
same_found kind part side [] xs ys e = refl
same_found kind part side (slot ∷ slots) [] [] e = refl
same_found kind part side (slot ∷ slots) [] (y ∷ ys) e = absurd (omega (arith, ap length e))
same_found kind part side (slot ∷ slots) (x ∷ xs) [] e = absurd (omega (arith, ap length e))
same_found kind part side (slot ∷ slots) (x ∷ xs) (y ∷ ys) e =
    let here : values_in kind slot.size x ≡ values_in kind slot.size y = cc e in
    let more : map (values_of kind) (slotted slots xs) ≡ map (values_of kind) (slotted slots ys) = cc e in
    found_cases (nat_eq slot.part part && nat_eq slot.side side) (values_of kind) (slot, x) (slot, y) (found part side (slotted slots xs)) (found part side (slotted slots ys)) here
    (same_found kind part side slots xs ys more)

abbrev lists_with : Sides → Kind → List Part → List Subtable → List (List ℕ)
lists_with material kind parts subtables = map (values_of kind) (slotted (slots material kind parts) subtables)

abbrev values_with : ℕ → ℕ → Sides → Kind → List Part → List Subtable → Option (List ℕ)
values_with part side material kind parts subtables = option_map (values_of kind) (found part side (slotted (slots material kind parts) subtables))

-- two tables of equal slots and lists have equal values for each part and side
same_values_with : (part side : ℕ) (m m' : Sides) (k k' : Kind) (p p' : List Part) (xs ys : List Subtable) → m ≡ m' → k ≡ k' → p ≡ p' →
    lists_with m k p xs ≡ lists_with m' k' p' ys → values_with part side m k p xs ≡ values_with part side m' k' p' ys
same_values_with part side m m' k k' p p' xs ys em ek ep =
    subst (λ (z : Sides). lists_with z k p xs ≡ lists_with m' k' p' ys → values_with part side z k p xs ≡ values_with part side m' k' p' ys) (sym em)
    (subst (λ (z : Kind). lists_with m' z p xs ≡ lists_with m' k' p' ys → values_with part side m' z p xs ≡ values_with part side m' k' p' ys) (sym ek)
    (subst (λ (z : List Part). lists_with m' k' z xs ≡ lists_with m' k' p' ys → values_with part side m' k' z xs ≡ values_with part side m' k' p' ys) (sym ep)
    (same_found k' part side (slots m' k' p') xs ys)))

-- A table built from a table's dump has that table's values.
pub rebuilt_has_same_values : RebuiltHasSameValues
rebuilt_has_same_values dump block_bits span_bits rounds t rebuilt h built =
    let material : rebuilt.material ≡ t.material = built.material ∙ sym h.material in
    let kind : rebuilt.kind ≡ t.kind = built.kind ∙ sym h.kind in
    let parts : rebuilt.parts ≡ t.parts = built.parts ∙ sym h.parts in
    let lists : value_lists rebuilt ≡ value_lists t = built.values ∙ sym h.values in
    record {
      material = material;
      kind = kind;
      parts = parts;
      flags = built.flags ∙ sym h.flags;
      maps = built.maps ∙ sym h.maps;
      last = built.last ∙ sym h.last;
      lists = lists;
      each = λ part side. same_values_with part side rebuilt.material t.material rebuilt.kind t.kind rebuilt.parts t.parts rebuilt.subtables t.subtables material kind parts lists;
    }
