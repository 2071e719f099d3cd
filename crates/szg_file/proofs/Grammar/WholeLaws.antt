-- Maps, sparse indexes, block lengths, blocks and the whole file: a text that the format accepts is the file of an
-- accepted table.
use Rattle.std.proofs.Common.{◌≡◌, ℕ, zero, suc, ◌+◌, ◌*◌, ◌^◌, ◌<◌, true, false, List, [], ◌∷◌, ◌++◌, length, map, take, drop, refl, sym, ap, subst, ◌∙◌, append_assoc, append-nil, arith, Option, Some, None}
use Rattle.std.specs.Prelude.{flat_map, IsTrue}
use Rattle.std.specs.List.{AllByRecursion}
use Rattle.std.proofs.lemmas.List.{length-append, length-take, length-drop, take-append-drop}
use Rattle.szg_values.specs.declared.Kind.{Kind}
use Rattle.szg_values.specs.declared.Kind.TheVariants.{Wdl, Dtz}
use Rattle.szg_file.specs.declared.fault.Reason.TheVariants as reason
use Rattle.szg_file.specs.Format.{means, field, ◌>>=◌, ◌>>◌}
use Rattle.szg_values.specs.Material.{Sides}
use Rattle.szg_block.specs.Layout.{Layout, SparseEntry}
use Rattle.szg_block.specs.Sound.{entry_count}
use Rattle.szg_block.specs.FirstFault.{has_total, first_bad_entry, spells_needed}
use Rattle.szg_file.specs.Contents.{Contents, Part, Subtable, constant, pairs, layout_of, Map, narrow, wide, number_of, bytes_of, items, has_bit, Slot, slots, part_numbers}
use Rattle.szg_file.specs.File.{file, magic_of, magic_field, byte4_field, part_field, head_field, begun, number_field, rows_field, filled_to, each, list_field, map_lists, map_field, maps_field, flags_of, demand, none_fails, Begun, entry_of_bytes, sparse_index_of, sparse_field, index_check, lengths_of, lengths_field, block_field, blocks_from, blocks_of, blocks_field}
use Rattle.szg_file.specs.FileOf.{file_of, fill_asked, sections, part_sections, Section, written, padding, list_sections, map_sections, maps_sections, head_sections, sparse_sections, lengths_sections, blocks_sections, joined, queried}
use Rattle.szg_file.specs.Accepted.{IsAccepted, IsPart, AreNumbers, AreBytes, AreLists, IsMapOf, AreMaps, SideBySide, IsSubtable, IsEntry, BlocksHold, HasIndex}
use Rattle.szg_file.proofs.Grammar.FileLaws.{Spells, Sound, Any, AreNumbers-split, AreNumbers-join, bytes_of-number_of, number_of-small, sound_number, sound_rows, sound_means, sound_placed, sound_as, sound_after, sound_value, sound_then, sound_each, sound_each_in, sound_bytes, sound_demand, sound_none_fails, sound_filled_to, sound_magic, sound_byte4, IsByte4, sound_parts, file_from_sections}
use Rattle.szg_file.proofs.Grammar.FormatLaws.{take_front, drop_front, good-split}
use Rattle.szg_file.specs.Laws.{GoodIsFile}
use Rattle.szg_file.proofs.Grammar.HeadLaws.{numbers_of_rows, IsBegun, sound_if, sound_head, Read, read_of, Linked, read_then, Step, Ends, read_means}

-- ---- maps

pub sound_list : (size : ℕ) → Sound (list_field size) (list_sections size) (λ list. (length list < 256 ^ size) × AreNumbers size list)
sound_list size =
    sound_then (number_field size) (λ count. rows_field size count >>= λ list. means (map number_of list))
    (λ count. written (bytes_of size count) ∷ []) (λ count list. written (flat_map (bytes_of size) list) ∷ []) (list_sections size)
    (λ count. count < 256 ^ size) (λ count list. (length list ≡ count) × AreNumbers size list) (λ list. (length list < 256 ^ size) × AreNumbers size list)
    (sound_number size)
    (λ count _. sound_value (rows_field size count) (λ list. map number_of list) (λ list. written (flat_map (λ row. row) list) ∷ []) (λ list. written (flat_map (bytes_of size) list) ∷ [])
    (λ list. (length list ≡ count) × AllByRecursion (AreBytes size) list) (λ list. (length list ≡ count) × AreNumbers size list)
    (sound_rows size count)
    (λ list p. let n = numbers_of_rows size list p.1 in (ap (λ (z : List ℕ). written z ∷ []) n.0, (n.2 ∙ p.0, n.1))))
    (λ count list small q. (ap (λ (n : ℕ). written (bytes_of size n) ∷ written (flat_map (bytes_of size) list) ∷ []) (sym q.0), (subst (λ (n : ℕ). n < 256 ^ size) (sym q.0) small, q.1)))

-- the number of items is the number of formats
beside_length : {A B : Type 0} (P : A → B → Type 0) (xs : List A) (ys : List B) → SideBySide P xs ys → length ys ≡ length xs
beside_length P [] [] h = refl
beside_length P [] (y ∷ ys) h = absurd h
beside_length P (x ∷ xs) [] h = absurd h
beside_length P (x ∷ xs) (y ∷ ys) h = ap (λ (n : ℕ). suc n) (beside_length P xs ys h.1)

beside_all : {A B : Type 0} (P : B → Type 0) (xs : List A) (ys : List B) → SideBySide (λ x y. P y) xs ys → AllByRecursion P ys
beside_all P [] [] h = tt
beside_all P [] (y ∷ ys) h = absurd h
beside_all P (x ∷ xs) [] h = absurd h
beside_all P (x ∷ xs) (y ∷ ys) h = (h.0, beside_all P xs ys h.1)

abbrev pub four : ℕ → List ℕ
four size = size ∷ size ∷ size ∷ size ∷ []

sound_four : (size : ℕ) → Sound (each list_field (four size)) (flat_map (list_sections size)) (AreLists size)
sound_four size = sound_as (each list_field (four size)) (flat_map (list_sections size)) (flat_map (list_sections size)) (SideBySide (λ k list. (length list < 256 ^ size) × AreNumbers size list) (four size)) (AreLists size)
    (sound_each_in list_field (list_sections size) (λ k. k ≡ size) (λ k list. (length list < 256 ^ size) × AreNumbers size list)
    (λ k same. subst (λ (n : ℕ). Sound (list_field n) (list_sections size) (λ list. (length list < 256 ^ size) × AreNumbers size list)) (sym same) (sound_list size)) (four size) (refl, (refl, (refl, (refl, tt)))))
    (λ lists h. (refl, (beside_length (λ k list. (length list < 256 ^ size) × AreNumbers size list) (four size) lists h, beside_all (λ list. (length list < 256 ^ size) × AreNumbers size list) (four size) lists h)))

-- lists of the width that flag 16 determines
abbrev pub HasWidth : ℕ → Map → Type 0
HasWidth flags (narrow lists) = (has_bit 4 flags ≡ false) × AreLists 1 lists
HasWidth flags (wide lists) = (has_bit 4 flags ≡ true) × AreLists 2 lists

abbrev some_sections : Map → List Section
some_sections lists = map_sections (Some lists)

pub sound_map_lists : (flags : ℕ) → Sound (map_lists flags) some_sections (HasWidth flags)
sound_map_lists flags =
    sound_if (has_bit 4 flags) (filled_to 2 >>= λ _. each list_field (four 2) >>= λ lists. means (wide lists)) (each list_field (four 1) >>= λ lists. means (narrow lists)) some_sections (HasWidth flags)
    (λ set. sound_then (filled_to 2) (λ _. each list_field (four 2) >>= λ lists. means (wide lists)) (λ _. padding 2 ∷ []) (λ _ m. drop 1 (some_sections m)) some_sections
    Any (λ _ m. (padding 2 ∷ drop 1 (some_sections m) ≡ some_sections m) × HasWidth flags m) (HasWidth flags)
    (sound_filled_to 2)
    (λ _ _. sound_value (each list_field (four 2)) (λ lists. wide lists) (flat_map (list_sections 2)) (λ m. drop 1 (some_sections m)) (AreLists 2)
    (λ m. (padding 2 ∷ drop 1 (some_sections m) ≡ some_sections m) × HasWidth flags m) (sound_four 2) (λ lists p. (refl, (refl, (set, p)))))
    (λ _ m _ q. (q.0, q.1)))
    (λ clear. sound_value (each list_field (four 1)) (λ lists. narrow lists) (flat_map (list_sections 1)) some_sections (AreLists 1) (HasWidth flags) (sound_four 1) (λ lists p. (refl, (clear, p))))

is_map_valid : (subtable : Subtable) (lists : Map) → has_bit 1 (flags_of subtable) ≡ true → HasWidth (flags_of subtable) lists → IsMapOf subtable (Some lists)
is_map_valid subtable (narrow lists) set h = (set, h.0, h.1)
is_map_valid subtable (wide lists) set h = (set, h.0, h.1)

pub sound_map : (subtable : Subtable) → Sound (map_field subtable) map_sections (IsMapOf subtable)
sound_map subtable =
    sound_if (has_bit 1 (flags_of subtable)) (map_lists (flags_of subtable) >>= λ lists. means (Some lists)) (means None) map_sections (IsMapOf subtable)
    (λ set. sound_value (map_lists (flags_of subtable)) (λ lists. Some lists) some_sections map_sections (HasWidth (flags_of subtable)) (IsMapOf subtable)
    (sound_map_lists (flags_of subtable)) (λ lists h. (refl, is_map_valid subtable lists set h)))
    (λ clear. sound_as (means None) (λ _. []) map_sections (λ m. m ≡ None) (IsMapOf subtable) (sound_means None (λ m. m ≡ None) refl)
    (λ m same. (ap map_sections (sym same), subst (IsMapOf subtable) (sym same) clear)))

pub sound_maps : (kind : Kind) (subtables : List Subtable) → Sound (maps_field kind subtables) (maps_sections kind) (AreMaps kind subtables)
sound_maps Wdl subtables = sound_means [] (λ found. found ≡ []) refl
sound_maps Dtz subtables =
    sound_then (each map_field subtables) (λ found. filled_to 2 >> means found) (flat_map map_sections) (λ _ _. padding 2 ∷ []) (maps_sections Dtz)
    (SideBySide IsMapOf subtables) (λ found list. list ≡ found) (AreMaps Dtz subtables)
    (sound_each map_field map_sections IsMapOf sound_map subtables)
    (λ found _. sound_then (filled_to 2) (λ _. means found) (λ _. padding 2 ∷ []) (λ _ _. []) (λ _. padding 2 ∷ []) Any (λ _ list. list ≡ found) (λ list. list ≡ found)
    (sound_filled_to 2) (λ _ _. sound_means found (λ list. list ≡ found) refl) (λ _ list _ same. (refl, same)))
    (λ found list p same. (ap (λ (l : List (Option Map)). flat_map map_sections l ++ (padding 2 ∷ [])) (sym same), subst (SideBySide IsMapOf subtables) (sym same) p))

-- ---- sparse indexes

entries_of_rows : (rows : List (List ℕ)) → AllByRecursion (AreBytes 6) rows →
    (flat_map (λ (row : List ℕ). row) rows ≡ flat_map (λ (entry : SparseEntry). bytes_of 4 entry.block ++ bytes_of 2 entry.offset) (map entry_of_bytes rows))
    × (length (map entry_of_bytes rows) ≡ length rows) × AllByRecursion IsEntry (map entry_of_bytes rows)
entries_of_rows [] h = (refl, refl, tt)
entries_of_rows (row ∷ rows) h =
    let r = entries_of_rows rows h.1 in
    let long : length row ≡ 6 = h.0.0 in
    let halves = AreNumbers-split 1 (take 4 row) (drop 4 row) (subst (λ (z : List ℕ). AreNumbers 1 z) (sym (take-append-drop 4 row)) h.0.1) in
    let four_long : length (take 4 row) ≡ 4 = omega (arith, long, length-take 4 row) in
    let two_long : length (drop 4 row) ≡ 2 = omega (arith, long, length-drop 4 row) in
    let block : bytes_of 4 (number_of (take 4 row)) ≡ take 4 row = ap (λ (k : ℕ). bytes_of k (number_of (take 4 row))) (sym four_long) ∙ bytes_of-number_of (take 4 row) halves.0 in
    let offset : bytes_of 2 (number_of (drop 4 row)) ≡ drop 4 row = ap (λ (k : ℕ). bytes_of k (number_of (drop 4 row))) (sym two_long) ∙ bytes_of-number_of (drop 4 row) halves.1 in
    let whole : row ≡ bytes_of 4 (number_of (take 4 row)) ++ bytes_of 2 (number_of (drop 4 row)) =
    sym (take-append-drop 4 row) ∙ ap (λ (z : List ℕ). z ++ drop 4 row) (sym block) ∙ ap (λ (z : List ℕ). bytes_of 4 (number_of (take 4 row)) ++ z) (sym offset) in (
      ap (λ (z : List ℕ). row ++ z) r.0 ∙ ap (λ (z : List ℕ). z ++ flat_map (λ (entry : SparseEntry). bytes_of 4 entry.block ++ bytes_of 2 entry.offset) (map entry_of_bytes rows)) whole,
      ap (λ (n : ℕ). suc n) r.1,
      ((subst (λ (k : ℕ). number_of (take 4 row) < 256 ^ k) four_long (number_of-small (take 4 row) halves.0), subst (λ (k : ℕ). number_of (drop 4 row) < 256 ^ k) two_long (number_of-small (drop 4 row) halves.1)), r.2),
    )

-- the next stage of a subtable, with its sparse index
abbrev pub IsIndexed : Slot → Subtable → Begun → Type 0
IsIndexed slot (constant flags byte) next = (next.slot ≡ slot) × (next.subtable ≡ constant flags byte)
IsIndexed slot (pairs head sparse lengths packed) next =
    (next.slot ≡ slot) × (entries : List SparseEntry) × (next.subtable ≡ pairs head entries lengths packed) × (length entries ≡ entry_count head.span_bits slot.size) × AllByRecursion IsEntry entries

pub sound_sparse : (slot : Slot) (subtable : Subtable) → Sound (sparse_index_of slot subtable) (λ next. sparse_sections next.subtable) (IsIndexed slot subtable)
sound_sparse slot (constant flags byte) = sound_as (sparse_index_of slot (constant flags byte)) (λ _. []) (λ next. sparse_sections next.subtable)
    (λ next. (next.slot ≡ slot) × (next.subtable ≡ constant flags byte)) (IsIndexed slot (constant flags byte))
    (sound_means (record { slot = slot; subtable = constant flags byte; index = 0 }) (λ next. (next.slot ≡ slot) × (next.subtable ≡ constant flags byte)) (refl, refl))
    (λ next h. (ap sparse_sections (sym h.1), h))
sound_sparse slot (pairs head sparse lengths packed) =
    sound_placed (λ place. rows_field 6 (entry_count head.span_bits slot.size) >>= λ entries. means (record { slot = slot; subtable = pairs head (map entry_of_bytes entries) lengths packed; index = place }))
    (λ next. sparse_sections next.subtable) (IsIndexed slot (pairs head sparse lengths packed))
    (λ place. sound_value (rows_field 6 (entry_count head.span_bits slot.size)) (λ entries. record { slot = slot; subtable = pairs head (map entry_of_bytes entries) lengths packed; index = place })
    (λ rows. written (flat_map (λ row. row) rows) ∷ []) (λ next. sparse_sections next.subtable)
    (λ rows. (length rows ≡ entry_count head.span_bits slot.size) × AllByRecursion (AreBytes 6) rows) (IsIndexed slot (pairs head sparse lengths packed))
    (sound_rows 6 (entry_count head.span_bits slot.size))
    (λ rows p. let n = entries_of_rows rows p.1 in (ap (λ (z : List ℕ). written z ∷ []) n.0, (refl, map entry_of_bytes rows, refl, n.1 ∙ p.0, n.2))))

-- ---- block lengths

sound_index_check : (place index : ℕ) (layout : Layout) (size : ℕ) → Sound (index_check place index layout size) (λ _. []) (λ _. HasIndex layout size)
sound_index_check place index layout size =
    sound_after (demand (has_total layout size) place reason.ShortTotal) (none_fails (first_bad_entry layout) (λ item. index + 6 * item) reason.SparseEntry) (λ _. [])
    (IsTrue (has_total layout size)) (λ _. first_bad_entry layout ≡ None)
    (sound_demand (has_total layout size) place reason.ShortTotal) (sound_none_fails (first_bad_entry layout) (λ item. index + 6 * item) reason.SparseEntry)

-- the next stage, with its block lengths
abbrev pub IsMeasured : Slot → Subtable → Begun → Type 0
IsMeasured slot (constant flags byte) next = (next.slot ≡ slot) × (next.subtable ≡ constant flags byte)
IsMeasured slot (pairs head sparse lengths packed) next =
    (next.slot ≡ slot) × (list : List ℕ) × (next.subtable ≡ pairs head sparse list packed) × (length list ≡ head.blocks + head.extra) × AreNumbers 2 list × (HasIndex (layout_of head sparse list) slot.size)

pub sound_lengths : (slot : Slot) (index : ℕ) (subtable : Subtable) → Sound (lengths_of slot index subtable) (λ next. lengths_sections next.subtable) (IsMeasured slot subtable)
sound_lengths slot index (constant flags byte) = sound_as (lengths_of slot index (constant flags byte)) (λ _. []) (λ next. lengths_sections next.subtable)
    (λ next. (next.slot ≡ slot) × (next.subtable ≡ constant flags byte)) (IsMeasured slot (constant flags byte))
    (sound_means (record { slot = slot; subtable = constant flags byte; index = index }) (λ next. (next.slot ≡ slot) × (next.subtable ≡ constant flags byte)) (refl, refl))
    (λ next h. (ap lengths_sections (sym h.1), h))
sound_lengths slot index (pairs head sparse lengths packed) =
    sound_placed (λ place. rows_field 2 (head.blocks + head.extra) >>= λ list. index_check place index (layout_of head sparse (map number_of list)) slot.size >> means (record { slot = slot; subtable = pairs head sparse (map number_of list) packed; index = index }))
    (λ next. lengths_sections next.subtable) (IsMeasured slot (pairs head sparse lengths packed))
    (λ place. sound_then (rows_field 2 (head.blocks + head.extra)) (λ list. index_check place index (layout_of head sparse (map number_of list)) slot.size >> means (record { slot = slot; subtable = pairs head sparse (map number_of list) packed; index = index }))
    (λ rows. written (flat_map (λ row. row) rows) ∷ []) (λ _ _. []) (λ next. lengths_sections next.subtable)
    (λ rows. (length rows ≡ head.blocks + head.extra) × AllByRecursion (AreBytes 2) rows)
    (λ rows next. (HasIndex (layout_of head sparse (map number_of rows)) slot.size) × (next.slot ≡ slot) × (next.subtable ≡ pairs head sparse (map number_of rows) packed))
    (IsMeasured slot (pairs head sparse lengths packed))
    (sound_rows 2 (head.blocks + head.extra))
    (λ rows _. sound_as (index_check place index (layout_of head sparse (map number_of rows)) slot.size >> means (record { slot = slot; subtable = pairs head sparse (map number_of rows) packed; index = index }))
    (λ _. []) (λ _. []) (λ next. (HasIndex (layout_of head sparse (map number_of rows)) slot.size) × ((next.slot ≡ slot) × (next.subtable ≡ pairs head sparse (map number_of rows) packed)))
    (λ next. (HasIndex (layout_of head sparse (map number_of rows)) slot.size) × (next.slot ≡ slot) × (next.subtable ≡ pairs head sparse (map number_of rows) packed))
    (sound_after (index_check place index (layout_of head sparse (map number_of rows)) slot.size) (means (record { slot = slot; subtable = pairs head sparse (map number_of rows) packed; index = index })) (λ _. [])
    (HasIndex (layout_of head sparse (map number_of rows)) slot.size) (λ next. (next.slot ≡ slot) × (next.subtable ≡ pairs head sparse (map number_of rows) packed))
    (sound_index_check place index (layout_of head sparse (map number_of rows)) slot.size)
    (sound_means (record { slot = slot; subtable = pairs head sparse (map number_of rows) packed; index = index }) (λ next. (next.slot ≡ slot) × (next.subtable ≡ pairs head sparse (map number_of rows) packed)) (refl, refl)))
    (λ next h. (refl, (h.0, h.1.0, h.1.1))))
    (λ rows next p q. let n = numbers_of_rows 2 rows p.1 in (
      ap (λ (z : List ℕ). written z ∷ []) n.0 ∙ ap lengths_sections (sym q.2),
      (q.1, map number_of rows, q.2, n.2 ∙ p.0, n.1, q.0),
    )))

-- ---- blocks

pub Spells-glue : (place : ℕ) (bytes x y filled : List ℕ) → Spells place bytes (written x ∷ written y ∷ []) filled → Spells place bytes (written (x ++ y) ∷ []) filled
Spells-glue place bytes x y filled h = record {
  spelled = λ text more later e. ap (λ (z : List ℕ). joined z more (filled ++ later)) (sym (append_assoc text x y)) ∙ h.spelled text more later e;
  counted = λ text more e.
      let c = h.counted text more e in
      let same : queried (text ++ (x ++ y)) more ≡ queried ((text ++ x) ++ y) more = ap (λ (z : List ℕ). queried z more) (sym (append_assoc text x y)) in
      (c.0, c.1, omega (arith, c.2, same));
}

pub Spells-empty : (place : ℕ) (bytes filled : List ℕ) → Spells place bytes [] filled → Spells place bytes (written [] ∷ []) filled
Spells-empty place bytes filled h = record {
  spelled = λ text more later e. ap (λ (z : List ℕ). joined z more (filled ++ later)) (append-nil text) ∙ h.spelled text more later e;
  counted = λ text more e.
      let c = h.counted text more e in
      let same : queried (text ++ []) more ≡ queried text more = ap (λ (z : List ℕ). queried z more) (append-nil text) in
      (c.0, c.1, omega (arith, c.2, same));
}

sound_block : (layout : Layout) (size : ℕ) (n : ℕ) → Sound (block_field layout size n) (λ bytes. written bytes ∷ []) (λ bytes. AreBytes (2 ^ layout.block_bits) bytes × IsTrue (spells_needed layout size n bytes))
sound_block layout size n =
    sound_placed (λ place. field (2 ^ layout.block_bits) means >>= λ bytes. demand (spells_needed layout size n bytes) place reason.Word >> means bytes) (λ bytes. written bytes ∷ [])
    (λ bytes. AreBytes (2 ^ layout.block_bits) bytes × IsTrue (spells_needed layout size n bytes))
    (λ place. sound_then (field (2 ^ layout.block_bits) means) (λ bytes. demand (spells_needed layout size n bytes) place reason.Word >> means bytes) (λ bytes. written bytes ∷ []) (λ _ _. []) (λ bytes. written bytes ∷ [])
    (AreBytes (2 ^ layout.block_bits)) (λ bytes b. IsTrue (spells_needed layout size n bytes) × (b ≡ bytes)) (λ bytes. AreBytes (2 ^ layout.block_bits) bytes × IsTrue (spells_needed layout size n bytes))
    (sound_bytes (2 ^ layout.block_bits))
    (λ bytes _. sound_after (demand (spells_needed layout size n bytes) place reason.Word) (means bytes) (λ _. []) (IsTrue (spells_needed layout size n bytes)) (λ b. b ≡ bytes)
    (sound_demand (spells_needed layout size n bytes) place reason.Word) (sound_means bytes (λ b. b ≡ bytes) refl))
    (λ bytes b p q. (ap (λ (z : List ℕ). written z ∷ []) (sym q.1), subst (λ (z : List ℕ). AreBytes (2 ^ layout.block_bits) z × IsTrue (spells_needed layout size n z)) (sym q.1) (p, q.0))))

-- `count` valid blocks from block `n` on
abbrev pub AreBlocks : Layout → ℕ → ℕ → ℕ → List ℕ → Type 0
AreBlocks layout size n count packed = AreBytes (count * 2 ^ layout.block_bits) packed × BlocksHold layout size n (items (2 ^ layout.block_bits) count packed)

blocks_join : (layout : Layout) (size : ℕ) (n count : ℕ) (x y : List ℕ) →
    AreBytes (2 ^ layout.block_bits) x × IsTrue (spells_needed layout size n x) → AreBlocks layout size (n + 1) count y → AreBlocks layout size n (suc count) (x ++ y)
blocks_join layout size n count x y p q =
    let k : ℕ = 2 ^ layout.block_bits in
    let long : length x ≡ k = p.0.0 in
    let front : take k (x ++ y) ≡ x = take_front k x y long in
    let back : drop k (x ++ y) ≡ y = drop_front k x y long in (
      (length-append x y ∙ ap (λ (m : ℕ). m + length y) long ∙ ap (λ (m : ℕ). k + m) q.0.0 ∙ omega arith, AreNumbers-join 1 x y p.0.1 q.0.1),
      (
        subst (λ (z : List ℕ). IsTrue (spells_needed layout size n z)) (sym front) p.1,
        subst (λ (z : List ℕ). BlocksHold layout size (n + 1) (items k count z)) (sym back) q.1,
      ),
    )

sound_blocks_from : (layout : Layout) (size : ℕ) (n count : ℕ) → Sound (blocks_from layout size n count) (λ packed. written packed ∷ []) (AreBlocks layout size n count)
sound_blocks_from layout size n zero = record {
  sound = λ place bytes a filled small e.
      let none : AreBytes (0 * 2 ^ layout.block_bits) [] = (omega arith, tt) in
      let h = (sound_means [] (λ (p : List ℕ). (p ≡ []) × AreBlocks layout size n 0 p) (refl, (none, tt))).sound place bytes a filled small e in
      (subst (λ (z : List ℕ). Spells place bytes (written z ∷ []) filled) (sym h.2.0) (Spells-empty place bytes filled h.0), h.1, h.2.1);
}
sound_blocks_from layout size n (suc count) = record {
  sound = λ place bytes a filled small e.
      let h = (sound_then (block_field layout size n) (λ x. blocks_from layout size (n + 1) count >>= λ more. means (x ++ more))
      (λ x. written x ∷ []) (λ x p. written (drop (length x) p) ∷ []) (λ p. written (take (2 ^ layout.block_bits) p) ∷ written (drop (2 ^ layout.block_bits) p) ∷ [])
      (λ x. AreBytes (2 ^ layout.block_bits) x × IsTrue (spells_needed layout size n x))
      (λ x p. (more : List ℕ) × (p ≡ x ++ more) × AreBlocks layout size (n + 1) count more)
      (AreBlocks layout size n (suc count))
      (sound_block layout size n)
      (λ x _. sound_value (blocks_from layout size (n + 1) count) (λ more. x ++ more) (λ more. written more ∷ []) (λ p. written (drop (length x) p) ∷ [])
      (AreBlocks layout size (n + 1) count) (λ p. (more : List ℕ) × (p ≡ x ++ more) × AreBlocks layout size (n + 1) count more)
      (sound_blocks_from layout size (n + 1) count)
      (λ more q. (ap (λ (z : List ℕ). written z ∷ []) (sym (drop_front (length x) x more refl)), (more, refl, q))))
      (λ x p px q.
      let long : length x ≡ 2 ^ layout.block_bits = px.0.0 in
      let front : take (2 ^ layout.block_bits) p ≡ x = ap (λ (z : List ℕ). take (2 ^ layout.block_bits) z) q.1 ∙ take_front (2 ^ layout.block_bits) x q.0 long in (
        ap (λ (z : List ℕ). written z ∷ written (drop (length x) p) ∷ []) (sym front) ∙ ap (λ (m : ℕ). written (take (2 ^ layout.block_bits) p) ∷ written (drop m p) ∷ []) long,
        subst (AreBlocks layout size n (suc count)) (sym q.1) (blocks_join layout size n count x q.0 px q.2),
      ))).sound place bytes a filled small e in
      let whole : take (2 ^ layout.block_bits) a ++ drop (2 ^ layout.block_bits) a ≡ a = take-append-drop (2 ^ layout.block_bits) a in (
        subst (λ (z : List ℕ). Spells place bytes (written z ∷ []) filled) whole (Spells-glue place bytes (take (2 ^ layout.block_bits) a) (drop (2 ^ layout.block_bits) a) filled h.0),
        h.1,
        h.2,
      );
}

-- the last stage, with its blocks
abbrev pub IsFilled : Slot → Subtable → Subtable → Type 0
IsFilled slot (constant flags byte) s = s ≡ constant flags byte
IsFilled slot (pairs head sparse lengths packed) s = (bytes : List ℕ) × (s ≡ pairs head sparse lengths bytes) × AreBlocks (layout_of head sparse lengths) slot.size 0 head.blocks bytes

pub sound_blocks : (slot : Slot) (subtable : Subtable) → Sound (blocks_of slot subtable) blocks_sections (IsFilled slot subtable)
sound_blocks slot (constant flags byte) = sound_as (blocks_of slot (constant flags byte)) (λ _. []) blocks_sections (λ s. s ≡ constant flags byte) (IsFilled slot (constant flags byte))
    (sound_means (constant flags byte) (λ s. s ≡ constant flags byte) refl) (λ s h. (ap blocks_sections (sym h), h))
sound_blocks slot (pairs head sparse lengths packed) =
    sound_then (filled_to 64) (λ _. blocks_from (layout_of head sparse lengths) slot.size 0 head.blocks >>= λ bytes. means (pairs head sparse lengths bytes)) (λ _. padding 64 ∷ []) (λ _ s. drop 1 (blocks_sections s)) blocks_sections
    Any (λ _ s. (padding 64 ∷ drop 1 (blocks_sections s) ≡ blocks_sections s) × IsFilled slot (pairs head sparse lengths packed) s) (IsFilled slot (pairs head sparse lengths packed))
    (sound_filled_to 64)
    (λ _ _. sound_value (blocks_from (layout_of head sparse lengths) slot.size 0 head.blocks) (λ bytes. pairs head sparse lengths bytes) (λ bytes. written bytes ∷ []) (λ s. drop 1 (blocks_sections s))
    (AreBlocks (layout_of head sparse lengths) slot.size 0 head.blocks) (λ s. (padding 64 ∷ drop 1 (blocks_sections s) ≡ blocks_sections s) × IsFilled slot (pairs head sparse lengths packed) s)
    (sound_blocks_from (layout_of head sparse lengths) slot.size 0 head.blocks) (λ bytes q. (refl, (refl, (bytes, refl, q)))))
    (λ _ s _ q. (q.0, q.1))

-- ---- a subtable through its stages

-- the stages of one subtable result in an accepted one, which has the sections of each stage
pub record OneChain (slot : Slot) (h i m s : Subtable) : Type 0 where
  pub is_valid : IsSubtable slot s
  pub heads : head_sections h ≡ head_sections s
  pub sparse : sparse_sections i ≡ sparse_sections s
  pub lengths : lengths_sections m ≡ lengths_sections s
  pub flags : flags_of h ≡ flags_of s

filled_slot : (slot other : Slot) (m m' s : Subtable) → other ≡ slot → m ≡ m' → IsFilled other m s → IsFilled slot m' s
filled_slot slot other m m' s e f h = subst (λ (x : Slot). IsFilled x m' s) e (subst (λ (x : Subtable). IsFilled other x s) f h)

pub measured_slot : (slot other : Slot) (i i' : Subtable) (m : Begun) → other ≡ slot → i ≡ i' → IsMeasured other i m → IsMeasured slot i' m
measured_slot slot other i i' m e f h = subst (λ (x : Slot). IsMeasured x i' m) e (subst (λ (x : Subtable). IsMeasured other x m) f h)

one_chain : (slot : Slot) (h : Subtable) (i m : Begun) (s : Subtable) → IsBegun h → IsIndexed slot h i → IsMeasured i.slot i.subtable m → IsFilled m.slot m.subtable s → OneChain slot h i.subtable m.subtable s
one_chain slot (constant flags byte) i m s p q r t =
    let r' = measured_slot slot i.slot i.subtable (constant flags byte) m q.0 q.1 r in
    let t' = filled_slot slot m.slot m.subtable (constant flags byte) s r'.0 r'.1 t in
    record {
      is_valid = subst (IsSubtable slot) (sym t') p;
      heads = ap head_sections (sym t');
      sparse = ap sparse_sections (q.1 ∙ sym t');
      lengths = ap lengths_sections (r'.1 ∙ sym t');
      flags = ap flags_of (sym t');
    }
one_chain slot (pairs head sparse lengths packed) i m s p q r t =
    let entries : List SparseEntry = q.1 in
    let r' = measured_slot slot i.slot i.subtable (pairs head entries lengths packed) m q.0 q.2 r in
    let list : List ℕ = r'.1 in
    let t' = filled_slot slot m.slot m.subtable (pairs head entries list packed) s r'.0 r'.2 t in
    record {
      is_valid = subst (IsSubtable slot) (sym t'.1) (record {
        head_is_valid = p.0;
        sparse_count = q.3;
        sparse_fit = q.4;
        lengths_count = r'.3;
        lengths_fit = r'.4;
        packed_bytes = t'.2.0;
        index = r'.5;
        blocks_hold = t'.2.1;
      });
      heads = ap head_sections (sym t'.1);
      sparse = ap sparse_sections q.2 ∙ ap sparse_sections (sym t'.1);
      lengths = ap lengths_sections r'.2 ∙ ap lengths_sections (sym t'.1);
      flags = ap flags_of (sym t'.1);
    }

pub map_moves : (h s : Subtable) (o : Option Map) → flags_of h ≡ flags_of s → IsMapOf h o → IsMapOf s o
map_moves h s None e p = subst (λ (f : ℕ). has_bit 1 f ≡ false) e p
map_moves h s (Some (narrow lists)) e p = (subst (λ (f : ℕ). has_bit 1 f ≡ true) e p.0, subst (λ (f : ℕ). has_bit 4 f ≡ false) e p.1, p.2)
map_moves h s (Some (wide lists)) e p = (subst (λ (f : ℕ). has_bit 1 f ≡ true) e p.0, subst (λ (f : ℕ). has_bit 4 f ≡ true) e p.1, p.2)

-- the stages of all subtables
pub record AllChains (slots : List Slot) (heads : List Subtable) (indexed measured : List Begun) (subtables : List Subtable) : Type 0 where
  pub stand : SideBySide IsSubtable slots subtables
  pub heads_same : flat_map head_sections heads ≡ flat_map head_sections subtables
  pub sparse_same : flat_map (λ (b : Begun). sparse_sections b.subtable) indexed ≡ flat_map sparse_sections subtables
  pub lengths_same : flat_map (λ (b : Begun). lengths_sections b.subtable) measured ≡ flat_map lengths_sections subtables
  pub maps_same : (found : List (Option Map)) → SideBySide IsMapOf heads found → SideBySide IsMapOf subtables found

maps_move : (h s : Subtable) (hs ss : List Subtable) → flags_of h ≡ flags_of s → ((found : List (Option Map)) → SideBySide IsMapOf hs found → SideBySide IsMapOf ss found) →
    (found : List (Option Map)) → SideBySide IsMapOf (h ∷ hs) found → SideBySide IsMapOf (s ∷ ss) found
maps_move h s hs ss e rest [] p = absurd p
maps_move h s hs ss e rest (o ∷ os) p = (map_moves h s o e p.0, rest os p.1)

all_chains : (slots : List Slot) (heads : List Subtable) (indexed measured : List Begun) (subtables : List Subtable) →
    SideBySide (λ slot h. IsBegun h) slots heads → SideBySide (λ b c. IsIndexed b.slot b.subtable c) (begun slots heads) indexed →
    SideBySide (λ b c. IsMeasured b.slot b.subtable c) indexed measured → SideBySide (λ b s. IsFilled b.slot b.subtable s) measured subtables →
    AllChains slots heads indexed measured subtables
all_chains [] [] [] [] [] p q r t = record { stand = tt; heads_same = refl; sparse_same = refl; lengths_same = refl; maps_same = λ found x. x }
all_chains [] [] [] [] (s ∷ ss) p q r t = absurd t
all_chains [] [] [] (m ∷ ms) ss p q r t = absurd r
all_chains [] [] (i ∷ is) ms ss p q r t = absurd q
all_chains [] (h ∷ hs) is ms ss p q r t = absurd p
all_chains (x ∷ xs) [] is ms ss p q r t = absurd p
all_chains (x ∷ xs) (h ∷ hs) [] ms ss p q r t = absurd q
all_chains (x ∷ xs) (h ∷ hs) (i ∷ is) [] ss p q r t = absurd r
all_chains (x ∷ xs) (h ∷ hs) (i ∷ is) (m ∷ ms) [] p q r t = absurd t
all_chains (x ∷ xs) (h ∷ hs) (i ∷ is) (m ∷ ms) (s ∷ ss) p q r t =
    let one = one_chain x h i m s p.0 q.0 r.0 t.0 in
    let rest = all_chains xs hs is ms ss p.1 q.1 r.1 t.1 in
    record {
      stand = (one.is_valid, rest.stand);
      heads_same = ap (λ (z : List Section). z ++ flat_map head_sections hs) one.heads ∙ ap (λ (z : List Section). head_sections s ++ z) rest.heads_same;
      sparse_same = ap (λ (z : List Section). z ++ flat_map (λ (b : Begun). sparse_sections b.subtable) is) one.sparse ∙ ap (λ (z : List Section). sparse_sections s ++ z) rest.sparse_same;
      lengths_same = ap (λ (z : List Section). z ++ flat_map (λ (b : Begun). lengths_sections b.subtable) ms) one.lengths ∙ ap (λ (z : List Section). lengths_sections s ++ z) rest.lengths_same;
      maps_same = maps_move h s hs ss one.flags rest.maps_same;
    }

-- ---- the whole file

abbrev pub table_of : Sides → Kind → ℕ → List Part → List Subtable → List (Option Map) → List ℕ → Contents
table_of material kind byte parts subtables found last = record { material = material; kind = kind; byte4 = byte; parts = parts; subtables = subtables; maps = found; last = last }

abbrev FileChain : Sides → Kind → Contents → List Section → Type 0
FileChain material kind =
    Linked (Step (λ (_ : Unit {0}). written (magic_of kind) ∷ []) Any) (λ _.
    Linked (Step (λ (byte : ℕ). written (byte ∷ []) ∷ []) (IsByte4 material kind)) (λ byte.
    Linked (Step (flat_map part_sections) (SideBySide (λ (_ : ℕ). IsPart material kind) (part_numbers material))) (λ parts.
    Linked (Step (λ (_ : Unit {0}). padding 2 ∷ []) Any) (λ _.
    Linked (Step (flat_map head_sections) (SideBySide (λ (slot : Slot) (h : Subtable). IsBegun h) (slots material kind parts))) (λ heads.
    Linked (Step (maps_sections kind) (AreMaps kind heads)) (λ found.
    Linked (Step (flat_map (λ (b : Begun). sparse_sections b.subtable)) (SideBySide (λ (b : Begun) (c : Begun). IsIndexed b.slot b.subtable c) (begun (slots material kind parts) heads))) (λ indexed.
    Linked (Step (flat_map (λ (b : Begun). lengths_sections b.subtable)) (SideBySide (λ (b : Begun) (c : Begun). IsMeasured b.slot b.subtable c) indexed)) (λ measured.
    Linked (Step (flat_map blocks_sections) (SideBySide (λ (b : Begun) (s : Subtable). IsFilled b.slot b.subtable s) measured)) (λ subtables.
    Linked (Step (λ (_ : Unit {0}). padding 64 ∷ []) Any) (λ _.
    Linked (Step (λ (last : List ℕ). written last ∷ []) (AreBytes 16)) (λ last.
    Ends (table_of material kind byte parts subtables found last))))))))))))

read_file : (material : Sides) (kind : Kind) → Read (file material kind) (FileChain material kind)
read_file material kind =
    read_then (magic_field kind) _ _ _ (read_of (magic_field kind) (λ _. written (magic_of kind) ∷ []) Any (sound_magic kind)) (λ _.
    read_then (byte4_field material kind) _ _ _ (read_of (byte4_field material kind) (λ byte. written (byte ∷ []) ∷ []) (IsByte4 material kind) (sound_byte4 material kind)) (λ byte.
    read_then (each (λ _. part_field material kind) (part_numbers material)) _ _ _ (read_of (each (λ _. part_field material kind) (part_numbers material)) (flat_map part_sections) (SideBySide (λ (_ : ℕ). IsPart material kind) (part_numbers material)) (sound_parts material kind (part_numbers material))) (λ parts.
    read_then (filled_to 2) _ _ _ (read_of (filled_to 2) (λ _. padding 2 ∷ []) Any (sound_filled_to 2)) (λ _.
    read_then (each head_field (slots material kind parts)) _ _ _ (read_of (each head_field (slots material kind parts)) (flat_map head_sections) (SideBySide (λ slot h. IsBegun h) (slots material kind parts)) (sound_each head_field head_sections (λ slot h. IsBegun h) sound_head (slots material kind parts))) (λ heads.
    read_then (maps_field kind heads) _ _ _ (read_of (maps_field kind heads) (maps_sections kind) (AreMaps kind heads) (sound_maps kind heads)) (λ found.
    read_then (each sparse_field (begun (slots material kind parts) heads)) _ _ _ (read_of (each sparse_field (begun (slots material kind parts) heads)) (flat_map (λ (b : Begun). sparse_sections b.subtable)) (SideBySide (λ b c. IsIndexed b.slot b.subtable c) (begun (slots material kind parts) heads))
    (sound_each sparse_field (λ b. sparse_sections b.subtable) (λ b c. IsIndexed b.slot b.subtable c) (λ b. sound_sparse b.slot b.subtable) (begun (slots material kind parts) heads))) (λ indexed.
    read_then (each lengths_field indexed) _ _ _ (read_of (each lengths_field indexed) (flat_map (λ (b : Begun). lengths_sections b.subtable)) (SideBySide (λ b c. IsMeasured b.slot b.subtable c) indexed)
    (sound_each lengths_field (λ b. lengths_sections b.subtable) (λ b c. IsMeasured b.slot b.subtable c) (λ b. sound_lengths b.slot b.index b.subtable) indexed)) (λ measured.
    read_then (each blocks_field measured) _ _ _ (read_of (each blocks_field measured) (flat_map blocks_sections) (SideBySide (λ b s. IsFilled b.slot b.subtable s) measured)
    (sound_each blocks_field blocks_sections (λ b s. IsFilled b.slot b.subtable s) (λ b. sound_blocks b.slot b.subtable) measured)) (λ subtables.
    read_then (filled_to 64) _ _ _ (read_of (filled_to 64) (λ _. padding 64 ∷ []) Any (sound_filled_to 64)) (λ _.
    read_then (field 16 means) _ _ _ (read_of (field 16 means) (λ last. written last ∷ []) (AreBytes 16) (sound_bytes 16)) (λ last.
    read_means _)))))))))))

-- the sections of the steps are those of the table, and its conditions hold
pub record FileValid (material : Sides) (kind : Kind) (t : Contents) (z : List Section) : Type 0 where
  pub material_is : t.material ≡ material
  pub kind_is : t.kind ≡ kind
  pub sections_are : z ≡ sections t
  pub accepted : (fill : List ℕ) → AreBytes (fill_asked t) fill → IsAccepted t fill

linked : (z x y x' y' : List Section) → z ≡ x ++ y → x ≡ x' → y ≡ y' → z ≡ x' ++ y'
linked z x y x' y' e f g = e ∙ ap (λ (w : List Section). w ++ y) f ∙ ap (λ (w : List Section). x' ++ w) g

maps_chain : (kind : Kind) (slots : List Slot) (heads : List Subtable) (indexed measured : List Begun) (subtables : List Subtable) (found : List (Option Map)) →
    AllChains slots heads indexed measured subtables → AreMaps kind heads found → AreMaps kind subtables found
maps_chain Wdl slots heads indexed measured subtables found c p = p
maps_chain Dtz slots heads indexed measured subtables found c p = c.maps_same found p

file_is_valid : (material : Sides) (kind : Kind) (t : Contents) (z : List Section) → FileChain material kind t z → FileValid material kind t z
file_is_valid material kind t z q1 =
    let q2 = q1.rest in
    let q3 = q2.rest in
    let q4 = q3.rest in
    let q5 = q4.rest in
    let q6 = q5.rest in
    let q7 = q6.rest in
    let q8 = q7.rest in
    let q9 = q8.rest in
    let q10 = q9.rest in
    let q11 = q10.rest in
    let u : Contents = table_of material kind q2.value q3.value q9.value q6.value q11.value in
    let same : t ≡ u = q11.rest.1 in
    let chain = all_chains (slots material kind q3.value) q5.value q7.value q8.value q9.value q5.step.1 q7.step.1 q8.step.1 q9.step.1 in
    let e11 = linked q10.back q11.front q11.back (written q11.value ∷ []) [] q11.joint q11.step.0 q11.rest.0 in
    let e10 = linked q9.back q10.front q10.back (padding 64 ∷ []) _ q10.joint q10.step.0 e11 in
    let e9 = linked q8.back q9.front q9.back (flat_map blocks_sections q9.value) _ q9.joint q9.step.0 e10 in
    let e8 = linked q7.back q8.front q8.back (flat_map lengths_sections q9.value) _ q8.joint (q8.step.0 ∙ chain.lengths_same) e9 in
    let e7 = linked q6.back q7.front q7.back (flat_map sparse_sections q9.value) _ q7.joint (q7.step.0 ∙ chain.sparse_same) e8 in
    let e6 = linked q5.back q6.front q6.back (maps_sections kind q6.value) _ q6.joint q6.step.0 e7 in
    let e5 = linked q4.back q5.front q5.back (flat_map head_sections q9.value) _ q5.joint (q5.step.0 ∙ chain.heads_same) e6 in
    let e4 = linked q3.back q4.front q4.back (padding 2 ∷ []) _ q4.joint q4.step.0 e5 in
    let e3 = linked q2.back q3.front q3.back (flat_map part_sections q3.value) _ q3.joint q3.step.0 e4 in
    let e2 = linked q1.back q2.front q2.back (written (q2.value ∷ []) ∷ []) _ q2.joint q2.step.0 e3 in
    let e1 = linked z q1.front q1.back (written (magic_of kind) ∷ []) _ q1.joint q1.step.0 e2 in
    let regrouped : z ≡ sections u = e1 ∙ simp append_assoc in
    record {
      material_is = ap (λ (c : Contents). c.material) same;
      kind_is = ap (λ (c : Contents). c.kind) same;
      sections_are = regrouped ∙ ap sections (sym same);
      accepted = λ fill requested_fill.
          let moved : AreBytes (fill_asked u) fill = subst (λ (c : Contents). AreBytes (fill_asked c) fill) same requested_fill in
          subst (λ (c : Contents). IsAccepted c fill) (sym same) (record {
            byte4 = q2.step.1.small;
            split = q2.step.1.split;
            pawns = q2.step.1.pawns;
            parts = q3.step.1;
            subtables = chain.stand;
            maps = maps_chain kind (slots material kind q3.value) q5.value q7.value q8.value q9.value q6.value chain q6.step.1;
            last = q11.step.1;
            fill_fits = moved;
          });
    }

-- Bytes that the format accepts are the file of an accepted table and the bytes after it.
pub good_is_file : GoodIsFile
unfolding file_of fill_asked
good_is_file material kind bytes t filled rest small e =
    let s = good-split (file material kind) 0 bytes t filled rest e in
    let halves = AreNumbers-split 1 s.0 rest (subst (λ (z : List ℕ). AreNumbers 1 z) s.1 small) in
    let r = (read_file material kind).read 0 s.0 t filled halves.0 s.2 in
    let f = file_is_valid material kind t r.0 r.3 in
    let spelled = subst (λ (z : List Section). Spells 0 s.0 z filled) f.sections_are r.1 in
    let w = file_from_sections s.0 filled (sections t) spelled in
    (f.material_is, f.kind_is, f.accepted filled (sym w.1, r.2), s.1 ∙ ap (λ (z : List ℕ). z ++ rest) (sym w.0))
