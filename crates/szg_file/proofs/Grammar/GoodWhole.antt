-- Maps, sparse indexes, block lengths, blocks and the whole file: the format accepts the file of an accepted table.
use Rattle.std.proofs.Common.{◌≡◌, ℕ, zero, suc, ◌+◌, ◌*◌, ◌^◌, ◌<◌, true, List, [], ◌∷◌, ◌++◌, length, map, take, drop, refl, sym, ap, subst, ◌∙◌, append_assoc, append-nil, arith, Option, Some, None}
use Rattle.std.specs.Prelude.{flat_map, IsTrue}
use Rattle.std.specs.List.{AllByRecursion}
use Rattle.std.proofs.lemmas.List.{length-append, nil_from_length, length-take, length-drop, take-append-drop}
use Rattle.szg_values.specs.declared.Kind.{Kind}
use Rattle.szg_values.specs.declared.Kind.TheVariants.{Wdl, Dtz}
use Rattle.szg_values.specs.Material.{Sides}
use Rattle.szg_block.specs.Layout.{Layout, SparseEntry}
use Rattle.szg_block.specs.Sound.{entry_count}
use Rattle.szg_block.specs.FirstFault.{has_total, first_bad_entry, spells_needed}
use Rattle.szg_file.specs.declared.fault.Reason.TheVariants as reason
use Rattle.szg_file.specs.Format.{Format, means, field, ◌>>=◌, ◌>>◌}
use Rattle.szg_file.specs.Contents.{Contents, Part, Subtable, constant, pairs, layout_of, Map, narrow, wide, number_of, bytes_of, items, has_bit, Slot, slots, part_numbers}
use Rattle.szg_file.specs.File.{file, magic_of, magic_field, byte4_field, part_field, head_field, begun, number_field, rows_field, filled_to, each, list_field, map_lists, map_field, maps_field, flags_of, demand, none_fails, Begun, entry_of_bytes, sparse_index_of, sparse_field, index_check, lengths_of, lengths_field, block_field, blocks_from, blocks_of, blocks_field}
use Rattle.szg_file.specs.FileOf.{sections, part_sections, Section, written, padding, list_sections, map_sections, maps_sections, head_sections, sparse_sections, lengths_sections, blocks_sections}
use Rattle.szg_file.specs.Accepted.{AreNumbers, AreBytes, AreLists, IsMapOf, AreMaps, SideBySide, IsSubtable, IsEntry, BlocksHold, HasIndex}
use Rattle.szg_file.specs.Values.{slotted}
use Rattle.szg_file.specs.Laws.{FileIsGood, OneFileOneTable, NoFileBeginsAnother, CutFileIsTruncated}
use Rattle.szg_file.proofs.Grammar.FormatLaws.{take_front, drop_front}
use Rattle.szg_file.proofs.Grammar.FileLaws.{Any, AreNumbers-split, AreNumbers-join, number_of-bytes_of}
use Rattle.szg_file.proofs.Grammar.HeadLaws.{IsBegun}
use Rattle.szg_file.proofs.Grammar.WholeLaws.{four, HasWidth, table_of, Spells-glue, Spells-empty}
use Rattle.szg_file.proofs.Grammar.CompleteLaws.{complete_filled_to, complete_bytes}
use Rattle.szg_file.proofs.Grammar.GoodLaws.{At, Is, at_respelled, at_of, at_then, at_next, at_means, at_demand, at_placed, at_magic, at_byte4, at_each, at_parts, SectionsAreGood, file_is_good}
use Rattle.szg_file.proofs.Grammar.GoodHeads.{bytes_of-bytes, rows_of, at_rows, at_number, at_none_fails, at_head, at_first, at_second}
use Rattle.szg_file.proofs.Grammar.TableLaws.{one_file_one_table, no_file_begins_another, cut_file_is_truncated}

-- a weaker condition on the value
at_weaker : {A : Type 0} (f : Format A) (z : List Section) (V W : A → Type 0) → At f z V → ((a : A) → V a → W a) → At f z W
at_weaker f z V W h k = record { at = λ place supply text e enough. let p = h.at place supply text e enough in (p.0, k p.0 p.1, p.2) }

at_value : {A : Type 0} (a : A) (V : A → Type 0) → V a → At (means a) [] V
at_value a V h = at_weaker (means a) [] (Is a) V (at_means a) (λ b same. subst V (sym same) h)

-- the same sections, with no sections after them
at_all : {A : Type 0} (f : Format A) (z : List Section) (V : A → Type 0) → At f (z ++ []) V → At f z V
at_all f z V h = subst (λ (s : List Section). At f s V) (append-nil z) h

at_filled : (unit : ℕ) → At (filled_to unit) (padding unit ∷ []) (Is tt)
at_filled unit = at_of (filled_to unit) (λ _. padding unit ∷ []) Any tt (complete_filled_to unit) tt

-- ---- maps

at_list : (size : ℕ) (list : List ℕ) → length list < 256 ^ size → AreNumbers size list → At (list_field size) (list_sections size list) (Is list)
at_list size list few fit =
    let r = rows_of size list fit in
    let rows : List (List ℕ) = map (bytes_of size) list in
    at_next (number_field size) (λ count. rows_field size count >>= λ rows. means (map number_of rows)) (written (bytes_of size (length list)) ∷ []) (written (flat_map (bytes_of size) list) ∷ []) (length list) (Is list)
    (at_number size (length list) few)
    (subst (λ (z : List ℕ). At (rows_field size (length list) >>= λ rows. means (map number_of rows)) (written z ∷ []) (Is list)) r.0
    (at_next (rows_field size (length list)) (λ rows. means (map number_of rows)) (written (flat_map (λ (row : List ℕ). row) rows) ∷ []) [] rows (Is list)
    (at_rows size (length list) rows r.2 r.3)
    (subst (λ (l : List ℕ). At (means l) [] (Is list)) (sym r.1) (at_means list))))

beside_of : {A B : Type 0} (Q : A → Type 0) (P : B → Type 0) (xs : List A) (ys : List B) → length ys ≡ length xs → AllByRecursion Q xs → AllByRecursion P ys → SideBySide (λ x y. Q x × P y) xs ys
beside_of Q P [] [] e h k = tt
beside_of Q P [] (y ∷ ys) e h k = absurd (omega (arith, e))
beside_of Q P (x ∷ xs) [] e h k = absurd (omega (arith, e))
beside_of Q P (x ∷ xs) (y ∷ ys) e h k = ((h.0, k.0), beside_of Q P xs ys (omega (arith, e)) h.1 k.1)

abbrev FitsWidth : ℕ → List ℕ → Type 0
FitsWidth size list = (length list < 256 ^ size) × AreNumbers size list

at_four : (size : ℕ) (lists : List (List ℕ)) → AreLists size lists → At (each list_field (four size)) (flat_map (list_sections size) lists) (Is lists)
at_four size lists h =
    at_each list_field (list_sections size) (λ k list. (k ≡ size) × FitsWidth size list)
    (λ k list p. subst (λ (n : ℕ). At (list_field n) (list_sections size list) (Is list)) (sym p.0) (at_list size list p.1.0 p.1.1))
    (four size) lists (beside_of (λ k. k ≡ size) (FitsWidth size) (four size) lists h.0 (refl, (refl, (refl, (refl, tt)))) h.1)

at_map_lists : (flags : ℕ) (lists : Map) → HasWidth flags lists → At (map_lists flags) (map_sections (Some lists)) (Is lists)
at_map_lists flags (narrow lists) h =
    at_second (has_bit 4 flags) (filled_to 2 >>= λ _. each list_field (four 2) >>= λ lists. means (wide lists)) (each list_field (four 1) >>= λ lists. means (narrow lists)) (flat_map (list_sections 1) lists) (Is (narrow lists)) h.0
    (at_all (each list_field (four 1) >>= λ lists. means (narrow lists)) (flat_map (list_sections 1) lists) (Is (narrow lists))
    (at_next (each list_field (four 1)) (λ lists. means (narrow lists)) (flat_map (list_sections 1) lists) [] lists (Is (narrow lists)) (at_four 1 lists h.1) (at_means (narrow lists))))
at_map_lists flags (wide lists) h =
    at_first (has_bit 4 flags) (filled_to 2 >>= λ _. each list_field (four 2) >>= λ lists. means (wide lists)) (each list_field (four 1) >>= λ lists. means (narrow lists)) (padding 2 ∷ flat_map (list_sections 2) lists) (Is (wide lists)) h.0
    (at_next (filled_to 2) (λ _. each list_field (four 2) >>= λ lists. means (wide lists)) (padding 2 ∷ []) (flat_map (list_sections 2) lists) tt (Is (wide lists)) (at_filled 2)
    (at_all (each list_field (four 2) >>= λ lists. means (wide lists)) (flat_map (list_sections 2) lists) (Is (wide lists))
    (at_next (each list_field (four 2)) (λ lists. means (wide lists)) (flat_map (list_sections 2) lists) [] lists (Is (wide lists)) (at_four 2 lists h.1) (at_means (wide lists)))))

has_width : (s : Subtable) (lists : Map) → IsMapOf s (Some lists) → (has_bit 1 (flags_of s) ≡ true) × HasWidth (flags_of s) lists
has_width s (narrow lists) h = (h.0, (h.1, h.2))
has_width s (wide lists) h = (h.0, (h.1, h.2))

at_map : (s : Subtable) (o : Option Map) → IsMapOf s o → At (map_field s) (map_sections o) (Is o)
at_map s None h = at_second (has_bit 1 (flags_of s)) (map_lists (flags_of s) >>= λ lists. means (Some lists)) (means None) [] (Is None) h (at_means None)
at_map s (Some lists) h =
    let w = has_width s lists h in
    at_first (has_bit 1 (flags_of s)) (map_lists (flags_of s) >>= λ lists. means (Some lists)) (means None) (map_sections (Some lists)) (Is (Some lists)) w.0
    (at_all (map_lists (flags_of s) >>= λ lists. means (Some lists)) (map_sections (Some lists)) (Is (Some lists))
    (at_next (map_lists (flags_of s)) (λ lists. means (Some lists)) (map_sections (Some lists)) [] lists (Is (Some lists)) (at_map_lists (flags_of s) lists w.1) (at_means (Some lists))))

at_maps : (kind : Kind) (subtables : List Subtable) (maps : List (Option Map)) → AreMaps kind subtables maps → At (maps_field kind subtables) (maps_sections kind maps) (Is maps)
at_maps Wdl subtables maps h = at_value [] (Is maps) (sym h)
at_maps Dtz subtables maps h =
    at_next (each map_field subtables) (λ found. filled_to 2 >> means found) (flat_map map_sections maps) (padding 2 ∷ []) maps (Is maps)
    (at_each map_field map_sections IsMapOf at_map subtables maps h)
    (at_next (filled_to 2) (λ _. means maps) (padding 2 ∷ []) [] tt (Is maps) (at_filled 2) (at_means maps))

-- ---- stages of a subtable

abbrev begun_of : Subtable → Subtable
begun_of (constant flags byte) = constant flags byte
begun_of (pairs head sparse lengths packed) = pairs head [] [] []

abbrev indexed_of : Subtable → Subtable
indexed_of (constant flags byte) = constant flags byte
indexed_of (pairs head sparse lengths packed) = pairs head sparse [] []

abbrev measured_of : Subtable → Subtable
measured_of (constant flags byte) = constant flags byte
measured_of (pairs head sparse lengths packed) = pairs head sparse lengths []

-- a stage of an accepted subtable
abbrev IsStage : (Subtable → Subtable) → Begun → Slot × Subtable → Type 0
IsStage stage b x = IsSubtable x.0 x.1 × ((b.slot ≡ x.0) × (b.subtable ≡ stage x.1))

-- ---- sparse indexes

abbrev row_of : SparseEntry → List ℕ
row_of entry = bytes_of 4 entry.block ++ bytes_of 2 entry.offset

abbrev entry_with : ℕ → ℕ → SparseEntry
entry_with block offset = record { block = block; offset = offset }

rows_of_entries : (sparse : List SparseEntry) → AllByRecursion IsEntry sparse →
    (flat_map (λ (row : List ℕ). row) (map row_of sparse) ≡ flat_map row_of sparse) × (map entry_of_bytes (map row_of sparse) ≡ sparse)
    × (length (map row_of sparse) ≡ length sparse) × AllByRecursion (AreBytes 6) (map row_of sparse)
rows_of_entries [] h = (refl, refl, refl, tt)
rows_of_entries (entry ∷ sparse) h =
    let r = rows_of_entries sparse h.1 in
    let x : List ℕ = bytes_of 4 entry.block in
    let y : List ℕ = bytes_of 2 entry.offset in
    let bx = bytes_of-bytes 4 entry.block in
    let by = bytes_of-bytes 2 entry.offset in
    let front : take 4 (x ++ y) ≡ x = take_front 4 x y bx.0 in
    let back : drop 4 (x ++ y) ≡ y = drop_front 4 x y bx.0 in
    let same : entry_of_bytes (x ++ y) ≡ entry =
    ap (λ (z : List ℕ). entry_with (number_of z) (number_of (drop 4 (x ++ y)))) front
    ∙ ap (λ (z : List ℕ). entry_with (number_of x) (number_of z)) back
    ∙ ap (λ (n : ℕ). entry_with n (number_of y)) (number_of-bytes_of 4 entry.block h.0.0)
    ∙ ap (λ (n : ℕ). entry_with entry.block n) (number_of-bytes_of 2 entry.offset h.0.1) in
    let long_x : length x ≡ 4 = bx.0 in
    let long_y : length y ≡ 2 = by.0 in (
      ap (λ (z : List ℕ). (x ++ y) ++ z) r.0,
      ap (λ (e : SparseEntry). e ∷ map entry_of_bytes (map row_of sparse)) same ∙ ap (λ (z : List SparseEntry). entry ∷ z) r.1,
      ap suc r.2,
      ((length-append x y ∙ omega (arith, long_x, long_y), AreNumbers-join 1 x y bx.1 by.1), r.3),
    )

abbrev staged : Slot → Subtable → ℕ → Begun
staged slot s index = record { slot = slot; subtable = s; index = index }

at_sparse : (slot : Slot) (s : Subtable) → IsSubtable slot s → At (sparse_index_of slot (begun_of s)) (sparse_sections s) (λ b. IsStage indexed_of b (slot, s))
at_sparse slot (constant flags byte) h = at_value (staged slot (constant flags byte) 0) (λ b. IsStage indexed_of b (slot, constant flags byte)) (h, (refl, refl))
at_sparse slot (pairs head sparse lengths packed) h =
    let V : Begun → Type 0 = λ b. IsStage indexed_of b (slot, pairs head sparse lengths packed) in
    let n : ℕ = entry_count head.span_bits slot.size in
    let r = rows_of_entries sparse h.sparse_fit in
    let rows : List (List ℕ) = map row_of sparse in
    let next : ℕ → List (List ℕ) → Format Begun = λ place entries. means (staged slot (pairs head (map entry_of_bytes entries) [] []) place) in
    at_placed (λ place. rows_field 6 n >>= next place) (written (flat_map row_of sparse) ∷ []) V
    (λ place. subst (λ (z : List ℕ). At (rows_field 6 n >>= next place) (written z ∷ []) V) r.0
    (at_next (rows_field 6 n) (next place) (written (flat_map (λ (row : List ℕ). row) rows) ∷ []) [] rows V
    (at_rows 6 n rows (r.2 ∙ h.sparse_count) r.3)
    (at_value (staged slot (pairs head (map entry_of_bytes rows) [] []) place) V (h, (refl, ap (λ (z : List SparseEntry). pairs head z [] []) r.1)))))

-- ---- block lengths

at_index_check : (place index : ℕ) (layout : Layout) (size : ℕ) → HasIndex layout size → At (index_check place index layout size) [] (Is tt)
at_index_check place index layout size h =
    at_next (demand (has_total layout size) place reason.ShortTotal) (λ _. none_fails (first_bad_entry layout) (λ item. index + 6 * item) reason.SparseEntry) [] [] tt (Is tt)
    (at_demand (has_total layout size) place reason.ShortTotal h.0) (at_none_fails (first_bad_entry layout) (λ item. index + 6 * item) reason.SparseEntry h.1)

at_lengths : (slot : Slot) (index : ℕ) (s : Subtable) → IsSubtable slot s → At (lengths_of slot index (indexed_of s)) (lengths_sections s) (λ b. IsStage measured_of b (slot, s))
at_lengths slot index (constant flags byte) h = at_value (staged slot (constant flags byte) index) (λ b. IsStage measured_of b (slot, constant flags byte)) (h, (refl, refl))
at_lengths slot index (pairs head sparse lengths packed) h =
    let V : Begun → Type 0 = λ b. IsStage measured_of b (slot, pairs head sparse lengths packed) in
    let n : ℕ = head.blocks + head.extra in
    let r = rows_of 2 lengths h.lengths_fit in
    let rows : List (List ℕ) = map (bytes_of 2) lengths in
    let after : ℕ → List ℕ → Format Begun = λ place list. index_check place index (layout_of head sparse list) slot.size >> means (staged slot (pairs head sparse list []) index) in
    let next : ℕ → List (List ℕ) → Format Begun = λ place list. after place (map number_of list) in
    at_placed (λ place. rows_field 2 n >>= next place) (written (flat_map (bytes_of 2) lengths) ∷ []) V
    (λ place. subst (λ (z : List ℕ). At (rows_field 2 n >>= next place) (written z ∷ []) V) r.0
    (at_next (rows_field 2 n) (next place) (written (flat_map (λ (row : List ℕ). row) rows) ∷ []) [] rows V
    (at_rows 2 n rows (r.2 ∙ h.lengths_count) r.3)
    (subst (λ (l : List ℕ). At (after place l) [] V) (sym r.1)
    (at_next (index_check place index (layout_of head sparse lengths) slot.size) (λ _. means (staged slot (pairs head sparse lengths []) index)) [] [] tt V
    (at_index_check place index (layout_of head sparse lengths) slot.size h.index)
    (at_value (staged slot (pairs head sparse lengths []) index) V (h, (refl, refl)))))))

-- ---- blocks

at_block : (layout : Layout) (size n : ℕ) (bytes : List ℕ) → AreBytes (2 ^ layout.block_bits) bytes → IsTrue (spells_needed layout size n bytes) → At (block_field layout size n) (written bytes ∷ []) (Is bytes)
at_block layout size n bytes small holds =
    at_placed (λ place. field (2 ^ layout.block_bits) means >>= λ bytes. demand (spells_needed layout size n bytes) place reason.Word >> means bytes) (written bytes ∷ []) (Is bytes)
    (λ place. at_next (field (2 ^ layout.block_bits) means) (λ bytes. demand (spells_needed layout size n bytes) place reason.Word >> means bytes) (written bytes ∷ []) [] bytes (Is bytes)
    (at_of (field (2 ^ layout.block_bits) means) (λ b. written b ∷ []) (AreBytes (2 ^ layout.block_bits)) bytes (complete_bytes (2 ^ layout.block_bits)) small)
    (at_next (demand (spells_needed layout size n bytes) place reason.Word) (λ _. means bytes) [] [] tt (Is bytes) (at_demand (spells_needed layout size n bytes) place reason.Word holds) (at_means bytes)))

at_blocks_from : (layout : Layout) (size n count : ℕ) (packed : List ℕ) → AreBytes (count * 2 ^ layout.block_bits) packed → BlocksHold layout size n (items (2 ^ layout.block_bits) count packed) →
    At (blocks_from layout size n count) (written packed ∷ []) (Is packed)
at_blocks_from layout size n zero packed small holds =
    let none : packed ≡ [] = nil_from_length packed (small.0 ∙ omega arith) in
    subst (λ (z : List ℕ). At (means []) (written z ∷ []) (Is z)) (sym none)
    (at_respelled (means []) [] (written [] ∷ []) (Is []) (λ text. omega arith) Spells-empty (at_means []))
at_blocks_from layout size n (suc count) packed small holds =
    let k : ℕ = 2 ^ layout.block_bits in
    let x : List ℕ = take k packed in
    let y : List ℕ = drop k packed in
    let whole : x ++ y ≡ packed = take-append-drop k packed in
    let halves = AreNumbers-split 1 x y (subst (λ (z : List ℕ). AreNumbers 1 z) (sym whole) small.1) in
    let long : length packed ≡ suc count * k = small.0 in
    let many : suc count * k ≡ k + count * k = omega arith in
    let long_x : length x ≡ k = omega (arith, length-take k packed, long, many) in
    let long_y : length y ≡ count * k = omega (arith, length-drop k packed, long, many) in
    let rest : At (blocks_from layout size (n + 1) count >>= λ more. means (x ++ more)) (written y ∷ []) (Is (x ++ y)) =
    at_next (blocks_from layout size (n + 1) count) (λ more. means (x ++ more)) (written y ∷ []) [] y (Is (x ++ y))
    (at_blocks_from layout size (n + 1) count y (long_y, halves.1) holds.1) (at_means (x ++ y)) in
    let apart : At (blocks_from layout size n (suc count)) (written x ∷ written y ∷ []) (Is (x ++ y)) =
    at_next (block_field layout size n) (λ bytes. blocks_from layout size (n + 1) count >>= λ more. means (bytes ++ more)) (written x ∷ []) (written y ∷ []) x (Is (x ++ y))
    (at_block layout size n x (long_x, halves.0) holds.0) rest in
    subst (λ (z : List ℕ). At (blocks_from layout size n (suc count)) (written z ∷ []) (Is z)) whole
    (at_respelled (blocks_from layout size n (suc count)) (written x ∷ written y ∷ []) (written (x ++ y) ∷ []) (Is (x ++ y)) (λ text. omega arith)
    (λ place bytes filled h. Spells-glue place bytes x y filled h) apart)

at_blocks : (slot : Slot) (s : Subtable) → IsSubtable slot s → At (blocks_of slot (measured_of s)) (blocks_sections s) (Is s)
at_blocks slot (constant flags byte) h = at_means (constant flags byte)
at_blocks slot (pairs head sparse lengths packed) h =
    let layout : Layout = layout_of head sparse lengths in
    let W : Subtable → Type 0 = Is (pairs head sparse lengths packed) in
    at_next (filled_to 64) (λ _. blocks_from layout slot.size 0 head.blocks >>= λ bytes. means (pairs head sparse lengths bytes)) (padding 64 ∷ []) (written packed ∷ []) tt W (at_filled 64)
    (at_next (blocks_from layout slot.size 0 head.blocks) (λ bytes. means (pairs head sparse lengths bytes)) (written packed ∷ []) [] packed W
    (at_blocks_from layout slot.size 0 head.blocks packed h.packed_bytes h.blocks_hold) (at_means (pairs head sparse lengths packed)))

-- ---- all subtables

-- formats of items, one for each item of another list, with the properties of their values
at_each_for : {A B X : Type 0} (format : A → Format B) (s : X → List Section) (R : A → X → Type 0) (V : B → X → Type 0) →
    ((a : A) (x : X) → R a x → At (format a) (s x) (λ b. V b x)) → (us : List A) (xs : List X) → SideBySide R us xs → At (each format us) (flat_map s xs) (λ bs. SideBySide V bs xs)
at_each_for format s R V one [] [] h = at_value [] (λ bs. SideBySide V bs []) tt
at_each_for format s R V one [] (x ∷ xs) h = absurd h
at_each_for format s R V one (u ∷ us) [] h = absurd h
at_each_for format s R V one (u ∷ us) (x ∷ xs) h =
    subst (λ (z : List Section). At (each format (u ∷ us)) (s x ++ z) (λ bs. SideBySide V bs (x ∷ xs))) (append-nil (flat_map s xs))
    (at_then (format u) (λ b. each format us >>= λ bs. means (b ∷ bs)) (s x) (flat_map s xs ++ []) (λ b. V b x) (λ bs. SideBySide V bs (x ∷ xs)) (one u x h.0)
    (λ b vb. at_then (each format us) (λ bs. means (b ∷ bs)) (flat_map s xs) [] (λ bs. SideBySide V bs xs) (λ bs. SideBySide V bs (x ∷ xs)) (at_each_for format s R V one us xs h.1)
    (λ bs vbs. at_value (b ∷ bs) (λ cs. SideBySide V cs (x ∷ xs)) (vb, vbs))))

slotted_sections : (g : Subtable → List Section) (xs : List Slot) (ss : List Subtable) → SideBySide IsSubtable xs ss → flat_map (λ (x : Slot × Subtable). g x.1) (slotted xs ss) ≡ flat_map g ss
slotted_sections g [] [] h = refl
slotted_sections g [] (s ∷ ss) h = absurd h
slotted_sections g (x ∷ xs) [] h = absurd h
slotted_sections g (x ∷ xs) (s ∷ ss) h = ap (λ (z : List Section). g s ++ z) (slotted_sections g xs ss h.1)

begun_stages : (xs : List Slot) (ss : List Subtable) → SideBySide IsSubtable xs ss → SideBySide (IsStage begun_of) (begun xs (map begun_of ss)) (slotted xs ss)
begun_stages [] [] h = tt
begun_stages [] (s ∷ ss) h = absurd h
begun_stages (x ∷ xs) [] h = absurd h
begun_stages (x ∷ xs) (s ∷ ss) h = ((h.0, (refl, refl)), begun_stages xs ss h.1)

all_same : (xs : List Slot) (ss out : List Subtable) → SideBySide IsSubtable xs ss → SideBySide (λ (s : Subtable) (x : Slot × Subtable). s ≡ x.1) out (slotted xs ss) → out ≡ ss
all_same [] [] [] h k = refl
all_same [] [] (o ∷ out) h k = absurd k
all_same [] (s ∷ ss) out h k = absurd h
all_same (x ∷ xs) [] out h k = absurd h
all_same (x ∷ xs) (s ∷ ss) [] h k = absurd k
all_same (x ∷ xs) (s ∷ ss) (o ∷ out) h k = ap (λ (z : Subtable). z ∷ out) k.0 ∙ ap (λ (z : List Subtable). s ∷ z) (all_same xs ss out h.1 k.1)

is_begun : (slot : Slot) (s : Subtable) → IsSubtable slot s → IsBegun (begun_of s)
is_begun slot (constant flags byte) h = h
is_begun slot (pairs head sparse lengths packed) h = (h.head_is_valid, refl, refl, refl)

are_begun : (xs : List Slot) (ss : List Subtable) → SideBySide IsSubtable xs ss → SideBySide (λ (x : Slot) (s : Subtable). IsBegun s) xs (map begun_of ss)
are_begun [] [] h = tt
are_begun [] (s ∷ ss) h = absurd h
are_begun (x ∷ xs) [] h = absurd h
are_begun (x ∷ xs) (s ∷ ss) h = (is_begun x s h.0, are_begun xs ss h.1)

begun_head : (s : Subtable) → head_sections (begun_of s) ≡ head_sections s
begun_head (constant flags byte) = refl
begun_head (pairs head sparse lengths packed) = refl

begun_heads : (ss : List Subtable) → flat_map head_sections (map begun_of ss) ≡ flat_map head_sections ss
begun_heads [] = refl
begun_heads (s ∷ ss) = ap (λ (z : List Section). z ++ flat_map head_sections (map begun_of ss)) (begun_head s) ∙ ap (λ (z : List Section). head_sections s ++ z) (begun_heads ss)

begun_map : (s : Subtable) (o : Option Map) → IsMapOf s o → IsMapOf (begun_of s) o
begun_map (constant flags byte) o h = h
begun_map (pairs head sparse lengths packed) None h = h
begun_map (pairs head sparse lengths packed) (Some (narrow lists)) h = h
begun_map (pairs head sparse lengths packed) (Some (wide lists)) h = h

begun_maps : (ss : List Subtable) (maps : List (Option Map)) → SideBySide IsMapOf ss maps → SideBySide IsMapOf (map begun_of ss) maps
begun_maps [] [] h = tt
begun_maps [] (o ∷ os) h = absurd h
begun_maps (s ∷ ss) [] h = absurd h
begun_maps (s ∷ ss) (o ∷ os) h = (begun_map s o h.0, begun_maps ss os h.1)

are_maps : (kind : Kind) (ss : List Subtable) (maps : List (Option Map)) → AreMaps kind ss maps → AreMaps kind (map begun_of ss) maps
are_maps Wdl ss maps h = h
are_maps Dtz ss maps h = begun_maps ss maps h

at_heads : (xs : List Slot) (ss : List Subtable) → SideBySide IsSubtable xs ss → At (each head_field xs) (flat_map head_sections ss) (Is (map begun_of ss))
at_heads xs ss h =
    subst (λ (z : List Section). At (each head_field xs) z (Is (map begun_of ss))) (begun_heads ss)
    (at_each head_field head_sections (λ (x : Slot) (s : Subtable). IsBegun s) at_head xs (map begun_of ss) (are_begun xs ss h))

at_indexes : (xs : List Slot) (ss : List Subtable) → SideBySide IsSubtable xs ss →
    At (each sparse_field (begun xs (map begun_of ss))) (flat_map sparse_sections ss) (λ bs. SideBySide (IsStage indexed_of) bs (slotted xs ss))
at_indexes xs ss h =
    subst (λ (z : List Section). At (each sparse_field (begun xs (map begun_of ss))) z (λ bs. SideBySide (IsStage indexed_of) bs (slotted xs ss))) (slotted_sections sparse_sections xs ss h)
    (at_each_for sparse_field (λ x. sparse_sections x.1) (IsStage begun_of) (IsStage indexed_of)
    (λ b x p. subst (λ (slot : Slot). At (sparse_index_of slot b.subtable) (sparse_sections x.1) (λ c. IsStage indexed_of c x)) (sym p.1.0)
    (subst (λ (s : Subtable). At (sparse_index_of x.0 s) (sparse_sections x.1) (λ c. IsStage indexed_of c x)) (sym p.1.1) (at_sparse x.0 x.1 p.0)))
    (begun xs (map begun_of ss)) (slotted xs ss) (begun_stages xs ss h))

at_all_lengths : (xs : List Slot) (ss : List Subtable) (bs : List Begun) → SideBySide IsSubtable xs ss → SideBySide (IsStage indexed_of) bs (slotted xs ss) →
    At (each lengths_field bs) (flat_map lengths_sections ss) (λ cs. SideBySide (IsStage measured_of) cs (slotted xs ss))
at_all_lengths xs ss bs h k =
    subst (λ (z : List Section). At (each lengths_field bs) z (λ cs. SideBySide (IsStage measured_of) cs (slotted xs ss))) (slotted_sections lengths_sections xs ss h)
    (at_each_for lengths_field (λ x. lengths_sections x.1) (IsStage indexed_of) (IsStage measured_of)
    (λ b x p. subst (λ (slot : Slot). At (lengths_of slot b.index b.subtable) (lengths_sections x.1) (λ c. IsStage measured_of c x)) (sym p.1.0)
    (subst (λ (s : Subtable). At (lengths_of x.0 b.index s) (lengths_sections x.1) (λ c. IsStage measured_of c x)) (sym p.1.1) (at_lengths x.0 b.index x.1 p.0)))
    bs (slotted xs ss) k)

at_all_blocks : (xs : List Slot) (ss : List Subtable) (bs : List Begun) → SideBySide IsSubtable xs ss → SideBySide (IsStage measured_of) bs (slotted xs ss) →
    At (each blocks_field bs) (flat_map blocks_sections ss) (Is ss)
at_all_blocks xs ss bs h k =
    at_weaker (each blocks_field bs) (flat_map blocks_sections ss) (λ out. SideBySide (λ (s : Subtable) (x : Slot × Subtable). s ≡ x.1) out (slotted xs ss)) (Is ss)
    (subst (λ (z : List Section). At (each blocks_field bs) z (λ out. SideBySide (λ (s : Subtable) (x : Slot × Subtable). s ≡ x.1) out (slotted xs ss))) (slotted_sections blocks_sections xs ss h)
    (at_each_for blocks_field (λ x. blocks_sections x.1) (IsStage measured_of) (λ (s : Subtable) (x : Slot × Subtable). s ≡ x.1)
    (λ b x p. subst (λ (slot : Slot). At (blocks_of slot b.subtable) (blocks_sections x.1) (λ c. c ≡ x.1)) (sym p.1.0)
    (subst (λ (s : Subtable). At (blocks_of x.0 s) (blocks_sections x.1) (λ c. c ≡ x.1)) (sym p.1.1) (at_blocks x.0 x.1 p.0)))
    bs (slotted xs ss) k))
    (λ out same. all_same xs ss out h same)

-- ---- the whole file

abbrev after_blocks : Sides → Kind → ℕ → List Part → List (Option Map) → List Subtable → Format Contents
after_blocks material kind byte parts found subtables = filled_to 64 >>= λ _. field 16 means >>= λ last. means (table_of material kind byte parts subtables found last)

abbrev after_lengths : Sides → Kind → ℕ → List Part → List (Option Map) → List Begun → Format Contents
after_lengths material kind byte parts found measured = each blocks_field measured >>= λ subtables. after_blocks material kind byte parts found subtables

abbrev after_indexes : Sides → Kind → ℕ → List Part → List (Option Map) → List Begun → Format Contents
after_indexes material kind byte parts found indexed = each lengths_field indexed >>= λ measured. after_lengths material kind byte parts found measured

abbrev after_maps : Sides → Kind → ℕ → List Part → List Subtable → List (Option Map) → Format Contents
after_maps material kind byte parts heads found = each sparse_field (begun (slots material kind parts) heads) >>= λ indexed. after_indexes material kind byte parts found indexed

abbrev after_heads : Sides → Kind → ℕ → List Part → List Subtable → Format Contents
after_heads material kind byte parts heads = maps_field kind heads >>= λ found. after_maps material kind byte parts heads found

abbrev after_fill : Sides → Kind → ℕ → List Part → Format Contents
after_fill material kind byte parts = each head_field (slots material kind parts) >>= λ heads. after_heads material kind byte parts heads

abbrev after_parts : Sides → Kind → ℕ → List Part → Format Contents
after_parts material kind byte parts = filled_to 2 >>= λ _. after_fill material kind byte parts

abbrev after_byte4 : Sides → Kind → ℕ → Format Contents
after_byte4 material kind byte = each (λ _. part_field material kind) (part_numbers material) >>= λ parts. after_parts material kind byte parts

abbrev after_magic : Sides → Kind → Format Contents
after_magic material kind = byte4_field material kind >>= λ byte. after_byte4 material kind byte

pub sections_are_good : SectionsAreGood
sections_are_good t filled h =
    let m : Sides = t.material in
    let k : Kind = t.kind in
    let b : ℕ = t.byte4 in
    let ps : List Part = t.parts in
    let ss : List Subtable = t.subtables in
    let os : List (Option Map) = t.maps in
    let W : Contents → Type 0 = Is t in
    let xs : List Slot = slots m k ps in
    let heads : List Subtable = map begun_of ss in
    let z10 : List Section = padding 64 ∷ written t.last ∷ [] in
    let z9 : List Section = flat_map blocks_sections ss ++ z10 in
    let z8 : List Section = flat_map lengths_sections ss ++ z9 in
    let z7 : List Section = flat_map sparse_sections ss ++ z8 in
    let z6 : List Section = maps_sections k os ++ z7 in
    let z5 : List Section = flat_map head_sections ss ++ z6 in
    let z3 : List Section = flat_map part_sections ps ++ (padding 2 ∷ z5) in
    let p10 : At (after_blocks m k b ps os ss) z10 W =
    at_next (filled_to 64) (λ _. field 16 means >>= λ last. means (table_of m k b ps ss os last)) (padding 64 ∷ []) (written t.last ∷ []) tt W (at_filled 64)
    (at_next (field 16 means) (λ last. means (table_of m k b ps ss os last)) (written t.last ∷ []) [] t.last W
    (at_of (field 16 means) (λ last. written last ∷ []) (AreBytes 16) t.last (complete_bytes 16) h.last) (at_means t)) in
    let p7 : At (after_maps m k b ps heads os) z7 W =
    at_then (each sparse_field (begun xs heads)) (λ indexed. after_indexes m k b ps os indexed) (flat_map sparse_sections ss) z8 (λ bs. SideBySide (IsStage indexed_of) bs (slotted xs ss)) W
    (at_indexes xs ss h.subtables)
    (λ indexed stage.
    at_then (each lengths_field indexed) (λ measured. after_lengths m k b ps os measured) (flat_map lengths_sections ss) z9 (λ bs. SideBySide (IsStage measured_of) bs (slotted xs ss)) W
    (at_all_lengths xs ss indexed h.subtables stage)
    (λ measured stage'.
    at_next (each blocks_field measured) (λ subtables. after_blocks m k b ps os subtables) (flat_map blocks_sections ss) z10 ss W
    (at_all_blocks xs ss measured h.subtables stage') p10)) in
    let p6 : At (after_heads m k b ps heads) z6 W =
    at_next (maps_field k heads) (λ found. after_maps m k b ps heads found) (maps_sections k os) z7 os W (at_maps k heads os (are_maps k ss os h.maps)) p7 in
    let p5 : At (after_fill m k b ps) z5 W =
    at_next (each head_field xs) (λ heads. after_heads m k b ps heads) (flat_map head_sections ss) z6 heads W (at_heads xs ss h.subtables) p6 in
    let p4 : At (after_parts m k b ps) (padding 2 ∷ z5) W =
    at_next (filled_to 2) (λ _. after_fill m k b ps) (padding 2 ∷ []) z5 tt W (at_filled 2) p5 in
    let p3 : At (after_byte4 m k b) z3 W =
    at_next (each (λ _. part_field m k) (part_numbers m)) (λ parts. after_parts m k b parts) (flat_map part_sections ps) (padding 2 ∷ z5) ps W (at_parts m k (part_numbers m) ps h.parts) p4 in
    let p2 : At (after_magic m k) (written (b ∷ []) ∷ z3) W =
    at_next (byte4_field m k) (λ byte. after_byte4 m k byte) (written (b ∷ []) ∷ []) z3 b W (at_byte4 m k b h.byte4 h.split h.pawns) p3 in
    let all : At (file m k) (written (magic_of k) ∷ written (b ∷ []) ∷ z3) W =
    at_next (magic_field k) (λ _. after_magic m k) (written (magic_of k) ∷ []) (written (b ∷ []) ∷ z3) tt W (at_magic k) p2 in
    let regrouped : written (magic_of k) ∷ written (b ∷ []) ∷ z3 ≡ sections t = simp append_assoc in
    subst (λ (z : List Section). At (file m k) z W) regrouped all

-- The format accepts the file of an accepted table, whatever follows it. No assumption is left.
pub accepted_file_is_good : FileIsGood
accepted_file_is_good = file_is_good sections_are_good

pub files_name_tables : OneFileOneTable
files_name_tables = one_file_one_table accepted_file_is_good

pub files_begin_no_others : NoFileBeginsAnother
files_begin_no_others = no_file_begins_another accepted_file_is_good

pub cut_files_are_truncated : CutFileIsTruncated
cut_files_are_truncated = cut_file_is_truncated accepted_file_is_good
