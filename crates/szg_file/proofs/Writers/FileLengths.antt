-- The length of a table's file, and its number of padding bytes: how they follow from the sections, and upper bounds.
use Rattle.std.proofs.Common.{◌≡◌, ℕ, zero, suc, ◌+◌, ◌-◌, ◌*◌, ◌%◌, ◌^◌, ◌<◌, ◌≤◌, Bool, true, false, cond, ◌&&◌, List, [], ◌∷◌, ◌++◌, length, take, drop, map, refl, sym, ap, subst, ◌∙◌, arith, Option, Some, None}
use Rattle.std.specs.Prelude.{flat_map, sum_by, IsTrue, replicate, nat_le}
use Rattle.std.specs.List.{AllByRecursion}
use Rattle.std.proofs.lemmas.List.{length-append, length-take, length-drop, length-map, length-replicate}
use Rattle.std.proofs.lemmas.List.Sums.{sum_by-cons}
use Rattle.std.proofs.lemmas.Bool.{leb-true}
use Rattle.std.proofs.Math.Nat.{mod-le, div-le_self, mul-le-mul, mul-le-mul_left}
use Rattle.std.proofs.Math.Pow.{pow_mono}
use Rattle.szg_values.specs.declared.Kind.{Kind}
use Rattle.szg_values.specs.declared.Kind.TheVariants.{Wdl, Dtz}
use Rattle.szg_values.specs.Men.{code_of}
use Rattle.szg_values.specs.Material.{Sides, IsMaterial, is_count, man_codes, has_pawns}
use Rattle.szg_count.specs.Groups.{has_other_pawns}
use Rattle.szg_block.specs.Layout.{SparseEntry}
use Rattle.szg_block.specs.Block.{start}
use Rattle.szg_block.specs.Sound.{entry_count}
use Rattle.szg_block.proofs.Deciding.{has_total-true}
use Rattle.szg_file.specs.Contents.{Part, Head, Subtable, constant, pairs, layout_of, Map, narrow, wide, Contents, bytes_of, gap, part_numbers, side_numbers, order_bytes, Slot, slots, slots_from, part_slots}
use Rattle.szg_file.specs.File.{magic_of}
use Rattle.szg_file.specs.FileOf.{Section, written, padding, spare, fill_of, bytes_with, joined, queried, part_sections, head_sections, list_sections, map_sections, maps_sections, sparse_sections, lengths_sections, blocks_sections, sections, file_of, fill_asked}
use Rattle.szg_file.specs.Accepted.{SideBySide, AreNumbers, AreBytes, IsPart, IsSubtable, IsPacked, IsMapOf, AreMaps, IsAccepted}
use Rattle.szg_file.specs.Tally.{length_of, end_of, fill_from}
use Rattle.szg_file.proofs.Readers.PartLaws.{few_either, few_sides, slot_of}

-- ---- offsets

-- the bytes of a section with enough padding bytes
chunk_length : (section : Section) (count : ℕ) (fill : List ℕ) → fill_of section count ≤ length fill →
    length (bytes_with section (take (fill_of section count) fill)) ≡ length_of section + fill_of section count
chunk_length (written bytes) count fill h = omega arith
chunk_length (padding unit) count fill h = omega (arith, length-take (gap unit count) fill, h)
chunk_length (spare size) count fill h = omega (arith, length-take size fill, h)

-- the text ends at the offset that the sections lead to, if there are enough padding bytes
joined-end : (s : List Section) (text fill : List ℕ) → fill_from (length text) s ≤ length fill → length (joined text s fill) ≡ end_of (length text) s
joined-end [] text fill h = refl
joined-end (section ∷ s) text fill h =
    let count : ℕ = fill_of section (length text) in
    let chunk : List ℕ = bytes_with section (take count fill) in
    let one : length chunk ≡ length_of section + count = chunk_length section (length text) fill (omega (arith, h)) in
    let next : length (text ++ chunk) ≡ length text + length_of section + count = omega (arith, one, length-append text chunk) in
    let left : fill_from (length (text ++ chunk)) s ≤ length (drop count fill) =
    subst (λ (p : ℕ). fill_from p s ≤ length (drop count fill)) (sym next) (omega (arith, h, length-drop count fill)) in
    joined-end s (text ++ chunk) (drop count fill) left ∙ ap (λ (p : ℕ). end_of p s) next

-- the bytes of a section whose padding bytes are zeros
zeros_length : (section : Section) (count : ℕ) → length (bytes_with section (replicate (fill_of section count) 0)) ≡ length_of section + fill_of section count
zeros_length (written bytes) count = omega arith
zeros_length (padding unit) count = length-replicate {A = ℕ} (gap unit count) 0 ∙ omega arith
zeros_length (spare size) count = length-replicate {A = ℕ} size 0 ∙ omega arith

-- the number of padding bytes depends on lengths alone
pub queried-from : (text : List ℕ) (s : List Section) → queried text s ≡ fill_from (length text) s
queried-from text [] = refl
queried-from text (section ∷ s) =
    let count : ℕ = fill_of section (length text) in
    let zeros : List ℕ = replicate count 0 in
    let chunk : List ℕ = bytes_with section zeros in
    let next : length (text ++ chunk) ≡ length text + length_of section + count = omega (arith, zeros_length section (length text), length-append text chunk) in
    ap (λ (n : ℕ). count + n) (queried-from (text ++ chunk) s ∙ ap (λ (p : ℕ). fill_from p s) next)

-- ---- sums over sections

abbrev pub total_of : (Section → ℕ) → List Section → ℕ
total_of of [] = 0
total_of of (section ∷ s) = of section + total_of of s

-- the most padding bytes that a section may have
abbrev pub most_of : Section → ℕ
most_of (written bytes) = 0
most_of (padding unit) = unit
most_of (spare size) = size

fill-most : (section : Section) (place : ℕ) → fill_of section place ≤ most_of section
fill-most (written bytes) place = omega arith
fill-most (padding unit) place = omega (arith, mod-le (unit - place % unit) unit)
fill-most (spare size) place = omega arith

fill_from-most : (s : List Section) (place : ℕ) → fill_from place s ≤ total_of most_of s
fill_from-most [] place = omega arith
fill_from-most (section ∷ s) place =
    let rest = fill_from-most s (place + length_of section + fill_of section place) in
    omega (arith, rest, fill-most section place)

end_of-total : (s : List Section) (place : ℕ) → end_of place s ≡ place + total_of length_of s + fill_from place s
end_of-total [] place = omega arith
end_of-total (section ∷ s) place =
    let rest = end_of-total s (place + length_of section + fill_of section place) in
    omega (arith, rest)

module _ (of : Section → ℕ) where
  total-append : (s t : List Section) → total_of of (s ++ t) ≡ total_of of s + total_of of t
  total-append [] t = omega arith
  total-append (section ∷ s) t = let rest = total-append s t in omega (arith, rest)

  total_each : {A : Type 0} (f : A → List Section) (most : ℕ) → ((x : A) → total_of of (f x) ≤ most) → (xs : List A) → total_of of (flat_map f xs) ≤ most * length xs
  total_each f most one [] = omega arith
  total_each f most one (x ∷ xs) =
      let here = one x in
      let rest = total_each f most one xs in
      let joint = total-append (f x) (flat_map f xs) in
      let more : most * suc (length xs) ≡ most + most * length xs = omega arith in
      omega (arith, here, rest, joint, more)

  total_all : {A : Type 0} (P : A → Type 0) (f : A → List Section) (most : ℕ) → ((x : A) → P x → total_of of (f x) ≤ most) → (xs : List A) → AllByRecursion P xs →
      total_of of (flat_map f xs) ≤ most * length xs
  total_all P f most one [] h = omega arith
  total_all P f most one (x ∷ xs) h =
      let here = one x h.0 in
      let rest = total_all P f most one xs h.1 in
      let joint = total-append (f x) (flat_map f xs) in
      let more : most * suc (length xs) ≡ most + most * length xs = omega arith in
      omega (arith, here, rest, joint, more)

  -- a section a part of a table
  total_sections : (t : Contents) → total_of of (sections t) ≡
      total_of of (written (magic_of t.kind) ∷ written (t.byte4 ∷ []) ∷ []) + total_of of (flat_map part_sections t.parts)
      + total_of of (padding 2 ∷ []) + total_of of (flat_map head_sections t.subtables) + total_of of (maps_sections t.kind t.maps)
      + total_of of (flat_map sparse_sections t.subtables) + total_of of (flat_map lengths_sections t.subtables)
      + total_of of (flat_map blocks_sections t.subtables) + total_of of (padding 64 ∷ written t.last ∷ [])
  total_sections t =
      let parts : List Section = written (magic_of t.kind) ∷ written (t.byte4 ∷ []) ∷ flat_map part_sections t.parts in
      let heads : List Section = padding 2 ∷ flat_map head_sections t.subtables in
      let maps : List Section = maps_sections t.kind t.maps in
      let indexes : List Section = flat_map sparse_sections t.subtables in
      let lengths : List Section = flat_map lengths_sections t.subtables in
      let blocks : List Section = flat_map blocks_sections t.subtables in
      let ending : List Section = padding 64 ∷ written t.last ∷ [] in
      omega (
        arith,
        total-append (((((parts ++ heads) ++ maps) ++ indexes) ++ lengths) ++ blocks) ending,
        total-append ((((parts ++ heads) ++ maps) ++ indexes) ++ lengths) blocks,
        total-append (((parts ++ heads) ++ maps) ++ indexes) lengths,
        total-append ((parts ++ heads) ++ maps) indexes,
        total-append (parts ++ heads) maps,
        total-append parts heads,
      )

  total_maps : (kind : Kind) (maps : List (Option Map)) → total_of of (maps_sections kind maps) ≤ total_of of (flat_map map_sections maps) + of (padding 2)
  total_maps Wdl maps = omega arith
  total_maps Dtz maps = omega (arith, total-append (flat_map map_sections maps) (padding 2 ∷ []))

-- ---- the number of padding bytes

none_each : {A : Type 0} (f : A → List Section) → ((x : A) → total_of most_of (f x) ≡ 0) → (xs : List A) → total_of most_of (flat_map f xs) ≡ 0
none_each f none xs = let most = total_each most_of f 0 (λ x. let here = none x in omega (arith, here)) xs in omega (arith, most)

head_fill : (s : Subtable) → total_of most_of (head_sections s) ≤ 1
head_fill (constant flags byte) = omega arith
head_fill (pairs head sparse lengths packed) = let odd : length head.entries % 2 < 2 = omega arith in omega (arith, odd)

sparse_fill : (s : Subtable) → total_of most_of (sparse_sections s) ≡ 0
sparse_fill (constant flags byte) = refl
sparse_fill (pairs head sparse lengths packed) = refl

lengths_fill : (s : Subtable) → total_of most_of (lengths_sections s) ≡ 0
lengths_fill (constant flags byte) = refl
lengths_fill (pairs head sparse lengths packed) = refl

blocks_fill : (s : Subtable) → total_of most_of (blocks_sections s) ≤ 64
blocks_fill (constant flags byte) = omega arith
blocks_fill (pairs head sparse lengths packed) = omega arith

map_fill : (m : Option Map) → total_of most_of (map_sections m) ≤ 2
map_fill None = omega arith
map_fill (Some (narrow lists)) = let none = none_each (list_sections 1) (λ list. refl) lists in omega (arith, none)
map_fill (Some (wide lists)) = let none = none_each (list_sections 2) (λ list. refl) lists in omega (arith, none)

pub few_filled : (t : Contents) → fill_from 0 (sections t) ≤ 65 * length t.subtables + 2 * length t.maps + 68
few_filled t = omega (
  arith,
  fill_from-most (sections t) 0,
  total_sections most_of t,
  none_each part_sections (λ part. refl) t.parts,
  total_each most_of head_sections 1 head_fill t.subtables,
  total_maps most_of t.kind t.maps,
  total_each most_of map_sections 2 map_fill t.maps,
  none_each sparse_sections sparse_fill t.subtables,
  none_each lengths_sections lengths_fill t.subtables,
  total_each most_of blocks_sections 64 blocks_fill t.subtables,
)

-- a list in memory whose items take at least 80 bytes each is short
pub few_held : (count size bytes : ℕ) → bytes ≡ count * size → bytes < 2 ^ 64 → 80 ≤ size → 80 * count < 2 ^ 64
few_held count size bytes e h large =
    let most : count * 80 ≤ count * size = mul-le-mul_left count large in
    omega (arith, most, e, h)

-- ---- parts

both_right : (a b : Bool) → IsTrue (a && b) → IsTrue b
both_right true b h = h
both_right false b h = absurd cc

few_men : (sides : Sides) → IsMaterial sides → length (man_codes sides) ≤ 6
few_men sides h =
    let number : ℕ = length sides.first + length sides.second in
    let count : IsTrue (is_count number) = both_right _ (is_count number) h in
    let most : IsTrue (nat_le number 6) = both_right (nat_le 3 number) (nat_le number 6) count in
    let bound : number ≤ 6 = leb-true number 6 most in
    omega (arith, bound, length-append (map code_of sides.first) (map (λ man. 8 + code_of man) sides.second), length-map sides.first code_of, length-map sides.second (λ man. 8 + code_of man))

few_orders : (sides : Sides) → order_bytes sides ≤ 2
few_orders sides = elim (has_other_pawns sides) as (λ b. cond b 2 1 ≤ 2) [ true ↦ omega arith | false ↦ omega arith ]

part_total : (sides : Sides) (kind : Kind) → IsMaterial sides → (number : ℕ) (part : Part) → IsPart sides kind part → total_of length_of (part_sections part) ≤ 8
part_total sides kind m number part h = omega (arith, h.order.0, h.men.0, few_men sides m, few_orders sides)

few_parts : (sides : Sides) → length (part_numbers sides) ≤ 4
few_parts sides = few_either (has_pawns sides) (0 ∷ 1 ∷ 2 ∷ 3 ∷ []) (0 ∷ []) 4 (omega arith) (omega arith)

few_slots : (material : Sides) (sides : List ℕ) → length sides ≤ 2 → (number : ℕ) (parts : List Part) → length (slots_from material sides number parts) ≤ 2 * length parts
few_slots material sides h number [] = omega arith
few_slots material sides h number (part ∷ parts) =
    let r = few_slots material sides h (number + 1) parts in
    omega (arith, h, r, length-append (part_slots material sides number part) (slots_from material sides (number + 1) parts), length-map sides (λ side. slot_of material number side part))

-- ---- subtables

pub pairs-length : (list : List ℕ) → length (flat_map (bytes_of 2) list) ≡ 2 * length list
pairs-length [] = omega arith
pairs-length (n ∷ list) = let h = pairs-length list in omega (arith, h)

pub ones-length : (list : List ℕ) → length (flat_map (bytes_of 1) list) ≡ length list
ones-length [] = omega arith
ones-length (n ∷ list) = let h = ones-length list in omega (arith, h)

pub entries-length : (entries : List (List ℕ)) → AllByRecursion (AreBytes 3) entries → length (flat_map (λ (entry : List ℕ). entry) entries) ≡ 3 * length entries
entries-length [] h = omega arith
entries-length (entry ∷ entries) h =
    let r = entries-length entries h.1 in
    omega (arith, r, h.0.0, length-append entry (flat_map (λ (entry : List ℕ). entry) entries))

pub sparse-length : (sparse : List SparseEntry) → length (flat_map (λ entry. bytes_of 4 entry.block ++ bytes_of 2 entry.offset) sparse) ≡ 6 * length sparse
sparse-length [] = omega arith
sparse-length (entry ∷ sparse) = let h = sparse-length sparse in omega (arith, h)

-- `count` blocks have at most 65,536 values each
values-below : (count : ℕ) (lengths : List ℕ) → AreNumbers 2 lengths → sum_by (λ n. n + 1) (take count lengths) ≤ 65536 * count
values-below zero lengths h = omega arith
values-below (suc count) [] h = omega arith
values-below (suc count) (n ∷ lengths) h =
    let r = values-below count lengths h.1 in
    let small : n < 65536 = h.0 in
    omega (arith, r, small, sum_by-cons (λ n. n + 1) n (take count lengths))

size-below : (head : Head) (sparse : List SparseEntry) (lengths packed : List ℕ) (size : ℕ) → IsPacked size head sparse lengths packed → size ≤ 2 ^ 48
unfolding start
size-below head sparse lengths packed size h =
    let total : size ≤ sum_by (λ n. n + 1) (take head.blocks lengths) = has_total-true (layout_of head sparse lengths) size h.index.0 in
    omega (arith, total, values-below head.blocks lengths h.lengths_fit, h.head_is_valid.blocks)

few_entries : (bits size : ℕ) → bits ≤ 31 → size ≤ 2 ^ 48 → entry_count bits size ≤ 2 ^ 49
unfolding entry_count
few_entries bits size h k =
    let power : 2 ^ bits ≤ 2 ^ 31 = pow_mono h in
    omega (arith, k, power, div-le_self (size + 2 ^ bits - 1) (2 ^ bits))

packed-below : (blocks bits : ℕ) → blocks < 2 ^ 32 → bits ≤ 18 → blocks * 2 ^ bits ≤ 2 ^ 50
packed-below blocks bits h k =
    let power : 2 ^ bits ≤ 2 ^ 18 = pow_mono k in
    let most : blocks ≤ 2 ^ 32 = omega (arith, h) in
    let product : blocks * 2 ^ bits ≤ 2 ^ 32 * 2 ^ 18 = mul-le-mul most power in
    omega (arith, product)

-- items side by side with others, with a bound on each
beside-length : {A B : Type 0} (P : B → A → Type 0) (ys : List B) (xs : List A) → SideBySide P ys xs → length xs ≡ length ys
beside-length P [] [] h = refl
beside-length P [] (x ∷ xs) h = absurd h
beside-length P (y ∷ ys) [] h = absurd h
beside-length P (y ∷ ys) (x ∷ xs) h = ap suc (beside-length P ys xs h.1)

total_beside : {A B : Type 0} (P : B → A → Type 0) (f : A → List Section) (most : ℕ) → ((y : B) (x : A) → P y x → total_of length_of (f x) ≤ most) →
    (ys : List B) (xs : List A) → SideBySide P ys xs → total_of length_of (flat_map f xs) ≤ most * length ys
total_beside P f most one [] [] h = omega arith
total_beside P f most one [] (x ∷ xs) h = absurd h
total_beside P f most one (y ∷ ys) [] h = absurd h
total_beside P f most one (y ∷ ys) (x ∷ xs) h =
    let here = one y x h.0 in
    let rest = total_beside P f most one ys xs h.1 in
    let joint = total-append length_of (f x) (flat_map f xs) in
    let more : most * suc (length ys) ≡ most + most * length ys = omega arith in
    omega (arith, here, rest, joint, more)

-- a table's file ends where its sections lead to
pub file_length : (t : Contents) (fill : List ℕ) → IsAccepted t fill → length (file_of t fill) ≡ end_of 0 (sections t)
unfolding file_of fill_asked
file_length t fill h =
    let enough : fill_from 0 (sections t) ≤ length fill = let due = h.fill_fits.0 in omega (arith, due, queried-from [] (sections t)) in
    joined-end (sections t) [] fill enough

head_total : (slot : Slot) (s : Subtable) → IsSubtable slot s → total_of length_of (head_sections s) ≤ 2 ^ 20
head_total slot (constant flags byte) h = omega arith
head_total slot (pairs head sparse lengths packed) h =
    omega (arith, pairs-length head.code.lowest, entries-length head.entries h.head_is_valid.entries, h.head_is_valid.symbols_fit, h.head_is_valid.code.lengths, h.head_is_valid.code.longest)

sparse_total : (slot : Slot) (s : Subtable) → IsSubtable slot s → total_of length_of (sparse_sections s) ≤ 2 ^ 52
sparse_total slot (constant flags byte) h = omega arith
sparse_total slot (pairs head sparse lengths packed) h =
    let size : slot.size ≤ 2 ^ 48 = size-below head sparse lengths packed slot.size h in
    omega (arith, sparse-length sparse, h.sparse_count, few_entries head.span_bits slot.size h.head_is_valid.span_bits size)

lengths_total : (slot : Slot) (s : Subtable) → IsSubtable slot s → total_of length_of (lengths_sections s) ≤ 2 ^ 34
lengths_total slot (constant flags byte) h = omega arith
lengths_total slot (pairs head sparse lengths packed) h =
    omega (arith, pairs-length lengths, h.lengths_count, h.head_is_valid.blocks, h.head_is_valid.extra)

blocks_total : (slot : Slot) (s : Subtable) → IsSubtable slot s → total_of length_of (blocks_sections s) ≤ 2 ^ 50
blocks_total slot (constant flags byte) h = omega arith
blocks_total slot (pairs head sparse lengths packed) h =
    omega (arith, h.packed_bytes.0, packed-below head.blocks head.block_bits h.head_is_valid.blocks h.head_is_valid.block_bits)

-- ---- maps

map_total : (s : Subtable) (o : Option Map) → IsMapOf s o → total_of length_of (map_sections o) ≤ 2 ^ 20
map_total s None h = omega arith
map_total s (Some (narrow lists)) h =
    let each = total_all length_of (λ list. (length list < 256 ^ 1) × AreNumbers 1 list) (list_sections 1) 256
    (λ list fits. let short : length list < 256 = fits.0 in omega (arith, short, ones-length list)) lists h.2.1 in
    omega (arith, each, h.2.0)
map_total s (Some (wide lists)) h =
    let each = total_all length_of (λ list. (length list < 256 ^ 2) × AreNumbers 2 list) (list_sections 2) 131072
    (λ list fits. let short : length list < 65536 = fits.0 in omega (arith, short, pairs-length list)) lists h.2.1 in
    omega (arith, each, h.2.0)

maps_total : (kind : Kind) (subs : List Subtable) (maps : List (Option Map)) → AreMaps kind subs maps →
    (total_of length_of (flat_map map_sections maps) ≤ 2 ^ 20 * length subs) × (length maps ≤ length subs)
maps_total Wdl subs maps h = subst (λ (z : List (Option Map)). (total_of length_of (flat_map map_sections z) ≤ 2 ^ 20 * length subs) × (length z ≤ length subs)) (sym h) (omega arith, omega arith)
maps_total Dtz subs maps h =
    (total_beside IsMapOf map_sections (2 ^ 20) map_total subs maps h, let same = beside-length IsMapOf subs maps h in omega (arith, same))

-- ---- the whole file

magic-length : (kind : Kind) → length (magic_of kind) ≡ 4
magic-length Wdl = refl
magic-length Dtz = refl

pub short_file : (t : Contents) (fill : List ℕ) → IsMaterial t.material → IsAccepted t fill → length (file_of t fill) < 2 ^ 60
unfolding file_of fill_asked
short_file t fill material h =
    let places : List Slot = slots t.material t.kind t.parts in
    let number = beside-length (λ (_ : ℕ) (part : Part). IsPart t.material t.kind part) (part_numbers t.material) t.parts h.parts in
    let few : length places ≤ 8 = omega (arith, few_slots t.material (side_numbers t.material t.kind) (few_sides t.material t.kind) 0 t.parts, number, few_parts t.material) in
    let subs = beside-length IsSubtable places t.subtables h.subtables in
    let maps = maps_total t.kind t.subtables t.maps h.maps in
    let whole = file_length t fill h in
    omega (
      arith,
      whole,
      few,
      subs,
      maps.0,
      maps.1,
      end_of-total (sections t) 0,
      few_filled t,
      total_sections length_of t,
      magic-length t.kind,
      h.last.0,
      total_beside (λ (_ : ℕ) (part : Part). IsPart t.material t.kind part) part_sections 8 (λ (n : ℕ) (part : Part) q. part_total t.material t.kind material n part q) (part_numbers t.material) t.parts h.parts,
      few_parts t.material,
      total_maps length_of t.kind t.maps,
      total_beside IsSubtable head_sections (2 ^ 20) head_total places t.subtables h.subtables,
      total_beside IsSubtable sparse_sections (2 ^ 52) sparse_total places t.subtables h.subtables,
      total_beside IsSubtable lengths_sections (2 ^ 34) lengths_total places t.subtables h.subtables,
      total_beside IsSubtable blocks_sections (2 ^ 50) blocks_total places t.subtables h.subtables,
    )
