-- The values of a table in memory, a block at a time.
use Rattle.std.proofs.Common.{◌≡◌, ℕ, suc, ◌+◌, ◌-◌, ◌<◌, ◌≤◌, true, false, cond, ◌&&◌, nat_eq, List, [], ◌∷◌, ◌++◌, flat_map, refl, sym, ap, subst, ◌∙◌, arith, Some, None, Option, option_map}
use Rattle.std.specs.Prelude.{IsSome, IsSomeAnd}
use Rattle.std.specs.List.{range_with_len}
use Rattle.szg_values.specs.declared.Kind.{Kind}
use Rattle.szg_block.specs.Expansion.{needed_values, joined_values}
use Rattle.szg_block.specs.Layout.{Layout}
use Rattle.szg_block.specs.Subtable.{layout_from, layout_of, packed_of, IsShaped, IsSoundOver}
use Rattle.szg_block.specs.declared.Sub.{Sub}
use Rattle.szg_block.specs.declared.Sub.TheVariants.{Constant, Pairs}
use Rattle.szg_file.specs.Accepted.{IsAccepted, IsSubtable, SideBySide}
use Rattle.szg_file.specs.Contents.{Contents, Slot, Subtable, slots}
use Rattle.szg_file.specs.Held.{subtable_of}
use Rattle.szg_file.specs.Values.{found, slotted, subtable_at, values_in, values_of}
use Rattle.szg_file.proofs.Tables.TableFinds.{shaped_and_sound}
use Rattle.szg_build.specs.BlockValues.{left_of, values_on}

-- ---- blocks

-- the values of the next block come first
pub values_next : (layout : Layout) (packed : List ℕ) (size n : ℕ) → n < layout.blocks →
    values_on layout packed size n ≡ needed_values layout packed size n ++ values_on layout packed size (n + 1)
unfolding values_on
values_next layout packed size n h =
    let left : layout.blocks - n ≡ suc (layout.blocks - (n + 1)) = omega arith in
    ap (λ (k : ℕ). flat_map (needed_values layout packed size) (range_with_len n k)) left

-- from the first block on: all values
pub values_all : (layout : Layout) (packed : List ℕ) (size : ℕ) → values_on layout packed size 0 ≡ joined_values layout packed size
unfolding values_on joined_values
values_all layout packed size =
    let all : layout.blocks - 0 ≡ layout.blocks = omega arith in
    ap (λ (k : ℕ). flat_map (needed_values layout packed size) (range_with_len 0 k)) all

-- after the last block: none
pub values_done : (layout : Layout) (packed : List ℕ) (size n : ℕ) → layout.blocks ≤ n → values_on layout packed size n ≡ []
unfolding values_on
values_done layout packed size n h =
    let none : layout.blocks - n ≡ 0 = omega arith in
    ap (λ (k : ℕ). flat_map (needed_values layout packed size) (range_with_len n k)) none

-- ---- the subtable of a part and side

found_is_valid : (P : Slot → Subtable → Type 0) (part side : ℕ) (xs : List Slot) (ys : List Subtable) (pair : Slot × Subtable) → SideBySide P xs ys →
    found part side (slotted xs ys) ≡ Some pair → P pair.0 pair.1
found_is_valid P part side [] ys pair h e = absurd (cc e)
found_is_valid P part side (x ∷ xs) [] pair h e = absurd (cc e)
found_is_valid P part side (x ∷ xs) (y ∷ ys) pair h e =
    elim (nat_eq x.part part && nat_eq x.side side)
    as (λ b. cond b (Some (x, y)) (found part side (slotted xs ys)) ≡ Some pair → P pair.0 pair.1)
    [ true ↦ (λ s. let same : (x, y) ≡ pair = cc s in subst (λ (z : Slot × Subtable). P z.0 z.1) same h.0) | false ↦ (λ s. found_is_valid P part side xs ys pair h.1 s) ]
    e

-- its size and its content
pub there_of : (o : Option (Slot × Subtable)) (size : ℕ) (s : Subtable) → Some size ≡ option_map (λ found. found.0.size) o → Some s ≡ option_map (λ found. found.1) o →
    (pair : Slot × Subtable) × (o ≡ Some pair) × (pair.0.size ≡ size) × (pair.1 ≡ s)
there_of None size s a b = absurd (cc a)
there_of (Some pair) size s a b = (pair, refl, cc (sym a), cc (sym b))

pub sound_there : (t : Contents) (filled : List ℕ) (part side size : ℕ) (sub : Sub) → IsAccepted t filled →
    Some size ≡ option_map (λ found. found.0.size) (subtable_at t part side) → Some (subtable_of sub) ≡ option_map (λ found. found.1) (subtable_at t part side) →
    IsShaped sub size × IsSoundOver sub (packed_of sub) size
sound_there t filled part side size sub accepted sized held =
    let there = there_of (subtable_at t part side) size (subtable_of sub) sized held in
    let pair : Slot × Subtable = there.0 in
    let is_valid : IsSubtable pair.0 pair.1 = found_is_valid IsSubtable part side (slots t.material t.kind t.parts) t.subtables pair accepted.subtables there.1 in
    subst (λ (k : ℕ). IsShaped sub k × IsSoundOver sub (packed_of sub) k) there.2
    (shaped_and_sound pair.0 sub (subst (λ (s : Subtable). IsSubtable pair.0 s) there.3 is_valid))

-- its values
pub values_there : (t : Contents) (part side size : ℕ) (s : Subtable) (values : List ℕ) →
    Some size ≡ option_map (λ found. found.0.size) (subtable_at t part side) → Some s ≡ option_map (λ found. found.1) (subtable_at t part side) → values ≡ values_in t.kind size s →
    IsSomeAnd (subtable_at t part side) (λ found. values ≡ values_of t.kind found)
values_there t part side size s values sized held e =
    let there = there_of (subtable_at t part side) size s sized held in
    let pair : Slot × Subtable = there.0 in
    let same : values ≡ values_of t.kind pair =
    e ∙ ap (λ (k : ℕ). values_in t.kind k s) (sym there.2) ∙ ap (λ (z : Subtable). values_in t.kind pair.0.size z) (sym there.3) in
    subst (λ (o : Option (Slot × Subtable)). IsSomeAnd o (λ found. values ≡ values_of t.kind found)) (sym there.1) same

-- those of its blocks
pub blocks_values : (kind : Kind) (sub : Sub) (size : ℕ) → IsSome (layout_of sub) → (left_of sub size 0).values ≡ values_in kind size (subtable_of sub)
blocks_values kind (Constant flags byte) size e = absurd (cc e)
blocks_values kind (Pairs flags block_bits span_bits extra blocks code dict sparse lengths packed) size e =
    values_all (layout_from block_bits span_bits extra blocks code dict sparse.items lengths.items) packed.items size
