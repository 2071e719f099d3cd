-- Tables in place: their rows, and the subtables that their checks saw.
use Rattle.std.proofs.Common.{◌≡◌, ℕ, zero, suc, ◌+◌, ◌-◌, ◌*◌, ◌<◌, ◌≤◌, min, List, [], ◌∷◌, ◌^◌, length, take, drop, map, refl, ap, sym, subst, ◌∙◌, arith, Option, None, Some, option_map, drop-drop}
use Rattle.std.specs.Prelude.{Bool, position, slice_get, slice_index}
use Rattle.std.proofs.lemmas.Option.{get_or_from_slice_get, slice_get-map, slice_get_past}
use Rattle.szg_block.specs.Block.{needed, block_values}
use Rattle.szg_block.specs.Indexed.{IsSoundIndex}
use Rattle.szg_block.specs.Layout.{Layout}
use Rattle.szg_block.specs.Steps.{block_location}
use Rattle.szg_block.specs.Subtable.{layout_from, layout_of, HasSoundIndex, IsShapedHead}
use Rattle.szg_block.specs.declared.Sub.{Sub}
use Rattle.szg_block.specs.declared.Sub.TheVariants.{Constant, Pairs}
use Rattle.szg_block.proofs.BlockValueLaws.{held_in, IsHeldAt}
use Rattle.szg_block.proofs.Parts.{needed-min}
use Rattle.szg_file.specs.Contents.{Head, Slot, Subtable, constant, items, pairs}
use Rattle.szg_file.specs.Accepted.{SideBySide}
use Rattle.szg_file.specs.Held.{subtable_of}
use Rattle.szg_file.specs.Index.{Index, slots_in}
use Rattle.szg_mapped.specs.InPlace.{entries_in, header_of, lengths_in, IsInPlace, Stands}
use Rattle.szg_file.specs.Placed.{blocks_size, whole_sub}
use Rattle.szg_file.specs.Unread.{front_at, IsUnread}
use Rattle.szg_mapped.specs.declared.in_place.SubInPlace.{SubInPlace}
use Rattle.szg_file.specs.declared.reading.dropping.PlacedSub.{PlacedSub}
use Rattle.szg_file.proofs.Openings.FrontFinds.{as_many_slots, one_front_found, IsFrontFound}
use Rattle.szg_file.proofs.Tables.TableFinds.{is_at, side_lengths}

-- ---- rows

-- a row of consecutive rows
items_at : (width count n : ℕ) (bytes : List ℕ) → n < count → slice_get (items width count bytes) n ≡ Some (take width (drop (width * n) bytes))
items_at width zero n bytes h = absurd (omega (arith, h))
items_at width (suc count) zero bytes h = let e : width * 0 ≡ 0 = omega arith in ap (λ (k : ℕ). Some (take width (drop k bytes))) (sym e)
items_at width (suc count) (suc n) bytes h =
    let e : width + width * n ≡ width * suc n = omega arith in
    items_at width count n (drop width bytes) (omega (arith, h)) ∙ ap (λ (z : List ℕ). Some (take width z)) (drop-drop (width * n) width bytes ∙ ap (λ (k : ℕ). drop k bytes) e)

pub length-items : (width count : ℕ) (bytes : List ℕ) → length (items width count bytes) ≡ count
length-items width zero bytes = refl
length-items width (suc count) bytes = ap (λ (n : ℕ). suc n) (length-items width count (drop width bytes))

-- rows, each decoded by `f`
module _ {X : Type 0} (f : List ℕ → X) (width count n : ℕ) (bytes : List ℕ) where
  pub row_at : n < count → slice_get (map f (items width count bytes)) n ≡ Some (f (take width (drop (width * n) bytes)))
  row_at h = slice_get-map f (items width count bytes) n ∙ ap (option_map f) (items_at width count n bytes h)

  pub row_past : count ≤ n → slice_get (map f (items width count bytes)) n ≡ None
  row_past h = slice_get-map f (items width count bytes) n ∙ ap (option_map f) (slice_get_past (items width count bytes) n (omega (arith, h, length-items width count bytes)))

-- ---- the header of a subtable that stands

-- two layouts have one header
pub record SameHead (l m : Layout) : Type 0 where
  pub block_bits : l.block_bits ≡ m.block_bits
  pub span_bits : l.span_bits ≡ m.span_bits
  pub blocks : l.blocks ≡ m.blocks
  pub code : l.code ≡ m.code
  pub entries : l.entries ≡ m.entries

abbrev head_in : Subtable → Option Head
head_in (constant flags byte) = None
head_in (pairs head sparse lengths packed) = Some head

pub constant_stands : (s t : Sub) → layout_of t ≡ None → subtable_of t ≡ header_of (subtable_of s) → layout_of s ≡ None
constant_stands (Constant flags byte) t none e = refl
constant_stands (Pairs flags block_bits span_bits extra blocks code dict sparse lengths packed) (Constant flags' byte) none e = absurd (cc (ap head_in e))
constant_stands (Pairs flags block_bits span_bits extra blocks code dict sparse lengths packed) (Pairs flags' block_bits' span_bits' extra' blocks' code' dict' sparse' lengths' packed') none e = absurd (cc none)

some_head : (a b : Head) → Some a ≡ Some b → a ≡ b
some_head a b e = cc e

some_layout : (a b : Layout) → Some a ≡ Some b → a ≡ b
some_layout a b e = cc e

-- the subtable that is in place has the same header
pub record IsHeadOf (s : Sub) (m : Layout) : Type 0 where
  pub layout : Layout
  pub is : layout_of s ≡ Some layout
  pub same : SameHead layout m

pub pairs_stand : (s t : Sub) (m : Layout) → layout_of t ≡ Some m → subtable_of t ≡ header_of (subtable_of s) → IsHeadOf s m
pairs_stand s (Constant flags byte) m is e = absurd (cc is)
pairs_stand (Constant flags byte) (Pairs flags' block_bits' span_bits' extra' blocks' code' dict' sparse' lengths' packed') m is e = absurd (cc (ap head_in e))
pairs_stand (Pairs flags block_bits span_bits extra blocks code dict sparse lengths packed) (Pairs flags' block_bits' span_bits' extra' blocks' code' dict' sparse' lengths' packed') m is e =
    let heads = some_head _ _ (ap head_in e) in
    let here = some_layout (layout_from block_bits' span_bits' extra' blocks' code' dict' sparse'.items lengths'.items) m is in
    record {
      layout = layout_from block_bits span_bits extra blocks code dict sparse.items lengths.items;
      is = refl;
      same = record {
        block_bits = sym (ap (λ (h : Head). h.block_bits) heads) ∙ ap (λ (l : Layout). l.block_bits) here;
        span_bits = sym (ap (λ (h : Head). h.span_bits) heads) ∙ ap (λ (l : Layout). l.span_bits) here;
        blocks = sym (ap (λ (h : Head). h.blocks) heads) ∙ ap (λ (l : Layout). l.blocks) here;
        code = sym (ap (λ (h : Head). h.code) heads) ∙ ap (λ (l : Layout). l.code) here;
        entries = sym (ap (λ (h : Head). h.entries) heads) ∙ ap (λ (l : Layout). l.entries) here;
      };
    }

-- ---- the index of a subtable that stands

module _ (placed : PlacedSub) (sub : SubInPlace) (stands : Stands placed sub) (size : ℕ) (shaped : IsShapedHead placed.sub size) (index : HasSoundIndex placed.sub size) (m : Layout) (is : layout_of sub.placed.sub ≡ Some m) where
  pub standing : IsHeadOf placed.sub m
  standing = pairs_stand placed.sub sub.placed.sub m is stands.head

  pub sound_in_place : IsSoundIndex (entries_in sub.index.sparse.now) (lengths_in sub.index.lengths.now) m.blocks m.span_bits standing.layout size
  sound_in_place =
      let there = standing.is in
      record {
        sparse_is = rw there at stands.sparse;
        lengths_are = rw there at stands.lengths;
        blocks_are = standing.same.blocks;
        span_bits_are = standing.same.span_bits;
        shaped = (rw there at shaped).1;
        total = (rw there at index).0;
        entries = (rw there at index).1;
      }

  module _ (i block item : ℕ) (below : i < size) (block_is : block ≡ (block_location standing.layout i).list) (item_is : item ≡ (block_location standing.layout i).item) where
    pub held : IsHeldAt standing.layout size i block item
    held = held_in standing.layout size i block item sound_in_place.total below block_is item_is

    pub needed_is : (length count : ℕ) → Some length ≡ slice_get (lengths_in sub.index.lengths.now) block → count ≡ min (length + 1) (size - (i - item)) → count ≡ needed standing.layout.lengths size block
    needed_is length count there is_min =
        let lengths : slice_get standing.layout.lengths block ≡ Some length = ap (λ (z : List ℕ). slice_get z block) sound_in_place.lengths_are ∙ sym there in
        let read : slice_index standing.layout.lengths block ≡ length = get_or_from_slice_get standing.layout.lengths block length 0 lengths in
        is_min ∙ ap (λ (n : ℕ). min (n + 1) (size - (i - item))) (sym read) ∙ ap (λ (n : ℕ). min (slice_index standing.layout.lengths block + 1) (size - n)) held.before ∙ sym (needed-min standing.layout.lengths size block)

-- ---- the subtable of a part's side

-- where an item of the second list is, the first has one
first_at : {A B : Type 0} (P : A → B → Type 0) (xs : List A) (ys : List B) → SideBySide P xs ys → (n : ℕ) (y : B) → slice_get ys n ≡ Some y → (x : A) × (slice_get xs n ≡ Some x) × P x y
first_at P [] [] h n y e = absurd (cc e)
first_at P (x ∷ xs) [] h n y e = absurd h
first_at P [] (y' ∷ ys) h n y e = absurd h
first_at P (x ∷ xs) (y' ∷ ys) h zero y e = let same : y' ≡ y = cc e in (x, refl, subst (λ z. P x z) same h.0)
first_at P (x ∷ xs) (y' ∷ ys) h (suc n) y e = first_at P xs ys h.1 n y e

-- the n-th slot is that of a part's side, and this subtable stands for it
pub record IsFoundInPlace (index : Index) (content : List ℕ) (part side : ℕ) (slot : Slot) (sub : SubInPlace) : Type 0 where
  pub placed : PlacedSub
  pub stands : Stands placed sub
  pub is : front_at index.material index.kind content part side ≡ Some (slot, whole_sub content placed)
  pub unread : IsUnread slot (whole_sub content placed)
  pub inside : placed.first + blocks_size placed.sub ≤ length content
  pub short : length content < 2 ^ 64

module _ (index : Index) (content : List ℕ) (subs : List SubInPlace) (h : IsInPlace index content subs) (placed : List Slot) (same : placed ≡ slots_in index) where
  kept_slots : placed ≡ slots_in h.kept.index
  kept_slots = same ∙ ap slots_in (sym h.index_is)

  pub as_many_subs : length placed ≡ length subs
  as_many_subs = ap (λ (z : List Slot). length z) kept_slots ∙ as_many_slots h.kept content h.front ∙ side_lengths Stands h.kept.subs subs h.subs_are

  pub found_in_place : (part side n : ℕ) (slot : Slot) (sub : SubInPlace) → position (is_at part side) placed ≡ Some n → slice_get placed n ≡ Some slot → slice_get subs n ≡ Some sub → IsFoundInPlace index content part side slot sub
  found_in_place part side n slot sub there at held =
      let first = first_at Stands h.kept.subs subs h.subs_are n sub held in
      let found = subst (λ (all : Bool). IsFrontFound h.kept content all part side slot first.0) h.whole (one_front_found h.kept placed h.kept.subs part side kept_slots refl content h.front slot first.0 (n, there, at, first.1)) in
      let whole : found.found.whole ≡ whole_sub content first.0 = sym found.found.kept_is in
      record {
        placed = first.0;
        stands = first.2;
        is = ap (λ (x : Index). front_at x.material x.kind content part side) (sym h.index_is) ∙ found.found.is ∙ ap (λ (s : Subtable). Some (slot, s)) whole;
        unread = subst (IsUnread slot) whole found.unread;
        inside = found.fits.inside;
        short = omega (arith, h.front.long, h.front.short);
      }

-- ---- the value

module _ (l m : Layout) (same : SameHead l m) (block : List ℕ) where
  pub same_values : block_values m block ≡ block_values l block
  unfolding block_values
  same_values = rw (same.code, same.entries) refl
