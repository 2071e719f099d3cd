-- A value of a table in place: its subtable's header, and the block that was decoded.
use Rattle.std.proofs.Common.{◌≡◌, ℕ, ◌+◌, ◌*◌, ◌^◌, ◌<◌, ◌≤◌, ◌⊎◌, inl, inr, List, length, refl, ap, sym, subst, ◌∙◌, arith, Option, None, Some, get_or}
use Rattle.std.specs.Prelude.{Bool, IfSome, IsSomeAnd, IsTrue, option_and_then, position, slice_get}
use Rattle.std.proofs.lemmas.List.Quantifiers.{position-Some}
use Rattle.std.proofs.lemmas.Option.{slice_get_read}
use Rattle.szg_code.specs.Acceptance.{IsCode}
use Rattle.szg_block.specs.Block.{needed, block_values}
use Rattle.szg_block.specs.BlocksTrait.{bytes_at}
use Rattle.szg_block.specs.Layout.{Layout}
use Rattle.szg_block.specs.Sound.{SpellsNeeded}
use Rattle.szg_block.specs.Steps.{block_location}
use Rattle.szg_block.specs.Subtable.{layout_from, layout_of, HasSoundIndex, IsShapedHead}
use Rattle.szg_block.specs.declared.Sub.{Sub}
use Rattle.szg_block.specs.declared.Sub.TheVariants.{Constant, Pairs}
use Rattle.szg_block.proofs.Parts.{needed_spelled, spelled_needed}
use Rattle.szg_block.proofs.Spelling.{block_values-spelled}
use Rattle.szg_file.specs.Contents.{Slot, Subtable, constant, pairs}
use Rattle.szg_file.specs.Fetching.{NamesBadBlock}
use Rattle.szg_file.specs.Held.{subtable_of}
use Rattle.szg_file.specs.Index.{Index, slot_in, slots_in}
use Rattle.szg_mapped.specs.InPlace.{header_of, IsInPlace, IsNeededBlock}
use Rattle.szg_file.specs.Lookup.{byte_of}
use Rattle.szg_mapped.specs.Passed.{ArePassed, BlockPasses, IsNoted}
use Rattle.szg_file.specs.Placed.{blocks_size, whole_sub}
use Rattle.szg_file.specs.Unread.{front_at, IsDecoded, IsUnread}
use Rattle.szg_file.specs.Values.{constant_value}
use Rattle.szg_file.specs.declared.opened.fetching.FetchFault.TheVariants.{Block}
use Rattle.szg_mapped.specs.declared.in_place.NeededBlock.{NeededBlock}
use Rattle.szg_mapped.specs.declared.in_place.SubInPlace.{SubInPlace}
use Rattle.szg_mapped.specs.declared.passed.Passed.{Passed}
use Rattle.szg_file.specs.declared.reading.dropping.PlacedSub.{PlacedSub}
use Rattle.szg_file.proofs.Openings.FrontFinds.{bad_named, constant_decoded, unread_known, value_decoded}
use Rattle.szg_mapped.proofs.InPlaceLaws.{as_many_subs, constant_stands, found_in_place, pairs_stand, same_values, IsFoundInPlace, SameHead}
use Rattle.szg_mapped.proofs.PassedLaws.{one_more_passed, passed_spells, spells_passed, spot_counted}
use Rattle.szg_file.proofs.Readers.PlacedSubs.{placed_at}
use Rattle.szg_file.proofs.Tables.SoundLaws.{accepted_code}
use Rattle.szg_file.proofs.Tables.TableFinds.{is_at}

-- ---- the header

abbrev is_constant_in : Subtable → ℕ
is_constant_in (constant flags byte) = 1
is_constant_in (pairs head sparse lengths packed) = 0

abbrev byte_in : Subtable → ℕ
byte_in (constant flags byte) = byte
byte_in (pairs head sparse lengths packed) = 0

pub same_byte : (s t : Sub) → subtable_of t ≡ header_of (subtable_of s) → byte_of t ≡ byte_of s
same_byte (Constant flags byte) (Constant flags' byte') e = ap byte_in e
same_byte (Constant flags byte) (Pairs flags' block_bits' span_bits' extra' blocks' code' dict' sparse' lengths' packed') e = ap byte_in e
same_byte (Pairs flags block_bits span_bits extra blocks code dict sparse lengths packed) (Constant flags' byte') e = ap byte_in e
same_byte (Pairs flags block_bits span_bits extra blocks code dict sparse lengths packed) (Pairs flags' block_bits' span_bits' extra' blocks' code' dict' sparse' lengths' packed') e = refl

abbrev size_in : Subtable → ℕ
size_in (constant flags byte) = 0
size_in (pairs head sparse lengths packed) = head.blocks * 2 ^ head.block_bits

pub same_size : (s t : Sub) → subtable_of t ≡ header_of (subtable_of s) → blocks_size t ≡ blocks_size s
same_size (Constant flags byte) (Constant flags' byte') e = ap size_in e
same_size (Constant flags byte) (Pairs flags' block_bits' span_bits' extra' blocks' code' dict' sparse' lengths' packed') e = ap size_in e
same_size (Pairs flags block_bits span_bits extra blocks code dict sparse lengths packed) (Constant flags' byte') e = ap size_in e
same_size (Pairs flags block_bits span_bits extra blocks code dict sparse lengths packed) (Pairs flags' block_bits' span_bits' extra' blocks' code' dict' sparse' lengths' packed') e = ap size_in e

one_zero : ◌≡◌ {A = ℕ} 1 0 → ⊥
one_zero e = omega (arith, e)

pub constant_held : (s t : Sub) → subtable_of t ≡ header_of (subtable_of s) → layout_of s ≡ None → layout_of t ≡ None
constant_held s (Constant flags' byte') e none = refl
constant_held (Constant flags byte) (Pairs flags' block_bits' span_bits' extra' blocks' code' dict' sparse' lengths' packed') e none = absurd (one_zero (sym (ap is_constant_in e)))
constant_held (Pairs flags block_bits span_bits extra blocks code dict sparse lengths packed) (Pairs flags' block_bits' span_bits' extra' blocks' code' dict' sparse' lengths' packed') e none = absurd (cc none)

-- what follows of the header that is in place holds of the subtable
pub of_place : (s t : Sub) → subtable_of t ≡ header_of (subtable_of s) → (P Q : Layout → Type 0) → ((l m : Layout) → layout_of s ≡ Some l → SameHead l m → P m → Q l) → IfSome (layout_of t) P → IfSome (layout_of s) Q
of_place (Constant flags byte) t e P Q f h = tt
of_place (Pairs flags block_bits span_bits extra blocks code dict sparse lengths packed) (Constant flags' byte') e P Q f h = absurd (one_zero (ap is_constant_in e))
of_place (Pairs flags block_bits span_bits extra blocks code dict sparse lengths packed) (Pairs flags' block_bits' span_bits' extra' blocks' code' dict' sparse' lengths' packed') e P Q f h =
    let s : Sub = Pairs flags block_bits span_bits extra blocks code dict sparse lengths packed in
    let t : Sub = Pairs flags' block_bits' span_bits' extra' blocks' code' dict' sparse' lengths' packed' in
    let m : Layout = layout_from block_bits' span_bits' extra' blocks' code' dict' sparse'.items lengths'.items in
    let stands = pairs_stand s t m refl e in
    subst (λ (o : Option Layout). IfSome o Q) (sym stands.is) (f stands.layout m stands.is stands.same h)

-- and back
pub in_place_of : (s t : Sub) → subtable_of t ≡ header_of (subtable_of s) → (P Q : Layout → Type 0) → ((l m : Layout) → SameHead l m → P l → Q m) → IfSome (layout_of s) P → IfSome (layout_of t) Q
in_place_of s (Constant flags' byte') e P Q f h = tt
in_place_of (Constant flags byte) (Pairs flags' block_bits' span_bits' extra' blocks' code' dict' sparse' lengths' packed') e P Q f h = absurd (one_zero (sym (ap is_constant_in e)))
in_place_of (Pairs flags block_bits span_bits extra blocks code dict sparse lengths packed) (Pairs flags' block_bits' span_bits' extra' blocks' code' dict' sparse' lengths' packed') e P Q f h =
    let s : Sub = Pairs flags block_bits span_bits extra blocks code dict sparse lengths packed in
    let t : Sub = Pairs flags' block_bits' span_bits' extra' blocks' code' dict' sparse' lengths' packed' in
    let m : Layout = layout_from block_bits' span_bits' extra' blocks' code' dict' sparse'.items lengths'.items in
    let stands = pairs_stand s t m refl e in
    f stands.layout m stands.same (subst (λ (o : Option Layout). IfSome o P) stands.is h)

module _ (s t : Sub) (e : subtable_of t ≡ header_of (subtable_of s)) (size : ℕ) (shaped : IsShapedHead s size) where
  pub few_bits : IfSome (layout_of t) (λ layout. (layout.block_bits ≤ 18) × (layout.span_bits ≤ 31))
  few_bits = in_place_of s t e _ _ (λ l m same h. let bits = h.block_bits in let span = h.span_bits in (omega (arith, bits, same.block_bits), omega (arith, span, same.span_bits))) shaped.1

  pub has_symbols : IfSome (layout_of t) (λ layout. layout.code.symbols ≡ length layout.entries)
  has_symbols = in_place_of s t e _ _ (λ l m same h. ap (λ c. c.symbols) (sym same.code) ∙ h.symbols ∙ ap (λ (z : List (List ℕ)). length z) same.entries) shaped.1

pub unread_code : (slot : Slot) (content : List ℕ) (sub : Sub) (first : ℕ) → IsUnread slot (whole_sub content (placed_at sub first)) → IfSome (layout_of sub) (λ layout. IsCode layout.code)
unread_code slot content (Constant flags byte) first h = tt
unread_code slot content (Pairs flags block_bits span_bits extra blocks code dict sparse lengths packed) first h = accepted_code code h.0.code

-- ---- the block

pub not_none : {A : Type 0} (o : Option A) (P : A → Type 0) → (o ≡ None → ⊥) → IfSome o P → IsSomeAnd o P
not_none None P some h = absurd (some refl)
not_none (Some a) P some h = h

-- an item of a block, which is that of value i
item_of : (o : Option Layout) (l : Layout) (at : Layout → ℕ) (item : ℕ) → o ≡ Some l → IsSomeAnd o (λ layout. item ≡ at layout) → item ≡ at l
item_of o l at item is h = rw is at h

needed_of : (o : Option Layout) (l : Layout) (at : Layout → ℕ) (n : ℕ) → o ≡ Some l → IfSome o (λ layout. n ≡ at layout) → n ≡ at l
needed_of o l at n is h = rw is at h

code_of : (o : Option Layout) (l : Layout) → o ≡ Some l → IfSome o (λ layout. IsCode layout.code) → IsCode l.code
code_of o l is h = rw is at h

module _ (placed : PlacedSub) (t : Sub) (e : subtable_of t ≡ header_of (subtable_of placed.sub)) (size i : ℕ) (found : NeededBlock) (is : IsNeededBlock placed size i found) (block : List ℕ) where
  needs : (l : Layout) → layout_of placed.sub ≡ Some l → found.needed ≡ needed l.lengths size (block_location l i).list
  needs l here = needed_of (layout_of placed.sub) l (λ layout. needed layout.lengths size (block_location layout i).list) found.needed here is.needed

  -- values that the block spells with the header that is in place
  pub spelled_in_place : IfSome (layout_of t) (λ layout. found.needed ≤ length (block_values layout block)) → IfSome (layout_of placed.sub) (λ layout. SpellsNeeded layout size (block_location layout i).list block)
  spelled_in_place h = of_place placed.sub t e _ _ (λ l m here same enough.
      let long = ap (λ (z : List ℕ). length z) (same_values l m same block ∙ block_values-spelled l block) in
      needed_spelled l size (block_location l i).list block (omega (arith, enough, needs l here, long))) h

  pub unspelled_in_place : IfSome (layout_of placed.sub) (λ layout. IsCode layout.code) → IfSome (layout_of t) (λ layout. length (block_values layout block) < found.needed) →
      IfSome (layout_of placed.sub) (λ layout. ¬ SpellsNeeded layout size (block_location layout i).list block)
  unspelled_in_place code h = of_place placed.sub t e _ _ (λ l m here same few spelled.
      let long = ap (λ (z : List ℕ). length z) (same_values l m same block ∙ block_values-spelled l block) in
      let enough = spelled_needed l size (block_location l i).list block (code_of (layout_of placed.sub) l here code) spelled in
      omega (arith, few, needs l here, long, enough)) h

  pub value_in_place : (value : ℕ) → IfSome (layout_of t) (λ layout. slice_get (block_values layout block) found.spot.value.item ≡ Some value) →
      IfSome (layout_of placed.sub) (λ layout. slice_get (block_values layout block) (block_location layout i).item ≡ Some value)
  value_in_place value h = of_place placed.sub t e _ _ (λ l m here same stated.
      let item = (rw here at is.spot).item in
      ap (λ (z : List ℕ). slice_get z (block_location l i).item) (sym (same_values l m same block)) ∙ ap (λ (n : ℕ). slice_get (block_values m block) n) (sym item) ∙ stated) h

-- ---- the subtable of a part's side

module _ (index : Index) (content : List ℕ) (subs : List SubInPlace) (h : IsInPlace index content subs) (placed : List Slot) (same : placed ≡ slots_in index) (part side : ℕ) where
  pub no_slot : position (is_at part side) placed ≡ None → slot_in index part side ≡ None
  no_slot none = ap (λ (z : List Slot). option_and_then (λ n. slice_get z n) (position (is_at part side) z)) (sym same) ∙ ap (option_and_then (λ n. slice_get placed n)) none

  module _ (n : ℕ) (there : position (is_at part side) placed ≡ Some n) where
    pub slot_below : n < length placed
    slot_below = (position-Some (is_at part side) placed n (record { part = 0; side = 0; size = 0 }) there).0

    pub sub_below : n < length subs
    sub_below = omega (arith, slot_below, as_many_subs index content subs h placed same)

    module _ (slot : Slot) (read : slot ≡ get_or placed n slot) where
      at : slice_get placed n ≡ Some slot
      at = slice_get_read placed (length placed) n slot refl slot_below read

      pub value_below : (i : ℕ) → IsSomeAnd (slot_in index part side) (λ s. i < s.size) → i < slot.size
      value_below i below =
          let is : slot_in index part side ≡ Some slot = ap (λ (z : List Slot). option_and_then (λ k. slice_get z k) (position (is_at part side) z)) (sym same) ∙ ap (option_and_then (λ k. slice_get placed k)) there ∙ at in
          subst (λ (o : Option Slot). IsSomeAnd o (λ s. i < s.size)) is below

      pub sub_found : (sub : SubInPlace) → sub ≡ get_or subs n sub → IsFoundInPlace index content part side slot sub
      sub_found sub held = found_in_place index content subs h placed same part side n slot sub there at (slice_get_read subs (length subs) n sub refl sub_below held)

-- ---- a value of the subtable that was found

module _ (index : Index) (content : List ℕ) (part side : ℕ) (slot : Slot) (sub : SubInPlace) (f : IsFoundInPlace index content part side slot sub) where
  abbrev of_sub : Sub
  of_sub = f.placed.sub

  abbrev in_place : Sub
  in_place = sub.placed.sub

  pub is_known : IsShapedHead f.placed.sub slot.size × HasSoundIndex f.placed.sub slot.size
  is_known = unread_known slot content f.placed.sub f.placed.first f.unread

  pub within_bytes : sub.placed.first + blocks_size sub.placed.sub ≤ length content
  within_bytes = omega (arith, f.inside, f.stands.first, same_size of_sub in_place f.stands.head)

  pub bits_here : IfSome (layout_of sub.placed.sub) (λ layout. (layout.block_bits ≤ 18) × (layout.span_bits ≤ 31))
  bits_here = few_bits of_sub in_place f.stands.head slot.size is_known.0

  pub symbols_here : (layout_of sub.placed.sub ≡ None → ⊥) → IsSomeAnd (layout_of sub.placed.sub) (λ layout. layout.code.symbols ≡ length layout.entries)
  symbols_here some = not_none (layout_of in_place) _ some (has_symbols of_sub in_place f.stands.head slot.size is_known.0)

  pub constant_here : (i value : ℕ) → layout_of sub.placed.sub ≡ None → value ≡ constant_value index.kind (byte_of sub.placed.sub) →
      IfSome (front_at index.material index.kind content part side) (λ found. IsDecoded index.kind found i value)
  constant_here i value none is =
      subst (λ (o : Option (Slot × Subtable)). IfSome o (λ found. IsDecoded index.kind found i value)) (sym f.is)
      (constant_decoded index.kind slot content of_sub f.placed.first i value (constant_stands of_sub in_place none f.stands.head) (is ∙ ap (λ (n : ℕ). constant_value index.kind n) (same_byte of_sub in_place f.stands.head)))

  module _ (i : ℕ) (found : NeededBlock) (is : IsNeededBlock f.placed slot.size i found) where
    pub counted_here : (count : ℕ) → IfSome (layout_of sub.placed.sub) (λ layout. count ≡ layout.blocks) → found.spot.value.block < count
    counted_here count h = spot_counted of_sub f.placed.first i count found.spot is.spot (of_place of_sub in_place f.stands.head _ _ (λ l m here same blocks. blocks ∙ sym same.blocks) h)

    module _ (block : List ℕ) (bytes : block ≡ bytes_at content found.spot.offset found.spot.count) where
      -- a block that is noted spells what it needs, as one that was verified
      pub spelled_here : (noted : Bool) (passed : Passed) → (IsTrue noted → IsNoted passed part side found.spot.value.block) → ArePassed index content passed →
          IsTrue noted ⊎ IfSome (layout_of sub.placed.sub) (λ layout. found.needed ≤ length (block_values layout block)) →
          IfSome (layout_of f.placed.sub) (λ layout. SpellsNeeded layout slot.size (block_location layout i).list block)
      spelled_here noted passed has passes verified = elim verified [
        | inl t ↦
            passed_spells slot content of_sub f.placed.first i found.spot block bytes is.spot
            (subst (λ (o : Option (Slot × Subtable)). IfSome o (λ x. BlockPasses x found.spot.value.block)) f.is (passes part side found.spot.value.block (has t)))
        | inr enough ↦ spelled_in_place f.placed in_place f.stands.head slot.size i found is block enough
      ]

      pub value_here : (value : ℕ) → IfSome (layout_of f.placed.sub) (λ layout. SpellsNeeded layout slot.size (block_location layout i).list block) →
          IfSome (layout_of sub.placed.sub) (λ layout. slice_get (block_values layout block) found.spot.value.item ≡ Some value) →
          IfSome (front_at index.material index.kind content part side) (λ x. IsDecoded index.kind x i value)
      value_here value spelled stated =
          subst (λ (o : Option (Slot × Subtable)). IfSome o (λ x. IsDecoded index.kind x i value)) (sym f.is)
          (value_decoded index.kind slot content of_sub f.placed.first i value found.spot block is.spot bytes spelled (value_in_place f.placed in_place f.stands.head slot.size i found is block value stated))

      pub fault_here : IfSome (layout_of sub.placed.sub) (λ layout. length (block_values layout block) < found.needed) →
          IfSome (front_at index.material index.kind content part side) (λ x. NamesBadBlock content x i (Block found.spot.value.block found.spot.offset))
      fault_here few =
          subst (λ (o : Option (Slot × Subtable)). IfSome o (λ x. NamesBadBlock content x i (Block found.spot.value.block found.spot.offset))) (sym f.is)
          (bad_named slot content of_sub f.placed.first i found.spot block (Block found.spot.value.block found.spot.offset) is.spot bytes refl
          (unspelled_in_place f.placed in_place f.stands.head slot.size i found is block (unread_code slot content of_sub f.placed.first f.unread) few))

      pub passed_here : (old new : Passed) → IfSome (layout_of f.placed.sub) (λ layout. SpellsNeeded layout slot.size (block_location layout i).list block) → ArePassed index content old →
          ((p s n : ℕ) → IsNoted new p s n → IsNoted old p s n ⊎ ((p ≡ part) × (s ≡ side) × (n ≡ found.spot.value.block))) → ArePassed index content new
      passed_here old new spelled before noted =
          one_more_passed index content old new part side found.spot.value.block (slot, whole_sub content f.placed) before f.is
          (spells_passed slot content of_sub f.placed.first i found.spot block bytes is.spot spelled) noted
