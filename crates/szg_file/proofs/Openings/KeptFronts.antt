-- A front without the block lengths that no value needs: its subtables, their blocks and their values are those of the whole front.
use Rattle.std.proofs.Common.{◌≡◌, ℕ, zero, suc, ◌+◌, ◌-◌, ◌<◌, ◌≤◌, inl, inr, Bool, true, false, List, [], ◌∷◌, length, map, refl, sym, ap, subst, ◌∙◌, arith, Option, Some, None}
use Rattle.std.specs.Prelude.{IfSome, slice_get}
use Rattle.std.proofs.lemmas.Bool.{cases_lt}
use Rattle.szg_values.specs.declared.Kind.{Kind}
use Rattle.szg_block.specs.Block.{block_at}
use Rattle.szg_block.specs.BlocksTrait.{bytes_at}
use Rattle.szg_block.specs.Kept.{kept_lengths, CanLocate, IsLocatable}
use Rattle.szg_block.specs.Layout.{Layout}
use Rattle.szg_block.specs.Sound.{IsShapedLayout}
use Rattle.szg_block.specs.Steps.{Location, block_location}
use Rattle.szg_block.specs.Subtable.{layout_of as held_layout, HasFlagOf, IsHeaded}
use Rattle.szg_block.specs.declared.Sub.{Sub}
use Rattle.szg_block.specs.declared.Sub.TheVariants.{Constant, Pairs}
use Rattle.szg_block.proofs.Deciding.{has_total-true, first_bad_entry-None}
use Rattle.szg_block.proofs.Kept.{kept-done, kept-more, kept-none}
use Rattle.szg_block.proofs.KeptLayouts.{kept_block_location, kept_block_values, kept_locates, kept_spelled, spelled_kept, whole_locates}
use Rattle.szg_file.specs.Blocks.{with_blocks}
use Rattle.szg_file.specs.Accepted.{SideBySide}
use Rattle.szg_file.specs.Contents.{Slot, Subtable, constant, pairs, layout_of, slots}
use Rattle.szg_file.specs.Fetching.{NamesBadBlock}
use Rattle.szg_file.specs.File.{Begun, flags_of}
use Rattle.szg_file.specs.FrontTable.{FrontKept, IsFrontOf, KeepsOnlyNeeded}
use Rattle.szg_file.specs.Index.{slots_in}
use Rattle.szg_file.specs.Kept.{kept_begun, kept_measured, kept_of, kept_sub, kept_subs}
use Rattle.szg_file.specs.Placed.{whole_sub}
use Rattle.szg_file.specs.Unread.{blocks_count, blocks_end, blocks_first, unread_end, unread_subs, IsDecoded, IsUnread}
use Rattle.szg_file.specs.Wanted.{IsSpelledBy, wanted_block}
use Rattle.szg_file.specs.declared.opened.fetching.FetchFault.{FetchFault}
use Rattle.szg_file.specs.declared.opened.fetching.FetchFault.TheVariants.{Block, Source}
use Rattle.szg_file.proofs.Grammar.KeptLaws.{slot_of}
use Rattle.szg_file.specs.declared.reading.dropping.PlacedSub.{PlacedSub}
use Rattle.szg_file.proofs.Readers.PlacedSubs.{placed_at}
use Rattle.szg_file.proofs.Tables.TableFinds.{side_lengths}

-- ---- the offsets of the blocks

kept_first : (size place : ℕ) (s : Subtable) → blocks_first place (kept_of size s) ≡ blocks_first place s
kept_first size place (constant flags byte) = refl
kept_first size place (pairs head sparse lengths packed) = refl

kept_end : (size place : ℕ) (s : Subtable) → blocks_end place (kept_of size s) ≡ blocks_end place s
kept_end size place (constant flags byte) = refl
kept_end size place (pairs head sparse lengths packed) = refl

kept_count : (size : ℕ) (s : Subtable) → blocks_count (kept_of size s) ≡ blocks_count s
kept_count size (constant flags byte) = refl
kept_count size (pairs head sparse lengths packed) = refl

kept_with : (size : ℕ) (s : Subtable) (packed : List ℕ) → with_blocks (kept_of size s) packed ≡ kept_of size (with_blocks s packed)
kept_with size (constant flags byte) packed = refl
kept_with size (pairs head sparse lengths blocks) packed = refl

fewer_end : (place : ℕ) (list : List Begun) → unread_end place (map (kept_begun false) list) ≡ unread_end place list
fewer_end place [] = refl
fewer_end place (b ∷ list) =
    ap (λ (n : ℕ). unread_end n (map (kept_begun false) list)) (kept_end b.slot.size place b.subtable) ∙ fewer_end (blocks_end place b.subtable) list

pub kept_unread_end : (all : Bool) (place : ℕ) (list : List Begun) → unread_end place (kept_measured all list) ≡ unread_end place list
kept_unread_end true place list = refl
kept_unread_end false place list = fewer_end place list

fewer_unread : (content : List ℕ) (place : ℕ) (list : List Begun) → unread_subs content place (map (kept_begun false) list) ≡ kept_subs false (map slot_of list) (unread_subs content place list)
fewer_unread content place [] = refl
fewer_unread content place (b ∷ list) =
    let s : Subtable = b.subtable in
    (λ i. with_blocks (kept_of b.slot.size s) (bytes_at content (kept_first b.slot.size place s i) (kept_count b.slot.size s i)) ∷ unread_subs content (kept_end b.slot.size place s i) (map (kept_begun false) list))
    ∙ ap (λ (t : Subtable). t ∷ unread_subs content (blocks_end place s) (map (kept_begun false) list)) (kept_with b.slot.size s (bytes_at content (blocks_first place s) (blocks_count s)))
    ∙ ap (λ (l : List Subtable). kept_of b.slot.size (with_blocks s (bytes_at content (blocks_first place s) (blocks_count s))) ∷ l) (fewer_unread content (blocks_end place s) list)

pub kept_unread : (all : Bool) (content : List ℕ) (place : ℕ) (list : List Begun) → unread_subs content place (kept_measured all list) ≡ kept_subs all (map slot_of list) (unread_subs content place list)
kept_unread true content place list = refl
kept_unread false content place list = fewer_unread content place list

-- ---- one of the subtables

fewer_many : (slots : List Slot) (subs : List Subtable) → length slots ≡ length subs → length (kept_subs false slots subs) ≡ length subs
fewer_many [] [] e = refl
fewer_many [] (s ∷ subs) e = absurd (omega (arith, e))
fewer_many (slot ∷ slots) [] e = absurd (omega (arith, e))
fewer_many (slot ∷ slots) (s ∷ subs) e = ap suc (fewer_many slots subs (omega (arith, e)))

pub kept_subs_many : (all : Bool) (slots : List Slot) (subs : List Subtable) → length slots ≡ length subs → length (kept_subs all slots subs) ≡ length subs
kept_subs_many true slots subs e = refl
kept_subs_many false slots subs e = fewer_many slots subs e

-- item n of the subtables, and what is kept of it
pub record IsKeptItem (all : Bool) (size : ℕ) (subs : List Subtable) (n : ℕ) (kept : Subtable) : Type 0 where
  pub whole : Subtable
  pub there : slice_get subs n ≡ Some whole
  pub kept_is : kept ≡ kept_sub all size whole

fewer_item : (slots : List Slot) (subs : List Subtable) (n : ℕ) (slot : Slot) (kept : Subtable) → slice_get slots n ≡ Some slot → slice_get (kept_subs false slots subs) n ≡ Some kept → IsKeptItem false slot.size subs n kept
fewer_item [] subs n slot kept at e = absurd (cc at)
fewer_item (x ∷ slots) [] n slot kept at e = absurd (cc e)
fewer_item (x ∷ slots) (s ∷ subs) zero slot kept at e =
    let same : x ≡ slot = cc at in
    let is : kept_of x.size s ≡ kept = cc e in
    record { whole = s; there = refl; kept_is = sym is ∙ ap (λ (y : Slot). kept_of y.size s) same }
fewer_item (x ∷ slots) (s ∷ subs) (suc n) slot kept at e =
    let rest = fewer_item slots subs n slot kept at e in
    record { whole = rest.whole; there = rest.there; kept_is = rest.kept_is }

pub kept_item : (all : Bool) (slots : List Slot) (subs : List Subtable) (n : ℕ) (slot : Slot) (kept : Subtable) → slice_get slots n ≡ Some slot → slice_get (kept_subs all slots subs) n ≡ Some kept → IsKeptItem all slot.size subs n kept
kept_item true slots subs n slot kept at e = record { whole = kept; there = e; kept_is = refl }
kept_item false slots subs n slot kept at e = fewer_item slots subs n slot kept at e

-- ---- its values can be located

abbrev layout_in : Subtable → Option Layout
layout_in (constant flags byte) = None
layout_in (pairs head sparse lengths packed) = Some (layout_of head sparse lengths)

abbrev IsHeadedIn : Subtable → Type 0
IsHeadedIn s = HasFlagOf (flags_of s) (layout_in s) × IfSome (layout_in s) (λ layout.
    (layout.block_bits ≤ 18) × (1 ≤ layout.span_bits) × (layout.span_bits ≤ 31) × (layout.code.symbols ≡ length layout.entries))

abbrev IsKnown : ℕ → Subtable → Type 0
IsKnown size s = IsHeadedIn s × IfSome (layout_in s) (λ layout. CanLocate layout size)

known_in : (all : Bool) (slot : Slot) (s : Subtable) → IsUnread slot s → IsKnown slot.size (kept_sub all slot.size s)
known_in true slot (constant flags byte) h = let least = h.0 in let most = h.1 in ((omega (arith, least, most), tt), tt)
known_in false slot (constant flags byte) h = let least = h.0 in let most = h.1 in ((omega (arith, least, most), tt), tt)
known_in true slot (pairs head sparse lengths packed) h =
    let few = h.0.flags in
    let layout : Layout = layout_of head sparse lengths in
    let shaped : IsShapedLayout layout slot.size = record { block_bits = h.0.block_bits; some_span = h.0.span_some; span_bits = h.0.span_bits; symbols = h.0.symbols; sparse = h.1; lengths = h.2 } in (
      (omega (arith, few), (h.0.block_bits, h.0.span_some, h.0.span_bits, h.0.symbols)),
      whole_locates layout slot.size shaped (has_total-true layout slot.size h.3.0) (first_bad_entry-None layout h.3.1),
    )
known_in false slot (pairs head sparse lengths packed) h =
    let few = h.0.flags in
    let layout : Layout = layout_of head sparse lengths in
    let shaped : IsShapedLayout layout slot.size = record { block_bits = h.0.block_bits; some_span = h.0.span_some; span_bits = h.0.span_bits; symbols = h.0.symbols; sparse = h.1; lengths = h.2 } in (
      (omega (arith, few), (h.0.block_bits, h.0.span_some, h.0.span_bits, h.0.symbols)),
      kept_locates layout slot.size shaped (has_total-true layout slot.size h.3.0) (first_bad_entry-None layout h.3.1),
    )

pub kept_known : (all : Bool) (slot : Slot) (content : List ℕ) (sub : Sub) (first : ℕ) (whole : Subtable) → whole_sub content (placed_at sub first) ≡ kept_sub all slot.size whole → IsUnread slot whole →
    IsHeaded sub × IsLocatable sub slot.size
kept_known all slot content (Constant flags byte) first whole is h = subst (IsKnown slot.size) (sym is) (known_in all slot whole h)
kept_known all slot content (Pairs flags block_bits span_bits extra blocks code dict sparse lengths packed) first whole is h = subst (IsKnown slot.size) (sym is) (known_in all slot whole h)

-- ---- its values

fewer_wanted : (size i : ℕ) (s : Subtable) → i < size → wanted_block (kept_of size s) i ≡ wanted_block s i
fewer_wanted size i (constant flags byte) below = refl
fewer_wanted size i (pairs head sparse lengths packed) below =
    ap (λ (at : Location). Some (block_at head.block_bits packed at.list)) (kept_block_location (layout_of head sparse lengths) size i below)

fewer_decoded : (kind : Kind) (slot : Slot) (s : Subtable) (i value : ℕ) → i < slot.size → IsDecoded kind (slot, kept_of slot.size s) i value → IsDecoded kind (slot, s) i value
fewer_decoded kind slot (constant flags byte) i value below h = h
fewer_decoded kind slot (pairs head sparse lengths packed) i value below h =
    let layout : Layout = layout_of head sparse lengths in
    let block : List ℕ = block_at head.block_bits packed (block_location layout i).list in
    let h' = rw (kept_block_location layout slot.size i below) at h in (
      spelled_kept layout slot.size (block_location layout i).list block h'.0,
      ap (λ (values : List ℕ). slice_get values (block_location layout i).item) (sym (kept_block_values layout slot.size block)) ∙ h'.1,
    )

fewer_bad : (content : List ℕ) (slot : Slot) (s : Subtable) (i : ℕ) (fault : FetchFault) → i < slot.size → NamesBadBlock content (slot, kept_of slot.size s) i fault → NamesBadBlock content (slot, s) i fault
fewer_bad content slot (constant flags byte) i fault below h = h
fewer_bad content slot (pairs head sparse lengths packed) i Source below h = h
fewer_bad content slot (pairs head sparse lengths packed) i (Block n offset) below h =
    let layout : Layout = layout_of head sparse lengths in
    let h' = rw (kept_block_location layout slot.size i below) at h in
    ((h'.0.0, λ spells. h'.0.1 (kept_spelled layout slot.size n (block_at head.block_bits packed n) spells)), h'.1)

fewer_spelled : (size i : ℕ) (s : Subtable) (chunk : List ℕ) (stated : Option ℕ) → i < size → IsSpelledBy chunk (kept_of size s) i stated → IsSpelledBy chunk s i stated
fewer_spelled size i (constant flags byte) chunk stated below h = h
fewer_spelled size i (pairs head sparse lengths packed) chunk stated below h =
    let layout : Layout = layout_of head sparse lengths in
    let h' = rw (kept_block_location layout size i below) at h in
    (λ long. h'.0 long ∙ ap (λ (values : List ℕ). slice_get values (block_location layout i).item) (kept_block_values layout size chunk), h'.1)

-- what holds of a value by what is kept of its subtable, holds by the whole subtable
module _ (slot : Slot) (s : Subtable) (i : ℕ) (below : i < slot.size) where
  pub whole_wanted : (all : Bool) (kept : Subtable) → kept ≡ kept_sub all slot.size s → wanted_block kept i ≡ wanted_block s i
  whole_wanted true kept is = ap (λ (t : Subtable). wanted_block t i) is
  whole_wanted false kept is = ap (λ (t : Subtable). wanted_block t i) is ∙ fewer_wanted slot.size i s below

  pub whole_decoded : (all : Bool) (kept : Subtable) → kept ≡ kept_sub all slot.size s → (kind : Kind) (value : ℕ) → IsDecoded kind (slot, kept) i value → IsDecoded kind (slot, s) i value
  whole_decoded true kept is kind value h = subst (λ (t : Subtable). IsDecoded kind (slot, t) i value) is h
  whole_decoded false kept is kind value h = fewer_decoded kind slot s i value below (subst (λ (t : Subtable). IsDecoded kind (slot, t) i value) is h)

  pub whole_bad : (all : Bool) (kept : Subtable) → kept ≡ kept_sub all slot.size s → (content : List ℕ) (fault : FetchFault) → NamesBadBlock content (slot, kept) i fault → NamesBadBlock content (slot, s) i fault
  whole_bad true kept is content fault h = subst (λ (t : Subtable). NamesBadBlock content (slot, t) i fault) is h
  whole_bad false kept is content fault h = fewer_bad content slot s i fault below (subst (λ (t : Subtable). NamesBadBlock content (slot, t) i fault) is h)

  pub whole_spelled : (all : Bool) (kept : Subtable) → kept ≡ kept_sub all slot.size s → (chunk : List ℕ) (stated : Option ℕ) → IsSpelledBy chunk kept i stated → IsSpelledBy chunk s i stated
  whole_spelled true kept is chunk stated h = subst (λ (t : Subtable). IsSpelledBy chunk t i stated) is h
  whole_spelled false kept is chunk stated h = fewer_spelled slot.size i s chunk stated below (subst (λ (t : Subtable). IsSpelledBy chunk t i stated) is h)

-- ---- no other lengths are kept

kept_again : (size : ℕ) (lengths : List ℕ) → kept_lengths size (kept_lengths size lengths) ≡ kept_lengths size lengths
kept_again size [] = ap (kept_lengths size) (kept-none size)
kept_again size (n ∷ lengths) = elim (cases_lt 0 size) [
  | inl some ↦
      let here = kept-more size n lengths some in
      ap (kept_lengths size) here ∙ kept-more size n (kept_lengths (size - (n + 1)) lengths) some ∙ ap (λ (l : List ℕ). n ∷ l) (kept_again (size - (n + 1)) lengths) ∙ sym here
  | inr none ↦ let here = kept-done size (n ∷ lengths) none in ap (kept_lengths size) here ∙ kept-none size ∙ sym here
]

abbrev KeepsIn : ℕ → Option Layout → Type 0
KeepsIn size layout = IfSome layout (λ layout. kept_lengths size layout.lengths ≡ layout.lengths)

keeps_in : (size : ℕ) (s : Subtable) → KeepsIn size (layout_in (kept_of size s))
keeps_in size (constant flags byte) = tt
keeps_in size (pairs head sparse lengths packed) = kept_again size lengths

keeps_one : (size : ℕ) (content : List ℕ) (sub : Sub) (first : ℕ) (s : Subtable) → whole_sub content (placed_at sub first) ≡ kept_of size s → KeepsIn size (held_layout sub)
keeps_one size content (Constant flags byte) first s is = tt
keeps_one size content (Pairs flags block_bits span_bits extra blocks code dict sparse lengths packed) first s is = subst (λ (t : Subtable). KeepsIn size (layout_in t)) (sym is) (keeps_in size s)

keeps_each : (content : List ℕ) (slots : List Slot) (subtables : List Subtable) (subs : List PlacedSub) → length slots ≡ length subtables → map (whole_sub content) subs ≡ kept_subs false slots subtables →
    SideBySide (λ (slot : Slot) (placed : PlacedSub). KeepsIn slot.size (held_layout placed.sub)) slots subs
keeps_each content [] subtables [] many is = tt
keeps_each content [] [] (placed ∷ subs) many is = absurd (cc is)
keeps_each content [] (s ∷ subtables) (placed ∷ subs) many is = absurd (omega (arith, many))
keeps_each content (slot ∷ slots) [] subs many is = absurd (omega (arith, many))
keeps_each content (slot ∷ slots) (s ∷ subtables) [] many is = absurd (cc is)
keeps_each content (slot ∷ slots) (s ∷ subtables) (placed ∷ subs) many is =
    let here : whole_sub content placed ≡ kept_of slot.size s = cc is in
    let rest : map (whole_sub content) subs ≡ kept_subs false slots subtables = cc is in
    (keeps_one slot.size content placed.sub placed.first s here, keeps_each content slots subtables subs (omega (arith, many)) rest)

pub keeps_needed : (kept : FrontKept) (content : List ℕ) (h : IsFrontOf kept content) → h.all ≡ false → KeepsOnlyNeeded kept
keeps_needed kept content h fewer =
    let of : List Slot = slots h.table.material h.table.kind h.table.parts in
    let are : map (whole_sub content) kept.subs ≡ kept_subs false of h.table.subtables = h.subs_are ∙ ap (λ (all : Bool). kept_subs all of h.table.subtables) fewer in
    subst (λ (l : List Slot). SideBySide (λ (slot : Slot) (placed : PlacedSub). KeepsIn slot.size (held_layout placed.sub)) l kept.subs) (ap slots_in (sym h.index_is))
    (keeps_each content of h.table.subtables kept.subs (side_lengths IsUnread of h.table.subtables h.unread) are)
