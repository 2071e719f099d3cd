-- The values of a table whose file is in memory, by what is fetched of it.
use Rattle.std.proofs.Common.{◌≡◌, ◌<◌, ℕ, List, refl, sym, ap, ◌∙◌, subst, inl, inr, Option, Some, None, option_map}
use Rattle.std.specs.Prelude.{IfSome, IsSome, IsSomeAnd, option_and_then}
use Rattle.std.proofs.lemmas.Bool.{cases_Bool}
use Rattle.szg_values.specs.declared.Kind.{Kind}
use Rattle.szg_block.specs.Block.{block_at}
use Rattle.szg_block.specs.FirstFault.{spells_needed}
use Rattle.szg_block.specs.Sound.{SpellsNeeded}
use Rattle.szg_block.specs.Steps.{block_location}
use Rattle.szg_block.proofs.Deciding.{spells_needed-true, spells_needed-of}
use Rattle.szg_file.specs.Contents.{Contents, Slot, slots, Subtable, constant, pairs, layout_of}
use Rattle.szg_file.specs.Fetching.{NamesBadBlock}
use Rattle.szg_mapped.specs.InPlace.{InPlace, IsTableIn}
use Rattle.szg_file.specs.Index.{Index, index_of, slot_in}
use Rattle.szg_file.specs.Unread.{front_at, IsBadBlock, IsDecoded, IsUnread, unread_file}
use Rattle.szg_file.specs.Values.{subtable_at}
use Rattle.szg_file.specs.declared.opened.fetching.FetchFault.TheVariants.{Block, Source}
use Rattle.szg_file.proofs.Grammar.DecodedLaws.{side_found}
use Rattle.szg_file.proofs.Tables.IndexLaws.{slot_stated}
use Rattle.szg_file.proofs.Tables.SoundLaws.{accepted_code}
use Rattle.szg_file.proofs.Tables.TableFinds.{side_lengths}
use Rattle.szg_place.specs.declared.Spot.{Spot}
use Rattle.szg_tables.specs.Mapped.{decoded, found_at, value_at}

-- ---- one value

decoded_is : (kind : Kind) (slot : Slot) (s : Subtable) (i v : ℕ) → IsUnread slot s → IsDecoded kind (slot, s) i v → decoded kind (slot, s) i ≡ Some v
decoded_is kind slot (constant flags byte) i v u is = ap (λ (n : ℕ). Some n) (sym is)
decoded_is kind slot (pairs head sparse lengths packed) i v u is =
    let layout = layout_of head sparse lengths in
    let n : ℕ = (block_location layout i).list in
    let spelled = spells_needed-of layout (accepted_code head.code u.0.code) slot.size n (block_at head.block_bits packed n) is.0 in
    rw spelled is.1

bad_decoded : (kind : Kind) (slot : Slot) (s : Subtable) (i n : ℕ) → IsBadBlock (slot, s) i n → decoded kind (slot, s) i ≡ None
bad_decoded kind slot (constant flags byte) i n bad = absurd bad
bad_decoded kind slot (pairs head sparse lengths packed) i n bad =
    let layout = layout_of head sparse lengths in
    let m : ℕ = (block_location layout i).list in
    let block : List ℕ = block_at head.block_bits packed m in
    let not_spelled = subst (λ (k : ℕ). ¬ SpellsNeeded layout slot.size k (block_at head.block_bits packed k)) bad.0 bad.1 in
    elim (cases_Bool (spells_needed layout slot.size m block)) [
      | inl t ↦ absurd (not_spelled (spells_needed-true layout slot.size m block t))
      | inr e ↦ rw e refl
    ]

module _ (f : InPlace) (h : IsTableIn f) (spot : Spot) where
  at_table : found_at f spot ≡ subtable_at h.1.table spot.part spot.side
  at_table =
      ap (λ (x : Index). front_at x.material x.kind f.content spot.part spot.side) (sym h.2) ∙ ap (option_and_then (λ t. subtable_at t spot.part spot.side)) h.1.there

  unread_at : (pair : Slot × Subtable) → found_at f spot ≡ Some pair → IsUnread pair.0 pair.1
  unread_at pair e =
      let t : Contents = h.1.table in
      side_found IsUnread spot.part spot.side (slots t.material t.kind t.parts) t.subtables pair h.1.unread (sym at_table ∙ e)

  some_of : (o : Option (Slot × Subtable)) (q : Option Slot) → option_map (λ pair. pair.0) o ≡ q → IsSomeAnd q (λ slot. spot.index < slot.size) → IsSome o
  some_of None q e s = absurd (subst (λ (q : Option Slot). IsSomeAnd q (λ slot. spot.index < slot.size)) (sym e) s)
  some_of (Some pair) q e s = refl

  pub subtable_there : IsSomeAnd (slot_in f.index spot.part spot.side) (λ slot. spot.index < slot.size) → IsSome (found_at f spot)
  subtable_there below =
      let t : Contents = h.1.table in
      let many = side_lengths IsUnread (slots t.material t.kind t.parts) t.subtables h.1.unread in
      let there : IsSomeAnd (slot_in (index_of t) spot.part spot.side) (λ slot. spot.index < slot.size) =
      subst (λ (x : Index). IsSomeAnd (slot_in x spot.part spot.side) (λ slot. spot.index < slot.size)) (sym h.2 ∙ h.1.index_is) below in
      subst (λ (o : Option (Slot × Subtable)). IsSome o) (sym at_table)
      (some_of (subtable_at t spot.part spot.side) (slot_in (index_of t) spot.part spot.side) (slot_stated spot.part spot.side (slots t.material t.kind t.parts) t.subtables many) there)

  pub value_is : (v : ℕ) → IsSome (found_at f spot) → IfSome (found_at f spot) (λ found. IsDecoded f.index.kind found spot.index v) → value_at f spot ≡ Some v
  value_is v some is = of (found_at f spot) refl some is where
    of : (o : Option (Slot × Subtable)) → found_at f spot ≡ o → IsSome o → IfSome o (λ found. IsDecoded f.index.kind found spot.index v) →
        option_and_then (λ found. decoded f.index.kind found spot.index) o ≡ Some v
    of None e some is = absurd (cc some)
    of (Some pair) e some is = decoded_is f.index.kind pair.0 pair.1 spot.index v (unread_at pair e) is

  pub value_bad : (number offset : ℕ) → IfSome (found_at f spot) (λ found. NamesBadBlock f.content found spot.index (Block number offset)) → value_at f spot ≡ None
  value_bad number offset bad = of (found_at f spot) bad where
    of : (o : Option (Slot × Subtable)) → IfSome o (λ found. NamesBadBlock f.content found spot.index (Block number offset)) →
        option_and_then (λ found. decoded f.index.kind found spot.index) o ≡ None
    of None bad = refl
    of (Some pair) bad = bad_decoded f.index.kind pair.0 pair.1 spot.index number bad.0

  pub never_short : IsSome (found_at f spot) → IfSome (found_at f spot) (λ found. NamesBadBlock f.content found spot.index Source) → ⊥
  never_short some bad = of (found_at f spot) some bad where
    of : (o : Option (Slot × Subtable)) → IsSome o → IfSome o (λ found. NamesBadBlock f.content found spot.index Source) → ⊥
    of None some bad = absurd (cc some)
    of (Some pair) some bad = bad
