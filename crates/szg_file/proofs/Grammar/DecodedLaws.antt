-- A value that decodes in an accepted table is the value of its expansion.
use Rattle.std.proofs.Common.{◌≡◌, ℕ, zero, suc, ◌<◌, Bool, true, false, List, [], ◌∷◌, replicate, refl, sym, ap, subst, ◌∙◌, arith, Option, Some, None}
use Rattle.std.specs.Prelude.{option_and_then, cond, ◌&&◌, nat_eq}
use Rattle.szg_values.specs.declared.Kind.{Kind}
use Rattle.szg_block.specs.Expansion.{joined_values}
use Rattle.szg_block.proofs.Values.{joined_values-block_location, IsLocationOfValue-block_location}
use Rattle.szg_file.specs.Accepted.{IsSubtable, SideBySide}
use Rattle.szg_file.specs.Contents.{Contents, Slot, slots, Subtable, constant, pairs, layout_of}
use Rattle.szg_file.specs.File.{file}
use Rattle.szg_file.specs.Format.{Verdict, good, refused, truncated, verdict}
use Rattle.szg_file.specs.Opened.{table_of}
use Rattle.szg_file.specs.Unread.{unread_file, front_in, AgreesButForWords, IsDecoded, IsBadBlock, AcceptedDecodes, GoodIsFront}
use Rattle.szg_file.specs.Values.{item, found, slotted, subtable_at, constant_value, values_of}
use Rattle.szg_file.proofs.Tables.SoundLaws.{accepted_code, accepted_shape, accepted_subtable}
use Rattle.szg_file.proofs.Tables.TableFinds.{item-slice_get}
use Rattle.szg_file.proofs.Grammar.UnreadLaws.{front_agrees}
use Rattle.szg_file.proofs.Grammar.WholeLaws.{good_is_file}

-- ---- the subtable that is found

found_if : (P : Slot → Subtable → Type 0) (b : Bool) (first : Slot × Subtable) (others : Option (Slot × Subtable)) (pair : Slot × Subtable) → P first.0 first.1 → (others ≡ Some pair → P pair.0 pair.1) →
    cond b (Some first) others ≡ Some pair → P pair.0 pair.1
found_if P true first others pair h k e = let same : first ≡ pair = cc e in subst (λ (x : Slot × Subtable). P x.0 x.1) same h
found_if P false first others pair h k e = k e

pub side_found : (P : Slot → Subtable → Type 0) (part side : ℕ) (xs : List Slot) (ys : List Subtable) (pair : Slot × Subtable) → SideBySide P xs ys → found part side (slotted xs ys) ≡ Some pair → P pair.0 pair.1
side_found P part side [] [] pair h e = absurd (cc e)
side_found P part side [] (y ∷ ys) pair h e = absurd h
side_found P part side (x ∷ xs) [] pair h e = absurd h
side_found P part side (x ∷ xs) (y ∷ ys) pair h e =
    found_if P (nat_eq x.part part && nat_eq x.side side) (x, y) (found part side (slotted xs ys)) pair h.0 (side_found P part side xs ys pair h.1) e

-- ---- one subtable

item_replicate : (n i v : ℕ) → i < n → item (replicate n v) i ≡ Some v
item_replicate zero i v h = absurd (omega arith)
item_replicate (suc n) zero v h = refl
item_replicate (suc n) (suc i) v h = item_replicate n i v (omega arith)

decodes : (kind : Kind) (slot : Slot) (subtable : Subtable) (i value : ℕ) → IsSubtable slot subtable → i < slot.size → IsDecoded kind (slot, subtable) i value → item (values_of kind (slot, subtable)) i ≡ Some value
decodes kind slot (constant flags byte) i value h below is = item_replicate slot.size i (constant_value kind byte) below ∙ ap (λ (v : ℕ). Some v) (sym is)
decodes kind slot (pairs head sparse lengths packed) i value h below is =
    let layout = layout_of head sparse lengths in
    let shaped = accepted_shape slot.size _ _ _ _ h in
    let accepted = accepted_code _ h.head_is_valid.code in
    let sound = accepted_subtable slot.size _ _ _ _ h in
    item-slice_get (joined_values layout packed slot.size) i ∙ joined_values-block_location layout packed slot.size accepted shaped sound i below ∙ is.1

never_bad : (slot : Slot) (subtable : Subtable) (i n : ℕ) → IsSubtable slot subtable → i < slot.size → IsBadBlock (slot, subtable) i n → ⊥
never_bad slot (constant flags byte) i n h below bad = bad
never_bad slot (pairs head sparse lengths packed) i n h below bad =
    let layout = layout_of head sparse lengths in
    let shaped = accepted_shape slot.size _ _ _ _ h in
    let accepted = accepted_code _ h.head_is_valid.code in
    let sound = accepted_subtable slot.size _ _ _ _ h in
    let holder = IsLocationOfValue-block_location layout packed slot.size accepted shaped sound i below in
    bad.1 (sound.words n (omega (arith, holder.block, bad.0)))

pub accepted_decodes : AcceptedDecodes
accepted_decodes t fill h part side pair there i below =
    let is_valid : IsSubtable pair.0 pair.1 = side_found IsSubtable part side (slots t.material t.kind t.parts) t.subtables pair h.subtables there in
    (λ value is. decodes t.kind pair.0 pair.1 i value is_valid below is, λ n bad. never_bad pair.0 pair.1 i n is_valid below bad)

-- ---- a file that is accepted

good_of : (v : Verdict Contents) (t : Contents) → table_of v ≡ Some t → (filled : List ℕ) × (rest : List ℕ) × (v ≡ good t filled rest)
good_of (good u filled rest) t e = let same : u ≡ t = cc e in (filled, rest, ap (λ (x : Contents). good x filled rest) same)
good_of (refused place why rest) t e = let no : None ≡ Some t = e in absurd (cc no)
good_of (truncated count) t e = let no : None ≡ Some t = e in absurd (cc no)

pub good_is_front : GoodIsFront
good_is_front material kind bytes t small there =
    let g = good_of (verdict (file material kind) 0 bytes) t there in
    let unread : verdict (unread_file material kind) 0 bytes ≡ good t g.0 g.1 =
    subst (λ (v : Verdict Contents). AgreesButForWords v (verdict (unread_file material kind) 0 bytes)) g.2 (front_agrees material kind bytes) in
    let is = good_is_file material kind bytes t g.0 g.1 small g.2 in
    let front : front_in material kind bytes ≡ Some t = ap table_of unread in (
      front,
      λ part side pair found i below.
          let at : subtable_at t part side ≡ Some pair = sym (ap (option_and_then (λ t. subtable_at t part side)) front) ∙ found in
          let stated = accepted_decodes t g.0 is.2 part side pair at i below in
          (subst (λ (k : Kind). (value : ℕ) → IsDecoded k pair i value → item (values_of k pair) i ≡ Some value) is.1 stated.0, stated.1),
    )
