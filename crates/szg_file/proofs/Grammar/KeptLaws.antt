-- Subtables without the block lengths that no value needs: their blocks are read and checked, and their values found, as
-- with all lengths.
use Rattle.std.proofs.Common.{◌≡◌, ℕ, zero, suc, ◌+◌, ◌^◌, Bool, true, false, List, [], ◌∷◌, ◌++◌, length, map, refl, sym, ap, ◌∙◌, arith}
use Rattle.std.proofs.lemmas.List.{length-map}
use Rattle.szg_values.specs.declared.Kind.{Kind}
use Rattle.szg_block.specs.Kept.{kept_lengths, kept_layout}
use Rattle.szg_block.specs.Layout.{Layout}
use Rattle.szg_block.proofs.KeptLayouts.{kept_joined, kept_spells}
use Rattle.szg_file.specs.declared.fault.Reason.TheVariants as reason
use Rattle.szg_file.specs.Contents.{Slot, Subtable, constant, pairs, layout_of}
use Rattle.szg_file.specs.File.{Begun, each, demand, block_field, blocks_from, blocks_of, blocks_field, filled_to, flags_of, lengths_field}
use Rattle.szg_file.specs.Format.{Format, means, field, placed, ◌>>=◌, ◌>>◌}
use Rattle.szg_file.specs.Kept.{kept_of, kept_begun, kept_field, kept_measured, kept_subs}
use Rattle.szg_file.specs.Values.{values_in}
use Rattle.szg_file.proofs.Grammar.EachLaws.{then-means, then-then}

-- ---- the format of the blocks

kept_block_field : (layout : Layout) (size n : ℕ) → block_field (kept_layout size layout) size n ≡ block_field layout size n
kept_block_field layout size n =
    λ i. placed (λ place. field (2 ^ layout.block_bits) means >>= λ bytes. demand (kept_spells layout size n bytes i) place reason.Word >> means bytes)

kept_blocks_from : (layout : Layout) (size n count : ℕ) → blocks_from (kept_layout size layout) size n count ≡ blocks_from layout size n count
kept_blocks_from layout size n zero = refl
kept_blocks_from layout size n (suc count) =
    λ i. kept_block_field layout size n i >>= λ bytes. kept_blocks_from layout size (n + 1) count i >>= λ more. means (bytes ++ more)

kept_blocks_of : (slot : Slot) (s : Subtable) → blocks_of slot (kept_of slot.size s) ≡ blocks_of slot s >>= λ t. means (kept_of slot.size t)
kept_blocks_of slot (constant flags byte) = refl
kept_blocks_of slot (pairs head sparse lengths packed) =
    let made : List ℕ → Format Subtable = λ blocks. means (pairs head sparse lengths blocks) in
    let kept : List ℕ → Format Subtable = λ blocks. means (pairs head sparse (kept_lengths slot.size lengths) blocks) in
    ap (λ (f : Format (List ℕ)). filled_to 64 >> (f >>= kept)) (kept_blocks_from (layout_of head sparse lengths) slot.size 0 head.blocks)
    ∙ ap (λ (f : Format Subtable). filled_to 64 >> f) (sym (then-then (blocks_from (layout_of head sparse lengths) slot.size 0 head.blocks) made (λ t. means (kept_of slot.size t))))

abbrev pub slot_of : Begun → Slot
slot_of b = b.slot

fewer_blocks : (list : List Begun) → each blocks_field (map (kept_begun false) list) ≡ each blocks_field list >>= λ subs. means (kept_subs false (map slot_of list) subs)
fewer_blocks [] = refl
fewer_blocks (b ∷ list) =
    let rest : List Subtable → Format (List Subtable) = λ subs. means (kept_subs false (map slot_of list) subs) in
    (λ i. kept_blocks_of b.slot b.subtable i >>= λ s. fewer_blocks list i >>= λ subs. means (s ∷ subs))
    ∙ then-then (blocks_field b) (λ t. means (kept_of b.slot.size t)) (λ s. (each blocks_field list >>= rest) >>= λ subs. means (s ∷ subs))
    ∙ (λ i. blocks_field b >>= λ t. then-then (each blocks_field list) rest (λ subs. means (kept_of b.slot.size t ∷ subs)) i)
    ∙ sym (then-then (blocks_field b) (λ t. each blocks_field list >>= λ subs. means (t ∷ subs)) (λ subs. means (kept_subs false (map slot_of (b ∷ list)) subs))
    ∙ (λ i. blocks_field b >>= λ t. then-then (each blocks_field list) (λ subs. means (t ∷ subs)) (λ subs. means (kept_subs false (map slot_of (b ∷ list)) subs)) i))

pub kept_blocks : (all : Bool) (list : List Begun) → each blocks_field (kept_measured all list) ≡ each blocks_field list >>= λ subs. means (kept_subs all (map slot_of list) subs)
kept_blocks true list = sym (then-means (each blocks_field list))
kept_blocks false list = fewer_blocks list

fewer_fields : (list : List Begun) → each (kept_field false) list ≡ each lengths_field list >>= λ measured. means (map (kept_begun false) measured)
fewer_fields [] = refl
fewer_fields (b ∷ list) =
    let rest : List Begun → Format (List Begun) = λ measured. means (map (kept_begun false) measured) in
    (λ i. kept_field false b >>= λ m. fewer_fields list i >>= λ ms. means (m ∷ ms))
    ∙ then-then (lengths_field b) (λ m. means (kept_begun false m)) (λ m. (each lengths_field list >>= rest) >>= λ ms. means (m ∷ ms))
    ∙ (λ i. lengths_field b >>= λ m. then-then (each lengths_field list) rest (λ ms. means (kept_begun false m ∷ ms)) i)
    ∙ sym (then-then (lengths_field b) (λ m. each lengths_field list >>= λ ms. means (m ∷ ms)) rest
    ∙ (λ i. lengths_field b >>= λ m. then-then (each lengths_field list) (λ ms. means (m ∷ ms)) rest i))

pub kept_fields : (all : Bool) (list : List Begun) → each (kept_field all) list ≡ each lengths_field list >>= λ measured. means (kept_measured all measured)
kept_fields true list = (λ i. each (λ b. then-means (lengths_field b) i) list) ∙ sym (then-means (each lengths_field list))
kept_fields false list = fewer_fields list

-- ---- headers

pub kept_flags : (size : ℕ) (s : Subtable) → flags_of (kept_of size s) ≡ flags_of s
kept_flags size (constant flags byte) = refl
kept_flags size (pairs head sparse lengths packed) = refl

same_slots : (list : List Begun) → map slot_of (map (kept_begun false) list) ≡ map slot_of list
same_slots [] = refl
same_slots (b ∷ list) = ap (λ (l : List Slot). b.slot ∷ l) (same_slots list)

pub kept_slots : (all : Bool) (list : List Begun) → map slot_of (kept_measured all list) ≡ map slot_of list
kept_slots true list = refl
kept_slots false list = same_slots list

pub kept_many : (all : Bool) (list : List Begun) → length (kept_measured all list) ≡ length list
kept_many true list = refl
kept_many false list = length-map list (kept_begun false)

fewer_flags : (slots : List Slot) (subs : List Subtable) → length slots ≡ length subs → map flags_of (kept_subs false slots subs) ≡ map flags_of subs
fewer_flags [] [] e = refl
fewer_flags [] (s ∷ subs) e = absurd (omega (arith, e))
fewer_flags (slot ∷ slots) [] e = absurd (omega (arith, e))
fewer_flags (slot ∷ slots) (s ∷ subs) e =
    ap (λ (k : ℕ). k ∷ map flags_of (kept_subs false slots subs)) (kept_flags slot.size s) ∙ ap (λ (l : List ℕ). flags_of s ∷ l) (fewer_flags slots subs (omega (arith, e)))

pub kept_all_flags : (all : Bool) (slots : List Slot) (subs : List Subtable) → length slots ≡ length subs → map flags_of (kept_subs all slots subs) ≡ map flags_of subs
kept_all_flags true slots subs e = refl
kept_all_flags false slots subs e = fewer_flags slots subs e

-- ---- values

pub kept_values : (kind : Kind) (size : ℕ) (s : Subtable) → values_in kind size (kept_of size s) ≡ values_in kind size s
kept_values kind size (constant flags byte) = refl
kept_values kind size (pairs head sparse lengths packed) = kept_joined (layout_of head sparse lengths) packed size
