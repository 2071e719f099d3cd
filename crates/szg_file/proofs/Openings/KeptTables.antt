-- A table without the block lengths that no value needs has the index and the values of the table.
use Rattle.std.proofs.Common.{◌≡◌, ℕ, Bool, false, List, [], ◌∷◌, ◌++◌, length, refl, sym, ap, ◌∙◌}
use Rattle.szg_values.specs.declared.Kind.{Kind}
use Rattle.szg_values.specs.Material.{Sides}
use Rattle.szg_file.specs.Contents.{Contents, Slot, Subtable, slots}
use Rattle.szg_file.specs.Index.{index_of, index_with}
use Rattle.szg_file.specs.Kept.{kept_contents, kept_subs}
use Rattle.szg_file.specs.Outline.{outlined}
use Rattle.szg_file.specs.Streaming.{values_if, wanted_of, wanted_values}
use Rattle.szg_file.specs.Values.{slotted, values_of}
use Rattle.szg_file.specs.declared.reading.Outline.{Outline}
use Rattle.szg_file.proofs.Grammar.KeptLaws.{kept_all_flags, kept_values}
use Rattle.szg_file.proofs.Openings.OutlinedLaws.{flags_whole, outline_index}

kept_wanted_values : (wanted : ℕ → ℕ → Bool) (kind : Kind) (slots : List Slot) (subs : List Subtable) → wanted_values wanted kind (slotted slots (kept_subs false slots subs)) ≡ wanted_values wanted kind (slotted slots subs)
kept_wanted_values wanted kind [] [] = refl
kept_wanted_values wanted kind [] (s ∷ subs) = refl
kept_wanted_values wanted kind (slot ∷ slots) [] = refl
kept_wanted_values wanted kind (slot ∷ slots) (s ∷ subs) =
    ap (λ (values : List ℕ). values_if (wanted slot.part slot.side) values ++ wanted_values wanted kind (slotted slots (kept_subs false slots subs))) (kept_values kind slot.size s)
    ∙ ap (λ (rest : List ℕ). values_if (wanted slot.part slot.side) (values_of kind (slot, s)) ++ rest) (kept_wanted_values wanted kind slots subs)

pub kept_wanted_of : (wanted : ℕ → ℕ → Bool) (t : Contents) → wanted_of wanted (kept_contents false t) ≡ wanted_of wanted t
kept_wanted_of wanted t = kept_wanted_values wanted t.kind (slots t.material t.kind t.parts) t.subtables

pub kept_index : (t : Contents) → length (slots t.material t.kind t.parts) ≡ length t.subtables → index_of (kept_contents false t) ≡ index_of t
kept_index t long = ap (λ (flags : List ℕ). index_with t.material t.kind t.parts flags t.maps) (kept_all_flags false (slots t.material t.kind t.parts) t.subtables long)

-- the index of the contents that were read
pub outline_index_is : (material : Sides) (kind : Kind) (bytes : List ℕ) (o : Outline) (t : Contents) → outlined material kind bytes o ≡ kept_contents false t →
    length (slots t.material t.kind t.parts) ≡ length t.subtables → outline_index material kind o ≡ index_of t
outline_index_is material kind bytes o t is long =
    let mine : Contents = outlined material kind bytes o in
    ap (λ (flags : List ℕ). index_with material kind mine.parts flags mine.maps) (sym (flags_whole bytes o.subs.items))
    ∙ ap index_of is ∙ kept_index t long
