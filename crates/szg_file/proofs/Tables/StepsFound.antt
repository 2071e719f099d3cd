-- The steps of a look-up in the subtable that a search finds.
use Rattle.std.proofs.Common.{◌≡◌, ℕ, refl, sym, ap, ◌∙◌, Some, None, Option, IfSome}
use Rattle.szg_block.specs.declared.Sub.{Sub}
use Rattle.szg_block.specs.declared.Sub.TheVariants.{Constant, Pairs}
use Rattle.szg_block.specs.declared.probing.Steps.{Steps}
use Rattle.szg_block.specs.Subtable.{packed_of, steps_over}
use Rattle.szg_file.specs.Contents.{Subtable, Slot}
use Rattle.szg_file.specs.Held.{subtable_of}
use Rattle.szg_file.specs.Lookup.{IsFound}
use Rattle.szg_file.specs.Steps.{steps_in, steps_of}

steps_found : (sub : Sub) (i : ℕ) → steps_over sub (packed_of sub) i ≡ steps_in (subtable_of sub) i
steps_found (Constant flags byte) i = refl
steps_found (Pairs flags block_bits span_bits extra blocks code dict sparse lengths packed) i = refl

pub steps_at : (there : Option (Slot × Subtable)) (sub : Sub) (size i : ℕ) (steps : Steps) → IsFound there size (subtable_of sub) →
    steps ≡ steps_over sub (packed_of sub) i → IfSome there (λ pair. steps ≡ steps_of pair i)
steps_at None sub size i steps h e = tt
steps_at (Some pair) sub size i steps h e = e ∙ steps_found sub i ∙ ap (λ (s : Subtable). steps_in s i) (sym h.1)
