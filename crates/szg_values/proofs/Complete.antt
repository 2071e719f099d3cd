-- Men that stand are a placement, if their number and their kings are right.
use Rattle.std.proofs.Common.{◌≡◌, ◌∙◌, ◌/◌, ◌%◌, ℕ, Bool, true, false, ap, sym, refl, Some, None, length, inl, inr, List}
use Rattle.std.specs.Prelude.{◌&&◌, ◌==◌}
use Rattle.std.proofs.lemmas.Bool.{and_parts, cases_Bool, eqb-true}
use Rattle.szg_values.specs.Material.{is_count}
use Rattle.szg_values.specs.Placement.{PlacedMan, AreStanding, placement_fault, men_key, number_of, has_men}
use Rattle.szg_values.specs.declared.Man.TheVariants.{King}
use Rattle.szg_values.specs.declared.Color.TheVariants.{White, Black}
use Rattle.szg_values.specs.declared.PlacementFault.TheVariants as fault
use Rattle.szg_values.proofs.MenKeys.{kings_told, kings_kept}
use Rattle.szg_values.proofs.Sound.{no_fault_found}

abbrev pub has_kings : ℕ → Bool
has_kings key = key / 262144 % 8 == 1 && key / 4398046511104 == 1

pub complete_fault : (men : List PlacedMan) (key : ℕ) → AreStanding men → key ≡ men_key men → is_count (length men) ≡ true → has_kings key ≡ true →
    placement_fault men ≡ None
complete_fault men key known e count told =
    let kings = kings_told men known.few (sym (ap has_kings e) ∙ told) in
    no_fault_found men count kings.0 kings.1 known.apart known.inside

first_fault : (men : List PlacedMan) → has_men men ≡ false → placement_fault men ≡ Some fault.Men
unfolding placement_fault
first_fault men e = rw e refl

clash : (b : Bool) → b ≡ true → b ≡ false → ⊥
clash true e f = cc
clash false e f = cc

pub incomplete_fault : (men : List PlacedMan) (key : ℕ) → AreStanding men → key ≡ men_key men → (is_count (length men) ≡ true → has_kings key ≡ false) →
    placement_fault men ≡ Some fault.Men
incomplete_fault men key known e missing_king = elim (cases_Bool (has_men men)) [
  | inr missing ↦ first_fault men missing
  | inl there ↦
      let white = number_of King White men in let black = number_of King Black men in
      let both = and_parts (is_count (length men) && white == 1) (black == 1) there in
      let count = and_parts (is_count (length men)) (white == 1) both.0 in
      let kept = kings_kept men known.few (eqb-true white 1 count.1) (eqb-true black 1 both.1) in
      absurd (clash (has_kings key) (ap has_kings e ∙ kept) (missing_king count.0))
]
