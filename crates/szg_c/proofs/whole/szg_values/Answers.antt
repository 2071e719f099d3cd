use Rattle.std.proofs.Common.{◌≡◌, ◌≢◌, ◌∙◌, ℕ, List, Bool, true, false, length, refl, sym, subst, inl, inr, Some, None, Option}
use Rattle.std.specs.Prelude.{◌==◌, ◌⊎◌, IfSome, IsNone}
use Rattle.std.proofs.lemmas.Bool.{cases_Bool, eqb-true, eq-eqb}
use Rattle.szg_file.specs.Contents.{Slot, Subtable}
use Rattle.szg_file.specs.Held.{Shown}
use Rattle.szg_file.specs.Values.{subtable_at}
use Rattle.szg_c.specs.Reported.{IsTable, Reports}
use Rattle.szg_c.proofs.whole.szg_values.Goals as goal

-- a list of the right length is filled; any other is refused like one for a subtable that does not exist
outcomes : (o : Option (Slot × Subtable)) (count result : ℕ) → IfSome o (λ found. count ≡ found.0.size → result ≡ 0) → (IsNone o → result ≡ 4) →
    IfSome o (λ found. count ≢ found.0.size → result ≡ 4) → (result ≡ 0) ⊎ (result ≡ 4)
outcomes None count result there missing other = inr (missing refl)
outcomes (Some found) count result there missing other = elim (cases_Bool (count == found.0.size)) [
  | inl t ↦ inl (there (eqb-true count found.0.size t))
  | inr f ↦ inr (other (λ e. let t = eq-eqb count found.0.size e in let no : true ≡ false = sym t ∙ f in cc))
]

-- a list that is refused has another length
outside : (o : Option (Slot × Subtable)) (count result : ℕ) → IfSome o (λ found. count ≡ found.0.size → result ≡ 0) → result ≡ 4 → IfSome o (λ found. count ≢ found.0.size)
outside None count result there e = tt
outside (Some found) count result there e = λ same. let a : result ≡ 0 = there same in let no : 0 ≡ 4 = sym a ∙ e in cc

says : (name : List ℕ) (dtz : Bool) (bytes : List ℕ) (done out : Shown → Type 0) (t : Shown) (result place reason : ℕ) → IsTable name dtz bytes t → (result ≡ 0 → done t) → (result ≡ 4 → out t) →
    (result ≡ 0) ⊎ (result ≡ 4) → Reports name dtz bytes done out result place reason
says name dtz bytes done out t result place reason is a b (inl e) = subst (λ (k : ℕ). Reports name dtz bytes done out k place reason) (sym e) (t, is, a e)
says name dtz bytes done out t result place reason is a b (inr e) = subst (λ (k : ℕ). Reports name dtz bytes done out k place reason) (sym e) (t, is, b e)

pub returns-in-Ok-clause-says : goal.returns-in-Ok-clause-says
returns-in-Ok-clause-says c =
    let o = subtable_at c.in-Ok.table.contents c.args.part c.args.side in let old = length c.args.values.now in let reported = c.values_in.ensures in
    says c.args.name.now c.args.dtz c.args.bytes.now _ _ c.in-Ok.table c.values_in.result _ _ c.in-Ok.ensures.table reported.done (outside o old c.values_in.result reported.there) (outcomes o old c.values_in.result reported.there reported.missing reported.other_length)
