use Rattle.std.proofs.Common.{◌≡◌, ◌∙◌, true, false, ap, refl, sym, subst}
use Rattle.std.proofs.lemmas.Int.{to_z-of_z}
use Rattle.std.specs.Prelude.{ℤ, Err}
use mir.Syntax.{w8}
use Rattle.szg_values.specs.declared.Kind.{Kind}
use Rattle.szg_values.specs.declared.Kind.TheVariants.{Dtz}
use Rattle.szg_file.specs.Index.{Index}
use Rattle.szg_c.specs.Outcomes.{IsOutcome}
use Rattle.szg_c.specs.Places.{is_class}
use Rattle.szg_c.specs.declared.places.Unfound.TheVariants.{Status}
use Rattle.szg_c.proofs.places.outcome_of.Goals as goal

pub returns-then-not-is_class : goal.returns-then-not-is_class
returns-then-not-is_class g c =
    let x = g.V.Values.index_in c.args.values in let is_value = g.V.Values.is_value c.args.values in let is_fault = g.V.Values.is_fault c.args.values in
    let of_index : c.index.result.now.kind ≡ x.kind = ap (λ (x : Index). x.kind) c.index.ensures in
    let queried = c.kind.ensures in let is = c.in-Dtz.is in
    let kind_is : x.kind ≡ Dtz = cc in
    let outside : is_class c.args.class ≡ false = subst (λ (z : ℤ). is_class z ≡ false) (to_z-of_z w8 c.args.class c.ranges.class) (sym c.is_class.ensures ∙ c.if-not-is_class.true) in
    subst (λ (k : Kind). IsOutcome k x is_value is_fault c.args.class c.args.placement.now (Err (Status 4))) (sym kind_is)
    (λ inside. let clash : true ≡ false = sym inside ∙ outside in absurd (cc clash), λ out. refl)
