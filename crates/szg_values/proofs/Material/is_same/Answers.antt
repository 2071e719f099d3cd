use Rattle.std.proofs.Common.{◌≡◌, ◌∙◌, sym, subst, true, ◌&&◌}
use Rattle.szg_values.specs.Material.{Sides, IsMaterial, is_same_men}
use Rattle.szg_values.proofs.SameMen.{same_sides-Decides}
use Rattle.szg_values.proofs.Material.is_same.Goals as goal

pub returns-then-has_same_men-clause-equal : goal.returns-then-has_same_men-clause-equal
returns-then-has_same_men-clause-equal c =
    let a : Sides = c.args.self.now in let b : Sides = c.args.other.now in
    let p : IsMaterial a = subst (λ (s : Sides). IsMaterial s) c.self.view_is c.self.invariant in
    let q : IsMaterial b = subst (λ (s : Sides). IsMaterial s) c.other.view_is c.other.invariant in
    let d = same_sides-Decides a b p q in
    let first : is_same_men a.first b.first ≡ true =
    rw (← c.self.view_is, ← c.other.view_is, ← c.as_slice.ensures.value, ← c.as_slice-2.ensures.value) (sym c.has_same_men.ensures ∙ c.if-has_same_men.true) in
    let second : c.has_same_men-then-has_same_men.result ≡ is_same_men a.second b.second =
    rw (← c.self.view_is, ← c.other.view_is, ← c.as_slice-then-has_same_men.ensures.value, ← c.as_slice-then-has_same_men-2.ensures.value) c.has_same_men-then-has_same_men.ensures in
    let both : c.has_same_men-then-has_same_men.result ≡ (is_same_men a.first b.first && is_same_men a.second b.second) = rw first second in
    (λ t. d.0 (sym both ∙ t), λ e. both ∙ d.1 e)
