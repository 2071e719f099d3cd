use Rattle.std.proofs.Common.{◌≡◌, ◌≤◌, List, [], ◌∷◌, length, take, refl, arith}
use Rattle.std.specs.Prelude.{IfSome, slice_get}
use Rattle.szg_values.specs.Placement.{PlacedMan}
use Rattle.szg_chess.proofs.men.few_men.Goals as goal

-- a list of at most six elements, read one by one
few : (xs : List PlacedMan) (a b c d e g : PlacedMan) → length xs ≤ 6 →
    IfSome (slice_get xs 0) (λ x. a ≡ x) → IfSome (slice_get xs 1) (λ x. b ≡ x) → IfSome (slice_get xs 2) (λ x. c ≡ x) →
    IfSome (slice_get xs 3) (λ x. d ≡ x) → IfSome (slice_get xs 4) (λ x. e ≡ x) → IfSome (slice_get xs 5) (λ x. g ≡ x) →
    take (length xs) (a ∷ b ∷ c ∷ d ∷ e ∷ g ∷ []) ≡ xs
few [] a b c d e g short ha hb hc hd he hg = refl
few (x0 ∷ []) a b c d e g short ha hb hc hd he hg = rw ha refl
few (x0 ∷ x1 ∷ []) a b c d e g short ha hb hc hd he hg = rw (ha, hb) refl
few (x0 ∷ x1 ∷ x2 ∷ []) a b c d e g short ha hb hc hd he hg = rw (ha, hb, hc) refl
few (x0 ∷ x1 ∷ x2 ∷ x3 ∷ []) a b c d e g short ha hb hc hd he hg = rw (ha, hb, hc, hd) refl
few (x0 ∷ x1 ∷ x2 ∷ x3 ∷ x4 ∷ []) a b c d e g short ha hb hc hd he hg = rw (ha, hb, hc, hd, he) refl
few (x0 ∷ x1 ∷ x2 ∷ x3 ∷ x4 ∷ x5 ∷ []) a b c d e g short ha hb hc hd he hg = rw (ha, hb, hc, hd, he, hg) refl
few (x0 ∷ x1 ∷ x2 ∷ x3 ∷ x4 ∷ x5 ∷ x6 ∷ rest) a b c d e g short ha hb hc hd he hg = absurd (omega (arith, short))

pub returns : goal.returns
returns c = few c.args.men.now c.man_or_default.result c.man_or_default-2.result c.man_or_default-3.result c.man_or_default-4.result c.man_or_default-5.result c.man_or_default-6.result c.requires
    c.man_or_default.ensures c.man_or_default-2.ensures c.man_or_default-3.ensures c.man_or_default-4.ensures c.man_or_default-5.ensures c.man_or_default-6.ensures
