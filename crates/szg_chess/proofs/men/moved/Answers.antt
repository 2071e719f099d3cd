use Rattle.std.proofs.Common.{◌≡◌, List, [], ◌∷◌, length, get_or, take, map, ap, ◌∙◌, refl}
use Rattle.std.proofs.lemmas.List.{take-map}
use Rattle.szg_values.specs.Placement.{PlacedMan}
use Rattle.szg_chess.specs.Moves.{man_after}
use Rattle.szg_chess.proofs.men.moved.Goals as goal

-- the images of the six elements of a list
six : (f : PlacedMan → PlacedMan) (xs : List PlacedMan) (a b c d e g a2 b2 c2 d2 e2 g2 : PlacedMan) → length xs ≡ 6 →
    a2 ≡ f (get_or xs 0 a) → b2 ≡ f (get_or xs 1 b) → c2 ≡ f (get_or xs 2 c) → d2 ≡ f (get_or xs 3 d) → e2 ≡ f (get_or xs 4 e) → g2 ≡ f (get_or xs 5 g) →
    a2 ∷ b2 ∷ c2 ∷ d2 ∷ e2 ∷ g2 ∷ [] ≡ map f xs
six f (x0 ∷ x1 ∷ x2 ∷ x3 ∷ x4 ∷ x5 ∷ []) a b c d e g a2 b2 c2 d2 e2 g2 long ha hb hc hd he hg = rw (ha, hb, hc, hd, he, hg) refl
six f [] a b c d e g a2 b2 c2 d2 e2 g2 long ha hb hc hd he hg = cc
six f (x0 ∷ []) a b c d e g a2 b2 c2 d2 e2 g2 long ha hb hc hd he hg = cc
six f (x0 ∷ x1 ∷ []) a b c d e g a2 b2 c2 d2 e2 g2 long ha hb hc hd he hg = cc
six f (x0 ∷ x1 ∷ x2 ∷ []) a b c d e g a2 b2 c2 d2 e2 g2 long ha hb hc hd he hg = cc
six f (x0 ∷ x1 ∷ x2 ∷ x3 ∷ []) a b c d e g a2 b2 c2 d2 e2 g2 long ha hb hc hd he hg = cc
six f (x0 ∷ x1 ∷ x2 ∷ x3 ∷ x4 ∷ []) a b c d e g a2 b2 c2 d2 e2 g2 long ha hb hc hd he hg = cc
six f (x0 ∷ x1 ∷ x2 ∷ x3 ∷ x4 ∷ x5 ∷ x6 ∷ rest) a b c d e g a2 b2 c2 d2 e2 g2 long ha hb hc hd he hg = cc

pub returns : goal.returns
returns c =
    let f = man_after c.args.m.now in let places = c.men.inside.places in let n = c.men.inside.count in
    let all = six f places c.index-men-0.result c.index-men-1.result c.index-men-2.result c.index-men-3.result c.index-men-4.result c.index-men-5.result
    c.man_after.result c.man_after-2.result c.man_after-3.result c.man_after-4.result c.man_after-5.result c.man_after-6.result c.men.invariant.1
    c.man_after.ensures c.man_after-2.ensures c.man_after-3.ensures c.man_after-4.ensures c.man_after-5.ensures c.man_after-6.ensures in
    ap (take n) all ∙ take-map f n places ∙ ap (map f) c.men.view_is
