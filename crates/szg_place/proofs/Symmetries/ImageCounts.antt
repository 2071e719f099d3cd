-- An image has as many men of each kind, with the colours exchanged or not, and the same material.
use Rattle.std.proofs.Common.{◌≡◌, ℕ, ◌+◌, ◌<◌, ◌≤◌, ◌↔◌, ◌⊎◌, inl, inr, List, [], ◌∷◌, ◌++◌, length, map, refl, sym, ap, ◌∙◌, subst, Bool, true, false, cond, arith, replicate}
use Rattle.std.specs.Prelude.{◌==◌, nat_lt, count_by, flat_map, None}
use Rattle.std.proofs.Math.Bool.{◌&&◌}
use Rattle.std.proofs.lemmas.Bool.{eqb-true, ltb-true, and_parts, or_cases}
use Rattle.std.proofs.lemmas.List.Sums.{sum_by-append}
use Rattle.szg_values.specs.Men.{code_of, is_man, is_color, name_order}
use Rattle.szg_values.specs.Material.{Sides, is_not_later, may_be_first}
use Rattle.szg_values.specs.Placement.{PlacedMan, Board, number_of, placement_fault, side_of, material_of}
use Rattle.szg_values.specs.declared.Man.{Man}
use Rattle.szg_values.specs.declared.Color.{Color}
use Rattle.szg_values.specs.declared.Color.TheVariants.{White, Black}
use Rattle.szg_values.proofs.SameMen.{same_code}
use Rattle.szg_values.proofs.MaterialOf.{material_of_placement}
use Rattle.szg_count.specs.Laws.{IsIn, AllDiffer}
use Rattle.szg_count.proofs.Differ.{IsIn-map}
use Rattle.szg_place.specs.Normal.{exchanged_color}
use Rattle.szg_place.specs.Slots.{flipped_by}
use Rattle.szg_place.specs.Laws.{IsOnBoard}
use Rattle.szg_place.specs.Images.{man_image, IsBoardImage}
use Rattle.szg_place.proofs.Ranks.Lists.{tested, IsIn-map_back}
use Rattle.szg_place.proofs.MenOnSlots.Pieces.{count-cons}
use Rattle.szg_place.proofs.MenOnSlots.Standing.{placed, apart_differ, sorted}

-- ---- lists with the same elements

split : {A : Type 0} (x : A) (ys : List A) → IsIn x ys → (front : List A) × (back : List A) × (ys ≡ front ++ x ∷ back)
split x [] h = absurd h
split {A} x (y ∷ ys) (inl e) = ([], ys, ap (λ (z : A). z ∷ ys) (sym e))
split {A} x (y ∷ ys) (inr h) = let r = split x ys h in (y ∷ r.0, r.1, ap (λ (l : List A). y ∷ l) r.2)

elsewhere : {A : Type 0} (x y : A) (front back : List A) → IsIn y (front ++ x ∷ back) → (y ≡ x → ⊥) → IsIn y (front ++ back)
elsewhere x y [] back (inl e) n = absurd (n e)
elsewhere x y [] back (inr h) n = h
elsewhere x y (z ∷ front) back (inl e) n = inl e
elsewhere x y (z ∷ front) back (inr h) n = inr (elsewhere x y front back h n)

-- different elements that are all in a list are not more than the list has
not_more : {A : Type 0} (test : A → Bool) (xs ys : List A) → AllDiffer xs → ((x : A) → IsIn x xs → IsIn x ys) → count_by test xs ≤ count_by test ys
not_more test [] ys d h = omega arith
not_more {A} test (x ∷ xs) ys d h =
    let r = split x ys (h x (inl refl)) in
    let rest = not_more test xs (r.0 ++ r.1) d.1 (λ y i. elsewhere x y r.0 r.1 (subst (λ (l : List A). IsIn y l) r.2 (h y (inr i))) (λ e. d.0 (subst (λ (z : A). IsIn z xs) e i))) in
    let here = count-cons test x xs in
    let there : count_by test ys ≡ count_by test r.0 + count_by test (x ∷ r.1) = ap (count_by test) r.2 ∙ sum_by-append (λ y. cond (test y) 1 0) r.0 (x ∷ r.1) in
    let one = count-cons test x r.1 in
    let both : count_by test (r.0 ++ r.1) ≡ count_by test r.0 + count_by test r.1 = sum_by-append (λ y. cond (test y) 1 0) r.0 r.1 in
    omega (arith, rest, here, there, one, both)

same_count : {A : Type 0} (test : A → Bool) (xs ys : List A) → AllDiffer xs → AllDiffer ys → ((x : A) → IsIn x xs ↔ IsIn x ys) → count_by test xs ≡ count_by test ys
same_count test xs ys d e h = let up = not_more test xs ys d (λ x. (h x).0) in let down = not_more test ys xs e (λ x. (h x).1) in omega (arith, up, down)

differ_men : (men : List PlacedMan) → AllDiffer (map (λ (s : PlacedMan). s.2) men) → AllDiffer men
differ_men [] d = tt
differ_men (s ∷ men) d = (λ i. d.0 (IsIn-map_back (λ (t : PlacedMan). t.2) men s i), differ_men men d.1)

differ_images : (f : PlacedMan → PlacedMan) (men : List PlacedMan) → ((s t : PlacedMan) → IsIn s men → IsIn t men → f s ≡ f t → s ≡ t) → AllDiffer men → AllDiffer (map f men)
differ_images f [] h d = tt
differ_images f (s ∷ men) h d = (
  λ i. let r = IsIn-map f men (f s) i in d.0 (subst (λ (t : PlacedMan). IsIn t men) (sym (h s r.0 (inl refl) (inr r.1) r.2)) r.1),
  differ_images f men (λ t u i j e. h t u (inr i) (inr j) e) d.1,
)

-- ---- images of men

color_again : (exchanged : Bool) (color : Color) → exchanged_color exchanged (exchanged_color exchanged color) ≡ color
color_again true White = refl
color_again true Black = refl
color_again false White = refl
color_again false Black = refl

flips_again : (files ranks : Bool) (x : ℕ) → x < 64 → flipped_by files ranks false (flipped_by files ranks false x) ≡ x
flips_again false false x h = refl
flips_again true false x h = eqb-true _ _ (tested (λ y. flipped_by true false false (flipped_by true false false y) == y) 64 x refl h)
flips_again false true x h = eqb-true _ _ (tested (λ y. flipped_by false true false (flipped_by false true false y) == y) 64 x refl h)
flips_again true true x h = eqb-true _ _ (tested (λ y. flipped_by true true false (flipped_by true true false y) == y) 64 x refl h)

pub image_again : (exchanged files ranks : Bool) (s : PlacedMan) → s.2 < 64 → man_image exchanged files ranks (man_image exchanged files ranks s) ≡ s
image_again exchanged files ranks s h =
    ap (λ (c : Color). (s.0, c, flipped_by files ranks false (flipped_by files ranks false s.2))) (color_again exchanged s.1)
    ∙ ap (λ (n : ℕ). (s.0, s.1, n)) (flips_again files ranks s.2 h)

color_image : (exchanged : Bool) (color other : Color) → is_color (exchanged_color exchanged color) (exchanged_color exchanged other) ≡ is_color color other
color_image true White White = refl
color_image true White Black = refl
color_image true Black White = refl
color_image true Black Black = refl
color_image false color other = refl

number_image : (exchanged files ranks : Bool) (sort : Man) (color : Color) (men : List PlacedMan) →
    number_of sort (exchanged_color exchanged color) (map (man_image exchanged files ranks) men) ≡ number_of sort color men
number_image exchanged files ranks sort color [] = refl
number_image exchanged files ranks sort color (s ∷ men) =
    count-cons (λ (t : PlacedMan). is_man sort t.0 && is_color (exchanged_color exchanged color) t.1) (man_image exchanged files ranks s) (map (man_image exchanged files ranks) men)
    ∙ ap (λ (b : Bool). cond (is_man sort s.0 && b) 1 0 + number_of sort (exchanged_color exchanged color) (map (man_image exchanged files ranks) men)) (color_image exchanged color s.1)
    ∙ ap (λ (n : ℕ). cond (is_man sort s.0 && is_color color s.1) 1 0 + n) (number_image exchanged files ranks sort color men)
    ∙ sym (count-cons (λ (t : PlacedMan). is_man sort t.0 && is_color color t.1) s men)

-- ---- sides that may both be first

-- one side is longer, or both have the same length and the lists are in order
first_by : (a b : List Man) → may_be_first a b ≡ true → (length b < length a) ⊎ ((length a ≡ length b) × (is_not_later a b ≡ true))
first_by a b e = elim (or_cases (nat_lt (length b) (length a)) (length a == length b && is_not_later a b) e) [
  | inl t ↦ inl (ltb-true (length b) (length a) t)
  | inr t ↦ let r = and_parts (length a == length b) (is_not_later a b) t in inr (eqb-true (length a) (length b) r.0, r.1)
]

later_by : (x y : Man) (a b : List Man) → is_not_later (x ∷ a) (y ∷ b) ≡ true → (code_of y < code_of x) ⊎ ((code_of x ≡ code_of y) × (is_not_later a b ≡ true))
later_by x y a b e = elim (or_cases (nat_lt (code_of y) (code_of x)) (is_man x y && is_not_later a b) e) [
  | inl t ↦ inl (ltb-true (code_of y) (code_of x) t)
  | inr t ↦ let r = and_parts (is_man x y) (is_not_later a b) t in inr (eqb-true (code_of x) (code_of y) r.0, r.1)
]

later_both : (a b : List Man) → length a ≡ length b → is_not_later a b ≡ true → is_not_later b a ≡ true → a ≡ b
later_both [] [] l p q = refl
later_both [] (y ∷ b) l p q = absurd (omega (arith, l))
later_both (x ∷ a) [] l p q = absurd (omega (arith, l))
later_both (x ∷ a) (y ∷ b) l p q = elim (later_by x y a b p) [
  | inl u ↦ absurd (elim (later_by y x b a q) [ inl v ↦ omega (arith, u, v) | inr v ↦ let k = v.0 in omega (arith, u, k) ])
  | inr u ↦ elim (later_by y x b a q) [
    | inl v ↦ absurd (let k = u.0 in omega (arith, v, k))
    | inr v ↦ ap (λ (z : Man). z ∷ a) (same_code x y u.0) ∙ ap (λ (l : List Man). y ∷ l) (later_both a b (omega (arith, l)) u.1 v.1)
  ]
]

first_both : (a b : List Man) → may_be_first a b ≡ true → may_be_first b a ≡ true → a ≡ b
first_both a b p q = elim (first_by a b p) [
  | inl u ↦ absurd (elim (first_by b a q) [ inl v ↦ omega (arith, u, v) | inr v ↦ let k = v.0 in omega (arith, u, k) ])
  | inr u ↦ elim (first_by b a q) [
    | inl v ↦ absurd (let k = u.0 in omega (arith, v, k))
    | inr v ↦ later_both a b u.0 u.1 v.1
  ]
]

-- a material of White's men and Black's
abbrev named : List Man → List Man → Sides
named white black = cond (may_be_first white black) (record { first = white; second = black }) (record { first = black; second = white })

named_either : (white black : List Man) (s t : Bool) → may_be_first white black ≡ s → may_be_first black white ≡ t → may_be_first (named white black).first (named white black).second ≡ true →
    named black white ≡ named white black
named_either white black true true p q h = let e = first_both white black p q in rw (p, q) (ap (λ (l : List Man). let m : Sides = record { first = l; second = white } in m) (sym e) ∙ ap (λ (l : List Man). let m : Sides = record { first = white; second = l } in m) e)
named_either white black true false p q h = rw (p, q) refl
named_either white black false true p q h = rw (p, q) refl
named_either white black false false p q h = absurd (let k : may_be_first black white ≡ true = rw p at h in clash (may_be_first black white) k q) where
  clash : (b : Bool) → b ≡ true → b ≡ false → ⊥
  clash true e f = cc
  clash false e f = cc

-- ---- boards

module _ (exchanged files ranks : Bool) (a b : Board) (inside : IsOnBoard a) (fine : placement_fault a.placed_men ≡ None) (other_fine : placement_fault b.placed_men ≡ None)
    (image : IsBoardImage exchanged files ranks a b) where
  pub number_same : (kind : Man) (color : Color) → number_of kind (exchanged_color exchanged color) b.placed_men ≡ number_of kind color a.placed_men
  number_same kind color =
      let change : PlacedMan → PlacedMan = man_image exchanged files ranks in
      let differ = differ_images change a.placed_men
      (λ s t i j e. sym (image_again exchanged files ranks s (inside s i)) ∙ ap change e ∙ image_again exchanged files ranks t (inside t j))
      (differ_men a.placed_men (apart_differ a.placed_men (placed a.placed_men fine).apart)) in
      same_count (λ (s : PlacedMan). is_man kind s.0 && is_color (exchanged_color exchanged color) s.1) b.placed_men (map change a.placed_men)
      (differ_men b.placed_men (apart_differ b.placed_men (placed b.placed_men other_fine).apart)) differ image.men
      ∙ number_image exchanged files ranks kind color a.placed_men

  pub side_same : (color : Color) → side_of (exchanged_color exchanged color) b.placed_men ≡ side_of color a.placed_men
  side_same color = each name_order where
    each : (kinds : List Man) → flat_map (λ kind. replicate (number_of kind (exchanged_color exchanged color) b.placed_men) kind) kinds ≡ flat_map (λ kind. replicate (number_of kind color a.placed_men) kind) kinds
    each [] = refl
    each (kind ∷ kinds) =
        ap (λ (n : ℕ). replicate n kind ++ flat_map (λ kind. replicate (number_of kind (exchanged_color exchanged color) b.placed_men) kind) kinds) (number_same kind color)
        ∙ ap (λ (l : List Man). replicate (number_of kind color a.placed_men) kind ++ l) (each kinds)

  pub material_same : material_of b.placed_men ≡ material_of a.placed_men
  material_same = by_colors exchanged (side_same White) (side_same Black) where
    white : List Man
    white = side_of White a.placed_men

    black : List Man
    black = side_of Black a.placed_men

    by_colors : (e : Bool) → side_of (exchanged_color e White) b.placed_men ≡ side_of White a.placed_men → side_of (exchanged_color e Black) b.placed_men ≡ side_of Black a.placed_men →
        named (side_of White b.placed_men) (side_of Black b.placed_men) ≡ named (side_of White a.placed_men) (side_of Black a.placed_men)
    by_colors true p q =
        ap (λ (l : List Man). named l (side_of Black b.placed_men)) q ∙ ap (λ (l : List Man). named (side_of Black a.placed_men) l) p
        ∙ named_either (side_of White a.placed_men) (side_of Black a.placed_men) (may_be_first (side_of White a.placed_men) (side_of Black a.placed_men)) (may_be_first (side_of Black a.placed_men) (side_of White a.placed_men)) refl refl
        (sorted (material_of a.placed_men) (material_of_placement a.placed_men fine)).named
    by_colors false p q = ap (λ (l : List Man). named l (side_of Black b.placed_men)) p ∙ ap (λ (l : List Man). named (side_of White a.placed_men) l) q
