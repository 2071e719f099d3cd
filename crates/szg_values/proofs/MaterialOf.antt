-- The men of a placement are those of a material.
use Rattle.std.proofs.Common.{◌≡◌, ℕ, zero, suc, ◌+◌, ◌≤◌, inl, inr, List, [], ◌∷◌, ◌++◌, length, refl, sym, subst, Bool, true, false, not, ◌&&◌, cond, arith, length-append, replicate}
use Rattle.std.specs.Prelude.{Option, Some, None, ◌==◌, nat_lt, nat_le}
use Rattle.std.specs.List.{list_all, list_any}
use Rattle.std.proofs.lemmas.List.Sums.{sum_by-cons}
use Rattle.std.proofs.Math.ListN.{length-replicate}
use Rattle.std.proofs.lemmas.Bool.{cases_order, eqb-true, eq-eqb, lt-ltb, le-ltb, and_from, and_parts, le-leb, leb-true}
use Rattle.std.proofs.Math.Bool.{or-true}
use Rattle.szg_values.specs.Men.{code_of, is_man, is_color}
use Rattle.szg_values.specs.Material.{has_king_first, is_in_order, is_not_later, may_be_first, is_count, is_material, IsMaterial}
use Rattle.szg_values.specs.Placement.{PlacedMan, number_of, has_men, placement_fault, side_of}
use Rattle.szg_values.specs.declared.Man.{Man}
use Rattle.szg_values.specs.declared.Man.TheVariants.{Pawn, Knight, Bishop, Rook, Queen, King}
use Rattle.szg_values.specs.declared.Color.{Color}
use Rattle.szg_values.specs.declared.Color.TheVariants.{White, Black}
use Rattle.szg_values.specs.declared.PlacementFault.{PlacementFault}
use Rattle.szg_values.specs.Laws.{LawMaterialOf}

-- men in name order, with no code above c
pub record IsOrderedBelow (c : ℕ) (men : List Man) : Type 0 where
  pub ordered : is_in_order men ≡ true
  pub capped : list_all (λ b. nat_le (code_of b) c) men ≡ true

pub capped_more : (men : List Man) (c d : ℕ) → c ≤ d → list_all (λ b. nat_le (code_of b) c) men ≡ true → list_all (λ b. nat_le (code_of b) d) men ≡ true
capped_more [] c d h e = refl
capped_more (man ∷ men) c d h e =
    let k = leb-true (code_of man) c (and_parts (nat_le (code_of man) c) (list_all (λ b. nat_le (code_of b) c) men) e).0 in
    and_from (nat_le (code_of man) d) (list_all (λ b. nat_le (code_of b) d) men) (le-leb (code_of man) d (omega arith))
    (capped_more men c d h (and_parts (nat_le (code_of man) c) (list_all (λ b. nat_le (code_of b) c) men) e).1)

-- n equal men before men of no higher code
front : (man : Man) (n c : ℕ) (men : List Man) → IsOrderedBelow (code_of man) men → code_of man ≤ c → IsOrderedBelow c (replicate n man ++ men)
front man zero c men a h = record { ordered = a.ordered; capped = capped_more men (code_of man) c h a.capped }
front man (suc n) c men a h =
    let same = front man n (code_of man) men a (omega arith) in
    let more = front man n c men a h in
    record {
      ordered = and_from (list_all (λ b. nat_le (code_of b) (code_of man)) (replicate n man ++ men)) (is_in_order (replicate n man ++ men)) same.capped same.ordered;
      capped = and_from (nat_le (code_of man) c) (list_all (λ b. nat_le (code_of b) c) (replicate n man ++ men)) (le-leb (code_of man) c h) more.capped;
    }

kingless : (man : Man) (n : ℕ) (men : List Man) → is_man King man ≡ false → list_any (is_man King) men ≡ false → list_any (is_man King) (replicate n man ++ men) ≡ false
kingless man zero men a b = b
kingless man (suc n) men a b = rw a (kingless man n men a b)

abbrev men_of_counts : ℕ → ℕ → ℕ → ℕ → ℕ → List Man
men_of_counts q r b n p = replicate q Queen ++ (replicate r Rook ++ (replicate b Bishop ++ (replicate n Knight ++ (replicate p Pawn ++ []))))

men_of_counts_ordered : (q r b n p : ℕ) → IsOrderedBelow 6 (men_of_counts q r b n p)
men_of_counts_ordered q r b n p =
    front Queen q 6 _ (front Rook r 5 _ (front Bishop b 4 _ (front Knight n 3 _ (front Pawn p 2 []
    (record { ordered = refl; capped = refl }) (omega arith)) (omega arith)) (omega arith)) (omega arith)) (omega arith)

men_of_counts_kingless : (q r b n p : ℕ) → list_any (is_man King) (men_of_counts q r b n p) ≡ false
men_of_counts_kingless q r b n p =
    kingless Queen q _ refl (kingless Rook r _ refl (kingless Bishop b _ refl (kingless Knight n _ refl (kingless Pawn p [] refl refl))))

length-men_of_counts : (q r b n p : ℕ) → length (men_of_counts q r b n p) ≡ q + (r + (b + (n + p)))
length-men_of_counts q r b n p = simp (length-append, length-replicate) (omega arith)

-- a side with one king
pub record IsSide (men : List Man) (count : ℕ) : Type 0 where
  pub king : has_king_first men ≡ true
  pub ordered : is_in_order men ≡ true
  pub number : length men ≡ count

abbrev side_of_counts : ℕ → ℕ → ℕ → ℕ → ℕ → ℕ → List Man
side_of_counts k q r b n p = replicate k King ++ men_of_counts q r b n p

side_of_counts-is : (k q r b n p : ℕ) → k ≡ 1 → IsSide (side_of_counts k q r b n p) (k + (q + (r + (b + (n + p)))))
side_of_counts-is k q r b n p e = subst (λ (x : ℕ). IsSide (side_of_counts x q r b n p) (x + (q + (r + (b + (n + p)))))) (sym e) (record {
  king = rw (men_of_counts_kingless q r b n p) refl;
  ordered = and_from (list_all (λ x. nat_le (code_of x) 6) (men_of_counts q r b n p)) (is_in_order (men_of_counts q r b n p)) (men_of_counts_ordered q r b n p).capped (men_of_counts_ordered q r b n p).ordered;
  number = let h = length-men_of_counts q r b n p in omega (arith, h);
})

-- ---- each man counts once

abbrev here : Man → Color → Man → Color → ℕ
here kind color man side = cond (is_man kind man && is_color color side) 1 0

abbrev pub all_kinds : (Man → ℕ) → ℕ
all_kinds f = f King + (f Queen + (f Rook + (f Bishop + (f Knight + f Pawn))))

once : (man : Man) (side : Color) → all_kinds (λ kind. here kind White man side) + all_kinds (λ kind. here kind Black man side) ≡ 1
once Pawn White = refl
once Pawn Black = refl
once Knight White = refl
once Knight Black = refl
once Bishop White = refl
once Bishop Black = refl
once Rook White = refl
once Rook Black = refl
once Queen White = refl
once Queen Black = refl
once King White = refl
once King Black = refl

number-cons : (kind : Man) (color : Color) (s : PlacedMan) (more : List PlacedMan) → number_of kind color (s ∷ more) ≡ here kind color s.0 s.1 + number_of kind color more
number-cons kind color s more = sum_by-cons (λ x. cond (is_man kind x.0 && is_color color x.1) 1 0) s more

kinds-cons : (color : Color) (s : PlacedMan) (more : List PlacedMan) →
    all_kinds (λ kind. number_of kind color (s ∷ more)) ≡ all_kinds (λ kind. here kind color s.0 s.1) + all_kinds (λ kind. number_of kind color more)
kinds-cons color s more =
    let a = number-cons King color s more in let b = number-cons Queen color s more in let c = number-cons Rook color s more in
    let d = number-cons Bishop color s more in let e = number-cons Knight color s more in let f = number-cons Pawn color s more in
    rw (a, b, c, d, e, f) (omega arith)

joined : (x y u v w z n : ℕ) → x ≡ u + v → y ≡ w + z → u + w ≡ 1 → v + z ≡ n → x + y ≡ suc n
joined x y u v w z n a b c d = omega arith

pub all_counted : (placed_men : List PlacedMan) → all_kinds (λ kind. number_of kind White placed_men) + all_kinds (λ kind. number_of kind Black placed_men) ≡ length placed_men
all_counted [] = refl
all_counted (s ∷ more) =
    joined (all_kinds (λ kind. number_of kind White (s ∷ more))) (all_kinds (λ kind. number_of kind Black (s ∷ more)))
    (all_kinds (λ kind. here kind White s.0 s.1)) (all_kinds (λ kind. number_of kind White more))
    (all_kinds (λ kind. here kind Black s.0 s.1)) (all_kinds (λ kind. number_of kind Black more)) (length more)
    (kinds-cons White s more) (kinds-cons Black s more) (once s.0 s.1) (all_counted more)

-- ---- one of two sides may be first

later_total : (a b : List Man) → length a ≡ length b → is_not_later a b ≡ false → is_not_later b a ≡ true
later_total [] b l e = cc
later_total (x ∷ a) [] l e = cc
later_total (x ∷ a) (y ∷ b) l e = elim (cases_order (code_of x) (code_of y)) [
  | inl s ↦ let f : is_man x y ≡ true = eq-eqb (code_of x) (code_of y) s in
      let g : is_man y x ≡ true = eq-eqb (code_of y) (code_of x) (sym s) in
      let h : nat_lt (code_of y) (code_of x) ≡ false = le-ltb (code_of y) (code_of x) (omega arith) in
      let i : is_not_later a b ≡ false = rw (h, f) at e in
      let m : length a ≡ length b = omega arith in
      rw (g, later_total a b m i) (or-true (nat_lt (code_of x) (code_of y)))
  | inr r ↦ elim r [
    | inl s ↦ rw (lt-ltb (code_of x) (code_of y) s) refl
    | inr g ↦ absurd (let k = rw (lt-ltb (code_of y) (code_of x) g) at e in cc)
  ]
]

first_total : (a b : List Man) → may_be_first a b ≡ false → may_be_first b a ≡ true
first_total a b e = elim (cases_order (length a) (length b)) [
  | inl s ↦ let f : (length a == length b) ≡ true = eq-eqb (length a) (length b) s in
      let g : (length b == length a) ≡ true = eq-eqb (length b) (length a) (sym s) in
      let h : nat_lt (length b) (length a) ≡ false = le-ltb (length b) (length a) (omega arith) in
      let i : is_not_later a b ≡ false = rw (h, f) at e in
      rw (g, later_total a b s i) (or-true (nat_lt (length a) (length b)))
  | inr r ↦ elim r [
    | inl s ↦ rw (lt-ltb (length a) (length b) s) refl
    | inr g ↦ absurd (let k = rw (lt-ltb (length b) (length a) g) at e in cc)
  ]
]

-- ---- the law

pub pass : (b : Bool) (fault : PlacementFault) (rest : Option PlacementFault) → cond (not b) (Some fault) rest ≡ None → b ≡ true
pass true fault rest e = refl
pass false fault rest e = cc

color_side : (color : Color) (placed_men : List PlacedMan) → (number_of King color placed_men == 1) ≡ true →
    IsSide (side_of color placed_men) (all_kinds (λ kind. number_of kind color placed_men))
color_side color placed_men e = side_of_counts-is (number_of King color placed_men) (number_of Queen color placed_men) (number_of Rook color placed_men)
    (number_of Bishop color placed_men) (number_of Knight color placed_men) (number_of Pawn color placed_men) (eqb-true (number_of King color placed_men) 1 e)

two_sides : (a b : List Man) (m n count : ℕ) → IsSide a m → IsSide b n → m + n ≡ count → is_count count ≡ true → may_be_first a b ≡ true → is_material (record { first = a; second = b }) ≡ true
two_sides a b m n count x y e c f =
    let l : length a + length b ≡ count = let g = x.number in let h = y.number in omega (arith, g, h, e) in
    rw (x.king, y.king, x.ordered, y.ordered, f, l, c) refl

picked : (t : Bool) (a b : List Man) → (t ≡ true → is_material (record { first = a; second = b }) ≡ true) → (t ≡ false → is_material (record { first = b; second = a }) ≡ true) →
    IsMaterial (cond t (record { first = a; second = b }) (record { first = b; second = a }))
picked true a b p q = p refl
picked false a b p q = q refl

pub material_of_placement : LawMaterialOf
unfolding placement_fault
material_of_placement placed_men h =
    let men = pass (has_men placed_men) _ _ h in
    let x = (and_parts (is_count (length placed_men) && number_of King White placed_men == 1) (number_of King Black placed_men == 1) men).0 in
    let c = (and_parts (is_count (length placed_men)) (number_of King White placed_men == 1) x).0 in
    let w = color_side White placed_men (and_parts (is_count (length placed_men)) (number_of King White placed_men == 1) x).1 in
    let b = color_side Black placed_men (and_parts (is_count (length placed_men) && number_of King White placed_men == 1) (number_of King Black placed_men == 1) men).1 in
    let white = side_of White placed_men in let black = side_of Black placed_men in
    let m = all_kinds (λ kind. number_of kind White placed_men) in let n = all_kinds (λ kind. number_of kind Black placed_men) in
    let total = all_counted placed_men in
    let swapped : n + m ≡ length placed_men = omega (arith, total) in
    picked (may_be_first white black) white black
    (λ t. two_sides white black m n (length placed_men) w b total c t)
    (λ t. two_sides black white n m (length placed_men) b w swapped c (first_total white black t))
