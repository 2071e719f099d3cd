-- Two sides in name order have the same number of men of each kind exactly if they are the same list.
use Rattle.std.proofs.Common.{◌≡◌, ℕ, ◌+◌, ◌<◌, inl, inr, List, [], ◌∷◌, refl, sym, ap, ◌∙◌, subst, Bool, true, false, cond, if◌then◌else◌, arith, zero, suc, length, get_or, lit<, Decides}
use Rattle.std.specs.Prelude.{◌&&◌, count_by, ◌==◌, nat_le}
use Rattle.std.specs.List.{list_all}
use Rattle.std.proofs.lemmas.List.Sums.{sum_by-cons}
use Rattle.std.proofs.lemmas.Bool.{cases_order, eqb-true, eq-eqb, and_parts, leb-true}
use Rattle.std.proofs.lemmas.Bool.Decides.{nat_tests}
use Rattle.szg_values.specs.Men.{code_of, is_man, name_order}
use Rattle.szg_values.specs.Material.{Sides, has_king_first, is_in_order, may_be_first, is_count, IsMaterial, is_same_men}
use Rattle.szg_values.specs.declared.Man.{Man}
use Rattle.szg_values.specs.declared.Man.TheVariants.{Pawn, Knight, Bishop, Rook, Queen, King}

man_at : ℕ → Man
man_at code =
    if code == 1 then Pawn else if code == 2 then Knight else if code == 3 then Bishop else if code == 4 then Rook else if code == 5 then Queen else King

man_at-code_of : (man : Man) → man_at (code_of man) ≡ man
unfolding man_at
man_at-code_of Pawn = refl
man_at-code_of Knight = refl
man_at-code_of Bishop = refl
man_at-code_of Rook = refl
man_at-code_of Queen = refl
man_at-code_of King = refl

pub same_code : (x y : Man) → code_of x ≡ code_of y → x ≡ y
same_code x y e = sym (man_at-code_of x) ∙ ap man_at e ∙ man_at-code_of y

is_man-same : (x : Man) → is_man x x ≡ true
is_man-same x = eq-eqb (code_of x) (code_of x) refl

count_kind-cons : (kind x : Man) (men : List Man) → count_by (is_man kind) (x ∷ men) ≡ cond (is_man kind x) 1 0 + count_by (is_man kind) men
count_kind-cons kind x men = sum_by-cons (λ y. cond (is_man kind y) 1 0) x men

count_kind-here : (x : Man) (men : List Man) → count_by (is_man x) (x ∷ men) ≡ 1 + count_by (is_man x) men
count_kind-here x men = count_kind-cons x x men ∙ rw (is_man-same x) refl

-- a kind with a higher code than all men does not occur among them
none_above : (y : Man) (c : ℕ) (men : List Man) → list_all (λ b. nat_le (code_of b) c) men ≡ true → c < code_of y → count_by (is_man y) men ≡ 0
none_above y c [] h l = refl
none_above y c (x ∷ men) h l =
    let below = leb-true (code_of x) c (and_parts (nat_le (code_of x) c) (list_all (λ b. nat_le (code_of b) c) men) h).0 in
    let other : is_man y x ≡ false = grind (arith, nat_tests) in
    count_kind-cons y x men ∙ rw (other, none_above y c men (and_parts (nat_le (code_of x) c) (list_all (λ b. nat_le (code_of b) c) men) h).1 l) refl

same_from_counts : (a b : List Man) → is_in_order a ≡ true → is_in_order b ≡ true → ((kind : Man) → count_by (is_man kind) a ≡ count_by (is_man kind) b) → a ≡ b
same_from_counts [] [] p q h = refl
same_from_counts [] (y ∷ b) p q h = absurd (let n = h y in let m = count_kind-here y b in omega (arith, n, m))
same_from_counts (x ∷ a) [] p q h = absurd (let n = h x in let m = count_kind-here x a in omega (arith, n, m))
same_from_counts (x ∷ a) (y ∷ b) p q h = elim (cases_order (code_of x) (code_of y)) [
  | inl s ↦ let e = same_code x y s in
      let tails : (kind : Man) → count_by (is_man kind) a ≡ count_by (is_man kind) b = λ kind.
      let m = count_kind-cons kind x a in let n = count_kind-cons kind y b in let k = h kind in
      let r : ◌≡◌ {A = ℕ} (cond (is_man kind x) 1 0) (cond (is_man kind y) 1 0) = ap (λ z. cond (is_man kind z) 1 0) e in omega (arith, m, n, k, r) in
      ap (λ z. z ∷ a) e ∙ ap (λ men. y ∷ men) (same_from_counts a b (and_parts (list_all (λ z. nat_le (code_of z) (code_of x)) a) (is_in_order a) p).1 (and_parts (list_all (λ z. nat_le (code_of z) (code_of y)) b) (is_in_order b) q).1 tails)
  | inr r ↦ elim r [
    | inl s ↦ absurd (
        let other : is_man y x ≡ false = grind (arith, nat_tests) in
        let none : count_by (is_man y) (x ∷ a) ≡ 0 = count_kind-cons y x a ∙ rw (other, none_above y (code_of x) a (and_parts (list_all (λ z. nat_le (code_of z) (code_of x)) a) (is_in_order a) p).0 s) refl in
        let n = h y in let m = count_kind-here y b in omega (arith, n, m, none))
    | inr g ↦ absurd (
        let other : is_man x y ≡ false = grind (arith, nat_tests) in
        let none : count_by (is_man x) (y ∷ b) ≡ 0 = count_kind-cons x y b ∙ rw (other, none_above x (code_of y) b (and_parts (list_all (λ z. nat_le (code_of z) (code_of y)) b) (is_in_order b) q).0 g) refl in
        let n = h x in let m = count_kind-here x a in omega (arith, n, m, none))
  ]
]

-- ---- the six counts

passes_at : (test : Man → Bool) (men : List Man) (i : ℕ) (d : Man) → list_all test men ≡ true → i < length men → test (get_or men i d) ≡ true
passes_at test [] i d h l = absurd (omega arith)
passes_at test (x ∷ men) zero d h l = (and_parts (test x) (list_all test men) h).0
passes_at test (x ∷ men) (suc i) d h l = passes_at test men i d (and_parts (test x) (list_all test men) h).1 (omega arith)

all_kinds_pass : (test : Man → Bool) → list_all test name_order ≡ true → (kind : Man) → test kind ≡ true
all_kinds_pass test h King = passes_at test name_order 0 King h (lit< tt)
all_kinds_pass test h Queen = passes_at test name_order 1 King h (lit< tt)
all_kinds_pass test h Rook = passes_at test name_order 2 King h (lit< tt)
all_kinds_pass test h Bishop = passes_at test name_order 3 King h (lit< tt)
all_kinds_pass test h Knight = passes_at test name_order 4 King h (lit< tt)
all_kinds_pass test h Pawn = passes_at test name_order 5 King h (lit< tt)

counts_from : (a b : List Man) → is_same_men a b ≡ true → (kind : Man) → count_by (is_man kind) a ≡ count_by (is_man kind) b
counts_from a b h kind = eqb-true (count_by (is_man kind) a) (count_by (is_man kind) b)
    (all_kinds_pass (λ k. count_by (is_man k) a == count_by (is_man k) b) h kind)

pub same_men : (a b : List Man) → is_in_order a ≡ true → is_in_order b ≡ true → is_same_men a b ≡ true → a ≡ b
same_men a b p q h = same_from_counts a b p q (counts_from a b h)

same_number : (n : ℕ) → (n == n) ≡ true
same_number n = eq-eqb n n refl

pub same_men-refl : (a : List Man) → is_same_men a a ≡ true
same_men-refl a = simp same_number

pub same_men-Decides : (a b : List Man) → is_in_order a ≡ true → is_in_order b ≡ true → Decides (is_same_men a b) (a ≡ b)
same_men-Decides a b p q = (same_men a b p q, λ e. subst (λ x. is_same_men a x ≡ true) e (same_men-refl a))

-- ---- the same material

pub record IsOrdered (sides : Sides) : Type 0 where
  pub first : is_in_order sides.first ≡ true
  pub second : is_in_order sides.second ≡ true

ordered : (sides : Sides) → IsMaterial sides → IsOrdered sides
ordered sides h =
    let kings = has_king_first sides.first && has_king_first sides.second in
    let order = is_in_order sides.first && is_in_order sides.second in
    let sorted = may_be_first sides.first sides.second in
    let counted = is_count (length sides.first + length sides.second) in
    let o = (and_parts kings order (and_parts (kings && order) sorted ((and_parts (kings && order && sorted) counted h).0)).0).1 in
    record { first = (and_parts (is_in_order sides.first) (is_in_order sides.second) o).0; second = (and_parts (is_in_order sides.first) (is_in_order sides.second) o).1 }

pub same_sides-Decides : (a b : Sides) → IsMaterial a → IsMaterial b → Decides (is_same_men a.first b.first && is_same_men a.second b.second) (a ≡ b)
same_sides-Decides a b p q =
    let x = ordered a p in let y = ordered b q in
    let f = same_men-Decides a.first b.first x.first y.first in
    let g = same_men-Decides a.second b.second x.second y.second in (
      λ h. let m = f.0 (and_parts (is_same_men a.first b.first) (is_same_men a.second b.second) h).0 in
          let n = g.0 (and_parts (is_same_men a.first b.first) (is_same_men a.second b.second) h).1 in
          let left : ◌≡◌ {A = Sides} (record { first = a.first; second = a.second }) (record { first = b.first; second = a.second }) = ap (λ men. record { first = men; second = a.second }) m in
          let right : ◌≡◌ {A = Sides} (record { first = b.first; second = a.second }) (record { first = b.first; second = b.second }) = ap (λ men. record { first = b.first; second = men }) n in
          left ∙ right,
      λ e. let m = f.1 (ap (λ (s : Sides). s.first) e) in let n = g.1 (ap (λ (s : Sides). s.second) e) in rw (m, n) refl,
    )
