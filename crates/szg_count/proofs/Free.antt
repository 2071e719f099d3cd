-- The number of remaining elements, and that the given and the remaining positions order the groups.
use Rattle.std.proofs.Common.{◌≡◌, ℕ, zero, suc, ◌+◌, ◌<◌, ◌≤◌, inl, inr, List, [], ◌∷◌, ◌++◌, length, refl, sym, ap, subst, Bool, true, false, cond, arith, length-append}
use Rattle.std.specs.Prelude.{◌==◌, nat_lt, Option, Some, None, option_to_list, is_some}
use Rattle.std.specs.List.{list_all, list_any, range_with_len}
use Rattle.std.proofs.Math.Bool.{not, ◌&&◌}
use Rattle.std.proofs.lemmas.Bool.{cases_Bool, eqb-true, eq-eqb, ltb-true, or_cases, and_parts}
use Rattle.std.proofs.lemmas.Bool.Decides.{eqb_tells}
use Rattle.szg_count.specs.Leads.{contains, without}
use Rattle.szg_count.specs.Groups.{given_positions, groups_of, has_other_pawns}
use Rattle.szg_count.specs.Laws.{IsIn, AllDiffer, LawFreeCount}
use Rattle.szg_count.specs.Radix.{IsOrdering, LawPositionsOrderGroups}
use Rattle.szg_count.proofs.Differ.{IsIn-append, IsIn-filter, AllDiffer-append, AllDiffer-filter, contains_it}

pub contains-IsIn : (x : ℕ) (xs : List ℕ) → contains xs x ≡ true → IsIn x xs
contains-IsIn x [] e = cc
contains-IsIn x (y ∷ ys) e = elim (or_cases (x == y) (contains ys x) e) [ inl a ↦ inl (eqb-true x y a) | inr b ↦ inr (contains-IsIn x ys b) ]

not_in : (x : ℕ) (xs : List ℕ) → (IsIn x xs → ⊥) → contains xs x ≡ false
not_in x xs out = elim (cases_Bool (contains xs x)) [ inl t ↦ absurd (out (contains-IsIn x xs t)) | inr f ↦ f ]

without-nothing : (xs : List ℕ) → without [] xs ≡ xs
without-nothing [] = refl
without-nothing (x ∷ xs) = ap (λ l. x ∷ l) (without-nothing xs)

-- removing an element that is not in the list changes nothing
without-absent : (y : ℕ) (ys xs : List ℕ) → (IsIn y xs → ⊥) → without (y ∷ ys) xs ≡ without ys xs
without-absent y ys [] out = refl
without-absent y ys (x ∷ xs) out = elim (eqb_tells x y) [
  | inl e ↦ absurd (out (inl (sym e.1)))
  | inr n ↦ rw (n.0, without-absent y ys xs (λ h. out (inr h))) refl
]

-- removing an element of the list removes one
without-one : (y : ℕ) (ys xs : List ℕ) → AllDiffer xs → IsIn y xs → contains ys y ≡ false → suc (length (without (y ∷ ys) xs)) ≡ length (without ys xs)
without-one y ys [] d h c = absurd h
without-one y ys (x ∷ xs) d (inl e) c =
    let a : (x == y) ≡ true = eq-eqb x y (sym e) in
    let b : contains ys x ≡ false = subst (λ (z : ℕ). contains ys z ≡ false) e c in
    rw (a, b) (ap (λ l. suc (length l)) (without-absent y ys xs (λ h. d.0 (subst (λ (z : ℕ). IsIn z xs) e h))))
without-one y ys (x ∷ xs) d (inr h) c =
    let n : (x == y) ≡ false = elim (eqb_tells x y) [ inl e ↦ absurd (d.0 (subst (λ (z : ℕ). IsIn z xs) (sym e.1) h)) | inr n ↦ n.0 ] in
    let k = without-one y ys xs d.1 h c in
    rw n (kept (contains ys x) x (without (y ∷ ys) xs) (without ys xs) k) where
      kept : (b : Bool) (x : ℕ) (us vs : List ℕ) → suc (length us) ≡ length vs → suc (length (cond (not b) (x ∷ us) us)) ≡ length (cond (not b) (x ∷ vs) vs)
      kept true x us vs k = k
      kept false x us vs k = ap suc k

pub free_count_law : LawFreeCount
free_count_law [] xs d e h = rw (without-nothing xs) (omega arith)
free_count_law (y ∷ ys) xs d e h =
    let k = free_count_law ys xs d.1 e (λ x i. h x (inr i)) in
    let m = without-one y ys xs e (h y (inl refl)) (not_in y ys d.0) in
    omega (arith, k, m)

-- ---- positions

not_both : (b : Bool) → not b ≡ true → b ≡ true → ⊥
not_both true e f = cc
not_both false e f = cc

pub given_differ : (lead : ℕ) (other : Option ℕ) → not (list_any (λ position. position == lead) (option_to_list other)) ≡ true → AllDiffer (lead ∷ option_to_list other)
given_differ lead None e = (λ h. h, tt)
given_differ lead (Some p) e = (λ h. elim h [ inl f ↦ let k : (p == lead) ≡ true = eq-eqb p lead (sym f) in let c = rw k at e in absurd (cc) | inr g ↦ absurd g ], (λ h. h, tt))

pub range-below : (a n x : ℕ) → IsIn x (range_with_len a n) → (a ≤ x) × (x < a + n)
range-below a zero x h = absurd h
range-below a (suc n) x (inl e) = (omega arith, omega arith)
range-below a (suc n) x (inr h) = let r = range-below (a + 1) n x h in (omega (arith, r), omega (arith, r))

range-differs : (a n : ℕ) → AllDiffer (range_with_len a n)
range-differs a zero = tt
range-differs a (suc n) = (λ h. let r = range-below (a + 1) n a h in absurd (omega (arith, r)), range-differs (a + 1) n)

range-has : (a n x : ℕ) → a ≤ x → x < a + n → IsIn x (range_with_len a n)
range-has a zero x h k = absurd (omega arith)
range-has a (suc n) x h k = elim (eqb_tells x a) [
  | inl e ↦ inl e.1
  | inr m ↦ inr (range-has (a + 1) n x (let f : x ≡ a → ⊥ = m.1 in omega (arith, f)) (omega arith))
]

length-range : (a n : ℕ) → length (range_with_len a n) ≡ n
length-range a zero = refl
length-range a (suc n) = ap suc (length-range (a + 1) n)

pub all_below : (xs : List ℕ) (n : ℕ) → list_all (λ position. nat_lt position n) xs ≡ true → (x : ℕ) → IsIn x xs → x < n
all_below [] n e x h = absurd h
all_below (y ∷ ys) n e x (inl f) = let a = ltb-true y n (and_parts (nat_lt y n) (list_all (λ position. nat_lt position n) ys) e).0 in omega (arith, f, a)
all_below (y ∷ ys) n e x (inr h) = all_below ys n (and_parts (nat_lt y n) (list_all (λ position. nat_lt position n) ys) e).1 x h

-- different numbers below m, followed by the other numbers below m
pub ordering_of : (fixed : List ℕ) (m : ℕ) → AllDiffer fixed → ((x : ℕ) → IsIn x fixed → x < m) →
    IsOrdering (fixed ++ without fixed (range_with_len 0 m)) × (length (fixed ++ without fixed (range_with_len 0 m)) ≡ m)
ordering_of fixed m d b =
    let range = range_with_len 0 m in
    let free = free_count_law fixed range d (range-differs 0 m) (λ x h. let k = b x h in range-has 0 m x (omega arith) (omega (arith, k))) in
    let r = length-range 0 m in
    let a = length-append fixed (without fixed range) in
    let len : length (fixed ++ without fixed range) ≡ m = omega (arith, free, r, a) in (
      record {
        differ = AllDiffer-append fixed (without fixed range) d (AllDiffer-filter (λ x. not (contains fixed x)) range (range-differs 0 m))
            (λ x h k. not_both (contains fixed x) (IsIn-filter (λ y. not (contains fixed y)) range x k).1 (contains_it x fixed h));
        below = λ x h. rw len (elim (IsIn-append x fixed (without fixed range) h) [
          | inl l ↦ b x l
          | inr k ↦ let q = range-below 0 m x (IsIn-filter (λ y. not (contains fixed y)) range x k).0 in omega (arith, q)
        ]);
      },
      len,
    )

pub positions_order_groups : LawPositionsOrderGroups
positions_order_groups sides n h =
    let m = length (groups_of sides n.men) in
    let front = (cond (is_some n.other) (has_other_pawns sides) (not (has_other_pawns sides))) in
    let all = list_all (λ position. nat_lt position m) (given_positions n) in
    let last = not (list_any (λ position. position == n.lead) (option_to_list n.other)) in
    let x = (and_parts (front && all) last h).0 in
    ordering_of (given_positions n) m (given_differ n.lead n.other (and_parts (front && all) last h).1) (all_below (given_positions n) m (and_parts front all x).1)
