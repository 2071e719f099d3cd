-- The men of an accepted order are the material's, each as often as there, and its groups are made of them.
use Rattle.std.proofs.Common.{◌≡◌, ℕ, zero, suc, ◌+◌, ◌<◌, inl, inr, List, [], ◌∷◌, ◌++◌, length, take, drop, refl, sym, ap, ◌∙◌, subst, Bool, true, false, cond, arith, take-append-drop}
use Rattle.std.specs.Prelude.{◌==◌, nat_lt, Option, Some, None}
use Rattle.std.specs.List.{concat, list_all}
use Rattle.std.proofs.Math.Bool.{not, ◌&&◌}
use Rattle.std.proofs.lemmas.Bool.{cases_Bool, eqb-true, eq-eqb, lt-ltb, and_parts}
use Rattle.std.proofs.lemmas.List.{drop-drop}
use Rattle.std.proofs.lemmas.List.Sums.{sum_by-cons}
use Rattle.szg_values.specs.Material.{has_pawns, count_of, other_pawns, man_codes}
use Rattle.szg_count.specs.declared.OrderFault.{OrderFault}
use Rattle.szg_count.specs.declared.OrderFault.TheVariants as fault
use Rattle.szg_count.specs.Groups.{groups_of, runs_of, prepend_man, lead_length, is_rearrangement, order_fault}
use Rattle.szg_count.specs.Laws.{IsIn, IsRun, DiffersFromFirst, NeighboursDiffer, LawMenOfOrder, LawGroupsJoined, LawRuns}

-- ---- counts

pub count_of-cons : (c x : ℕ) (xs : List ℕ) → count_of c (x ∷ xs) ≡ cond (x == c) 1 0 + count_of c xs
count_of-cons c x xs = sum_by-cons (λ y. cond (y == c) 1 0) x xs

pub count_of-in : (c : ℕ) (xs : List ℕ) → IsIn c xs → 0 < count_of c xs
count_of-in c [] h = absurd h
count_of-in c (x ∷ xs) (inl e) = let k = count_of-cons c x xs in let t : ◌≡◌ {A = ℕ} (cond (x == c) 1 0) 1 = rw (eq-eqb x c (sym e)) refl in omega (arith, k, t)
count_of-in c (x ∷ xs) (inr h) = let k = count_of-cons c x xs in let m = count_of-in c xs h in omega (arith, k, m)

pub count_of-some : (c : ℕ) (xs : List ℕ) → 0 < count_of c xs → IsIn c xs
count_of-some c [] h = absurd (let e : count_of c [] ≡ 0 = refl in omega (arith, e))
count_of-some c (x ∷ xs) h = elim (cases_Bool (x == c)) [
  | inl t ↦ inl (sym (eqb-true x c t))
  | inr f ↦ let k : count_of c (x ∷ xs) ≡ count_of c xs = count_of-cons c x xs ∙ rw f (omega arith) in inr (count_of-some c xs (omega (arith, k)))
]

-- ---- lists with the same numbers of each

removed : ℕ → List ℕ → List ℕ
removed c [] = []
removed c (x ∷ xs) = cond (x == c) xs (x ∷ removed c xs)

clash : (b : Bool) → b ≡ true → b ≡ false → ⊥
clash true e f = cc
clash false e f = cc

in_rest : (c x : ℕ) (xs : List ℕ) → (x == c) ≡ false → IsIn c (x ∷ xs) → IsIn c xs
in_rest c x xs f (inl e) = absurd (clash (x == c) (eq-eqb x c (sym e)) f)
in_rest c x xs f (inr i) = i

removed-count : (c d : ℕ) (xs : List ℕ) → IsIn c xs → count_of d (removed c xs) + cond (c == d) 1 0 ≡ count_of d xs
unfolding removed
removed-count c d [] h = absurd h
removed-count c d (x ∷ xs) h = elim (cases_Bool (x == c)) [
  | inl t ↦ let e = eqb-true x c t in let k = count_of-cons d x xs in
      let s : ◌≡◌ {A = ℕ} (cond (x == d) 1 0) (cond (c == d) 1 0) = ap (λ n. cond (n == d) 1 0) e in
      let r : ◌≡◌ {A = ℕ} (count_of d (cond (x == c) xs (x ∷ removed c xs))) (count_of d xs) = rw t refl in omega (arith, k, s, r)
  | inr f ↦ let m = removed-count c d xs (in_rest c x xs f h) in let k = count_of-cons d x xs in let j = count_of-cons d x (removed c xs) in
      let r : ◌≡◌ {A = ℕ} (count_of d (cond (x == c) xs (x ∷ removed c xs))) (count_of d (x ∷ removed c xs)) = rw f refl in omega (arith, m, k, j, r)
]

removed-length : (c : ℕ) (xs : List ℕ) → IsIn c xs → suc (length (removed c xs)) ≡ length xs
unfolding removed
removed-length c [] h = absurd h
removed-length c (x ∷ xs) h = elim (cases_Bool (x == c)) [
  | inl t ↦ rw t refl
  | inr f ↦ rw f (ap suc (removed-length c xs (in_rest c x xs f h)))
]

-- for two lists of one length: if the first has as many of each element of the second, it has as many of any
-- element
pub same_counts : (used codes : List ℕ) → length used ≡ length codes → ((c : ℕ) → IsIn c codes → count_of c used ≡ count_of c codes) → (c : ℕ) → count_of c used ≡ count_of c codes
same_counts [] [] e h c = refl
same_counts (x ∷ used) [] e h c = absurd (omega arith)
same_counts used (x ∷ codes) e h c =
    let here : IsIn x used = count_of-some x used (let a = h x (inl refl) in let b = count_of-in x (x ∷ codes) (inl refl) in omega (arith, a, b)) in
    let len = removed-length x used here in
    let more = same_counts (removed x used) codes (omega (arith, len, e))
    (λ d i. let a = h d (inr i) in let b = count_of-cons d x codes in let r = removed-count x d used here in omega (arith, a, b, r)) c in
    let b = count_of-cons c x codes in let r = removed-count x c used here in omega (arith, more, b, r)

passing : (test : ℕ → Bool) (xs : List ℕ) (x : ℕ) → list_all test xs ≡ true → IsIn x xs → test x ≡ true
passing test [] x h i = absurd i
passing test (y ∷ xs) x h (inl e) = subst (λ (z : ℕ). test z ≡ true) (sym e) (and_parts (test y) (list_all test xs) h).0
passing test (y ∷ xs) x h (inr i) = passing test xs x (and_parts (test y) (list_all test xs) h).1 i

pub rearranged_counts : (used codes : List ℕ) → is_rearrangement used codes ≡ true → (c : ℕ) → count_of c used ≡ count_of c codes
rearranged_counts used codes e =
    let r = and_parts (length used == length codes) (list_all (λ code. count_of code used == count_of code codes) codes) e in
    same_counts used codes (eqb-true (length used) (length codes) r.0)
    (λ c i. eqb-true (count_of c used) (count_of c codes) (passing (λ code. count_of code used == count_of code codes) codes c r.1 i))

passed : (b : Bool) (f : OrderFault) (rest : Option OrderFault) → cond (not b) (Some f) rest ≡ None → b ≡ true
passed true f rest e = refl
passed false f rest e = cc

pub men_of_order : LawMenOfOrder
unfolding order_fault
men_of_order sides n e = rearranged_counts n.men (man_codes sides) (passed (is_rearrangement n.men (man_codes sides)) fault.Pieces _ e)

-- ---- the cut into groups

concat-prepend_man : (x : ℕ) (runs : List (List ℕ)) → concat (prepend_man x runs) ≡ x ∷ concat runs
concat-prepend_man x [] = refl
concat-prepend_man x ([] ∷ runs) = refl
concat-prepend_man x ((y ∷ run) ∷ runs) = either (x == y) where
  either : (b : Bool) → concat (cond b ((x ∷ y ∷ run) ∷ runs) ((x ∷ []) ∷ (y ∷ run) ∷ runs)) ≡ x ∷ y ∷ run ++ concat runs
  either true = refl
  either false = refl

pub concat-runs : (xs : List ℕ) → concat (runs_of xs) ≡ xs
unfolding runs_of
concat-runs [] = refl
concat-runs (x ∷ xs) = concat-prepend_man x (runs_of xs) ∙ ap (λ l. x ∷ l) (concat-runs xs)

later_joined : (pawns : Bool) (o n : ℕ) (men : List ℕ) →
    concat (cond (pawns && nat_lt 0 o) (take o (drop n men) ∷ []) [] ++ runs_of (drop (n + cond pawns o 0) men)) ≡ drop n men
later_joined false o n men = concat-runs (drop (n + 0) men) ∙ ap (λ k. drop k men) (let k : n + 0 ≡ n = omega arith in k)
later_joined true zero n men = concat-runs (drop (n + 0) men) ∙ ap (λ k. drop k men) (let k : n + 0 ≡ n = omega arith in k)
later_joined true (suc o) n men =
    ap (λ b. concat (cond b (take (suc o) (drop n men) ∷ []) [] ++ runs_of (drop (n + suc o) men))) (lt-ltb 0 (suc o) (omega arith))
    ∙ ap (λ l. take (suc o) (drop n men) ++ l) (concat-runs (drop (n + suc o) men) ∙ sym (drop-drop (suc o) n men))
    ∙ take-append-drop (suc o) (drop n men)

pub groups_joined : LawGroupsJoined
unfolding groups_of
groups_joined sides men =
    ap (λ l. take (lead_length sides) men ++ l) (later_joined (has_pawns sides) (other_pawns sides) (lead_length sides) men)
    ∙ take-append-drop (lead_length sides) men

-- ---- runs

-- runs of equal men; neighbouring runs have different men
record AreRuns (runs : List (List ℕ)) : Type 0 where
  equal : (run : List ℕ) → IsIn run runs → IsRun run
  differ : NeighboursDiffer runs

alone : (x : ℕ) (run : List ℕ) → run ≡ x ∷ [] → IsRun run
alone x run e = subst IsRun (sym e) (λ y i. absurd i)

prepend_man-runs : (x : ℕ) (runs : List (List ℕ)) → AreRuns runs → AreRuns (prepend_man x runs)
prepend_man-runs x [] h = record { equal = λ run i. elim i [ inl e ↦ alone x run e | inr j ↦ absurd j ]; differ = (tt, tt) }
prepend_man-runs x ([] ∷ runs) h = absurd (h.equal [] (inl refl))
prepend_man-runs x ((y ∷ run) ∷ runs) h = either (x == y) (λ t. eqb-true x y t) (λ f e. clash (x == y) (eq-eqb x y e) f) where
  all_equal : IsRun (y ∷ run)
  all_equal = h.equal (y ∷ run) (inl refl)

  joined : x ≡ y → IsRun (x ∷ y ∷ run)
  joined e = λ z i. elim i [ inl f ↦ f ∙ sym e | inr j ↦ all_equal z j ∙ sym e ]

  is_y : (z : ℕ) → IsIn z (y ∷ run) → z ≡ y
  is_y z i = elim i [ inl f ↦ f | inr j ↦ all_equal z j ]

  first_differs : (rest : List (List ℕ)) → x ≡ y → DiffersFromFirst (y ∷ run) rest → DiffersFromFirst (x ∷ y ∷ run) rest
  first_differs [] e d = tt
  first_differs (next ∷ rest) e d = λ z w i j f. elim i [
    | inl g ↦ d y w (inl refl) j (sym e ∙ sym g ∙ f)
    | inr k ↦ d z w k j f
  ]

  either : (b : Bool) → (b ≡ true → x ≡ y) → (b ≡ false → x ≡ y → ⊥) → AreRuns (cond b ((x ∷ y ∷ run) ∷ runs) ((x ∷ []) ∷ (y ∷ run) ∷ runs))
  either true t f = record {
    equal = λ r i. elim i [ inl e ↦ subst IsRun (sym e) (joined (t refl)) | inr j ↦ h.equal r (inr j) ];
    differ = (first_differs runs (t refl) h.differ.0, h.differ.1);
  }
  either false t f = record {
    equal = λ r i. elim i [ inl e ↦ alone x r e | inr j ↦ h.equal r j ];
    differ = (λ z w i j e. elim i [ inl g ↦ f refl (sym g ∙ e ∙ is_y w j) | inr k ↦ absurd k ], h.differ);
  }

are_runs : (men : List ℕ) → AreRuns (runs_of men)
unfolding runs_of
are_runs [] = record { equal = λ run i. absurd i; differ = tt }
are_runs (x ∷ men) = prepend_man-runs x (runs_of men) (are_runs men)

pub runs : LawRuns
runs men = (concat-runs men, (are_runs men).equal, (are_runs men).differ)
