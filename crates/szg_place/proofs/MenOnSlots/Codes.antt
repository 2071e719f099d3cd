-- Man codes: the groups have the material's number of men of each code, and each later group has all men of its
-- code.
use Rattle.std.proofs.Common.{◌≡◌, ℕ, zero, suc, ◌+◌, ◌<◌, inl, inr, List, [], ◌∷◌, ◌++◌, length, take, drop, refl, sym, ap, ◌∙◌, subst, Bool, true, false, cond, arith, length-drop, append_assoc, take-append-drop}
use Rattle.std.specs.Prelude.{◌==◌, nat_lt}
use Rattle.std.specs.List.{concat, list_all}
use Rattle.std.proofs.Math.Bool.{◌&&◌}
use Rattle.std.proofs.lemmas.Bool.{cases_Bool, eqb-true, eq-eqb, ltb-true, lt-ltb, and_parts}
use Rattle.std.proofs.lemmas.List.{drop-drop}
use Rattle.std.proofs.lemmas.List.Sums.{sum_by-append}
use Rattle.szg_values.specs.Material.{Sides, IsMaterial, has_pawns, count_of, lead_pawns, other_pawns, lead_pawn_code, other_pawn_code, man_codes, first_leads}
use Rattle.szg_count.specs.Groups.{groups_of, runs_of, prepend_man, later_men, lead_length, has_other_pawns, is_rearrangement, has_pawns_first}
use Rattle.szg_count.specs.Laws.{IsIn, AllDiffer}
use Rattle.szg_count.proofs.Differ.{IsIn-append, IsIn-append_left}
use Rattle.szg_count.proofs.Pawns.{lead_length-fits}
use Rattle.szg_count.proofs.Rearranged.{count_of-cons, count_of-in, concat-runs}
use Rattle.szg_place.proofs.Ranks.Lists.{all-IsIn}
use Rattle.szg_place.proofs.MenOnSlots.Pieces.{is_pawn_code}

-- ---- counts

pub count_of-append : (c : ℕ) (xs ys : List ℕ) → count_of c (xs ++ ys) ≡ count_of c xs + count_of c ys
count_of-append c xs ys = sum_by-append (λ (y : ℕ). cond (y == c) 1 0) xs ys

-- all codes of a run are equal
pub record IsRun (run : List ℕ) : Type 0 where
  pub code : ℕ
  pub has : IsIn code run
  pub only : (x : ℕ) → IsIn x run → x ≡ code

pub count_of-run : (c : ℕ) (xs : List ℕ) → ((x : ℕ) → IsIn x xs → x ≡ c) → count_of c xs ≡ length xs
count_of-run c [] h = refl
count_of-run c (x ∷ xs) h = let k = count_of-cons c x xs in let t : ◌≡◌ {A = ℕ} (cond (x == c) 1 0) 1 = rw (eq-eqb x c (h x (inl refl))) refl in
    let m = count_of-run c xs (λ y i. h y (inr i)) in omega (arith, k, t, m)

-- ---- lists with equal numbers of each code

pub rearranged_length : (used codes : List ℕ) → is_rearrangement used codes ≡ true → length used ≡ length codes
rearranged_length used codes e = eqb-true (length used) (length codes) (and_parts (length used == length codes) (list_all (λ code. count_of code used == count_of code codes) codes) e).0

-- ---- the cut into groups

-- the groups after the lead group
abbrev pub later_groups : Sides → List ℕ → List (List ℕ)
later_groups sides men = cond (has_other_pawns sides) (take (other_pawns sides) (drop (lead_length sides) men) ∷ []) [] ++ runs_of (later_men sides men)

later_joined : (pawns : Bool) (o n : ℕ) (men : List ℕ) →
    concat (cond (pawns && nat_lt 0 o) (take o (drop n men) ∷ []) [] ++ runs_of (drop (n + cond pawns o 0) men)) ≡ drop n men
later_joined false o n men = concat-runs (drop (n + 0) men) ∙ ap (λ k. drop k men) (let k : n + 0 ≡ n = omega arith in k)
later_joined true zero n men = concat-runs (drop (n + 0) men) ∙ ap (λ k. drop k men) (let k : n + 0 ≡ n = omega arith in k)
later_joined true (suc o) n men =
    ap (λ b. concat (cond b (take (suc o) (drop n men) ∷ []) [] ++ runs_of (drop (n + suc o) men))) (lt-ltb 0 (suc o) (omega arith))
    ∙ ap (λ l. take (suc o) (drop n men) ++ l) (concat-runs (drop (n + suc o) men) ∙ sym (drop-drop (suc o) n men))
    ∙ take-append-drop (suc o) (drop n men)

pub concat-later : (sides : Sides) (men : List ℕ) → concat (later_groups sides men) ≡ drop (lead_length sides) men
concat-later sides men = later_joined (has_pawns sides) (other_pawns sides) (lead_length sides) men

pub concat-groups : (sides : Sides) (men : List ℕ) → concat (groups_of sides men) ≡ men
unfolding groups_of
concat-groups sides men = ap (λ l. take (lead_length sides) men ++ l) (concat-later sides men) ∙ take-append-drop (lead_length sides) men

runs_front : (x : ℕ) (runs : List (List ℕ)) → ((r : List ℕ) → IsIn r runs → IsRun r) → (r : List ℕ) → IsIn r (prepend_man x runs) → IsRun r
runs_front x [] h r (inl e) = subst (λ (l : List ℕ). IsRun l) (sym e) (record { code = x; has = inl refl; only = λ y i. elim i [ inl f ↦ f | inr g ↦ absurd g ] })
runs_front x [] h r (inr i) = absurd i
runs_front x ([] ∷ runs) h r (inl e) = subst (λ (l : List ℕ). IsRun l) (sym e) (record { code = x; has = inl refl; only = λ y i. elim i [ inl f ↦ f | inr g ↦ absurd g ] })
runs_front x ([] ∷ runs) h r (inr i) = h r (inr i)
runs_front x ((y ∷ run) ∷ runs) h r i = elim (cases_Bool (x == y)) [
  | inl t ↦ let j : IsIn r ((x ∷ y ∷ run) ∷ runs) = rw t at i in
      elim j [
        | inl e ↦ let first = h (y ∷ run) (inl refl) in subst (λ (l : List ℕ). IsRun l) (sym e) (record {
          code = first.code;
          has = inr first.has;
          only = λ z k. elim k [ inl f ↦ f ∙ eqb-true x y t ∙ first.only y (inl refl) | inr g ↦ first.only z g ];
        })
        | inr k ↦ h r (inr k)
      ]
  | inr n ↦ let j : IsIn r ((x ∷ []) ∷ (y ∷ run) ∷ runs) = rw n at i in
      elim j [
        | inl e ↦ subst (λ (l : List ℕ). IsRun l) (sym e) (record { code = x; has = inl refl; only = λ y i. elim i [ inl f ↦ f | inr g ↦ absurd g ] })
        | inr k ↦ h r k
      ]
]

runs_are : (xs : List ℕ) (r : List ℕ) → IsIn r (runs_of xs) → IsRun r
unfolding runs_of
runs_are [] r h = absurd h
runs_are (x ∷ xs) r h = runs_front x (runs_of xs) (runs_are xs) r h

pub other_code-pawn : (sides : Sides) → is_pawn_code (other_pawn_code sides) ≡ true
other_code-pawn sides = either (first_leads sides) where
  either : (b : Bool) → is_pawn_code (cond b 9 1) ≡ true
  either true = refl
  either false = refl

first_item : (n : ℕ) (xs : List ℕ) → 0 < n → 0 < length xs → (x : ℕ) × IsIn x (take n xs)
first_item zero xs h k = absurd (omega arith)
first_item (suc n) [] h k = absurd (omega arith)
first_item (suc n) (x ∷ xs) h k = (x, inl refl)

-- what follows from has_pawns_first
pub pawns_lead : (sides : Sides) (men : List ℕ) → has_pawns sides ≡ true → has_pawns_first sides men ≡ true →
    (list_all (λ code. code == lead_pawn_code sides) (take (lead_pawns sides) men) ≡ true)
    × (list_all (λ code. code == other_pawn_code sides) (take (other_pawns sides) (drop (lead_pawns sides) men)) ≡ true)
pawns_lead sides men e f =
    let a = list_all (λ code. code == lead_pawn_code sides) (take (lead_pawns sides) men) in
    let b = list_all (λ code. code == other_pawn_code sides) (take (other_pawns sides) (drop (lead_pawns sides) men)) in
    let g : (a && b) ≡ true = rw e at f in let r = and_parts a b g in (r.0, r.1)

pub lead_length-pawns : (sides : Sides) → has_pawns sides ≡ true → lead_length sides ≡ lead_pawns sides
lead_length-pawns sides e = rw e refl

-- the other pawns
other_run : (sides : Sides) (men : List ℕ) → IsMaterial sides → is_rearrangement men (man_codes sides) ≡ true → has_pawns_first sides men ≡ true → has_other_pawns sides ≡ true →
    (x : ℕ) → IsIn x (take (other_pawns sides) (drop (lead_length sides) men)) → x ≡ other_pawn_code sides
other_run sides men m r f o x i =
    let p = and_parts (has_pawns sides) (nat_lt 0 (other_pawns sides)) o in
    let l = pawns_lead sides men p.0 f in
    let i' : IsIn x (take (other_pawns sides) (drop (lead_pawns sides) men)) = subst (λ (n : ℕ). IsIn x (take (other_pawns sides) (drop n men))) (lead_length-pawns sides p.0) i in
    eqb-true x (other_pawn_code sides) (all-IsIn (λ code. code == other_pawn_code sides) (take (other_pawns sides) (drop (lead_pawns sides) men)) x l.1 i')

other_is_run : (sides : Sides) (men : List ℕ) → IsMaterial sides → is_rearrangement men (man_codes sides) ≡ true → has_pawns_first sides men ≡ true → has_other_pawns sides ≡ true →
    IsRun (take (other_pawns sides) (drop (lead_length sides) men))
other_is_run sides men m r f o =
    let p = and_parts (has_pawns sides) (nat_lt 0 (other_pawns sides)) o in
    let pos = ltb-true 0 (other_pawns sides) p.1 in
    let fits = (lead_length-fits sides m).1 in
    let len = rearranged_length men (man_codes sides) r in
    let d = length-drop (lead_length sides) men in
    let x = first_item (other_pawns sides) (drop (lead_length sides) men) pos (omega (arith, fits, len, d, pos)) in
    let only = other_run sides men m r f o in
    record { code = other_pawn_code sides; has = subst (λ (n : ℕ). IsIn n (take (other_pawns sides) (drop (lead_length sides) men))) (only x.0 x.1) x.1; only = only }

pub later_runs : (sides : Sides) (men : List ℕ) → IsMaterial sides → is_rearrangement men (man_codes sides) ≡ true → has_pawns_first sides men ≡ true →
    (r : List ℕ) → IsIn r (later_groups sides men) → IsRun r
later_runs sides men m e f r i =
    elim (IsIn-append r (cond (has_other_pawns sides) (take (other_pawns sides) (drop (lead_length sides) men) ∷ []) []) (runs_of (later_men sides men)) i) [
      | inl a ↦ elim (cases_Bool (has_other_pawns sides)) [
        | inl t ↦ let j : IsIn r (take (other_pawns sides) (drop (lead_length sides) men) ∷ []) = rw t at a in
            elim j [ inl q ↦ subst (λ (l : List ℕ). IsRun l) (sym q) (other_is_run sides men m e f t) | inr k ↦ absurd k ]
        | inr n ↦ let j : IsIn {A = List ℕ} r [] = rw n at a in absurd j
      ]
      | inr b ↦ runs_are (later_men sides men) r b
    ]

-- if there are other pawns, the first group after the lead pawns has pawns only
pub other_first : (sides : Sides) (men : List ℕ) → IsMaterial sides → is_rearrangement men (man_codes sides) ≡ true → has_pawns_first sides men ≡ true → has_other_pawns sides ≡ true →
    (g : List ℕ) (gs : List (List ℕ)) → later_groups sides men ≡ g ∷ gs → (x : ℕ) → IsIn x g → is_pawn_code x ≡ true
other_first sides men m e f o g gs is x i =
    let h : take (other_pawns sides) (drop (lead_length sides) men) ∷ runs_of (later_men sides men) ≡ g ∷ gs = rw o at is in
    let first : g ≡ take (other_pawns sides) (drop (lead_length sides) men) = cc in
    ap is_pawn_code (other_run sides men m e f o x (subst (λ (l : List ℕ). IsIn x l) first i)) ∙ other_code-pawn sides

-- ---- each later group has all men of its code

pub record IsOwn (men before run : List ℕ) : Type 0 where
  pub code : ℕ
  pub has : IsIn code run
  pub only : (x : ℕ) → IsIn x run → x ≡ code
  pub count : count_of code men ≡ length run
  pub new : IsIn code before → ⊥

abbrev pub Parted : List ℕ → List ℕ → List (List ℕ) → Type 0
Parted men before [] = Unit {0}
Parted men before (run ∷ runs) = IsOwn men before run × Parted men (before ++ run) runs

pub parted : (men before : List ℕ) (runs : List (List ℕ)) → men ≡ before ++ concat runs → ((r : List ℕ) → IsIn r runs → IsRun r) →
    list_all (λ group. list_all (λ code. count_of code men == length group) group) runs ≡ true → Parted men before runs
parted men before [] e h a = tt
parted men before (run ∷ runs) e h a =
    let r = h run (inl refl) in
    let p = and_parts (list_all (λ code. count_of code men == length run) run) (list_all (λ group. list_all (λ code. count_of code men == length group) group) runs) a in
    let count = eqb-true (count_of r.code men) (length run) (all-IsIn (λ code. count_of code men == length run) run r.code p.0 r.has) in
    let own = count_of-run r.code run r.only in
    let all : count_of r.code men ≡ count_of r.code before + (count_of r.code run + count_of r.code (concat runs)) =
    ap (count_of r.code) e ∙ count_of-append r.code before (run ++ concat runs) ∙ ap (λ n. count_of r.code before + n) (count_of-append r.code run (concat runs)) in (
      record { code = r.code; has = r.has; only = r.only; count = count; new = λ i. let k = count_of-in r.code before i in absurd (omega (arith, k, all, own, count)) },
      parted men (before ++ run) runs (e ∙ sym (append_assoc before run (concat runs))) (λ q i. h q (inr i)) p.1,
    )

-- codes that occur once each are different
pub single_differ : (lead rest : List ℕ) → ((c : ℕ) → IsIn c lead → count_of c (lead ++ rest) ≡ 1) → AllDiffer lead
single_differ [] rest h = tt
single_differ (c ∷ lead) rest h = (
  λ i. let one = h c (inl refl) in let k = count_of-cons c c (lead ++ rest) in let t : ◌≡◌ {A = ℕ} (cond (c == c) 1 0) 1 = rw (eq-eqb c c refl) refl in
      let m = count_of-in c (lead ++ rest) (IsIn-append_left c lead rest i) in absurd (omega (arith, one, k, t, m)),
  single_differ lead rest (λ d i. let one = h d (inr i) in let k = count_of-cons d c (lead ++ rest) in let m = count_of-in d (lead ++ rest) (IsIn-append_left d lead rest i) in omega (arith, one, k, m)),
)
