-- Bounds of a size.
use Rattle.std.proofs.Common.{◌≡◌, ℕ, zero, suc, ◌+◌, ◌-◌, ◌*◌, ◌<◌, ◌≤◌, List, [], ◌∷◌, ◌++◌, length, map, refl, ap, ◌∙◌, subst, Bool, true, false, cond, arith, take, drop, length-append, length-take, length-drop}
use Rattle.std.specs.Prelude.{◌==◌, nat_lt, nat_le, Option, Some, None, slice_get, unwrap_or}
use Rattle.std.specs.List.{concat, range_with_len, list_any}
use Rattle.std.proofs.Math.Bool.{not, ◌&&◌, ◌||◌}
use Rattle.std.proofs.Math.Nat.{mul-le-mul_left, mul-le-mul}
use Rattle.std.proofs.lemmas.Bool.{eqb-true, ltb-true, lt-ltb, and_parts, leb-true}
use Rattle.std.proofs.lemmas.List.Sums.{count_by-le-length, sum_by-cons}
use Rattle.std.proofs.lemmas.List.{length-map}
use Rattle.szg_values.specs.Men.{is_man, code_of}
use Rattle.szg_count.specs.declared.OrderFault.{OrderFault}
use Rattle.szg_values.specs.Material.{Sides, IsMaterial, has_king_first, is_in_order, may_be_first, is_count, has_pawns, pawn_count, lead_pawns, other_pawns, has_single_lead, man_codes}
use Rattle.szg_values.specs.declared.Man.{Man}
use Rattle.szg_values.specs.declared.Man.TheVariants.{Pawn, King}
use Rattle.szg_count.specs.Sets.{choose}
use Rattle.szg_count.specs.Leads.{lead_pawn_sets, triples, king_pairs}
use Rattle.szg_count.specs.Groups.{IsPart, groups_of, runs_of, prepend_man, later_men, lead_length, lead_ways, lead_sets, group_ways, free_count, has_other_pawns, counted, product, order_fault, is_rearrangement}
use Rattle.szg_count.specs.Laws.{LawSizeBelow}
use Rattle.szg_count.proofs.Counting.{choose-zero, choose-suc, choose-none, subset_count}
use Rattle.szg_count.proofs.Rows.{king_pairs_length, triples_length, lead_pawn_sets_one, lead_pawn_sets_two, lead_pawn_sets_three, lead_pawn_sets_four}

-- 64 to a power
abbrev pub power : ℕ → ℕ
power zero = 1
power (suc r) = 64 * power r

power-add : (a b : ℕ) → power (a + b) ≡ power a * power b
power-add zero b = ap power (zero_left b) ∙ omega arith where
  zero_left : (b : ℕ) → 0 + b ≡ b
  zero_left b = omega arith
power-add (suc a) b = ap power (suc_left a b) ∙ (let h = power-add a b in rw h (omega arith)) where
  suc_left : (a b : ℕ) → suc a + b ≡ suc (a + b)
  suc_left a b = omega arith

pub power-pos : (a : ℕ) → 1 ≤ power a
power-pos zero = omega arith
power-pos (suc a) = let h = power-pos a in omega (arith, h)

pub power-more : (a b : ℕ) → a ≤ b → power a ≤ power b
power-more a b h = let e : a + (b - a) ≡ b = omega arith in
    subst (λ (n : ℕ). power a ≤ power n) e (rw (power-add a (b - a)) (let k : power a * 1 ≤ power a * power (b - a) = mul-le-mul_left (power a) (power-pos (b - a)) in omega (arith, k)))

mutual_step : (c d n p : ℕ) → c ≤ n * p → d ≤ p → c + d ≤ suc n * p
mutual_step c d n p a b = omega arith

-- sets of k + 1 out of n are at most n times 64 to the k
choose-times : (n k : ℕ) → n ≤ 64 → choose n (suc k) ≤ n * power k
choose-times zero k h = rw (choose-none k) (omega arith)
choose-times (suc n) zero h =
    rw (choose-suc n 0, choose-zero n) (let r = choose-times n 0 (omega arith) in omega (arith, r))
choose-times (suc n) (suc k) h =
    let m : n ≤ 64 = omega arith in
    let r = choose-times n (suc k) m in let s = choose-times n k m in
    let t : power k * n ≤ power k * 64 = mul-le-mul_left (power k) m in
    rw (choose-suc n (suc k)) (mutual_step (choose n (suc (suc k))) (choose n (suc k)) n (power (suc k)) r (omega (arith, s, t)))

pub choose-power : (n r : ℕ) → n ≤ 64 → choose n r ≤ power r
choose-power n zero h = rw (choose-zero n) (omega arith)
choose-power n (suc k) h = let s = choose-times n k h in let t : power k * n ≤ power k * 64 = mul-le-mul_left (power k) h in omega (arith, s, t)

either_small : (b : Bool) (x : ℕ) → cond b 48 64 - x ≤ 64
either_small true x = omega arith
either_small false x = omega arith

ways-power : (sides : Sides) (part : ℕ) (groups : List (List ℕ)) (a : ℕ) → 0 < a → group_ways sides part groups a ≤ power (length (unwrap_or (slice_get groups a) []))
unfolding group_ways
ways-power sides part groups zero h = absurd (omega arith)
ways-power sides part groups (suc i) h =
    let r = length (unwrap_or (slice_get groups (suc i)) []) in
    rw (subset_count (free_count sides groups (suc i)) r)
    (choose-power (free_count sides groups (suc i)) r (either_small (has_other_pawns sides && (suc i == 1)) (length (concat (take (suc i) groups)))))

later-power : (sides : Sides) (part : ℕ) (groups gs : List (List ℕ)) (a : ℕ) → 0 < a → ((i : ℕ) → slice_get groups (i + a) ≡ slice_get gs i) →
    product (map (group_ways sides part groups) (range_with_len a (length gs))) ≤ power (length (concat gs))
later-power sides part groups [] a h each = omega arith
later-power sides part groups (g ∷ gs) a h each =
    let first : slice_get groups a ≡ Some g = subst (λ (n : ℕ). slice_get groups n ≡ Some g) (zero_left a) (each 0) in
    let w : group_ways sides part groups a ≤ power (length g) =
    subst (λ (o : Option (List ℕ)). group_ways sides part groups a ≤ power (length (unwrap_or o []))) first (ways-power sides part groups a h) in
    let more = later-power sides part groups gs (a + 1) (omega arith)
    (λ i. subst (λ (n : ℕ). slice_get groups n ≡ slice_get gs i) (shifted i a) (each (suc i))) in
    rw (length-append g (concat gs), power-add (length g) (length (concat gs))) (mul-le-mul w more) where
      zero_left : (a : ℕ) → 0 + a ≡ a
      zero_left a = omega arith

      shifted : (i a : ℕ) → suc i + a ≡ i + (a + 1)
      shifted i a = omega arith

-- ---- the number of men of the later groups

length-prepend_man : (x : ℕ) (runs : List (List ℕ)) → length (concat (prepend_man x runs)) ≡ suc (length (concat runs))
length-prepend_man x [] = refl
length-prepend_man x ([] ∷ runs) = refl
length-prepend_man x ((y ∷ run) ∷ runs) = elim (x == y) as (λ b. length (concat (cond b ((x ∷ y ∷ run) ∷ runs) ((x ∷ []) ∷ (y ∷ run) ∷ runs))) ≡ suc (suc (length (run ++ concat runs)))) [
  | true ↦ refl
  | false ↦ refl
]

pub length-runs : (xs : List ℕ) → length (concat (runs_of xs)) ≡ length xs
unfolding runs_of
length-runs [] = refl
length-runs (x ∷ xs) = length-prepend_man x (runs_of xs) ∙ ap suc (length-runs xs)

pub later_length : (pawns : Bool) (m l : ℕ) (men : List ℕ) →
    length (concat ((cond (pawns && nat_lt 0 m) (take m (drop l men) ∷ []) []) ++ runs_of (drop (l + cond pawns m 0) men))) ≤ length men - l
later_length false m l men = rw (length-runs (drop (l + 0) men), length-drop (l + 0) men) (omega arith)
later_length true m l men = elim (nat_lt 0 m) as (λ b. length (concat ((cond b (take m (drop l men) ∷ []) []) ++ runs_of (drop (l + m) men))) ≤ length men - l) [
  | true ↦ rw (length-append (take m (drop l men)) (concat (runs_of (drop (l + m) men))), length-runs (drop (l + m) men), length-drop (l + m) men, length-take m (drop l men), length-drop l men) (omega arith)
  | false ↦ rw (length-runs (drop (l + m) men), length-drop (l + m) men) (omega arith)
]

-- ---- the number of lead pawns

pub pawns_beside_king : (men : List Man) → has_king_first men ≡ true → suc (pawn_count men) ≤ length men
pawns_beside_king [] e = cc
pawns_beside_king (man ∷ men) e =
    let k : (6 == code_of man) ≡ true = (and_parts (is_man King man) (not (list_any (is_man King) men)) e).0 in
    let c : 6 ≡ code_of man = eqb-true 6 (code_of man) k in
    let p : is_man Pawn man ≡ false = subst (λ (n : ℕ). (1 == n) ≡ false) c refl in
    let s = sum_by-cons (λ x. cond (is_man Pawn x) 1 0) man men in
    let t = count_by-le-length (is_man Pawn) men in
    let u : pawn_count (man ∷ men) ≡ 0 + pawn_count men = s ∙ ap (λ b. cond b 1 0 + pawn_count men) p in
    omega (arith, t, u)

pub record IsMade (sides : Sides) : Type 0 where
  pub first : has_king_first sides.first ≡ true
  pub second : has_king_first sides.second ≡ true
  pub some : 3 ≤ length sides.first + length sides.second
  pub few : length sides.first + length sides.second ≤ 6

pub made : (sides : Sides) → IsMaterial sides → IsMade sides
made sides h =
    let k = has_king_first sides.first && has_king_first sides.second in
    let o = is_in_order sides.first && is_in_order sides.second in
    let f = may_be_first sides.first sides.second in
    let n = length sides.first + length sides.second in
    let c = (and_parts (k && o && f) (is_count n) h).1 in
    let x = (and_parts k o (and_parts (k && o) f ((and_parts (k && o && f) (is_count n) h).0)).0).0 in
    record {
      first = (and_parts (has_king_first sides.first) (has_king_first sides.second) x).0;
      second = (and_parts (has_king_first sides.first) (has_king_first sides.second) x).1;
      some = leb-true 3 n (and_parts (nat_le 3 n) (nat_le n 6) c).0;
      few = leb-true n 6 (and_parts (nat_le 3 n) (nat_le n 6) c).1;
    }

either_range : (b : Bool) (p q : ℕ) → 0 < p → p ≤ 4 → 0 < q → q ≤ 4 → (0 < cond b p q) × (cond b p q ≤ 4)
either_range true p q a b c d = (a, b)
either_range false p q a b c d = (c, d)

-- one to four pawns lead if there are pawns
pub lead_range : (p q : ℕ) → p + q ≤ 4 → 0 < p + q → let k = cond (nat_lt 0 p && ((q == 0) || nat_le p q)) p q in (0 < k) × (k ≤ 4)
lead_range zero q a b = (omega arith, omega arith)
lead_range (suc p) zero a b = let t : nat_lt 0 (suc p) ≡ true = lt-ltb 0 (suc p) (omega arith) in rw t (omega arith, omega arith)
lead_range (suc p) (suc q) a b = let t : nat_lt 0 (suc p) ≡ true = lt-ltb 0 (suc p) (omega arith) in
    rw t (either_range ((suc q == 0) || nat_le (suc p) (suc q)) (suc p) (suc q) (omega arith) (omega arith) (omega arith) (omega arith))

-- ---- the lead group's ways

abbrev bound : ℕ
bound = 8589934592

same_firsts : (a b c d w x y z : ℕ) → a ∷ b ∷ c ∷ d ∷ [] ≡ w ∷ x ∷ y ∷ z ∷ [] → (a ≡ w) × (b ≡ x) × (c ≡ y) × (d ≡ z)
same_firsts a b c d w x y z e = (cc, cc, cc, cc)

on_file : (f : ℕ → ℕ) (w x y z m : ℕ) → map f (0 ∷ 1 ∷ 2 ∷ 3 ∷ []) ≡ w ∷ x ∷ y ∷ z ∷ [] → w ≤ m → x ≤ m → y ≤ m → z ≤ m → (file : ℕ) → file < 4 → f file ≤ m
on_file f w x y z m e p q r s zero h = let k = same_firsts (f 0) (f 1) (f 2) (f 3) w x y z e in let i = k.0 in omega (arith, i, p)
on_file f w x y z m e p q r s (suc zero) h = let k = same_firsts (f 0) (f 1) (f 2) (f 3) w x y z e in let i = k.1 in omega (arith, i, q)
on_file f w x y z m e p q r s (suc (suc zero)) h = let k = same_firsts (f 0) (f 1) (f 2) (f 3) w x y z e in let i = k.2 in omega (arith, i, r)
on_file f w x y z m e p q r s (suc (suc (suc zero))) h = let k = same_firsts (f 0) (f 1) (f 2) (f 3) w x y z e in let i = k.3 in omega (arith, i, s)
on_file f w x y z m e p q r s (suc (suc (suc (suc file)))) h = absurd (omega arith)

pawn_lead : (k file : ℕ) → 0 < k → k ≤ 4 → file < 4 → length (lead_pawn_sets k file) * power (6 - k) < bound
pawn_lead zero file a b h = absurd (omega arith)
pawn_lead (suc zero) file a b h = let e = on_file (λ f. length (lead_pawn_sets 1 f)) 6 6 6 6 6 lead_pawn_sets_one (omega arith) (omega arith) (omega arith) (omega arith) file h in omega (arith, e)
pawn_lead (suc (suc zero)) file a b h = let e = on_file (λ f. length (lead_pawn_sets 2 f)) 252 180 108 36 252 lead_pawn_sets_two (omega arith) (omega arith) (omega arith) (omega arith) file h in omega (arith, e)
pawn_lead (suc (suc (suc zero))) file a b h = let e = on_file (λ f. length (lead_pawn_sets 3 f)) 5201 2645 953 125 5201 lead_pawn_sets_three (omega arith) (omega arith) (omega arith) (omega arith) file h in omega (arith, e)
pawn_lead (suc (suc (suc (suc zero)))) file a b h = let e = on_file (λ f. length (lead_pawn_sets 4 f)) 70315 25375 5491 295 70315 lead_pawn_sets_four (omega arith) (omega arith) (omega arith) (omega arith) file h in omega (arith, e)
pawn_lead (suc (suc (suc (suc (suc k))))) file a b h = absurd (omega arith)

lead_cases : (pawns single : Bool) (k file : ℕ) → (pawns ≡ true → (0 < k) × (k ≤ 4) × (file < 4)) →
    length (cond pawns (lead_pawn_sets k file) (cond single triples king_pairs)) * power (6 - cond pawns k (cond single 3 2)) < bound
lead_cases true single k file h = let x = h refl in pawn_lead k file x.0 x.1 x.2
lead_cases false true k file h = let e = triples_length in omega (arith, e)
lead_cases false false k file h = let e = king_pairs_length in omega (arith, e)

lead_below : (sides : Sides) (part : ℕ) → IsMaterial sides → IsPart sides part → lead_ways sides part * power (6 - lead_length sides) < bound
unfolding lead_ways lead_sets
lead_below sides part h i = lead_cases (has_pawns sides) (has_single_lead sides) (lead_pawns sides) part (λ e.
    let m = made sides h in
    let p = pawns_beside_king sides.first m.first in let q = pawns_beside_king sides.second m.second in let f = m.few in
    let pos = ltb-true 0 (pawn_count sides.first + pawn_count sides.second) e in
    let r = lead_range (pawn_count sides.first) (pawn_count sides.second) (omega (arith, p, q, f)) pos in
    (r.0, r.1, subst (λ (b : Bool). part < cond b 4 1) e i))

-- ---- the law

no_fault : (b : Bool) (fault : OrderFault) (rest : Option OrderFault) → cond (not b) (Some fault) rest ≡ None → b ≡ true
no_fault true fault rest e = refl
no_fault false fault rest e = cc

at_most : (a b c x : ℕ) → a * b < x → c ≤ b → a * c < x
at_most a b c x h k = let m : a * c ≤ a * b = mul-le-mul_left a k in omega (arith, m)

one_more : (j : ℕ) → suc j ≡ j + 1
one_more j = omega arith

≤_trans : {a b c : ℕ} → a ≤ b → b ≤ c → a ≤ c
≤_trans x y = omega arith

pub size_below : LawSizeBelow
unfolding counted groups_of group_ways order_fault
size_below sides part n h i o =
    let groups = groups_of sides n.men in
    let rest = (cond (has_other_pawns sides) (take (other_pawns sides) (drop (lead_length sides) n.men) ∷ []) []) ++ runs_of (later_men sides n.men) in
    let r = no_fault (is_rearrangement n.men (man_codes sides)) _ _ o in
    let e : length n.men ≡ length (man_codes sides) = eqb-true (length n.men) (length (man_codes sides)) (and_parts (length n.men == length (man_codes sides)) _ r).0 in
    let m = (made sides h).few in
    let codes : length (man_codes sides) ≡ length sides.first + length sides.second = simp (length-append, length-map) refl in
    let few : length n.men ≤ 6 = omega (arith, e, m, codes) in
    let later : length (concat rest) ≤ length n.men - lead_length sides = later_length (has_pawns sides) (other_pawns sides) (lead_length sides) n.men in
    let small : power (length (concat rest)) ≤ power (6 - lead_length sides) = power-more (length (concat rest)) (6 - lead_length sides) (omega (arith, later, few)) in
    let w = later-power sides part groups rest 1 (omega arith) (λ j. subst (λ (x : ℕ). slice_get groups x ≡ slice_get rest j) (one_more j) refl) in
    at_most (lead_ways sides part) (power (6 - lead_length sides)) _ bound (lead_below sides part h i) (≤_trans w small)
