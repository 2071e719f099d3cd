-- Indexes and digits, with factors by position.
use Rattle.std.proofs.Common.{◌≡◌, ℕ, zero, suc, ◌+◌, ◌-◌, ◌*◌, ◌/◌, ◌%◌, ◌<◌, ◌≤◌, inl, inr, List, [], ◌∷◌, length, map, refl, sym, ap, ◌∙◌, subst, true, false, cond, arith}
use Rattle.std.specs.Prelude.{◌==◌, nat_lt}
use Rattle.std.specs.List.{zip}
use Rattle.std.proofs.lemmas.List.Sums.{sum_by-cons}
use Rattle.std.proofs.lemmas.Bool.Decides.{eqb_tells}
use Rattle.std.proofs.lemmas.Bool.{cases_Bool, cases_order, eq-eqb, lt-ltb, le-ltb}
use Rattle.std.proofs.Math.Nat.{mul-le-mul_left, add-mul-div_left, div-eq_of_lt, add-mul-mod_self_left, mod-eq_of_lt, div-add-mod, mod-lt, mod-one}
use Rattle.std.proofs.lemmas.Nat.{mod-mul-add}
use Rattle.szg_count.specs.Groups.{factors_of, product, ways_before}
use Rattle.szg_count.specs.Laws.{IsIn, AllDiffer}
use Rattle.szg_count.specs.Radix.{EachBelow, index_with, decode_digits, LawIndexBelow, LawDecodeEncoded, LawEncodeDecoded}

-- ---- the parts of a sum and of a product below a position and at it

abbrev pub ways_below : ℕ → List ℕ → List ℕ → ℕ
ways_below p [] ws = 1
ways_below p (q ∷ ps) [] = 1
ways_below p (q ∷ ps) (w ∷ ws) = cond (nat_lt q p) w 1 * ways_below p ps ws

abbrev pub ways_at : ℕ → List ℕ → List ℕ → ℕ
ways_at p [] ws = 1
ways_at p (q ∷ ps) [] = 1
ways_at p (q ∷ ps) (w ∷ ws) = cond (q == p) w 1 * ways_at p ps ws

abbrev pub sum_below : ℕ → (ℕ → ℕ) → List ℕ → List ℕ → ℕ
sum_below p f [] ds = 0
sum_below p f (q ∷ ps) [] = 0
sum_below p f (q ∷ ps) (d ∷ ds) = cond (nat_lt q p) (d * f q) 0 + sum_below p f ps ds

abbrev pub digit_at : ℕ → List ℕ → List ℕ → ℕ
digit_at p [] ds = 0
digit_at p (q ∷ ps) [] = 0
digit_at p (q ∷ ps) (d ∷ ds) = cond (q == p) d 0 + digit_at p ps ds

not_same : (q p : ℕ) → (q ≡ p → ⊥) → (q == p) ≡ false
not_same q p absent = elim (eqb_tells q p) [ inl e ↦ absurd (absent e.1) | inr n ↦ n.0 ]

-- ---- one step of the rank

pub ways-step : (p : ℕ) (ps ws : List ℕ) → ways_below (suc p) ps ws ≡ ways_below p ps ws * ways_at p ps ws
ways-step p [] ws = refl
ways-step p (q ∷ ps) [] = refl
ways-step p (q ∷ ps) (w ∷ ws) = elim (cases_order q p) [
  | inl e ↦ let a : nat_lt q (suc p) ≡ true = lt-ltb q (suc p) (omega arith) in let b : nat_lt q p ≡ false = le-ltb q p (omega arith) in
      rw (a, b, eq-eqb q p e, ways-step p ps ws) (omega arith)
  | inr r ↦ elim r [
    | inl l ↦ let a : nat_lt q (suc p) ≡ true = lt-ltb q (suc p) (omega arith) in let b : nat_lt q p ≡ true = lt-ltb q p l in
        let c : (q == p) ≡ false = not_same q p (λ e. omega arith) in
        rw (a, b, c, ways-step p ps ws) (omega arith)
    | inr g ↦ let a : nat_lt q (suc p) ≡ false = le-ltb q (suc p) (omega arith) in let b : nat_lt q p ≡ false = le-ltb q p (omega arith) in
        let c : (q == p) ≡ false = not_same q p (λ e. omega arith) in
        rw (a, b, c, ways-step p ps ws) (omega arith)
  ]
]

pub sum-step : (p : ℕ) (f : ℕ → ℕ) (ps ds : List ℕ) → sum_below (suc p) f ps ds ≡ sum_below p f ps ds + digit_at p ps ds * f p
sum-step p f [] ds = omega arith
sum-step p f (q ∷ ps) [] = omega arith
sum-step p f (q ∷ ps) (d ∷ ds) = elim (cases_order q p) [
  | inl e ↦ let a : nat_lt q (suc p) ≡ true = lt-ltb q (suc p) (omega arith) in let b : nat_lt q p ≡ false = le-ltb q p (omega arith) in
      rw (a, b, eq-eqb q p e, sum-step p f ps ds, ap f e) (omega arith)
  | inr r ↦ elim r [
    | inl l ↦ let a : nat_lt q (suc p) ≡ true = lt-ltb q (suc p) (omega arith) in let b : nat_lt q p ≡ true = lt-ltb q p l in
        let c : (q == p) ≡ false = not_same q p (λ e. omega arith) in
        rw (a, b, c, sum-step p f ps ds) (omega arith)
    | inr g ↦ let a : nat_lt q (suc p) ≡ false = le-ltb q (suc p) (omega arith) in let b : nat_lt q p ≡ false = le-ltb q p (omega arith) in
        let c : (q == p) ≡ false = not_same q p (λ e. omega arith) in
        rw (a, b, c, sum-step p f ps ds) (omega arith)
  ]
]

ways-none : (ps ws : List ℕ) → ways_below 0 ps ws ≡ 1
ways-none [] ws = refl
ways-none (q ∷ ps) [] = refl
ways-none (q ∷ ps) (w ∷ ws) = rw (le-ltb q 0 (omega arith), ways-none ps ws) refl

sum-none : (f : ℕ → ℕ) (ps ds : List ℕ) → sum_below 0 f ps ds ≡ 0
sum-none f [] ds = refl
sum-none f (q ∷ ps) [] = refl
sum-none f (q ∷ ps) (d ∷ ds) = rw (le-ltb q 0 (omega arith), sum-none f ps ds) refl

-- ---- a position that is not given, and one that is

ways-absent : (p : ℕ) (ps ws : List ℕ) → (IsIn p ps → ⊥) → ways_at p ps ws ≡ 1
ways-absent p [] ws absent = refl
ways-absent p (q ∷ ps) [] absent = refl
ways-absent p (q ∷ ps) (w ∷ ws) absent = rw (not_same q p (λ e. absent (inl (sym e))), ways-absent p ps ws (λ h. absent (inr h))) refl

digit-absent : (p : ℕ) (ps ds : List ℕ) → (IsIn p ps → ⊥) → digit_at p ps ds ≡ 0
digit-absent p [] ds absent = refl
digit-absent p (q ∷ ps) [] absent = refl
digit-absent p (q ∷ ps) (d ∷ ds) absent = rw (not_same q p (λ e. absent (inl (sym e))), digit-absent p ps ds (λ h. absent (inr h))) refl

digit-below : (p : ℕ) (ps ws ds : List ℕ) → AllDiffer ps → length ws ≡ length ps → EachBelow ds ws → digit_at p ps ds < ways_at p ps ws
digit-below p [] ws ds a l b = omega arith
digit-below p (q ∷ ps) [] ds a l b = cc
digit-below p (q ∷ ps) (w ∷ ws) [] a l b = absurd b
digit-below p (q ∷ ps) (w ∷ ws) (d ∷ ds) a l b = elim (eqb_tells q p) [
  | inl e ↦ let absent : IsIn p ps → ⊥ = λ h. a.0 (subst (λ (x : ℕ). IsIn x ps) (sym e.1) h) in
      let h : d < w = b.0 in
      rw (e.0, ways-absent p ps ws absent, digit-absent p ps ds absent) (omega arith)
  | inr n ↦ let m : length ws ≡ length ps = omega arith in let h = digit-below p ps ws ds a.1 m b.1 in rw (n.0) (omega (arith, h))
]

-- ---- below the product

fits : (s w d e : ℕ) → s < w → d < e → s + d * w < w * e
fits s w d e a b = let h : w * suc d ≤ w * e = mul-le-mul_left w b in omega (arith, h)

pub sum-below : (p : ℕ) (ps ws ds : List ℕ) → AllDiffer ps → length ws ≡ length ps → EachBelow ds ws →
    sum_below p (λ q. ways_below q ps ws) ps ds < ways_below p ps ws
sum-below zero ps ws ds a l b = rw (sum-none (λ q. ways_below q ps ws) ps ds, ways-none ps ws) (omega arith)
sum-below (suc p) ps ws ds a l b =
    rw (sum-step p (λ q. ways_below q ps ws) ps ds, ways-step p ps ws)
    (fits (sum_below p (λ q. ways_below q ps ws) ps ds) (ways_below p ps ws) (digit_at p ps ds) (ways_at p ps ws)
    (sum-below p ps ws ds a l b) (digit-below p ps ws ds a l b))

-- ---- past all positions

ways-all : (n : ℕ) (ps ws : List ℕ) → length ws ≡ length ps → ((q : ℕ) → IsIn q ps → q < n) → ways_below n ps ws ≡ product ws
ways-all n [] [] l b = refl
ways-all n [] (w ∷ ws) l b = cc
ways-all n (q ∷ ps) [] l b = cc
ways-all n (q ∷ ps) (w ∷ ws) l b = let m : length ws ≡ length ps = omega arith in
    rw (lt-ltb q n (b q (inl refl)), ways-all n ps ws m (λ x h. b x (inr h))) refl

sum-all : (n : ℕ) (f : ℕ → ℕ) (ps ds : List ℕ) → ((q : ℕ) → IsIn q ps → q < n) → sum_below n f ps ds ≡ index_with ds (map f ps)
sum-all n f [] [] b = refl
sum-all n f [] (d ∷ ds) b = refl
sum-all n f (q ∷ ps) [] b = refl
sum-all n f (q ∷ ps) (d ∷ ds) b =
    rw (lt-ltb q n (b q (inl refl)), sum-all n f ps ds (λ x h. b x (inr h)))
    (sym (sum_by-cons (λ x. x) (d * f q) (map (λ x. x.0 * x.1) (zip ds (map f ps)))))

-- ---- the factors as stated

pub product-ways_before : (p : ℕ) (ps ws : List ℕ) → product (ways_before p ps ws) ≡ ways_below p ps ws
product-ways_before p [] ws = refl
product-ways_before p (q ∷ ps) [] = refl
product-ways_before p (q ∷ ps) (w ∷ ws) = elim (cases_Bool (nat_lt q p)) [
  | inl t ↦ rw (t, product-ways_before p ps ws) refl
  | inr f ↦ rw (f, product-ways_before p ps ws) (omega arith)
]

each_map : (f g : ℕ → ℕ) (xs : List ℕ) → ((x : ℕ) → f x ≡ g x) → map f xs ≡ map g xs
each_map f g [] e = refl
each_map f g (x ∷ xs) e = rw (e x, each_map f g xs e) refl

pub factors_of-below : (ps ws : List ℕ) → factors_of ps ws ≡ map (λ q. ways_below q ps ws) ps
unfolding factors_of
factors_of-below ps ws = each_map (λ q. product (ways_before q ps ws)) (λ q. ways_below q ps ws) ps (λ q. product-ways_before q ps ws)

pub index_below : LawIndexBelow
index_below ps ws ds o l b =
    let n = length ps in
    let h = sum-below n ps ws ds o.differ l b in
    rw (factors_of-below ps ws, ← sum-all n (λ q. ways_below q ps ws) ps ds o.below, ← ways-all n ps ws l o.below) h

-- ---- decoding encoded digits

-- k above n
abbrev up : ℕ → ℕ → ℕ
up zero n = n
up (suc k) n = suc (up k n)

up-is : (k n : ℕ) → up k n ≡ k + n
up-is zero n = omega arith
up-is (suc k) n = let h = up-is k n in omega (arith, h)

-- the ways below a later position are a multiple
ways-multiple : (k m : ℕ) (ps ws : List ℕ) → (e : ℕ) × (ways_below (up k m) ps ws ≡ ways_below m ps ws * e)
ways-multiple zero m ps ws = (1, omega arith)
ways-multiple (suc k) m ps ws = let h = ways-multiple k m ps ws in
    (h.0 * ways_at (up k m) ps ws, rw (ways-step (up k m) ps ws, h.1) (omega arith))

-- what later positions add is a multiple too
sum-multiple : (k m : ℕ) (ps ws qs ds : List ℕ) →
    (r : ℕ) × (sum_below (up k m) (λ q. ways_below q ps ws) qs ds ≡ sum_below m (λ q. ways_below q ps ws) qs ds + ways_below m ps ws * r)
sum-multiple zero m ps ws qs ds = (0, omega arith)
sum-multiple (suc k) m ps ws qs ds = let h = sum-multiple k m ps ws qs ds in let e = ways-multiple k m ps ws in (
  h.0 + digit_at (up k m) qs ds * e.0,
  rw (sum-step (up k m) (λ q. ways_below q ps ws) qs ds, h.1, e.1) (omega arith),
)

one_digit : (s w d e r : ℕ) → s < w → d < e → ((s + d * w) + w * e * r) / w % e ≡ d
one_digit s w d e r a b =
    let pos_w : 0 < w = omega arith in
    let x : (s + d * w) + w * e * r ≡ s + w * (d + e * r) = omega arith in
    let y : (s + w * (d + e * r)) / w ≡ s / w + (d + e * r) = add-mul-div_left s (d + e * r) pos_w in
    let z : s / w ≡ 0 = div-eq_of_lt a in
    let t : (d + e * r) % e ≡ d % e = add-mul-mod_self_left d e r in
    let u : d % e ≡ d = mod-eq_of_lt b in
    let v : s / w + (d + e * r) ≡ d + e * r = omega arith in
    ap (λ n. n / w % e) x ∙ ap (λ n. n % e) (y ∙ v) ∙ t ∙ u

digit-decoded : (k p : ℕ) (ps ws ds : List ℕ) → AllDiffer ps → length ws ≡ length ps → EachBelow ds ws →
    sum_below (up k (suc p)) (λ q. ways_below q ps ws) ps ds / ways_below p ps ws % ways_at p ps ws ≡ digit_at p ps ds
digit-decoded k p ps ws ds a l b =
    let h = sum-multiple k (suc p) ps ws ps ds in
    rw (h.1, sum-step p (λ q. ways_below q ps ws) ps ds, ways-step p ps ws)
    (one_digit (sum_below p (λ q. ways_below q ps ws) ps ds) (ways_below p ps ws) (digit_at p ps ds) (ways_at p ps ws) h.0
    (sum-below p ps ws ds a l b) (digit-below p ps ws ds a l b))

-- each position of the first list has the way and the digit of the others
abbrev Agrees : List ℕ → List ℕ → List ℕ → List ℕ → List ℕ → List ℕ → Type 0
Agrees ps ws ds [] [] [] = Unit {0}
Agrees ps ws ds [] [] (d ∷ more) = ⊥
Agrees ps ws ds [] (w ∷ us) more = ⊥
Agrees ps ws ds (q ∷ qs) [] more = ⊥
Agrees ps ws ds (q ∷ qs) (w ∷ us) [] = ⊥
Agrees ps ws ds (q ∷ qs) (w ∷ us) (d ∷ more) = (ways_at q ps ws ≡ w) × (digit_at q ps ds ≡ d) × Agrees ps ws ds qs us more

Agrees-more : (p w d : ℕ) (ps ws ds qs us more : List ℕ) → (IsIn p qs → ⊥) → Agrees ps ws ds qs us more → Agrees (p ∷ ps) (w ∷ ws) (d ∷ ds) qs us more
Agrees-more p w d ps ws ds [] [] [] out h = tt
Agrees-more p w d ps ws ds [] [] (x ∷ more) out h = h
Agrees-more p w d ps ws ds [] (u ∷ us) more out h = h
Agrees-more p w d ps ws ds (q ∷ qs) [] more out h = h
Agrees-more p w d ps ws ds (q ∷ qs) (u ∷ us) [] out h = h
Agrees-more p w d ps ws ds (q ∷ qs) (u ∷ us) (x ∷ more) out h =
    let e : (p == q) ≡ false = not_same p q (λ f. out (inl f)) in
    (rw e (let k = h.0 in omega (arith, k)), rw e (let k = h.1 in omega (arith, k)), Agrees-more p w d ps ws ds qs us more (λ i. out (inr i)) h.2)

agrees : (ps ws ds : List ℕ) → AllDiffer ps → length ws ≡ length ps → EachBelow ds ws → Agrees ps ws ds ps ws ds
agrees [] [] [] a l b = tt
agrees [] [] (d ∷ ds) a l b = b
agrees [] (w ∷ ws) ds a l b = cc
agrees (q ∷ ps) [] ds a l b = cc
agrees (q ∷ ps) (w ∷ ws) [] a l b = b
agrees (q ∷ ps) (w ∷ ws) (d ∷ ds) a l b =
    let e : (q == q) ≡ true = eq-eqb q q refl in let m : length ws ≡ length ps = omega arith in (
      rw (e, ways-absent q ps ws a.0) (omega arith),
      rw (e, digit-absent q ps ds a.0) (omega arith),
      Agrees-more q w d ps ws ds ps ws ds a.0 (agrees ps ws ds a.1 m b.1),
    )

digits-decoded : (i : ℕ) (f : ℕ → ℕ) (ps ws ds qs us more : List ℕ) → ((p : ℕ) → IsIn p qs → i / f p % ways_at p ps ws ≡ digit_at p ps ds) →
    Agrees ps ws ds qs us more → decode_digits (map f qs) us i ≡ more
digits-decoded i f ps ws ds [] [] [] each h = refl
digits-decoded i f ps ws ds [] [] (d ∷ more) each h = absurd h
digits-decoded i f ps ws ds [] (w ∷ us) more each h = absurd h
digits-decoded i f ps ws ds (q ∷ qs) [] more each h = absurd h
digits-decoded i f ps ws ds (q ∷ qs) (w ∷ us) [] each h = absurd h
digits-decoded i f ps ws ds (q ∷ qs) (w ∷ us) (d ∷ more) each h =
    rw (digits-decoded i f ps ws ds qs us more (λ p k. each p (inr k)) h.2)
    (ap (λ x. x ∷ more) (ap (λ x. i / f q % x) (sym h.0) ∙ each q (inl refl) ∙ h.1))

past : (p n : ℕ) → p < n → up (n - suc p) (suc p) ≡ n
past p n h = up-is (n - suc p) (suc p) ∙ omega arith

pub digits_again : LawDecodeEncoded
digits_again ps ws ds o l b =
    let n = length ps in let f : ℕ → ℕ = λ q. ways_below q ps ws in
    let each : (p : ℕ) → IsIn p ps → sum_below n f ps ds / f p % ways_at p ps ws ≡ digit_at p ps ds =
    λ p k. subst (λ (m : ℕ). sum_below m f ps ds / f p % ways_at p ps ws ≡ digit_at p ps ds) (past p n (o.below p k))
    (digit-decoded (n - suc p) p ps ws ds o.differ l b) in
    rw (factors_of-below ps ws, ← sum-all n f ps ds o.below)
    (digits-decoded (sum_below n f ps ds) f ps ws ds ps ws ds each (agrees ps ws ds o.differ l b))

-- ---- encoding decoded digits

digits-at : (p i : ℕ) (f : ℕ → ℕ) (ps ws : List ℕ) → AllDiffer ps → length ws ≡ length ps →
    digit_at p ps (decode_digits (map f ps) ws i) ≡ i / f p % ways_at p ps ws
digits-at p i f [] ws a l = sym (mod-one (i / f p))
digits-at p i f (q ∷ ps) [] a l = cc
digits-at p i f (q ∷ ps) (w ∷ ws) a l = let m : length ws ≡ length ps = omega arith in elim (eqb_tells q p) [
  | inl e ↦ let out : IsIn p ps → ⊥ = λ h. a.0 (subst (λ (x : ℕ). IsIn x ps) (sym e.1) h) in
      rw (e.0, digit-absent p ps (decode_digits (map f ps) ws i) out, ways-absent p ps ws out)
      (let x : w * 1 ≡ w = omega arith in let y : i / f q % w + 0 ≡ i / f q % w = omega arith in
      y ∙ ap (λ z. i / f z % w) e.1 ∙ ap (λ z. i / f p % z) (sym x))
  | inr k ↦ rw (k.0, digits-at p i f ps ws a.1 m)
      (let x : 1 * ways_at p ps ws ≡ ways_at p ps ws = omega arith in
      let y : 0 + i / f p % ways_at p ps ws ≡ i / f p % ways_at p ps ws = omega arith in
      y ∙ ap (λ z. i / f p % z) (sym x))
]

two_steps : (i a b : ℕ) → 0 < a → 0 < b → i % a + (i / a % b) * a ≡ i % (a * b)
two_steps i a b p q =
    let x = div-add-mod i a in let y = div-add-mod (i / a) b in
    let r : i % a < a = mod-lt i p in let s : i / a % b < b = mod-lt (i / a) q in
    let t : i % a + (i / a % b) * a < a * b = fits (i % a) a (i / a % b) b r s in
    let u : i ≡ (i / a / b) * (a * b) + (i % a + (i / a % b) * a) =
    let y' : a * (b * (i / a / b) + i / a % b) ≡ a * (i / a) = ap (λ z. a * z) y in omega (arith, x, y') in
    sym (ap (λ z. z % (a * b)) u ∙ mod-mul-add (i / a / b) (a * b) (i % a + (i / a % b) * a) t)

pos_left : (a b n : ℕ) → n ≡ a * b → 0 < n → 0 < a
pos_left zero b n e h = absurd (omega (arith, e, h))
pos_left (suc a) b n e h = omega arith

pos_right : (a b n : ℕ) → n ≡ a * b → 0 < n → 0 < b
pos_right a zero n e h = absurd (omega (arith, e, h))
pos_right a (suc b) n e h = omega arith

sum-decoded : (p n i : ℕ) (ps ws : List ℕ) → AllDiffer ps → length ws ≡ length ps → p ≤ n → 0 < ways_below n ps ws →
    sum_below p (λ q. ways_below q ps ws) ps (decode_digits (map (λ q. ways_below q ps ws) ps) ws i) ≡ i % ways_below p ps ws
sum-decoded zero n i ps ws a l h v = rw (sum-none (λ q. ways_below q ps ws) ps (decode_digits (map (λ q. ways_below q ps ws) ps) ws i), ways-none ps ws) (sym (mod-one i))
sum-decoded (suc p) n i ps ws a l h v =
    let f : ℕ → ℕ = λ q. ways_below q ps ws in let ds = decode_digits (map f ps) ws i in
    let lt : p < n = omega arith in let le : p ≤ n = omega arith in
    let m = ways-multiple (n - suc p) (suc p) ps ws in
    let e : ways_below n ps ws ≡ ways_below (suc p) ps ws * m.0 = subst (λ (x : ℕ). ways_below x ps ws ≡ ways_below (suc p) ps ws * m.0) (past p n lt) m.1 in
    let next : 0 < ways_below (suc p) ps ws = pos_left (ways_below (suc p) ps ws) m.0 (ways_below n ps ws) e v in
    let here : 0 < ways_below p ps ws = pos_left (ways_below p ps ws) (ways_at p ps ws) (ways_below (suc p) ps ws) (ways-step p ps ws) next in
    let at_p : 0 < ways_at p ps ws = pos_right (ways_below p ps ws) (ways_at p ps ws) (ways_below (suc p) ps ws) (ways-step p ps ws) next in
    rw (sum-step p f ps ds, sum-decoded p n i ps ws a l le v, digits-at p i f ps ws a l, ways-step p ps ws)
    (two_steps i (ways_below p ps ws) (ways_at p ps ws) here at_p)

pub index_again : LawEncodeDecoded
index_again ps ws i o l h =
    let n = length ps in let f : ℕ → ℕ = λ q. ways_below q ps ws in
    let v : ways_below n ps ws ≡ product ws = ways-all n ps ws l o.below in
    let pos : 0 < ways_below n ps ws = omega (arith, v, h) in
    let le : n ≤ n = omega arith in
    rw (factors_of-below ps ws, ← sum-all n f ps (decode_digits (map f ps) ws i) o.below)
    (sum-decoded n n i ps ws o.differ l le pos ∙ ap (λ z. i % z) v ∙ mod-eq_of_lt h)
