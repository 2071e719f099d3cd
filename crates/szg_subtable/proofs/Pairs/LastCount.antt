-- Counting all pairs: one pass over the symbols computes, for all pairs at once, what a tally of each pair computes.
-- Its state is whether a symbol was read, the symbol read last, and whether that symbol is free for a pair with an
-- equal one.
use Rattle.std.proofs.Common.{ℕ, suc, ◌≡◌, ◌≢◌, ◌+◌, ◌*◌, ◌<◌, ◌≤◌, min, Bool, true, false, not, cond, List, [], ◌∷◌, ◌++◌, length, get_or, set, refl, sym, ap, subst, ◌∙◌, arith, inl, inr, get_or-set_other, get_or-set_same}
use Rattle.std.specs.Prelude.{◌==◌, ◌&&◌, ◌||◌, ◌⊎◌}
use Rattle.std.proofs.Math.Nat.{mul-le-mul_right}
use Rattle.std.proofs.lemmas.Bool.{eq-eqb, ne_eqb, eqb-true, cases_order}
use Rattle.std.proofs.Math.Bool.{and-false, and-true}
use Rattle.szg_subtable.specs.Pairing.{pair_count}
use Rattle.szg_subtable.specs.Counting.{is_pair, is_free}
use Rattle.szg_subtable.proofs.Pairs.Tallying.{Tally, tallied, tally, tally-last, none_yet, tally-pair_count}

-- whether the tally of the pair waits for the right symbol
abbrev pub waits_of : Bool → ℕ → Bool → ℕ → ℕ → Bool
waits_of begun last free left right = begun && (last == left) && (not (left == right) || free)

-- ---- one more symbol

waits_equal : (begun at free : Bool) → cond ((begun && at && (not true || free)) && true) false true ≡ not (begun && at && free)
waits_equal true true true = refl
waits_equal true true false = refl
waits_equal true false free = refl
waits_equal false at free = refl

waits_other : (w f : Bool) → cond (w && false) false true ≡ (true && true && (not false || f))
waits_other true f = refl
waits_other false f = refl

waits_none : (w f e : Bool) → cond w false false ≡ (true && false && (not e || f))
waits_none true f e = refl
waits_none false f e = refl

waits_cond : (left right : ℕ) (t : Tally) (s : ℕ) (c : Bool) → (t.waits && (s == right)) ≡ c → (tallied left right t s).waits ≡ cond c false (s == left)
waits_cond left right t s true e = rw e refl
waits_cond left right t s false e = rw e refl

count_cond : (left right : ℕ) (t : Tally) (s : ℕ) (c : Bool) → (t.waits && (s == right)) ≡ c → (tallied left right t s).count ≡ cond c (t.count + 1) t.count
count_cond left right t s true e = rw e refl
count_cond left right t s false e = rw e refl

waits_by : (left right s last : ℕ) (begun free : Bool) (t : Tally) → t.waits ≡ waits_of begun last free left right → (a b : Bool) → (s == left) ≡ a → (left == right) ≡ b →
    cond (t.waits && (s == right)) false (s == left) ≡ waits_of true s (is_free begun last free s) left right
waits_by left right s last begun free t h false b p q =
    let f : Bool = is_free begun last free s in
    ap (λ (x : Bool). cond (t.waits && (s == right)) false x) p ∙ waits_none (t.waits && (s == right)) f (left == right)
    ∙ ap (λ (x : Bool). true && x && (not (left == right) || f)) (sym p)
waits_by left right s last begun free t h true true p q =
    let at : s ≡ left = eqb-true s left p in
    let both : left ≡ right = eqb-true left right q in
    let r : (s == right) ≡ true = eq-eqb s right (at ∙ both) in
    let l : (last == s) ≡ (last == left) = ap (λ (k : ℕ). last == k) at in
    let w : t.waits ≡ (begun && (last == left) && (not true || free)) = h ∙ ap (λ (x : Bool). begun && (last == left) && (not x || free)) q in
    ap (λ (x : Bool). cond (x && (s == right)) false (s == left)) w
    ∙ ap (λ (x : Bool). cond ((begun && (last == left) && (not true || free)) && x) false (s == left)) r
    ∙ ap (λ (x : Bool). cond ((begun && (last == left) && (not true || free)) && true) false x) p
    ∙ waits_equal begun (last == left) free
    ∙ ap (λ (x : Bool). not (begun && x && free)) (sym l)
    ∙ ap (λ (x : Bool). true && true && (not x || not (begun && (last == s) && free))) (sym q)
    ∙ ap (λ (x : Bool). true && x && (not (left == right) || not (begun && (last == s) && free))) (sym p)
waits_by left right s last begun free t h true false p q =
    let f : Bool = is_free begun last free s in
    let at : s ≡ left = eqb-true s left p in
    let r : (s == right) ≡ false = ap (λ (k : ℕ). k == right) at ∙ q in
    ap (λ (x : Bool). cond (t.waits && x) false (s == left)) r
    ∙ ap (λ (x : Bool). cond (t.waits && false) false x) p
    ∙ waits_other t.waits f
    ∙ ap (λ (x : Bool). true && true && (not x || f)) (sym q)
    ∙ ap (λ (x : Bool). true && x && (not (left == right) || f)) (sym p)

pub step_waits : (left right s last : ℕ) (begun free : Bool) (t : Tally) → t.waits ≡ waits_of begun last free left right →
    (tallied left right t s).waits ≡ waits_of true s (is_free begun last free s) left right
step_waits left right s last begun free t h =
    waits_cond left right t s (t.waits && (s == right)) refl ∙ waits_by left right s last begun free t h (s == left) (left == right) refl refl

-- the count of the last symbol and this one rises if they make a pair
pub step_here : (s last : ℕ) (begun free : Bool) (t : Tally) → t.waits ≡ waits_of begun last free last s →
    (tallied last s t s).count ≡ cond (is_pair begun last free s) (t.count + 1) t.count
step_here s last begun free t h =
    let r : (s == s) ≡ true = eq-eqb s s refl in
    let l : (last == last) ≡ true = eq-eqb last last refl in
    let w : (t.waits && (s == s)) ≡ is_pair begun last free s = rw (r, and-true t.waits, h, l, and-true begun) refl in
    count_cond last s t s (is_pair begun last free s) w

-- the counts of all other pairs stay
pub step_elsewhere : (left right s last : ℕ) (begun free : Bool) (t : Tally) → t.waits ≡ waits_of begun last free left right → (last ≢ left) ⊎ (s ≢ right) →
    (tallied left right t s).count ≡ t.count
step_elsewhere left right s last begun free t h (inl other) =
    let l : (last == left) ≡ false = ne_eqb last left other in
    let w : t.waits ≡ false = h ∙ rw (l, and-false begun) refl in
    count_cond left right t s false (rw w refl)
step_elsewhere left right s last begun free t h (inr other) =
    let r : (s == right) ≡ false = ne_eqb s right other in
    count_cond left right t s false (rw (r, and-false t.waits) refl)

-- ---- indexes in the table

-- different pairs of numbers below n have different indexes
pub one_place : (n l r m s : ℕ) → r < n → s < n → l * n + r ≡ m * n + s → (l ≡ m) × (r ≡ s)
one_place n l r m s r_below s_below e =
    elim (cases_order l m) [
      | inl same ↦ (same, let f : m * n + r ≡ m * n + s = ap (λ (k : ℕ). k * n + r) (sym same) ∙ e in omega (arith, f))
      | inr (inl less) ↦
          let room : suc l * n ≤ m * n = mul-le-mul_right n less in
          let next : suc l * n ≡ l * n + n = omega arith in
          absurd (omega (arith, room, next, e, r_below))
      | inr (inr more) ↦
          let room : suc m * n ≤ l * n = mul-le-mul_right n more in
          let next : suc m * n ≡ m * n + n = omega arith in
          absurd (omega (arith, room, next, e, s_below))
    ]

pub place_inside : (n l r : ℕ) → l < n → r < n → l * n + r < n * n
place_inside n l r lt below =
    let room : suc l * n ≤ n * n = mul-le-mul_right n lt in
    let next : suc l * n ≡ l * n + n = omega arith in
    omega (arith, room, next, below)

-- ---- the table

-- For each pair of symbols below n the table has its count, up to the greatest value; the state says which tallies
-- wait.
pub record IsCounted (n most : ℕ) (counts symbols : List ℕ) (begun : Bool) (last : ℕ) (free : Bool) : Type 0 where
  pub table : (l r : ℕ) → l < n → r < n → get_or counts (l * n + r) 0 ≡ min (tally l r none_yet symbols).count most
  pub waiting : (l r : ℕ) → (tally l r none_yet symbols).waits ≡ waits_of begun last free l r

waiting_more : (n most : ℕ) (counts symbols : List ℕ) (begun free : Bool) (last s : ℕ) → IsCounted n most counts symbols begun last free → (l r : ℕ) →
    (tally l r none_yet (symbols ++ s ∷ [])).waits ≡ waits_of true s (is_free begun last free s) l r
waiting_more n most counts symbols begun free last s h l r =
    ap (λ (t : Tally). t.waits) (tally-last l r none_yet symbols s) ∙ step_waits l r s last begun free (tally l r none_yet symbols) (h.waiting l r)

-- the tally of the pair that a symbol makes with the last one, and of the others, after this symbol
tally_here : (n most : ℕ) (counts symbols : List ℕ) (begun free : Bool) (last s : ℕ) → IsCounted n most counts symbols begun last free → (b : Bool) → is_pair begun last free s ≡ b →
    (tally last s none_yet (symbols ++ s ∷ [])).count ≡ cond b ((tally last s none_yet symbols).count + 1) (tally last s none_yet symbols).count
tally_here n most counts symbols begun free last s h b e =
    ap (λ (t : Tally). t.count) (tally-last last s none_yet symbols s) ∙ step_here s last begun free (tally last s none_yet symbols) (h.waiting last s)
    ∙ ap (λ (c : Bool). cond c ((tally last s none_yet symbols).count + 1) (tally last s none_yet symbols).count) e

tally_elsewhere : (n most : ℕ) (counts symbols : List ℕ) (begun free : Bool) (last s : ℕ) → IsCounted n most counts symbols begun last free → (l r : ℕ) → (last ≢ l) ⊎ (s ≢ r) →
    (tally l r none_yet (symbols ++ s ∷ [])).count ≡ (tally l r none_yet symbols).count
tally_elsewhere n most counts symbols begun free last s h l r other =
    ap (λ (t : Tally). t.count) (tally-last l r none_yet symbols s) ∙ step_elsewhere l r s last begun free (tally l r none_yet symbols) (h.waiting l r) other

-- a pair is the one of the last symbol and s, or another
which_pair : (last s l r : ℕ) → ((last ≡ l) × (s ≡ r)) ⊎ ((last ≢ l) ⊎ (s ≢ r))
which_pair last s l r =
    elim (cases_order last l) [
      | inl same ↦ elim (cases_order s r) [ inl also ↦ inl (same, also) | inr (inl less) ↦ inr (inr (λ e. absurd (omega (arith, e, less)))) | inr (inr more) ↦ inr (inr (λ e. absurd (omega (arith, e, more)))) ]
      | inr (inl less) ↦ inr (inl (λ e. absurd (omega (arith, e, less))))
      | inr (inr more) ↦ inr (inl (λ e. absurd (omega (arith, e, more))))
    ]

same_tally : (n most : ℕ) (counts symbols : List ℕ) (begun free : Bool) (last s : ℕ) → IsCounted n most counts symbols begun last free → is_pair begun last free s ≡ false → (l r : ℕ) →
    ((last ≡ l) × (s ≡ r)) ⊎ ((last ≢ l) ⊎ (s ≢ r)) → (tally l r none_yet (symbols ++ s ∷ [])).count ≡ (tally l r none_yet symbols).count
same_tally n most counts symbols begun free last s h none l r (inr other) = tally_elsewhere n most counts symbols begun free last s h l r other
same_tally n most counts symbols begun free last s h none l r (inl here) =
    subst (λ (k : ℕ). (tally k r none_yet (symbols ++ s ∷ [])).count ≡ (tally k r none_yet symbols).count) here.0
    (subst (λ (k : ℕ). (tally last k none_yet (symbols ++ s ∷ [])).count ≡ (tally last k none_yet symbols).count) here.1
    (tally_here n most counts symbols begun free last s h false none))

-- a symbol that makes no pair leaves the table
pub counted_one : (n most : ℕ) (counts symbols : List ℕ) (begun free : Bool) (last s : ℕ) → IsCounted n most counts symbols begun last free → is_pair begun last free s ≡ false →
    IsCounted n most counts (symbols ++ s ∷ []) true s (is_free begun last free s)
counted_one n most counts symbols begun free last s h none = record {
  table = λ l r a b. h.table l r a b ∙ ap (λ (k : ℕ). min k most) (sym (same_tally n most counts symbols begun free last s h none l r (which_pair last s l r)));
  waiting = waiting_more n most counts symbols begun free last s h;
}

raised_entry : (n most : ℕ) (counts symbols : List ℕ) (begun free : Bool) (last s : ℕ) → IsCounted n most counts symbols begun last free → is_pair begun last free s ≡ true → last < n → s < n → n * n ≤ length counts → (l r : ℕ) → r < n → l < n →
    ((last ≡ l) × (s ≡ r)) ⊎ ((last ≢ l) ⊎ (s ≢ r)) →
    get_or (set counts (last * n + s) (min (get_or counts (last * n + s) 0 + 1) most)) (l * n + r) 0 ≡ min (tally l r none_yet (symbols ++ s ∷ [])).count most
raised_entry n most counts symbols begun free last s h paired last_below s_below long l r r_below l_below (inl here) =
    let k : ℕ = last * n + s in
    let inside : k < n * n = place_inside n last s last_below s_below in
    let old : get_or counts k 0 ≡ min (tally last s none_yet symbols).count most = h.table last s last_below s_below in
    let new : (tally last s none_yet (symbols ++ s ∷ [])).count ≡ (tally last s none_yet symbols).count + 1 = tally_here n most counts symbols begun free last s h true paired in
    let there : k < length counts = omega (arith, inside, long) in
    let written : get_or (set counts k (min (get_or counts k 0 + 1) most)) k 0 ≡ min (get_or counts k 0 + 1) most = get_or-set_same counts k (min (get_or counts k 0 + 1) most) 0 there in
    subst (λ (m : ℕ). get_or (set counts k (min (get_or counts k 0 + 1) most)) (m * n + r) 0 ≡ min (tally m r none_yet (symbols ++ s ∷ [])).count most) here.0
    (subst (λ (m : ℕ). get_or (set counts k (min (get_or counts k 0 + 1) most)) (last * n + m) 0 ≡ min (tally last m none_yet (symbols ++ s ∷ [])).count most) here.1
    (omega (arith, written, old, new)))
raised_entry n most counts symbols begun free last s h paired last_below s_below long l r r_below l_below (inr other) =
    let k : ℕ = last * n + s in
    let apart : l * n + r ≢ k = λ e. absurd (no_other last s l r other (one_place n l r last s r_below s_below e)) in
    get_or-set_other counts k (l * n + r) (min (get_or counts k 0 + 1) most) 0 apart ∙ h.table l r l_below r_below
    ∙ ap (λ (m : ℕ). min m most) (sym (tally_elsewhere n most counts symbols begun free last s h l r other))
  where
    no_other : (last s l r : ℕ) → (last ≢ l) ⊎ (s ≢ r) → (l ≡ last) × (r ≡ s) → ⊥
    no_other last s l r (inl differ) both = differ (sym both.0)
    no_other last s l r (inr differ) both = differ (sym both.1)

-- a symbol that makes a pair raises the pair's count
pub counted_pair : (n most : ℕ) (counts symbols : List ℕ) (begun free : Bool) (last s : ℕ) → IsCounted n most counts symbols begun last free → is_pair begun last free s ≡ true → last < n → s < n → n * n ≤ length counts →
    IsCounted n most (set counts (last * n + s) (min (get_or counts (last * n + s) 0 + 1) most)) (symbols ++ s ∷ []) true s (is_free begun last free s)
counted_pair n most counts symbols begun free last s h paired last_below s_below long = record {
  table = λ l r a b. raised_entry n most counts symbols begun free last s h paired last_below s_below long l r b a (which_pair last s l r);
  waiting = waiting_more n most counts symbols begun free last s h;
}

-- after all symbols the table has the counts of the pairs
pub counted_all : (n most : ℕ) (counts symbols : List ℕ) (begun free : Bool) (last : ℕ) → IsCounted n most counts symbols begun last free → (l r : ℕ) → l < n → r < n →
    get_or counts (l * n + r) 0 ≡ min (pair_count l r symbols) most
counted_all n most counts symbols begun free last h l r a b = h.table l r a b ∙ ap (λ (k : ℕ). min k most) (tally-pair_count l r symbols)
