-- One more line of a text is probed.
use Rattle.std.proofs.Common.{◌≡◌, ◌≢◌, ◌∙◌, ℕ, ℤ, zero, suc, ◌+◌, ◌<◌, List, Option, Some, inl, inr, length, slice_set, ap, refl, sym, subst, arith}
use Rattle.std.specs.Prelude.{IsSomeAnd, slice_get}
use Rattle.std.specs.List.{after_first}
use Rattle.std.proofs.lemmas.Bool.{cases_lt}
use Rattle.std.proofs.lemmas.List.{get_or-set_other, get_or-set_same, length-set}
use Rattle.std.proofs.lemmas.Option.{slice_get-get_or}
use Rattle.szg_mapped.specs.InPlace.{InPlace}
use Rattle.szg_c.specs.FenLines.{AreProbed, IsProbed, IsProbedAt, is_line_feed, line_at, text_from}

one_of : (P : ℕ → Type 0) (n k : ℕ) → ((i : ℕ) → i < n → P i) → P n → k < suc n → P k
one_of P n k below at h = elim (cases_lt k n) [
  | inl lt ↦ below k lt
  | inr ge ↦ let e : n ≡ k = omega (arith, ge, h) in subst P e at
]

kept_class : (files : List InPlace) (text : List ℕ) (before after : List ℤ) (k why : ℕ) → slice_get after k ≡ slice_get before k →
    IsProbedAt files text before k why → IsProbedAt files text after k why
kept_class files text before after k why e = subst (λ (o : Option ℤ). IsSomeAnd o (λ class. IsProbed files (line_at text k) why class)) (sym e)

-- the classes of the first lines stay, and that of the next line is written
grown : (files : List InPlace) (text : List ℕ) (before after : List ℤ) (n status why next : ℕ) → AreProbed files text before n status →
    ((k : ℕ) → k < n → slice_get after k ≡ slice_get before k) → IsProbedAt files text after n why →
    (status ≡ 0 → next ≡ why) → ((status ≡ 0 → ⊥) → next ≡ status) → AreProbed files text after (suc n) next
grown files text before after n zero why next is same last takes keeps =
    let e : next ≡ why = takes refl in
    let Each : ℕ → Type 0 = λ k. (s : ℕ) × IsProbedAt files text after k s in
    let Done : ℕ → Type 0 = λ k. IsProbedAt files text after k 0 in
    let done : (k : ℕ) → k < n → Done k = λ k h. kept_class files text before after k 0 (same k h) (is.done refl k h) in
    let at_next : IsProbedAt files text after n next = subst (λ (s : ℕ). IsProbedAt files text after n s) (sym e) last in
    record {
      each = λ k h. one_of Each n k (λ i lt. let p = is.each i lt in (p.0, kept_class files text before after i p.0 (same i lt) p.1)) (why, last) h;
      done = λ z k h. one_of Done n k done (subst (λ (s : ℕ). IsProbedAt files text after n s) z at_next) h;
      first = λ undone. (n, omega arith, at_next, done);
    }
grown files text before after n (suc m) why next is same last takes keeps =
    let e : next ≡ suc m = keeps (λ z. absurd cc) in
    let Each : ℕ → Type 0 = λ k. (s : ℕ) × IsProbedAt files text after k s in
    let one = is.first (λ z. absurd cc) in
    record {
      each = λ k h. one_of Each n k (λ i lt. let p = is.each i lt in (p.0, kept_class files text before after i p.0 (same i lt) p.1)) (why, last) h;
      done = λ z k h. absurd cc;
      first = λ undone. (
        one.0,
        (let h = one.1 in omega (arith, h)),
        subst (λ (s : ℕ). IsProbedAt files text after one.0 s) (sym e) (kept_class files text before after one.0 (suc m) (same one.0 one.1) one.2),
        λ k lt. let h = one.1 in let under : k < n = omega (arith, lt, h) in kept_class files text before after k 0 (same k under) (one.3 k lt),
      );
    }

-- ---- the loop's steps

pub text_from-none : (text : List ℕ) → text_from text 0 ≡ text
unfolding text_from
text_from-none text = refl

pub text_from-more : (text : List ℕ) (n : ℕ) → text_from text (n + 1) ≡ after_first is_line_feed (text_from text n)
unfolding text_from
text_from-more text n = let e : n + 1 ≡ suc n = omega arith in rw e refl

pub none_probed : (files : List InPlace) (text : List ℕ) (classes : List ℤ) → AreProbed files text classes 0 0
none_probed files text classes = record {
  each = λ n h. let no : ⊥ = omega (arith, h) in absurd no;
  done = λ e n h. let no : ⊥ = omega (arith, h) in absurd no;
  first = λ undone. absurd (undone refl);
}

set_same : (xs : List ℤ) (i : ℕ) (y : ℤ) → i < length xs → slice_get (slice_set xs i y) i ≡ Some y
set_same xs i y h = let long = length-set xs i y in slice_get-get_or (slice_set xs i y) i y (omega (arith, h, long)) ∙ ap Some (get_or-set_same xs i y y h)

set_other : (xs : List ℤ) (i k : ℕ) (y : ℤ) → i < length xs → k < i → slice_get (slice_set xs i y) k ≡ slice_get xs k
set_other xs i k y h lt =
    let long = length-set xs i y in let other : k ≢ i = λ e. let no : ⊥ = omega (arith, lt, e) in no in
    slice_get-get_or (slice_set xs i y) k y (omega (arith, h, lt, long)) ∙ ap Some (get_or-set_other xs i k y y other) ∙ sym (slice_get-get_or xs k y (omega (arith, h, lt)))

-- the class of the next line is written behind those of the first lines
pub one_more : (files : List InPlace) (text : List ℕ) (classes : List ℤ) (n : ℕ) (class : ℤ) (status why next : ℕ) → AreProbed files text classes n status →
    n < length classes → IsProbed files (line_at text n) why class → (status ≡ 0 → next ≡ why) → ((status ≡ 0 → ⊥) → next ≡ status) →
    AreProbed files text (slice_set classes n class) (n + 1) next
one_more files text classes n class status why next is inside probed takes keeps =
    let last : IsProbedAt files text (slice_set classes n class) n why =
    subst (λ (o : Option ℤ). IsSomeAnd o (λ c. IsProbed files (line_at text n) why c)) (sym (set_same classes n class inside)) probed in
    let e : suc n ≡ n + 1 = omega arith in
    subst (λ (m : ℕ). AreProbed files text (slice_set classes n class) m next) e
    (grown files text classes (slice_set classes n class) n status why next is (λ k lt. set_other classes n k class inside lt) last takes keeps)
