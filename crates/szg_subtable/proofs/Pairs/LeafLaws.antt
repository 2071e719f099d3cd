-- Leaves: the marks of values, the numbers of their symbols, and a dictionary of leaves alone.
use Rattle.std.proofs.Common.{ℕ, zero, suc, ◌≡◌, ◌+◌, ◌<◌, ◌≤◌, Bool, true, false, cond, List, [], ◌∷◌, ◌++◌, Some, length, map, get_or, replicate, refl, sym, ap, subst, ◌∙◌, arith, inl, inr, length-append, append-nil}
use Rattle.std.specs.Prelude.{◌==◌, ◌||◌}
use Rattle.std.specs.List.{slice_get, filter, list_any, range_with_len, AllByRecursion}
use Rattle.std.proofs.lemmas.Bool.{cases_order, eq-eqb}
use Rattle.std.proofs.lemmas.List.{length-map, map-append}
use Rattle.std.proofs.lemmas.List.Elements.{filter-append}
use Rattle.std.proofs.Math.Bool.{or-true}
use Rattle.szg_code.specs.Canonical.{IsIn}
use Rattle.szg_pairs.specs.Entry.{left_of, is_leaf}
use Rattle.szg_pairs.specs.Expansion.{leaf, expansion_of}
use Rattle.szg_pairs.specs.Dictionary.{IsDictionary}
use Rattle.szg_pairs.proofs.Expanding.{Expands-expansion_of}
use Rattle.szg_block.proofs.Values.{range-last}
use Rattle.szg_subtable.specs.Pairing.{values_below, pairs_in, values_of, IsUsed}
use Rattle.szg_subtable.specs.Building.{entry_of, leaves_below, AreLens, AreMarks, IsRound}
use Rattle.szg_subtable.proofs.Pairs.Tests.{bool_cases}
use Rattle.szg_subtable.proofs.Pairs.Triples.{entry-left, entry-leaf}
use Rattle.szg_subtable.proofs.Pairs.Growing.{there_more, there_last, leaf_grows}

-- ---- the values below one bound more

pub values_below-none : (values : List ℕ) → values_below 0 values ≡ []
unfolding values_below
values_below-none values = refl

values_below-suc : (n : ℕ) (values : List ℕ) → values_below (suc n) values ≡ values_below n values ++ cond (list_any (λ v. v == n) values) (n ∷ []) []
unfolding values_below
values_below-suc n values =
    let z : 0 + n ≡ n = omega arith in
    ap (filter (λ value. list_any (λ v. v == value) values)) (range-last 0 n ∙ ap (λ (k : ℕ). range_with_len 0 n ++ k ∷ []) z)
    ∙ filter-append (λ value. list_any (λ v. v == value) values) (range_with_len 0 n) (n ∷ [])

pub values_below-there : (n : ℕ) (values : List ℕ) → list_any (λ v. v == n) values ≡ true → values_below (n + 1) values ≡ values_below n values ++ n ∷ []
values_below-there n values h = ap (λ (k : ℕ). values_below k values) (let e : n + 1 ≡ suc n = omega arith in e) ∙ values_below-suc n values ∙ rw h refl

pub values_below-missing : (n : ℕ) (values : List ℕ) → list_any (λ v. v == n) values ≡ false → values_below (n + 1) values ≡ values_below n values
values_below-missing n values h = ap (λ (k : ℕ). values_below k values) (let e : n + 1 ≡ suc n = omega arith in e) ∙ values_below-suc n values ∙ rw h (append-nil (values_below n values))

-- at most n values are below n
pub values_below-few : (n : ℕ) (values : List ℕ) → length (values_below n values) ≤ n
values_below-few zero values = rw values_below-none (omega arith)
values_below-few (suc n) values =
    let few = values_below-few n values in
    elim (bool_cases (list_any (λ v. v == n) values)) [
      | inl h ↦ let e : values_below (n + 1) values ≡ values_below n values ++ n ∷ [] = values_below-there n values h in
          let l : length (values_below (suc n) values) ≡ length (values_below n values) + 1 = ap (λ (k : ℕ). length (values_below k values)) (let e : suc n ≡ n + 1 = omega arith in e) ∙ ap length e ∙ length-append (values_below n values) (n ∷ []) in
          omega (arith, l, few)
      | inr h ↦ let e : values_below (n + 1) values ≡ values_below n values = values_below-missing n values h in
          let l : length (values_below (suc n) values) ≡ length (values_below n values) = ap (λ (k : ℕ). length (values_below k values)) (let e : suc n ≡ n + 1 = omega arith in e) ∙ ap length e in
          omega (arith, l, few)
    ]

-- ---- a dictionary of leaves

pub all_push : {A : Type 0} (P : A → Type 0) (xs : List A) (y : A) → AllByRecursion P xs → P y → AllByRecursion P (xs ++ y ∷ [])
all_push P [] y all last = (last, tt)
all_push P (x ∷ xs) y all last = (all.0, all_push P xs y all.1 last)

-- entries that are leaves
pub record AreLeaves (entries : List (List ℕ)) : Type 0 where
  pub dictionary : IsDictionary entries
  pub leaves : AllByRecursion (λ entry. is_leaf entry ≡ true) entries

leaves-push : (entries : List (List ℕ)) (value : ℕ) → value < 4096 → AreLeaves entries → AreLeaves (entries ++ entry_of value 4095 ∷ [])
leaves-push entries value small h =
    let one : is_leaf (entry_of value 4095) ≡ true = entry-leaf value small in
    record {
      dictionary = leaf_grows entries (entry_of value 4095) h.dictionary one;
      leaves = all_push (λ entry. is_leaf entry ≡ true) entries (entry_of value 4095) h.leaves one;
    }

leaves-there : (n : ℕ) (values : List ℕ) → list_any (λ v. v == n) values ≡ true → leaves_below (n + 1) values ≡ leaves_below n values ++ entry_of n 4095 ∷ []
leaves-there n values h = ap (map (λ value. entry_of value 4095)) (values_below-there n values h) ∙ map-append (λ value. entry_of value 4095) (values_below n values) (n ∷ [])

leaves-missing : (n : ℕ) (values : List ℕ) → list_any (λ v. v == n) values ≡ false → leaves_below (n + 1) values ≡ leaves_below n values
leaves-missing n values h = ap (map (λ value. entry_of value 4095)) (values_below-missing n values h)

pub are_leaves : (n : ℕ) (values : List ℕ) → n ≤ 4096 → AreLeaves (leaves_below n values)
are_leaves zero values few =
    subst (λ (z : List ℕ). AreLeaves (map (λ value. entry_of value 4095) z)) (sym (values_below-none values))
    (record { dictionary = λ s there. absurd (omega (arith, there)); leaves = tt })
are_leaves (suc n) values few =
    let e : n + 1 ≡ suc n = omega arith in
    let old = are_leaves n values (omega (arith, few)) in
    subst (λ (k : ℕ). AreLeaves (leaves_below k values)) e
    (elim (bool_cases (list_any (λ v. v == n) values)) [
      | inl h ↦ subst AreLeaves (sym (leaves-there n values h)) (leaves-push (leaves_below n values) n (omega (arith, few)) old)
      | inr h ↦ subst AreLeaves (sym (leaves-missing n values h)) old
    ])

-- ---- values of symbols

-- a value of the list has its leaf at the number of its symbol
placed : (n v : ℕ) (values : List ℕ) → v < n → list_any (λ u. u == v) values ≡ true → slice_get (leaves_below n values) (length (values_below v values)) ≡ Some (entry_of v 4095)
placed zero v values lt there = absurd (omega (arith, lt))
placed (suc n) v values lt there =
    let e : n + 1 ≡ suc n = omega arith in
    subst (λ (k : ℕ). slice_get (leaves_below k values) (length (values_below v values)) ≡ Some (entry_of v 4095)) e
    (elim (cases_order v n) [
      | inl same ↦
          let long : length (leaves_below n values) ≡ length (values_below n values) = length-map (values_below n values) (λ value. entry_of value 4095) in
          let at : slice_get (leaves_below n values ++ entry_of n 4095 ∷ []) (length (values_below n values)) ≡ Some (entry_of n 4095) =
          subst (λ (k : ℕ). slice_get (leaves_below n values ++ entry_of n 4095 ∷ []) k ≡ Some (entry_of n 4095)) long (there_last (leaves_below n values) (entry_of n 4095)) in
          let has : list_any (λ u. u == n) values ≡ true = subst (λ (k : ℕ). list_any (λ u. u == k) values ≡ true) same there in
          subst (λ (k : ℕ). slice_get (leaves_below (n + 1) values) (length (values_below k values)) ≡ Some (entry_of k 4095)) (sym same)
          (subst (λ (z : List (List ℕ)). slice_get z (length (values_below n values)) ≡ Some (entry_of n 4095)) (sym (leaves-there n values has)) at)
      | inr (inl less) ↦
          let old = placed n v values less there in
          elim (bool_cases (list_any (λ u. u == n) values)) [
            | inl h ↦ subst (λ (z : List (List ℕ)). slice_get z (length (values_below v values)) ≡ Some (entry_of v 4095)) (sym (leaves-there n values h))
                (there_more (leaves_below n values) (entry_of n 4095 ∷ []) (length (values_below v values)) (entry_of v 4095) old)
            | inr h ↦ subst (λ (z : List (List ℕ)). slice_get z (length (values_below v values)) ≡ Some (entry_of v 4095)) (sym (leaves-missing n values h)) old
          ]
      | inr (inr more) ↦ absurd (omega (arith, more, lt))
    ])

is_valid_for : (v : ℕ) (values : List ℕ) → v < 4096 → list_any (λ u. u == v) values ≡ true → expansion_of (leaves_below 4096 values) (length (values_below v values)) ≡ v ∷ []
is_valid_for v values small there =
    let entries = leaves_below 4096 values in
    let at = placed 4096 v values small there in
    let one : is_leaf (entry_of v 4095) ≡ true = entry-leaf v small in
    let left : left_of (entry_of v 4095) ≡ v = entry-left v 4095 small in
    Expands-expansion_of entries (length (values_below v values)) (left_of (entry_of v 4095) ∷ []) (leaf at one) (omega arith)
    ∙ ap (λ (k : ℕ). k ∷ []) left

slice_get-inside : {A : Type 0} (xs : List A) (i : ℕ) (x : A) → slice_get xs i ≡ Some x → i < length xs
slice_get-inside [] i x h = absurd cc
slice_get-inside (y ∷ xs) zero x h = omega arith
slice_get-inside (y ∷ xs) (suc i) x h = let r = slice_get-inside xs i x h in omega (arith, r)

has_item : (values : List ℕ) (v : ℕ) → IsIn values v → list_any (λ u. u == v) values ≡ true
has_item [] v h = absurd h
has_item (u ∷ values) v (inl same) = rw (eq-eqb u v same) refl
has_item (u ∷ values) v (inr later) = ap (λ (b : Bool). (u == v) || b) (has_item values v later) ∙ or-true (u == v)

-- the number of a value's symbol
abbrev number_in : List ℕ → ℕ → ℕ
number_in values v = length (values_below v values)

some_values : (values some : List ℕ) → AllByRecursion (λ v. v ≤ 4095) some → ((v : ℕ) → IsIn some v → IsIn values v) → values_of (leaves_below 4096 values) (map (number_in values) some) ≡ some
some_values values [] small have = refl
some_values values (v ∷ some) small have =
    let first = is_valid_for v values (let s = small.0 in omega (arith, s)) (has_item values v (have v (inl refl))) in
    ap (λ (z : List ℕ). z ++ values_of (leaves_below 4096 values) (map (number_in values) some)) first
    ∙ ap (λ (z : List ℕ). v ∷ z) (some_values values some small.1 (λ u h. have u (inr h)))

some_below : (values some : List ℕ) → AllByRecursion (λ v. v ≤ 4095) some → ((v : ℕ) → IsIn some v → IsIn values v) → AllByRecursion (λ s. s < length (leaves_below 4096 values)) (map (number_in values) some)
some_below values [] small have = tt
some_below values (v ∷ some) small have = (
  slice_get-inside (leaves_below 4096 values) (number_in values v) (entry_of v 4095) (placed 4096 v values (let s = small.0 in omega (arith, s)) (has_item values v (have v (inl refl)))),
  some_below values some small.1 (λ u h. have u (inr h)),
)

none_paired : (entries : List (List ℕ)) → AllByRecursion (λ entry. is_leaf entry ≡ true) entries → length (pairs_in entries) ≡ 0
none_paired [] all = refl
none_paired (e ∷ entries) all = rw all.0 (none_paired entries all.1)

leaf_at : (entries : List (List ℕ)) (s : ℕ) (e : List ℕ) → AllByRecursion (λ entry. is_leaf entry ≡ true) entries → slice_get entries s ≡ Some e → is_leaf e ≡ true
leaf_at [] s e all h = absurd cc
leaf_at (x ∷ entries) zero e all h = let same : x ≡ e = cc in subst (λ (z : List ℕ). is_leaf z ≡ true) same all.0
leaf_at (x ∷ entries) (suc s) e all h = leaf_at entries s e all.1 h

no_use : (entries : List (List ℕ)) (symbols : List ℕ) → AllByRecursion (λ entry. is_leaf entry ≡ true) entries → IsUsed entries symbols
no_use entries symbols all s e there paired = absurd (let one : is_leaf e ≡ true = leaf_at entries s e all there in cc)

-- the leaves alone are a round: no pair is made yet
pub first_round : (values : List ℕ) → AllByRecursion (λ v. v ≤ 4095) values → length (values_below 4096 values) ≤ 4095 → IsRound values 0 (leaves_below 4096 values) (map (number_in values) values)
first_round values small few =
    let leaves = are_leaves 4096 values (omega arith) in
    let long : length (leaves_below 4096 values) ≡ length (values_below 4096 values) = length-map (values_below 4096 values) (λ value. entry_of value 4095) in
    record {
      dictionary = leaves.dictionary;
      few = omega (arith, long, few);
      below = some_below values values small (λ v h. h);
      same = some_values values values small (λ v h. h);
      used = no_use (leaves_below 4096 values) (map (number_in values) values) leaves.leaves;
      pairs = none_paired (leaves_below 4096 values) leaves.leaves;
      leaves = omega (arith, long);
    }

-- each leaf has one value
one_value : (entries : List (List ℕ)) (all : List (List ℕ)) → AllByRecursion (λ entry. is_leaf entry ≡ true) entries → (s : ℕ) (e : List ℕ) → slice_get entries s ≡ Some e → length (expansion_of entries s) ≡ 1
one_value entries all leaves s e there = ap length (Expands-expansion_of entries s (left_of e ∷ []) (leaf there (leaf_at entries s e leaves there)) (omega arith))

entry_there : (entries : List (List ℕ)) (s : ℕ) → s < length entries → (e : List ℕ) × (slice_get entries s ≡ Some e)
entry_there [] s h = absurd (omega (arith, h))
entry_there (x ∷ entries) zero h = (x, refl)
entry_there (x ∷ entries) (suc s) h = entry_there entries s (omega (arith, h))

pub first_lens : (values lens : List ℕ) → length lens ≡ length (leaves_below 4096 values) → ((s : ℕ) → s < length lens → get_or lens s 0 ≡ 1) → AreLens (leaves_below 4096 values) lens
first_lens values lens long ones = record {
  count = long;
  each = λ s there.
      let e = entry_there (leaves_below 4096 values) s there in
      ones s (omega (arith, there, long)) ∙ sym (one_value (leaves_below 4096 values) [] (are_leaves 4096 values (omega arith)).leaves s e.0 e.1);
}

-- ---- steps of the loops

-- a list of equal items has this item everywhere, by default also after its end
pub default_at : {X : Type 0} → (n i : ℕ) (x : X) → get_or (replicate n x) i x ≡ x
default_at zero i x = refl
default_at (suc n) zero x = refl
default_at (suc n) (suc i) x = default_at n i x

-- the count of values after one more mark
pub counted_more : (values : List ℕ) (marks : List Bool) (i count : ℕ) (b : Bool) → AreMarks values marks → i < 4096 → get_or marks i false ≡ b → count ≡ length (values_below i values) →
    cond b (count + 1) count ≡ length (values_below (i + 1) values)
counted_more values marks i count true are inside read old =
    let here : list_any (λ v. v == i) values ≡ true = sym (are.each i inside) ∙ read in
    let more : length (values_below (i + 1) values) ≡ length (values_below i values) + 1 = ap length (values_below-there i values here) ∙ length-append (values_below i values) (i ∷ []) in
    omega (arith, old, more)
counted_more values marks i count false are inside read old =
    let here : list_any (λ v. v == i) values ≡ false = sym (are.each i inside) ∙ read in
    old ∙ sym (ap length (values_below-missing i values here))

pub leaves-none : (values : List ℕ) → leaves_below 0 values ≡ []
leaves-none values = ap (map (λ value. entry_of value 4095)) (values_below-none values)

pub leaf_there : (values : List ℕ) (marks : List Bool) (i : ℕ) → AreMarks values marks → i < 4096 → get_or marks i false ≡ true → leaves_below (i + 1) values ≡ leaves_below i values ++ entry_of i 4095 ∷ []
leaf_there values marks i are inside read = leaves-there i values (sym (are.each i inside) ∙ read)

pub leaf_missing : (values : List ℕ) (marks : List Bool) (i : ℕ) → AreMarks values marks → i < 4096 → get_or marks i false ≡ false → leaves_below (i + 1) values ≡ leaves_below i values
leaf_missing values marks i are inside read = leaves-missing i values (sym (are.each i inside) ∙ read)

pub leaves-few : (n : ℕ) (values : List ℕ) → length (leaves_below n values) ≡ length (values_below n values)
leaves-few n values = length-map (values_below n values) (λ value. entry_of value 4095)

pub get_or-last : (xs : List ℕ) (x : ℕ) → get_or (xs ++ x ∷ []) (length xs) 0 ≡ x
get_or-last [] x = refl
get_or-last (y ∷ xs) x = get_or-last xs x

pub get_or-front : (xs : List ℕ) (x k : ℕ) → k < length xs → get_or (xs ++ x ∷ []) k 0 ≡ get_or xs k 0
get_or-front [] x k h = absurd (omega (arith, h))
get_or-front (y ∷ xs) x zero h = refl
get_or-front (y ∷ xs) x (suc k) h = get_or-front xs x k (omega (arith, h))

-- the numbers of values after one more
pub numbered_more : (values numbers after : List ℕ) (i x : ℕ) → length numbers ≡ i → ((v : ℕ) → v < i → get_or numbers v 0 ≡ length (values_below v values)) →
    after ≡ numbers ++ x ∷ [] → x ≡ length (values_below i values) → (v : ℕ) → v < i + 1 → get_or after v 0 ≡ length (values_below v values)
numbered_more values numbers after i x count old made is v lt =
    subst (λ (z : List ℕ). get_or z v 0 ≡ length (values_below v values)) (sym made)
    (elim (cases_order v i) [
      | inl same ↦
          let at : v ≡ length numbers = omega (arith, same, count) in
          ap (λ (k : ℕ). get_or (numbers ++ x ∷ []) k 0) at ∙ get_or-last numbers x ∙ is ∙ ap (λ (k : ℕ). length (values_below k values)) (sym same)
      | inr (inl less) ↦ get_or-front numbers x v (omega (arith, less, count)) ∙ old v less
      | inr (inr more) ↦ absurd (omega (arith, more, lt))
    ])
