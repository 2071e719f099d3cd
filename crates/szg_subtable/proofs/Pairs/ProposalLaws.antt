-- What the tests of a proposal establish: the invariant of each of their loops.
use Rattle.std.proofs.Common.{ℕ, zero, suc, ◌≡◌, ◌+◌, ◌<◌, ◌≤◌, Bool, true, false, cond, List, [], ◌∷◌, ◌++◌, Option, Some, None, length, take, drop, replicate, get_or, set, refl, sym, ap, subst, ◌∙◌, arith, inl, inr, length-append}
use Rattle.std.specs.Prelude.{not, IfSome}
use Rattle.std.specs.List.{slice_get, AllByRecursion}
use Rattle.std.proofs.lemmas.Bool.{cases_order, cases_eq}
use Rattle.std.proofs.lemmas.List.{get_or-set_same, get_or-set_other, take-append-drop, take-take, drop-take, take_more, flat_map_more}
use Rattle.std.proofs.lemmas.List.Elements.{filter-append}
use Rattle.std.proofs.lemmas.Option.{get_or_from_slice_get}
use Rattle.szg_code.specs.Canonical.{IsIn}
use Rattle.szg_pairs.specs.Entry.{is_leaf}
use Rattle.szg_pairs.specs.Expansion.{expansion_of}
use Rattle.szg_pairs.specs.Dictionary.{IsDictionary}
use Rattle.szg_subtable.proofs.Pairs.LeafLaws.{default_at}
use Rattle.szg_subtable.specs.Pairing.{different_values, pair_count, pairs_in, values_of, IsUsed}
use Rattle.szg_subtable.specs.Building.{IsRound, IsSymbolAt}
use Rattle.szg_subtable.proofs.Pairs.LeafLaws.{all_push}

-- ---- numbers below a bound

pub below_push : (n : ℕ) (xs : List ℕ) (i x : ℕ) → i < length xs → x ≡ get_or xs i 0 → x < n → AllByRecursion (λ s. s < n) (take i xs) → AllByRecursion (λ s. s < n) (take (i + 1) xs)
below_push n xs i x inside read small all =
    let more : take (i + 1) xs ≡ take i xs ++ x ∷ [] = take_more xs i 0 inside ∙ ap (λ (k : ℕ). take i xs ++ k ∷ []) (sym read) in
    subst (λ (z : List ℕ). AllByRecursion (λ s. s < n) z) (sym more) (all_push (λ s. s < n) (take i xs) x all small)

-- the same for equal lists
pub below_as : (lens lens' symbols symbols' : List ℕ) → lens' ≡ lens → symbols' ≡ symbols → AllByRecursion (λ s. s < length lens) symbols → AllByRecursion (λ s. s < length lens') symbols'
below_as lens lens' symbols symbols' a b all =
    subst (λ (z : List ℕ). AllByRecursion (λ s. s < length z) symbols') (sym a) (subst (λ (z : List ℕ). AllByRecursion (λ s. s < length lens) z) (sym b) all)

abbrev pub IsSpent : List ℕ → List ℕ → Type 0
IsSpent lens symbols = (left right : ℕ) → left < length lens → right < length lens → get_or lens left 0 + get_or lens right 0 ≤ 256 → pair_count left right symbols < 4

pub none_as : (lens lens' symbols symbols' : List ℕ) → lens' ≡ lens → symbols' ≡ symbols → IsSpent lens' symbols' → IsSpent lens symbols
none_as lens lens' symbols symbols' a b none = subst (λ (z : List ℕ). IsSpent z symbols) a (subst (λ (z : List ℕ). IsSpent lens' z) b none)

pub below_at : (n : ℕ) (xs : List ℕ) (i : ℕ) → AllByRecursion (λ s. s < n) xs → i < length xs → get_or xs i 0 < n
below_at n [] i all inside = absurd (omega (arith, inside))
below_at n (x ∷ xs) zero all inside = all.0
below_at n (x ∷ xs) (suc i) all inside = below_at n xs i all.1 (omega (arith, inside))

pub in_at : (xs : List ℕ) (i : ℕ) → i < length xs → IsIn xs (get_or xs i 0)
in_at [] i inside = absurd (omega (arith, inside))
in_at (x ∷ xs) zero inside = inl refl
in_at (x ∷ xs) (suc i) inside = inr (in_at xs i (omega (arith, inside)))

-- ---- values

pub take_join : (xs : List ℕ) (a n : ℕ) → take (a + n) xs ≡ take a xs ++ take n (drop a xs)
take_join xs a n =
    let short : a ≤ a + n = omega arith in
    sym (take-append-drop a (take (a + n) xs)) ∙ ap (λ (z : List ℕ). z ++ drop a (take (a + n) xs)) (take-take a (a + n) xs short)
    ∙ ap (λ (z : List ℕ). take a xs ++ z) (drop-take a n xs)

-- the next values are those of the next symbol
pub values_more : (entries : List (List ℕ)) (symbols values : List ℕ) (i s start n : ℕ) → i < length symbols → s ≡ get_or symbols i 0 → take n (drop start values) ≡ expansion_of entries s →
    values_of entries (take i symbols) ≡ take start values → values_of entries (take (i + 1) symbols) ≡ take (start + n) values
values_more entries symbols values i s start n inside read here old =
    let more : take (i + 1) symbols ≡ take i symbols ++ s ∷ [] = take_more symbols i 0 inside ∙ ap (λ (k : ℕ). take i symbols ++ k ∷ []) (sym read) in
    ap (values_of entries) more ∙ sym (flat_map_more (expansion_of entries) [] (take i symbols) s)
    ∙ ap (λ (z : List ℕ). z ++ expansion_of entries s) old
    ∙ ap (λ (z : List ℕ). take start values ++ z) (sym here)
    ∙ sym (take_join values start n)

-- where the values of some symbols are known to be
abbrev pub AreKnown : List (List ℕ) → List ℕ → List (Option ℕ) → Type 0
AreKnown entries values offsets = (s : ℕ) → IfSome (get_or offsets s None) (IsSymbolAt entries values s)

pub known_none : (entries : List (List ℕ)) (values : List ℕ) (offsets : List (Option ℕ)) (n : ℕ) → offsets ≡ replicate n None → AreKnown entries values offsets
known_none entries values offsets n none s =
    subst (λ (z : Option ℕ). IfSome z (IsSymbolAt entries values s)) (sym (ap (λ (z : List (Option ℕ)). get_or z s None) none ∙ default_at n s None)) tt

pub known_more : (entries : List (List ℕ)) (values : List ℕ) (offsets : List (Option ℕ)) (i start : ℕ) → i < length offsets → IsSymbolAt entries values i start → AreKnown entries values offsets →
    AreKnown entries values (set offsets i (Some start))
known_more entries values offsets i start there here old s =
    elim (cases_eq s i) [
      | inl same ↦
          subst (λ (z : Option ℕ). IfSome z (IsSymbolAt entries values s)) (sym (ap (λ (k : ℕ). get_or (set offsets i (Some start)) k None) same ∙ get_or-set_same offsets i (Some start) None there))
          (subst (λ (k : ℕ). IsSymbolAt entries values k start) (sym same) here)
      | inr other ↦ subst (λ (z : Option ℕ). IfSome z (IsSymbolAt entries values s)) (sym (get_or-set_other offsets i s (Some start) None other)) (old s)
    ]

-- the next value is the symbol's next value
pub same_more : (values expansion : List ℕ) (i x : ℕ) → ((k : ℕ) → k < i → get_or values k 0 ≡ get_or expansion k 0) → slice_get expansion i ≡ Some x → get_or values i 0 ≡ x → (k : ℕ) → k < i + 1 → get_or values k 0 ≡ get_or expansion k 0
same_more values expansion i x old there read k lt =
    elim (cases_order k i) [
      | inl same ↦ subst (λ (n : ℕ). get_or values n 0 ≡ get_or expansion n 0) (sym same) (read ∙ sym (get_or_from_slice_get expansion i x 0 there))
      | inr (inl less) ↦ old k less
      | inr (inr more) ↦ absurd (omega (arith, more, lt))
    ]

-- ---- marks

-- if P holds for the marked numbers and for i, it holds after i is marked
pub marked_more : (P : ℕ → Type 0) (marks : List Bool) (i : ℕ) → P i → ((s : ℕ) → get_or marks s false ≡ true → P s) → (s : ℕ) → get_or (set marks i true) s false ≡ true → P s
marked_more P marks i here old s marked =
    elim (cases_eq s i) [
      | inl same ↦ subst P (sym same) here
      | inr other ↦ old s (sym (get_or-set_other marks i s true false other) ∙ marked)
    ]

-- ---- pairs

by_leaf : (xs : List (List ℕ)) (e : List ℕ) (b : Bool) → is_leaf e ≡ b → length (pairs_in (xs ++ e ∷ [])) ≡ cond b (length (pairs_in xs)) (length (pairs_in xs) + 1)
by_leaf xs e true h = ap length (filter-append (λ x. not (is_leaf x)) xs (e ∷ [])) ∙ length-append (pairs_in xs) (pairs_in (e ∷ [])) ∙ rw h (omega arith)
by_leaf xs e false h = ap length (filter-append (λ x. not (is_leaf x)) xs (e ∷ [])) ∙ length-append (pairs_in xs) (pairs_in (e ∷ [])) ∙ rw h refl

pub pairs_more : (xs : List (List ℕ)) (i : ℕ) (e : List ℕ) (b : Bool) → i < length xs → e ≡ get_or xs i [] → is_leaf e ≡ b → length (pairs_in (take (i + 1) xs)) ≡ cond b (length (pairs_in (take i xs))) (length (pairs_in (take i xs)) + 1)
pairs_more xs i e b inside read h =
    let more : take (i + 1) xs ≡ take i xs ++ e ∷ [] = take_more xs i [] inside ∙ ap (λ (k : List ℕ). take i xs ++ k ∷ []) (sym read) in
    ap (λ (z : List (List ℕ)). length (pairs_in z)) more ∙ by_leaf (take i xs) e b h

-- ---- a proposal that passes is a round, and a finished one a pairing

pub passed : (values : List ℕ) (entries : List (List ℕ)) (symbols : List ℕ) (pairs : ℕ) → IsDictionary entries → length entries ≤ 4095 →
    AllByRecursion (λ s. s < length entries) symbols → values_of entries symbols ≡ values → IsUsed entries symbols → pairs ≡ length (pairs_in entries) →
    length entries ≡ length (different_values values) + pairs → IsRound values pairs entries symbols
passed values entries symbols pairs dictionary few below same used count leaves = record {
  dictionary = dictionary;
  few = few;
  below = below;
  same = same;
  used = used;
  pairs = sym count;
  leaves = leaves;
}
