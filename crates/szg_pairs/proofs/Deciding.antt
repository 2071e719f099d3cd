-- The functions that find a dictionary's first fault, related to the rules of accepted dictionaries.
use Rattle.std.proofs.Common.{ℕ, zero, suc, Bool, true, false, ◌≡◌, ◌+◌, ◌<◌, ◌≤◌, ◌⊎◌, inl, inr, List, [], ◌∷◌, ◌++◌, Option, Some, None, length, map, refl, ap, sym, ◌∙◌, arith, length-append, nat_lt}
use Rattle.std.specs.Prelude.{IsTrue, IfSome, not, option_map}
use Rattle.std.specs.List.{slice_get}
use Rattle.std.specs.Option.{option_map_or}
use Rattle.std.proofs.lemmas.Bool.{cases_lt, ltb-true, ltb-false, not-false, not-true}
use Rattle.std.proofs.lemmas.Option.{slice_get-map, slice_get_past}
use Rattle.std.proofs.lemmas.List.{length-map}
use Rattle.szg_pairs.specs.Entry.{left_of, right_of, is_leaf, names_symbols_below, NamesSymbols}
use Rattle.szg_pairs.specs.Expansion.{Expands, leaf, pair}
use Rattle.szg_pairs.specs.Dictionary.{FailsFirst, HasExpansion, HasShortExpansion, IsDictionary}
use Rattle.szg_pairs.specs.FirstFault.{names_symbols, first_child, known_sum, known_of, length_of_kind, length_of_entry, unknown, lengths_within, length_of_symbol, is_endless, is_long, first_cycle, first_long}
use Rattle.szg_pairs.proofs.FirstFound.{find_none, find_some}

-- ---- names

named : {X : Type 0} (f : X → Bool) (o : Option X) → option_map_or f o true ≡ true → IfSome o (λ x. IsTrue (f x))
named f None e = tt
named f (Some x) e = e

unnamed : {X : Type 0} (f : X → Bool) (o : Option X) → option_map_or f o true ≡ false → IfSome o (λ x. IsTrue (f x)) → ⊥
unnamed f None e h = absurd cc
unnamed f (Some x) e h = let no : true ≡ false = sym h ∙ e in absurd cc

names : (entries : List (List ℕ)) (s : ℕ) → names_symbols entries s ≡ true → NamesSymbols entries s
names entries s e = named (names_symbols_below (length entries)) (slice_get entries s) e

past : {X : Type 0} (f : X → Bool) (o : Option X) → o ≡ None → IfSome o (λ x. IsTrue (f x))
past f None e = tt
past f (Some x) e = absurd cc

pub first_child-None : (entries : List (List ℕ)) → first_child entries ≡ None → (s : ℕ) → NamesSymbols entries s
unfolding first_child
first_child-None entries e s =
    elim (cases_lt s (length entries)) [
      | inl there ↦ names entries s (not-false (names_symbols entries s) (find_none (λ s. not (names_symbols entries s)) 0 (length entries) e s (omega arith) (omega arith)))
      | inr gone ↦ past (names_symbols_below (length entries)) (slice_get entries s) (slice_get_past entries s gone)
    ]

pub first_child-Some : (entries : List (List ℕ)) (s : ℕ) → first_child entries ≡ Some s → FailsFirst (NamesSymbols entries) s
unfolding first_child
first_child-Some entries s e =
    let f = find_some (λ s. not (names_symbols entries s)) 0 (length entries) s e in
    record {
      before = λ k lt. names entries k (not-false (names_symbols entries k) (f.before k (omega arith) lt));
      here = λ h. unnamed (names_symbols_below (length entries)) (slice_get entries s) (not-true (names_symbols entries s) f.passes) h;
    }

-- ---- what is known is right

sum_known : (a b : Option ℕ) (n : ℕ) → known_sum a b ≡ Some n → (i j : ℕ) × (a ≡ Some i) × (b ≡ Some j) × (i + j ≡ n)
sum_known (Some i) (Some j) n e = (i, j, refl, refl, cc)
sum_known (Some i) None n e = absurd cc
sum_known None b n e = absurd cc

-- what is known of the symbols of a list that is mapped from entries
known_map : (entries : List (List ℕ)) (f : List ℕ → Option ℕ) (s : ℕ) → known_of (map f entries) s ≡ option_map_or (λ n. n) (option_map f (slice_get entries s)) None
known_map entries f s = ap (λ (o : Option (Option ℕ)). option_map_or (λ (n : Option ℕ). n) o None) (slice_get-map f entries s)

abbrev HasLength : List (List ℕ) → ℕ → ℕ → Type 0
HasLength entries s n = (values : List ℕ) × Expands entries s values × (length values ≡ n)

abbrev AreRight : List (List ℕ) → List (Option ℕ) → Type 0
AreRight entries known = (s n : ℕ) → known_of known s ≡ Some n → HasLength entries s n

right_kind : (entries : List (List ℕ)) (known : List (Option ℕ)) → AreRight entries known → (s n : ℕ) (entry : List ℕ) → slice_get entries s ≡ Some entry →
    (b : Bool) → is_leaf entry ≡ b → length_of_kind b entry known ≡ Some n → HasLength entries s n
right_kind entries known right s n entry there true e h = (left_of entry ∷ [], leaf there e, cc)
right_kind entries known right s n entry there false e h =
    let k = sum_known (known_of known (left_of entry)) (known_of known (right_of entry)) n h in
    let l = right (left_of entry) k.0 k.2 in
    let r = right (right_of entry) k.1 k.3 in
    (l.0 ++ r.0, pair there e l.1 r.1, length-append l.0 r.0 ∙ ap (λ (x : ℕ). x + length r.0) l.2 ∙ ap (λ (x : ℕ). k.0 + x) r.2 ∙ k.4)

right_entry : (entries : List (List ℕ)) (known : List (Option ℕ)) → AreRight entries known → (s n : ℕ) (o : Option (List ℕ)) → slice_get entries s ≡ o →
    option_map_or (λ (n : Option ℕ). n) (option_map (length_of_entry known) o) None ≡ Some n → HasLength entries s n
right_entry entries known right s n None there h = absurd cc
right_entry entries known right s n (Some entry) there h = right_kind entries known right s n entry there (is_leaf entry) refl h

none_known : (entries : List (List ℕ)) (s n : ℕ) (o : Option (List ℕ)) → option_map_or (λ (n : Option ℕ). n) (option_map unknown o) None ≡ Some n → HasLength entries s n
none_known entries s n None h = absurd cc
none_known entries s n (Some entry) h = absurd cc

are_right : (entries : List (List ℕ)) (rounds : ℕ) → AreRight entries (lengths_within entries rounds)
unfolding lengths_within
are_right entries zero s n e = none_known entries s n (slice_get entries s) (sym (known_map entries unknown s) ∙ e)
are_right entries (suc rounds) s n e =
    right_entry entries (lengths_within entries rounds) (are_right entries rounds) s n (slice_get entries s) refl (sym (known_map entries (length_of_entry (lengths_within entries rounds)) s) ∙ e)

-- ---- every length is known in the end

-- known lengths stay known
abbrev Stays : Option ℕ → Option ℕ → Type 0
Stays None o = Unit {0}
Stays (Some n) o = o ≡ Some n

abbrev AllStay : List (Option ℕ) → List (Option ℕ) → Type 0
AllStay [] [] = Unit {0}
AllStay (x ∷ xs) (y ∷ ys) = Stays x y × AllStay xs ys
AllStay _ _ = ⊥

stay_of : (xs ys : List (Option ℕ)) → AllStay xs ys → (s : ℕ) → Stays (known_of xs s) (known_of ys s)
stay_of [] [] h s = tt
stay_of [] (y ∷ ys) h s = absurd h
stay_of (x ∷ xs) [] h s = absurd h
stay_of (x ∷ xs) (y ∷ ys) h zero = h.0
stay_of (x ∷ xs) (y ∷ ys) h (suc s) = stay_of xs ys h.1 s

stays_sum : (a b a' b' : Option ℕ) → Stays a a' → Stays b b' → Stays (known_sum a b) (known_sum a' b')
stays_sum None b a' b' h k = tt
stays_sum (Some i) None a' b' h k = tt
stays_sum (Some i) (Some j) a' b' h k = ap (λ (o : Option ℕ). known_sum o b') h ∙ ap (λ (o : Option ℕ). known_sum (Some i) o) k

stays_kind : (b : Bool) (entry : List ℕ) (xs ys : List (Option ℕ)) → AllStay xs ys → Stays (length_of_kind b entry xs) (length_of_kind b entry ys)
stays_kind true entry xs ys h = refl
stays_kind false entry xs ys h =
    stays_sum (known_of xs (left_of entry)) (known_of xs (right_of entry)) (known_of ys (left_of entry)) (known_of ys (right_of entry)) (stay_of xs ys h (left_of entry)) (stay_of xs ys h (right_of entry))

stay_next : (entries : List (List ℕ)) (xs ys : List (Option ℕ)) → AllStay xs ys → AllStay (map (length_of_entry xs) entries) (map (length_of_entry ys) entries)
stay_next [] xs ys h = tt
stay_next (entry ∷ entries) xs ys h = (stays_kind (is_leaf entry) entry xs ys h, stay_next entries xs ys h)

stay_unknown : (entries : List (List ℕ)) (f : List ℕ → Option ℕ) → AllStay (map unknown entries) (map f entries)
stay_unknown [] f = tt
stay_unknown (entry ∷ entries) f = (tt, stay_unknown entries f)

rounds_stay : (entries : List (List ℕ)) (k : ℕ) → AllStay (lengths_within entries k) (lengths_within entries (suc k))
unfolding lengths_within
rounds_stay entries zero = stay_unknown entries (length_of_entry (map unknown entries))
rounds_stay entries (suc k) = stay_next entries (lengths_within entries k) (lengths_within entries (suc k)) (rounds_stay entries k)

abbrev one_known : Option ℕ → ℕ
one_known None = 0
one_known (Some n) = 1

abbrev count_known : List (Option ℕ) → ℕ
count_known [] = 0
count_known (x ∷ xs) = one_known x + count_known xs

count_most : (xs : List (Option ℕ)) → count_known xs ≤ length xs
count_most [] = omega arith
count_most (None ∷ xs) = let h = count_most xs in omega (arith, h)
count_most (Some n ∷ xs) = let h = count_most xs in omega (arith, h)

count_stays : (xs ys : List (Option ℕ)) → AllStay xs ys → count_known xs ≤ count_known ys
count_stays [] [] h = omega arith
count_stays [] (y ∷ ys) h = absurd h
count_stays (x ∷ xs) [] h = absurd h
count_stays (None ∷ xs) (y ∷ ys) h = let k = count_stays xs ys h.1 in omega (arith, k)
count_stays (Some n ∷ xs) (y ∷ ys) h = let k = count_stays xs ys h.1 in let e : one_known y ≡ 1 = ap one_known h.0 in omega (arith, k, e)

-- if no length changes, either nothing is new or more lengths are known
stay_or_more : (xs ys : List (Option ℕ)) → AllStay xs ys → (ys ≡ xs) ⊎ (count_known xs + 1 ≤ count_known ys)
stay_or_more [] [] h = inl refl
stay_or_more [] (y ∷ ys) h = absurd h
stay_or_more (x ∷ xs) [] h = absurd h
stay_or_more (None ∷ xs) (None ∷ ys) h =
    elim (stay_or_more xs ys h.1) [
      | inl e ↦ inl (ap (λ (z : List (Option ℕ)). None ∷ z) e)
      | inr m ↦ inr (omega (arith, m))
    ]
stay_or_more (None ∷ xs) (Some n ∷ ys) h = let k = count_stays xs ys h.1 in inr (omega (arith, k))
stay_or_more (Some n ∷ xs) (y ∷ ys) h =
    let one : one_known y ≡ 1 = ap one_known h.0 in
    elim (stay_or_more xs ys h.1) [
      | inl e ↦ inl (ap (λ (o : Option ℕ). o ∷ ys) h.0 ∙ ap (λ (z : List (Option ℕ)). Some n ∷ z) e)
      | inr m ↦ inr (omega (arith, m, one))
    ]

same_next : (entries : List (List ℕ)) (k : ℕ) → lengths_within entries (suc k) ≡ lengths_within entries k → lengths_within entries (suc (suc k)) ≡ lengths_within entries (suc k)
unfolding lengths_within
same_next entries k e = ap (λ (known : List (Option ℕ)). map (length_of_entry known) entries) e

settled_or_more : (entries : List (List ℕ)) (k : ℕ) → (lengths_within entries (suc k) ≡ lengths_within entries k) ⊎ (k + 1 ≤ count_known (lengths_within entries (suc k)))
settled_or_more entries zero =
    elim (stay_or_more (lengths_within entries 0) (lengths_within entries 1) (rounds_stay entries 0)) [
      | inl e ↦ inl e
      | inr m ↦ inr (omega (arith, m))
    ]
settled_or_more entries (suc k) =
    elim (settled_or_more entries k) [
      | inl e ↦ inl (same_next entries k e)
      | inr m ↦
          elim (stay_or_more (lengths_within entries (suc k)) (lengths_within entries (suc (suc k))) (rounds_stay entries (suc k))) [
            | inl e ↦ inl e
            | inr n ↦ inr (omega (arith, m, n))
          ]
    ]

length-rounds : (entries : List (List ℕ)) (k : ℕ) → length (lengths_within entries k) ≡ length entries
unfolding lengths_within
length-rounds entries zero = length-map entries unknown
length-rounds entries (suc k) = length-map entries (length_of_entry (lengths_within entries k))

settled : (entries : List (List ℕ)) → lengths_within entries (suc (length entries)) ≡ lengths_within entries (length entries)
settled entries =
    elim (settled_or_more entries (length entries)) [
      | inl e ↦ e
      | inr m ↦
          let most = count_most (lengths_within entries (suc (length entries))) in
          let long = length-rounds entries (suc (length entries)) in
          absurd (omega (arith, m, most, long))
    ]

known_next : (entries : List (List ℕ)) (rounds s : ℕ) → known_of (lengths_within entries (suc rounds)) s ≡ option_map_or (λ (n : Option ℕ). n) (option_map (length_of_entry (lengths_within entries rounds)) (slice_get entries s)) None
unfolding lengths_within
known_next entries rounds s = known_map entries (length_of_entry (lengths_within entries rounds)) s

-- a length that is known in the end is known from the lengths of the entry's own symbols
known_end : (entries : List (List ℕ)) (s : ℕ) (entry : List ℕ) → slice_get entries s ≡ Some entry →
    known_of (lengths_within entries (length entries)) s ≡ length_of_kind (is_leaf entry) entry (lengths_within entries (length entries))
known_end entries s entry there =
    ap (λ (known : List (Option ℕ)). known_of known s) (sym (settled entries))
    ∙ known_next entries (length entries) s
    ∙ ap (λ (o : Option (List ℕ)). option_map_or (λ (n : Option ℕ). n) (option_map (length_of_entry (lengths_within entries (length entries))) o) None) there

-- a symbol that expands has the length of its expansion
pub length-known : (entries : List (List ℕ)) {s : ℕ} {xs : List ℕ} → Expands entries s xs → known_of (lengths_within entries (length entries)) s ≡ Some (length xs)
length-known entries (leaf {s = s} {entry = entry} there e) =
    known_end entries s entry there ∙ ap (λ (b : Bool). length_of_kind b entry (lengths_within entries (length entries))) e
length-known entries (pair {s = s} {entry = entry} {left = left} {right = right} there e l r) =
    known_end entries s entry there ∙ ap (λ (b : Bool). length_of_kind b entry (lengths_within entries (length entries))) e
    ∙ ap (λ (o : Option ℕ). known_sum o (known_of (lengths_within entries (length entries)) (right_of entry))) (length-known entries l)
    ∙ ap (λ (o : Option ℕ). known_sum (Some (length left)) o) (length-known entries r)
    ∙ ap (λ (n : ℕ). Some n) (sym (length-append left right))

pub length_of_symbol-Expands : (entries : List (List ℕ)) (s : ℕ) (xs : List ℕ) → Expands entries s xs → length_of_symbol entries s ≡ Some (length xs)
unfolding length_of_symbol
length_of_symbol-Expands entries s xs h = length-known entries h

pub Expands-length_of_symbol : (entries : List (List ℕ)) (s n : ℕ) → length_of_symbol entries s ≡ Some n → (values : List ℕ) × Expands entries s values × (length values ≡ n)
unfolding length_of_symbol
Expands-length_of_symbol entries s n e = are_right entries (length entries) s n e

-- ---- faults

expands_if : (entries : List (List ℕ)) (s : ℕ) (o : Option ℕ) → length_of_symbol entries s ≡ o → is_endless o ≡ false → (values : List ℕ) × Expands entries s values
expands_if entries s None e h = absurd cc
expands_if entries s (Some n) e h = let x = Expands-length_of_symbol entries s n e in (x.0, x.1)

short_if : (entries : List (List ℕ)) (s : ℕ) (o : Option ℕ) (values : List ℕ) → length_of_symbol entries s ≡ o → is_long o ≡ false → Expands entries s values → length values ≤ 256
short_if entries s o values e h x =
    let same : o ≡ Some (length values) = sym e ∙ length_of_symbol-Expands entries s values x in
    let below : nat_lt 256 (length values) ≡ false = ap is_long (sym same) ∙ h in
    ltb-false 256 (length values) below

pub first_cycle-None : (entries : List (List ℕ)) → first_cycle entries ≡ None → (s : ℕ) → HasExpansion entries s
unfolding first_cycle
first_cycle-None entries e s there = expands_if entries s (length_of_symbol entries s) refl (find_none (λ s. is_endless (length_of_symbol entries s)) 0 (length entries) e s (omega arith) (omega arith))

pub first_cycle-Some : (entries : List (List ℕ)) (s : ℕ) → first_cycle entries ≡ Some s → FailsFirst (HasExpansion entries) s
unfolding first_cycle
first_cycle-Some entries s e =
    let f = find_some (λ s. is_endless (length_of_symbol entries s)) 0 (length entries) s e in
    let below : s < 0 + length entries = f.below in
    record {
      before = λ k lt there. expands_if entries k (length_of_symbol entries k) refl (f.before k (omega arith) lt);
      here = λ h. let x = h (omega (arith, below)) in
          let no : false ≡ true = ap is_endless (sym (length_of_symbol-Expands entries s x.0 x.1)) ∙ f.passes in absurd cc;
    }

pub first_long-None : (entries : List (List ℕ)) → first_cycle entries ≡ None → first_long entries ≡ None → IsDictionary entries
unfolding first_long
first_long-None entries ends e s there =
    let x = first_cycle-None entries ends s there in
    (x.0, x.1, short_if entries s (length_of_symbol entries s) x.0 refl (find_none (λ s. is_long (length_of_symbol entries s)) 0 (length entries) e s (omega arith) (omega arith)) x.1)

pub first_long-Some : (entries : List (List ℕ)) (s : ℕ) → first_cycle entries ≡ None → first_long entries ≡ Some s → FailsFirst (HasShortExpansion entries) s
unfolding first_long
first_long-Some entries s ends e =
    let f = find_some (λ s. is_long (length_of_symbol entries s)) 0 (length entries) s e in
    let below : s < 0 + length entries = f.below in
    record {
      before = λ k lt there. let x = first_cycle-None entries ends k there in
          (x.0, x.1, short_if entries k (length_of_symbol entries k) x.0 refl (f.before k (omega arith) lt) x.1);
      here = λ h. let x = h (omega (arith, below)) in
          let long : nat_lt 256 (length x.0) ≡ true = ap is_long (sym (length_of_symbol-Expands entries s x.0 x.1)) ∙ f.passes in
          let more = ltb-true 256 (length x.0) long in
          let few : length x.0 ≤ 256 = x.2 in absurd (omega (arith, more, few));
    }
