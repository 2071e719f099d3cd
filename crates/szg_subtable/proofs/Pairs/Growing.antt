-- A dictionary that grows by an entry: the symbols before keep their values, and a pair has the values of its two
-- symbols.
use Rattle.std.proofs.Common.{ℕ, zero, suc, ◌≡◌, ◌+◌, ◌<◌, ◌≤◌, Bool, true, false, List, [], ◌∷◌, ◌++◌, Some, length, refl, sym, ap, subst, ◌∙◌, arith, inl, inr, length-append}
use Rattle.std.specs.Prelude.{◌⊎◌, ◌==◌, ◌&&◌}
use Rattle.std.specs.List.{slice_get, AllByRecursion}
use Rattle.std.proofs.lemmas.Bool.{cases_order}
use Rattle.std.proofs.lemmas.Option.{slice_get_within}
use Rattle.szg_code.specs.Canonical.{IsIn}
use Rattle.szg_pairs.specs.Entry.{left_of, right_of, is_leaf}
use Rattle.szg_pairs.specs.Expansion.{Expands, leaf, pair, expansion_of}
use Rattle.szg_pairs.specs.Dictionary.{IsDictionary}
use Rattle.szg_pairs.proofs.Accepting.{symbol_of_dictionary}
use Rattle.szg_pairs.proofs.Expanding.{Expands-expansion_of}
use Rattle.szg_subtable.specs.Pairing.{pair_count, replaced, pairs_in, values_of, IsShort, IsInPair, IsUsed}
use Rattle.szg_subtable.proofs.Pairs.PairingLaws.{values-replaced, replaced-keeps, replaced-has}

pub there_more : (entries more : List (List ℕ)) (s : ℕ) (e : List ℕ) → slice_get entries s ≡ Some e → slice_get (entries ++ more) s ≡ Some e
there_more [] more s e h = absurd cc
there_more (x ∷ entries) more zero e h = h
there_more (x ∷ entries) more (suc s) e h = there_more entries more s e h

pub there_last : (entries : List (List ℕ)) (e : List ℕ) → slice_get (entries ++ e ∷ []) (length entries) ≡ Some e
there_last [] e = refl
there_last (x ∷ entries) e = there_last entries e

-- an entry of the longer dictionary is an entry of the shorter one, or the new one
there_before : (entries : List (List ℕ)) (e : List ℕ) (s : ℕ) (f : List ℕ) → s < length entries → slice_get (entries ++ e ∷ []) s ≡ Some f → slice_get entries s ≡ Some f
there_before [] e s f lt h = absurd (omega arith)
there_before (x ∷ entries) e zero f lt h = h
there_before (x ∷ entries) e (suc s) f lt h = there_before entries e s f (omega arith) h

-- ---- expansions

pub Expands-more : (entries more : List (List ℕ)) {s : ℕ} {xs : List ℕ} → Expands entries s xs → Expands (entries ++ more) s xs
Expands-more entries more (leaf {s = s} {entry = e} a p) = leaf (there_more entries more s e a) p
Expands-more entries more (pair {s = s} {entry = e} a p l r) = pair (there_more entries more s e a) p (Expands-more entries more l) (Expands-more entries more r)

pub expansion-more : (entries more : List (List ℕ)) → IsDictionary entries → (s : ℕ) → s < length entries → expansion_of (entries ++ more) s ≡ expansion_of entries s
expansion-more entries more accepted s h =
    let k = symbol_of_dictionary entries accepted s h in
    Expands-expansion_of (entries ++ more) s (expansion_of entries s) (Expands-more entries more k.expands) k.few

pub new_leaf : (entries : List (List ℕ)) (e : List ℕ) → is_leaf e ≡ true → Expands (entries ++ e ∷ []) (length entries) (left_of e ∷ [])
new_leaf entries e p = leaf (there_last entries e) p

-- an entry that is a pair of two symbols of the dictionary
pub record IsNewPair (entries : List (List ℕ)) (e : List ℕ) (left right : ℕ) : Type 0 where
  pub dictionary : IsDictionary entries
  pub no_leaf : is_leaf e ≡ false
  pub left_is : left_of e ≡ left
  pub right_is : right_of e ≡ right
  pub left_there : left < length entries
  pub right_there : right < length entries
  pub short : IsShort entries left right

pub new_pair : (entries : List (List ℕ)) (e : List ℕ) (left right : ℕ) → IsNewPair entries e left right →
    Expands (entries ++ e ∷ []) (length entries) (expansion_of entries left ++ expansion_of entries right)
new_pair entries e left right h =
    let l = (symbol_of_dictionary entries h.dictionary left h.left_there).expands in
    let r = (symbol_of_dictionary entries h.dictionary right h.right_there).expands in
    pair (there_last entries e) h.no_leaf
    (subst (λ s. Expands (entries ++ e ∷ []) s (expansion_of entries left)) (sym h.left_is) (Expands-more entries (e ∷ []) l))
    (subst (λ s. Expands (entries ++ e ∷ []) s (expansion_of entries right)) (sym h.right_is) (Expands-more entries (e ∷ []) r))

new_pair_few : (entries : List (List ℕ)) (e : List ℕ) (left right : ℕ) → IsNewPair entries e left right →
    length (expansion_of entries left ++ expansion_of entries right) ≤ 256
new_pair_few entries e left right h = omega (arith, length-append (expansion_of entries left) (expansion_of entries right), h.short)

pub expansion-new : (entries : List (List ℕ)) (e : List ℕ) (left right : ℕ) → IsNewPair entries e left right →
    expansion_of (entries ++ e ∷ []) (length entries) ≡ expansion_of entries left ++ expansion_of entries right
expansion-new entries e left right h =
    Expands-expansion_of (entries ++ e ∷ []) (length entries) (expansion_of entries left ++ expansion_of entries right) (new_pair entries e left right h) (new_pair_few entries e left right h)

-- ---- the longer dictionary is accepted

grown : (entries : List (List ℕ)) (e : List ℕ) (xs : List ℕ) → IsDictionary entries → Expands (entries ++ e ∷ []) (length entries) xs → length xs ≤ 256 → IsDictionary (entries ++ e ∷ [])
grown entries e xs accepted new few s there =
    elim (cases_order s (length entries)) [
      | inl same ↦ (xs, subst (λ t. Expands (entries ++ e ∷ []) t xs) (sym same) new, few)
      | inr (inl less) ↦ let old = accepted s less in (old.0, Expands-more entries (e ∷ []) old.1, old.2)
      | inr (inr more) ↦ absurd (omega (arith, more, there, length-append entries (e ∷ [])))
    ]

pub leaf_grows : (entries : List (List ℕ)) (e : List ℕ) → IsDictionary entries → is_leaf e ≡ true → IsDictionary (entries ++ e ∷ [])
leaf_grows entries e accepted p = grown entries e (left_of e ∷ []) accepted (new_leaf entries e p) (omega arith)

pub pair_grows : (entries : List (List ℕ)) (e : List ℕ) (left right : ℕ) → IsNewPair entries e left right → IsDictionary (entries ++ e ∷ [])
pair_grows entries e left right h =
    grown entries e (expansion_of entries left ++ expansion_of entries right) h.dictionary (new_pair entries e left right h) (new_pair_few entries e left right h)

-- ---- a round keeps the values

pub values-more : (entries more : List (List ℕ)) → IsDictionary entries → (symbols : List ℕ) → AllByRecursion (λ s. s < length entries) symbols →
    values_of (entries ++ more) symbols ≡ values_of entries symbols
values-more entries more accepted [] below = refl
values-more entries more accepted (s ∷ symbols) below =
    ap (λ (z : List ℕ). z ++ values_of (entries ++ more) symbols) (expansion-more entries more accepted s below.0)
    ∙ ap (λ (z : List ℕ). expansion_of entries s ++ z) (values-more entries more accepted symbols below.1)

pub round_keeps_values : (entries : List (List ℕ)) (e : List ℕ) (left right : ℕ) (symbols : List ℕ) → IsNewPair entries e left right → AllByRecursion (λ s. s < length entries) symbols →
    values_of (entries ++ e ∷ []) (replaced left right (length entries) symbols) ≡ values_of entries symbols
round_keeps_values entries e left right symbols h below =
    let new : expansion_of (entries ++ e ∷ []) (length entries) ≡ expansion_of (entries ++ e ∷ []) left ++ expansion_of (entries ++ e ∷ []) right =
    expansion-new entries e left right h
    ∙ ap (λ (z : List ℕ). z ++ expansion_of entries right) (sym (expansion-more entries (e ∷ []) h.dictionary left h.left_there))
    ∙ ap (λ (z : List ℕ). expansion_of (entries ++ e ∷ []) left ++ z) (sym (expansion-more entries (e ∷ []) h.dictionary right h.right_there)) in
    values-replaced (expansion_of (entries ++ e ∷ [])) left right (length entries) new symbols ∙ values-more entries (e ∷ []) h.dictionary symbols below

-- ---- a round keeps all pairs in use

pair_stays : (entries : List (List ℕ)) (e : List ℕ) (s : ℕ) → IsInPair entries s → IsInPair (entries ++ e ∷ []) s
pair_stays entries e s h = record {
  other = h.other;
  entry = h.entry;
  there = there_more entries (e ∷ []) h.other h.entry h.there;
  pair = h.pair;
  half = h.half;
  another = h.another;
}

in_new_pair : (entries : List (List ℕ)) (e : List ℕ) (left right s : ℕ) → IsNewPair entries e left right → s < length entries → (s ≡ left) ⊎ (s ≡ right) → IsInPair (entries ++ e ∷ []) s
in_new_pair entries e left right s h lt (inl same) = record { other = length entries; entry = e; there = there_last entries e; pair = h.no_leaf; half = inl (h.left_is ∙ sym same); another = λ eq. absurd (omega (arith, eq, lt)) }
in_new_pair entries e left right s h lt (inr same) = record { other = length entries; entry = e; there = there_last entries e; pair = h.no_leaf; half = inr (h.right_is ∙ sym same); another = λ eq. absurd (omega (arith, eq, lt)) }

still_used : (entries : List (List ℕ)) (e : List ℕ) (left right s : ℕ) (symbols : List ℕ) → IsNewPair entries e left right → s < length entries →
    IsIn symbols s ⊎ IsInPair entries s → IsIn (replaced left right (length entries) symbols) s ⊎ IsInPair (entries ++ e ∷ []) s
still_used entries e left right s symbols h lt (inr p) = inr (pair_stays entries e s p)
still_used entries e left right s symbols h lt (inl i) =
    elim (replaced-keeps left right (length entries) s symbols i) [
      | inl stays ↦ inl stays
      | inr half ↦ inr (in_new_pair entries e left right s h lt half)
    ]

pub round_keeps_use : (entries : List (List ℕ)) (e : List ℕ) (left right : ℕ) (symbols : List ℕ) → IsNewPair entries e left right → 0 < pair_count left right symbols →
    IsUsed entries symbols → IsUsed (entries ++ e ∷ []) (replaced left right (length entries) symbols)
round_keeps_use entries e left right symbols h some used s f there paired =
    elim (cases_order s (length entries)) [
      | inl same ↦ inl (subst (λ t. IsIn (replaced left right (length entries) symbols) t) (sym same) (replaced-has left right (length entries) symbols some))
      | inr (inl less) ↦ still_used entries e left right s symbols h less (used s f (there_before entries e s f less there) paired)
      | inr (inr more) ↦ absurd (omega (arith, more, slice_get_within (entries ++ e ∷ []) s f there, length-append entries (e ∷ [])))
    ]

-- ---- a round makes one pair more

by_leaf : (entries : List (List ℕ)) (e x : List ℕ) (b : Bool) → is_leaf x ≡ b → length (pairs_in (entries ++ e ∷ [])) ≡ length (pairs_in entries) + 1 →
    length (pairs_in (x ∷ entries ++ e ∷ [])) ≡ length (pairs_in (x ∷ entries)) + 1
by_leaf entries e x true h i = rw h i
by_leaf entries e x false h i = rw h (omega (arith, i))

filter_more : (entries : List (List ℕ)) (e : List ℕ) → is_leaf e ≡ false → length (pairs_in (entries ++ e ∷ [])) ≡ length (pairs_in entries) + 1
filter_more [] e p = rw p refl
filter_more (x ∷ entries) e p = by_leaf entries e x (is_leaf x) refl (filter_more entries e p)

pub round_makes_one : (entries : List (List ℕ)) (e : List ℕ) (left right : ℕ) → IsNewPair entries e left right → length (pairs_in (entries ++ e ∷ [])) ≡ length (pairs_in entries) + 1
round_makes_one entries e left right h = filter_more entries e h.no_leaf

by_pair : (left right n s t : ℕ) (symbols : List ℕ) (b : Bool) → ((s == left) && (t == right)) ≡ b → s < n + 1 →
    AllByRecursion (λ x. x < n + 1) (replaced left right n symbols) → AllByRecursion (λ x. x < n + 1) (replaced left right n (t ∷ symbols)) →
    AllByRecursion (λ x. x < n + 1) (replaced left right n (s ∷ t ∷ symbols))
by_pair left right n s t symbols true h lt both one = rw (h, replaced) (omega arith, both)
by_pair left right n s t symbols false h lt both one = rw (h, replaced) (lt, one)

-- the symbols after a round are symbols of the longer dictionary
pub round_keeps_names : (left right n : ℕ) (symbols : List ℕ) → AllByRecursion (λ s. s < n) symbols → AllByRecursion (λ s. s < n + 1) (replaced left right n symbols)
round_keeps_names left right n [] below = tt
round_keeps_names left right n (s ∷ []) below = (omega (arith, below.0), tt)
round_keeps_names left right n (s ∷ t ∷ symbols) below =
    by_pair left right n s t symbols ((s == left) && (t == right)) refl (omega (arith, below.0)) (round_keeps_names left right n symbols below.1.1) (round_keeps_names left right n (t ∷ symbols) below.1)
