-- A round: making a pair keeps the values; if no pair is left, the dictionary is finished.
use Rattle.std.proofs.Common.{ℕ, ◌≡◌, ◌+◌, ◌<◌, ◌≤◌, Bool, true, false, List, [], ◌∷◌, ◌++◌, length, get_or, refl, sym, ap, subst, ◌∙◌, arith, inl, inr, length-append}
use Rattle.std.specs.Prelude.{◌==◌, ◌&&◌}
use Rattle.std.specs.List.{AllByRecursion}
use Rattle.std.proofs.lemmas.Bool.{cases_lt, cases_order, eq-eqb, eqb-true}
use Rattle.szg_pairs.specs.Expansion.{expansion_of}
use Rattle.szg_subtable.specs.Pairing.{pair_count, replaced, IsExhausted}
use Rattle.szg_subtable.specs.Building.{entry_of, AreLens, IsCandidate, IsRound, IsPairing}
use Rattle.szg_subtable.proofs.Pairs.Tests.{bool_cases}
use Rattle.szg_subtable.proofs.Pairs.PairingLaws.{pair_count-later}
use Rattle.szg_subtable.proofs.Pairs.Triples.{entry-left, entry-right, entry-pair}
use Rattle.szg_subtable.proofs.Pairs.LeafLaws.{get_or-last, get_or-front}
use Rattle.szg_subtable.proofs.Pairs.Growing.{IsNewPair, pair_grows, expansion-more, expansion-new, round_keeps_values, round_keeps_use, round_makes_one, round_keeps_names}

-- ---- pairs that occur

both : (left right s t : ℕ) → s ≡ left → t ≡ right → ((s == left) && (t == right)) ≡ true
both left right s t p q = rw (eq-eqb s left p, eq-eqb t right q) refl

is_left : (left right s t : ℕ) (n : ℕ) → ((s == left) && (t == right)) ≡ true → s < n → t < n → (left < n) × (right < n)
is_left left right s t n h a b =
    let l : s ≡ left = eqb-true s left (first (s == left) (t == right) h) in
    let r : t ≡ right = eqb-true t right (second (s == left) (t == right) h) in
    (omega (arith, l, a), omega (arith, r, b))
  where
    first : (x y : Bool) → (x && y) ≡ true → x ≡ true
    first true y e = refl
    first false y e = e

    second : (x y : Bool) → (x && y) ≡ true → y ≡ true
    second true y e = e
    second false y e = absurd cc

-- the symbols of a pair that occurs are symbols of the dictionary
pub counts_there : (left right n : ℕ) (symbols : List ℕ) → AllByRecursion (λ s. s < n) symbols → 0 < pair_count left right symbols → (left < n) × (right < n)
counts_there left right n [] below h = absurd (omega (arith, h))
counts_there left right n (s ∷ []) below h = absurd (omega (arith, h))
counts_there left right n (s ∷ t ∷ symbols) below h =
    elim (bool_cases ((s == left) && (t == right))) [
      | inl e ↦ is_left left right s t n e below.0 below.1.0
      | inr e ↦
          let later : pair_count left right (s ∷ t ∷ symbols) ≡ pair_count left right (t ∷ symbols) = pair_count-later left right s t symbols e in
          counts_there left right n (t ∷ symbols) below.1 (omega (arith, later, h))
    ]

-- ---- one pair more

made : (values : List ℕ) (entries : List (List ℕ)) (lens symbols : List ℕ) (left right done : ℕ) → AreLens entries lens → IsRound values done entries symbols →
    IsCandidate lens symbols left right → length entries < 4095 → IsNewPair entries (entry_of left right) left right
made values entries lens symbols left right done are round candidate few =
    let l : left < length entries = omega (arith, candidate.left_there, are.count) in
    let r : right < length entries = omega (arith, candidate.right_there, are.count) in
    record {
      dictionary = round.dictionary;
      no_leaf = entry-pair left right (omega (arith, l, few)) (omega (arith, r, few));
      left_is = entry-left left right (omega (arith, l, few));
      right_is = entry-right left right (omega (arith, r, few));
      left_there = l;
      right_there = r;
      short = omega (arith, candidate.short, are.each left l, are.each right r);
    }

pub round_more : (values : List ℕ) (entries : List (List ℕ)) (lens symbols : List ℕ) (left right done : ℕ) → AreLens entries lens → IsRound values done entries symbols →
    IsCandidate lens symbols left right → length entries < 4095 → IsRound values (done + 1) (entries ++ entry_of left right ∷ []) (replaced left right (length entries) symbols)
round_more values entries lens symbols left right done are round candidate few =
    let e : List ℕ = entry_of left right in
    let new = made values entries lens symbols left right done are round candidate few in
    let long : length (entries ++ e ∷ []) ≡ length entries + 1 = length-append entries (e ∷ []) in
    record {
      dictionary = pair_grows entries e left right new;
      few = omega (arith, long, few);
      below = subst (λ (k : ℕ). AllByRecursion (λ s. s < k) (replaced left right (length entries) symbols)) (sym long) (round_keeps_names left right (length entries) symbols round.below);
      same = round_keeps_values entries e left right symbols new round.below ∙ round.same;
      used = round_keeps_use entries e left right symbols new candidate.some round.used;
      pairs = round_makes_one entries e left right new ∙ ap (λ (k : ℕ). k + 1) round.pairs;
      leaves = omega (arith, long, round.leaves);
    }

pub lens_more : (values : List ℕ) (entries : List (List ℕ)) (lens symbols : List ℕ) (left right done n : ℕ) → AreLens entries lens → IsRound values done entries symbols →
    IsCandidate lens symbols left right → length entries < 4095 → n ≡ get_or lens left 0 + get_or lens right 0 → AreLens (entries ++ entry_of left right ∷ []) (lens ++ n ∷ [])
lens_more values entries lens symbols left right done n are round candidate few is =
    let e : List ℕ = entry_of left right in
    let new = made values entries lens symbols left right done are round candidate few in
    let long : length (entries ++ e ∷ []) ≡ length entries + 1 = length-append entries (e ∷ []) in
    record {
      count = let more : length (lens ++ n ∷ []) ≡ length lens + 1 = length-append lens (n ∷ []) in omega (arith, long, more, are.count);
      each = λ s there.
          elim (cases_order s (length entries)) [
            | inl same ↦
                let at : s ≡ length lens = omega (arith, same, are.count) in
                let is_valid : length (expansion_of (entries ++ e ∷ []) (length entries)) ≡ length (expansion_of entries left) + length (expansion_of entries right) =
                ap length (expansion-new entries e left right new) ∙ length-append (expansion_of entries left) (expansion_of entries right) in
                let stated : get_or (lens ++ n ∷ []) s 0 ≡ n = ap (λ (k : ℕ). get_or (lens ++ n ∷ []) k 0) at ∙ get_or-last lens n in
                let here : length (expansion_of (entries ++ e ∷ []) s) ≡ length (expansion_of (entries ++ e ∷ []) (length entries)) = ap (λ (k : ℕ). length (expansion_of (entries ++ e ∷ []) k)) same in
                omega (arith, stated, is, here, is_valid, are.each left new.left_there, are.each right new.right_there)
            | inr (inl less) ↦
                get_or-front lens n s (omega (arith, less, are.count)) ∙ are.each s less ∙ sym (ap length (expansion-more entries (e ∷ []) round.dictionary s less))
            | inr (inr more) ↦ absurd (omega (arith, more, there, long))
          ];
    }

-- ---- the last round

pub paired_all : (values : List ℕ) (entries : List (List ℕ)) (symbols : List ℕ) (done rounds : ℕ) → IsRound values done entries symbols → done ≡ rounds → IsPairing values rounds entries symbols
paired_all values entries symbols done rounds round e = record { done = done; round = round; finished = inl (round.pairs ∙ e) }

pub paired_full : (values : List ℕ) (entries : List (List ℕ)) (symbols : List ℕ) (done rounds : ℕ) → IsRound values done entries symbols → done < rounds → length entries ≡ 4095 → IsPairing values rounds entries symbols
paired_full values entries symbols done rounds round less full = record { done = done; round = round; finished = inr (omega (arith, round.pairs, less), inl full) }

pub exhausted : (entries : List (List ℕ)) (lens symbols : List ℕ) → AreLens entries lens → AllByRecursion (λ s. s < length entries) symbols →
    ((l r : ℕ) → l < length lens → r < length lens → get_or lens l 0 + get_or lens r 0 ≤ 256 → pair_count l r symbols < 4) → IsExhausted entries symbols
exhausted entries lens symbols are below none l r short =
    elim (cases_lt 0 (pair_count l r symbols)) [
      | inl some ↦
          let there = counts_there l r (length entries) symbols below some in
          none l r (omega (arith, there.0, are.count)) (omega (arith, there.1, are.count)) (omega (arith, short, are.each l there.0, are.each r there.1))
      | inr none_there ↦ omega (arith, none_there)
    ]

pub paired_exhausted : (values : List ℕ) (entries : List (List ℕ)) (lens symbols : List ℕ) (done rounds : ℕ) → IsRound values done entries symbols → AreLens entries lens → done < rounds →
    ((l r : ℕ) → l < length lens → r < length lens → get_or lens l 0 + get_or lens r 0 ≤ 256 → pair_count l r symbols < 4) → IsPairing values rounds entries symbols
paired_exhausted values entries lens symbols done rounds round are less none = record {
  done = done;
  round = round;
  finished = inr (omega (arith, round.pairs, less), inr (exhausted entries lens symbols are round.below none));
}

-- the symbols are below the number of lengths
pub lens_below : (entries : List (List ℕ)) (lens symbols : List ℕ) → AreLens entries lens → AllByRecursion (λ s. s < length entries) symbols → AllByRecursion (λ s. s < length lens) symbols
lens_below entries lens symbols are below = subst (λ (k : ℕ). AllByRecursion (λ s. s < k) symbols) (sym are.count) below
