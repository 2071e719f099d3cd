-- Laws of the block lengths that are kept.
use Rattle.std.proofs.Common.{ℕ, zero, suc, Bool, true, false, ◌≡◌, ◌+◌, ◌-◌, ◌<◌, ◌≤◌, inl, inr, min, List, [], ◌∷◌, ◌++◌, length, map, refl, ap, sym, ◌∙◌, arith, nat_lt}
use Rattle.std.specs.Prelude.{◌⊎◌, if◌then◌else◌}
use Rattle.std.specs.List.{sum_by, slice_index}
use Rattle.std.proofs.Math.Seq.{take-length}
use Rattle.std.proofs.lemmas.List.{length_push, take-append-le, take_all}
use Rattle.std.proofs.lemmas.Bool.{lt-ltb, le-ltb, cases_lt}
use Rattle.std.proofs.lemmas.List.Sums.{sum_by-cons, sum_by_push}
use Rattle.szg_block.specs.Block.{start, needed}
use Rattle.szg_block.specs.Kept.{kept_lengths}
use Rattle.szg_block.specs.Steps.{Location, location_in, location_of}
use Rattle.szg_block.proofs.Values.{start-zero, start-cons}

-- ---- the first length

pub kept-more : (size n : ℕ) (lengths : List ℕ) → 0 < size → kept_lengths size (n ∷ lengths) ≡ n ∷ kept_lengths (size - (n + 1)) lengths
unfolding kept_lengths
kept-more size n lengths h = ap (λ (b : Bool). if b then (n ∷ kept_lengths (size - (n + 1)) lengths) else []) (lt-ltb 0 size h)

pub kept-done : (size : ℕ) (lengths : List ℕ) → size ≤ 0 → kept_lengths size lengths ≡ []
unfolding kept_lengths
kept-done size [] h = refl
kept-done size (n ∷ lengths) h = ap (λ (b : Bool). if b then (n ∷ kept_lengths (size - (n + 1)) lengths) else []) (le-ltb 0 size h)

pub kept-none : (size : ℕ) → kept_lengths size [] ≡ []
unfolding kept_lengths
kept-none size = refl

-- ---- they are a prefix, and they suffice

-- no block begins after the end of the lengths
pub start-end : (lengths : List ℕ) (j : ℕ) → length lengths ≤ j → start lengths j ≡ start lengths (length lengths)
unfolding start
start-end lengths j past = ap (λ (l : List ℕ). sum_by (λ n. n + 1) l) (take_all j lengths past ∙ sym (take-length lengths))

start-empty : (j : ℕ) → start [] j ≡ 0
unfolding start
start-empty zero = refl
start-empty (suc j) = refl

pub kept_start : (size : ℕ) (lengths : List ℕ) (j : ℕ) → j ≤ length (kept_lengths size lengths) → start (kept_lengths size lengths) j ≡ start lengths j
kept_start size lengths zero h = start-zero (kept_lengths size lengths) ∙ sym (start-zero lengths)
kept_start size [] (suc j) h = ap (λ (l : List ℕ). start l (suc j)) (kept-none size)
kept_start size (n ∷ lengths) (suc j) h =
    elim (cases_lt 0 size) [
      | inl some ↦
          let e = kept-more size n lengths some in
          let h' = rw e at h in
          ap (λ (l : List ℕ). start l (suc j)) e
          ∙ start-cons n (kept_lengths (size - (n + 1)) lengths) j
          ∙ ap (λ (k : ℕ). n + 1 + k) (kept_start (size - (n + 1)) lengths j (omega (arith, h')))
          ∙ sym (start-cons n lengths j)
      | inr none ↦ let h' = rw (kept-done size (n ∷ lengths) none) at h in absurd (omega (arith, h'))
    ]

pub kept_enough : (size : ℕ) (lengths : List ℕ) → (kept_lengths size lengths ≡ lengths) ⊎ (size ≤ start (kept_lengths size lengths) (length (kept_lengths size lengths)))
kept_enough size [] = inl (kept-none size)
kept_enough size (n ∷ lengths) =
    elim (cases_lt 0 size) [
      | inl some ↦
          let e = kept-more size n lengths some in
          elim (kept_enough (size - (n + 1)) lengths) [
            | inl whole ↦ inl (e ∙ ap (λ (l : List ℕ). n ∷ l) whole)
            | inr enough ↦
                let c = start-cons n (kept_lengths (size - (n + 1)) lengths) (length (kept_lengths (size - (n + 1)) lengths)) in
                inr (rw e (omega (arith, c, enough)))
          ]
      | inr none ↦ inr (omega arith)
    ]

pub kept_shorter : (size : ℕ) (lengths : List ℕ) → length (kept_lengths size lengths) ≤ length lengths
kept_shorter size [] = rw (kept-none size) (omega arith)
kept_shorter size (n ∷ lengths) =
    elim (cases_lt 0 size) [
      | inl some ↦ rw (kept-more size n lengths some) (omega (arith, kept_shorter (size - (n + 1)) lengths))
      | inr none ↦ rw (kept-done size (n ∷ lengths) none) (omega arith)
    ]

-- no more are kept than values
pub kept_few : (size : ℕ) (lengths : List ℕ) → length (kept_lengths size lengths) ≤ size
kept_few size [] = rw (kept-none size) (omega arith)
kept_few size (n ∷ lengths) =
    elim (cases_lt 0 size) [
      | inl some ↦ rw (kept-more size n lengths some) (omega (arith, kept_few (size - (n + 1)) lengths))
      | inr none ↦ rw (kept-done size (n ∷ lengths) none) (omega arith)
    ]

-- a block after the kept ones begins at the size or later
pub kept_past : (size : ℕ) (lengths : List ℕ) → length (kept_lengths size lengths) < length lengths → size ≤ start lengths (length (kept_lengths size lengths))
kept_past size lengths h =
    elim (kept_enough size lengths) [
      | inl whole ↦ let same = ap (λ (l : List ℕ). length l) whole in absurd (omega (arith, h, same))
      | inr enough ↦ omega (arith, enough, kept_start size lengths (length (kept_lengths size lengths)) (omega arith))
    ]

-- ---- the total

pub kept_total : (size : ℕ) (lengths : List ℕ) (blocks : ℕ) → size ≤ start lengths blocks → size ≤ start (kept_lengths size lengths) blocks
kept_total size lengths zero h = omega (arith, h, start-zero lengths)
kept_total size [] (suc blocks) h = rw (kept-none size) h
kept_total size (n ∷ lengths) (suc blocks) h =
    elim (cases_lt 0 size) [
      | inl some ↦
          let c = start-cons n lengths blocks in
          let k = start-cons n (kept_lengths (size - (n + 1)) lengths) blocks in
          rw (kept-more size n lengths some) (omega (arith, k, kept_total (size - (n + 1)) lengths blocks (omega (arith, h, c))))
      | inr none ↦ omega arith
    ]

pub kept_below : (size : ℕ) (lengths : List ℕ) (blocks : ℕ) → start (kept_lengths size lengths) blocks ≤ start lengths blocks
kept_below size lengths zero = omega (arith, start-zero (kept_lengths size lengths))
kept_below size [] (suc blocks) = rw (kept-none size) (omega arith)
kept_below size (n ∷ lengths) (suc blocks) =
    elim (cases_lt 0 size) [
      | inl some ↦
          let c = start-cons n lengths blocks in
          let k = start-cons n (kept_lengths (size - (n + 1)) lengths) blocks in
          rw (kept-more size n lengths some) (omega (arith, k, c, kept_below (size - (n + 1)) lengths blocks))
      | inr none ↦ rw (kept-done size (n ∷ lengths) none) (omega (arith, start-empty (suc blocks)))
    ]

-- ---- what a block needs

needed-zero : (size n : ℕ) (lengths : List ℕ) → needed (n ∷ lengths) size 0 ≡ min (n + 1) size
unfolding needed
needed-zero size n lengths = ap (λ (k : ℕ). min (n + 1) (size - k)) (start-zero (n ∷ lengths)) ∙ (omega arith)

needed-cons : (size n : ℕ) (lengths : List ℕ) (j : ℕ) → needed (n ∷ lengths) size (suc j) ≡ needed lengths (size - (n + 1)) j
unfolding needed
needed-cons size n lengths j =
    let e : size - start (n ∷ lengths) (suc j) ≡ size - (n + 1) - start lengths j = omega (arith, start-cons n lengths j) in
    ap (λ (k : ℕ). min (slice_index lengths j + 1) k) e

needed-past : (size : ℕ) (lengths : List ℕ) (j : ℕ) → size ≤ 0 → needed lengths size j ≡ 0
unfolding needed
needed-past size lengths j h = omega arith

pub kept_needed : (size : ℕ) (lengths : List ℕ) (j : ℕ) → needed (kept_lengths size lengths) size j ≡ needed lengths size j
kept_needed size [] j = ap (λ (l : List ℕ). needed l size j) (kept-none size)
kept_needed size (n ∷ lengths) zero =
    elim (cases_lt 0 size) [
      | inl some ↦
          ap (λ (l : List ℕ). needed l size 0) (kept-more size n lengths some)
          ∙ needed-zero size n (kept_lengths (size - (n + 1)) lengths) ∙ sym (needed-zero size n lengths)
      | inr none ↦ needed-past size (kept_lengths size (n ∷ lengths)) 0 none ∙ sym (needed-past size (n ∷ lengths) 0 none)
    ]
kept_needed size (n ∷ lengths) (suc j) =
    elim (cases_lt 0 size) [
      | inl some ↦
          ap (λ (l : List ℕ). needed l size (suc j)) (kept-more size n lengths some)
          ∙ needed-cons size n (kept_lengths (size - (n + 1)) lengths) j
          ∙ kept_needed (size - (n + 1)) lengths j
          ∙ sym (needed-cons size n lengths j)
      | inr none ↦ needed-past size (kept_lengths size (n ∷ lengths)) (suc j) none ∙ sym (needed-past size (n ∷ lengths) (suc j) none)
    ]

-- ---- where a value is

abbrev values_of : List ℕ → List ℕ
values_of lengths = map (λ n. n + 1) lengths

location-first : (i n : ℕ) (lengths : List ℕ) → i < n → location_of (n ∷ lengths) i ≡ record { list = 0; item = i }
unfolding location_of
location-first i n lengths h = ap (λ (b : Bool). location_in b i (location_of lengths (i - n))) (lt-ltb i n h)

location-later : (i n : ℕ) (lengths : List ℕ) → n ≤ i → location_of (n ∷ lengths) i ≡ location_in false i (location_of lengths (i - n))
unfolding location_of
location-later i n lengths h = ap (λ (b : Bool). location_in b i (location_of lengths (i - n))) (le-ltb i n h)

pub kept_location : (size : ℕ) (lengths : List ℕ) (i : ℕ) → i < size → location_of (values_of (kept_lengths size lengths)) i ≡ location_of (values_of lengths) i
kept_location size [] i h = ap (λ (l : List ℕ). location_of (values_of l) i) (kept-none size)
kept_location size (n ∷ lengths) i h =
    ap (λ (l : List ℕ). location_of (values_of l) i) (kept-more size n lengths (omega arith))
    ∙ elim (cases_lt i (n + 1)) [
      | inl first ↦ location-first i (n + 1) (values_of (kept_lengths (size - (n + 1)) lengths)) first ∙ sym (location-first i (n + 1) (values_of lengths) first)
      | inr later ↦
          location-later i (n + 1) (values_of (kept_lengths (size - (n + 1)) lengths)) later
          ∙ ap (λ (at : Location). location_in false i at) (kept_location (size - (n + 1)) lengths (i - (n + 1)) (omega arith))
          ∙ sym (location-later i (n + 1) (values_of lengths) later)
    ]

-- ---- one more length

less_left : (a b size : ℕ) → nat_lt (a + b) size ≡ nat_lt b (size - a)
less_left a b size =
    elim (cases_lt (a + b) size) [
      | inl less ↦ lt-ltb (a + b) size less ∙ sym (lt-ltb b (size - a) (omega arith))
      | inr more ↦ le-ltb (a + b) size more ∙ sym (le-ltb b (size - a) (omega arith))
    ]

-- the lengths after one more, of which a test says whether it is kept
abbrev pub pushed_if : Bool → List ℕ → ℕ → List ℕ
pushed_if true kept n = kept ++ n ∷ []
pushed_if false kept n = kept

pushed-cons : (b : Bool) (m : ℕ) (kept : List ℕ) (n : ℕ) → m ∷ pushed_if b kept n ≡ pushed_if b (m ∷ kept) n
pushed-cons true m kept n = refl
pushed-cons false m kept n = refl

pub kept_push : (size : ℕ) (lengths : List ℕ) (n : ℕ) → kept_lengths size (lengths ++ n ∷ []) ≡ pushed_if (nat_lt (sum_by (λ n. n + 1) (kept_lengths size lengths)) size) (kept_lengths size lengths) n
kept_push size [] n =
    elim (cases_lt 0 size) [
      | inl some ↦ kept-more size n [] some ∙ ap (λ (l : List ℕ). n ∷ l) (kept-none (size - (n + 1)))
          ∙ ap (λ (b : Bool). pushed_if b [] n) (sym (lt-ltb 0 size some))
          ∙ ap (λ (l : List ℕ). pushed_if (nat_lt (sum_by (λ n. n + 1) l) size) l n) (sym (kept-none size))
      | inr none ↦ kept-done size (n ∷ []) none
          ∙ ap (λ (b : Bool). pushed_if b [] n) (sym (le-ltb 0 size none))
          ∙ ap (λ (l : List ℕ). pushed_if (nat_lt (sum_by (λ n. n + 1) l) size) l n) (sym (kept-none size))
    ]
kept_push size (m ∷ lengths) n =
    elim (cases_lt 0 size) [
      | inl some ↦
          let kept : List ℕ = kept_lengths (size - (m + 1)) lengths in
          let s : sum_by (λ n. n + 1) (m ∷ kept) ≡ m + 1 + sum_by (λ n. n + 1) kept = sum_by-cons (λ n. n + 1) m kept in
          kept-more size m (lengths ++ n ∷ []) some
          ∙ ap (λ (l : List ℕ). m ∷ l) (kept_push (size - (m + 1)) lengths n)
          ∙ pushed-cons (nat_lt (sum_by (λ n. n + 1) kept) (size - (m + 1))) m kept n
          ∙ ap (λ (b : Bool). pushed_if b (m ∷ kept) n) (sym (ap (λ (k : ℕ). nat_lt k size) s ∙ less_left (m + 1) (sum_by (λ n. n + 1) kept) size))
          ∙ ap (λ (l : List ℕ). pushed_if (nat_lt (sum_by (λ n. n + 1) l) size) l n) (sym (kept-more size m lengths some))
      | inr none ↦
          kept-done size (m ∷ lengths ++ n ∷ []) none
          ∙ ap (λ (b : Bool). pushed_if b [] n) (sym (le-ltb 0 size none))
          ∙ ap (λ (l : List ℕ). pushed_if (nat_lt (sum_by (λ n. n + 1) l) size) l n) (sym (kept-done size (m ∷ lengths) none))
    ]

pub start-pushed : (lengths : List ℕ) (n last : ℕ) → length lengths < last → start (lengths ++ n ∷ []) last ≡ start lengths last + (n + 1)
unfolding start
start-pushed lengths n last past =
    let f : ℕ → ℕ = λ k. k + 1 in
    let more : length (lengths ++ n ∷ []) ≡ length lengths + 1 = length_push lengths n in
    ap (λ (l : List ℕ). sum_by f l) (take_all last (lengths ++ n ∷ []) (omega (arith, past, more)))
    ∙ sum_by_push f lengths n
    ∙ ap (λ (l : List ℕ). sum_by f l + (n + 1)) (sym (take_all last lengths (omega (arith, past))))

pub start-kept : (lengths : List ℕ) (n last : ℕ) → last ≤ length lengths → start (lengths ++ n ∷ []) last ≡ start lengths last
unfolding start
start-kept lengths n last within = ap (λ (l : List ℕ). sum_by (λ k. k + 1) l) (take-append-le last lengths (n ∷ []) within)
