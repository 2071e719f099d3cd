-- Binomials: which are positive, their bounds, and the table.
use Rattle.std.proofs.Common.{◌≡◌, ℕ, zero, suc, ◌+◌, ◌-◌, ◌*◌, ◌<◌, ◌≤◌, inl, inr, Bool, true, map, length, refl, ap, ◌∙◌, arith}
use Rattle.std.specs.Prelude.{sum, ◌==◌, slice_index}
use Rattle.std.specs.List.{list_all, range_with_len}
use Rattle.std.proofs.lemmas.Bool.{cases_eq, eqb-true, and_parts}
use Rattle.szg_count.specs.Sets.{choose}
use Rattle.szg_count.specs.Leads.{pawn_order, after, lead_pawn_sets}
use Rattle.szg_count.specs.declared.ways.TheConstants.{BINOMIALS}
use Rattle.szg_count.proofs.Counting.{choose-zero, choose-none, choose-suc, lead_pawn_count}
use Rattle.szg_count.proofs.Sizes.{power, power-more, choose-power}

pub choose-positive : (n k : ℕ) → k ≤ n → 0 < choose n k
choose-positive n zero h = rw (choose-zero n) (omega arith)
choose-positive zero (suc k) h = absurd (omega arith)
choose-positive (suc n) (suc k) h = rw (choose-suc n k) (let p = choose-positive n k (omega arith) in omega (arith, p))

pub choose_small : (m i j : ℕ) → m ≤ 64 → i ≤ j → choose m i ≤ power j
choose_small m i j h k = let a = choose-power m i h in let b = power-more i j k in omega (arith, a, b)

-- if `list_all` says that all of `n` numbers from `a` on pass a test, each of them passes it
pub tested : (test : ℕ → Bool) (a n x : ℕ) → list_all test (range_with_len a n) ≡ true → a ≤ x → x < a + n → test x ≡ true
tested test a zero x e h k = absurd (omega arith)
tested test a (suc n) x e h k = elim (cases_eq x a) [
  | inl f ↦ ap test f ∙ (and_parts (test a) (list_all test (range_with_len (a + 1) n)) e).0
  | inr m ↦ tested test (a + 1) n x (and_parts (test a) (list_all test (range_with_len (a + 1) n)) e).1 (omega (arith, m)) (omega arith)
]

abbrev pub entry : ℕ → ℕ → ℕ
entry k n = slice_index BINOMIALS (8 * n + k)

abbrev is_one : ℕ → Bool
is_one n = entry 0 n == 1

abbrev is_none : ℕ → Bool
is_none k = entry (suc k) 0 == 0

abbrev is_sum : ℕ → ℕ → Bool
is_sum k n = entry (suc k) (suc n) == (entry (suc k) n + entry k n)

one_test : list_all is_one (range_with_len 0 65) ≡ true
one_test = refl

none_test : list_all is_none (range_with_len 0 6) ≡ true
none_test = refl

sum_test : list_all (λ k. list_all (is_sum k) (range_with_len 0 64)) (range_with_len 0 6) ≡ true
sum_test = refl

-- the table has the binomials: its first row has ones, its first column zeros, and each other entry is the sum of two
pub choose-entry : (k n : ℕ) → k < 7 → n < 65 → entry k n ≡ choose n k
choose-entry zero n h l = let a = eqb-true (entry 0 n) 1 (tested is_one 0 65 n one_test (omega arith) (omega (arith, l))) in let b = choose-zero n in omega (arith, a, b)
choose-entry (suc k) zero h l =
    let a = eqb-true (entry (suc k) 0) 0 (tested is_none 0 6 k none_test (omega arith) (omega (arith, h))) in let b = choose-none k in omega (arith, a, b)
choose-entry (suc k) (suc n) h l =
    let row = tested (λ k. list_all (is_sum k) (range_with_len 0 64)) 0 6 k sum_test (omega arith) (omega (arith, h)) in
    let a = eqb-true (entry (suc k) (suc n)) (entry (suc k) n + entry k n) (tested (is_sum k) 0 64 n row (omega arith) (omega (arith, l))) in
    let b = choose-entry (suc k) n h (omega (arith, l)) in let d = choose-entry k n (omega (arith, h)) (omega (arith, l)) in
    let e = choose-suc n k in omega (arith, a, b, d, e)

-- the ways of square i of a lead pawn
abbrev pub pawn_ways : ℕ → ℕ → ℕ → ℕ
pawn_ways pawns file i = choose (47 - 12 * file - 2 * i) (pawns - 1)

-- the squares of a file have 47 squares after them, less 12 for each file and less 2 for each rank
pub lead_pawn_sum : (pawns file : ℕ) → file < 4 → length (lead_pawn_sets pawns file) ≡ sum (map (pawn_ways pawns file) (range_with_len 0 6))
unfolding pawn_order after
lead_pawn_sum pawns zero h = lead_pawn_count pawns 0
lead_pawn_sum pawns (suc zero) h = lead_pawn_count pawns 1
lead_pawn_sum pawns (suc (suc zero)) h = lead_pawn_count pawns 2
lead_pawn_sum pawns (suc (suc (suc zero))) h = lead_pawn_count pawns 3
lead_pawn_sum pawns (suc (suc (suc (suc file)))) h = absurd (omega arith)
