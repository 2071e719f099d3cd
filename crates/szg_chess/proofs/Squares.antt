-- The list of all squares.
use Rattle.std.proofs.Common.{◌≡◌, ℕ, ◌+◌, ◌<◌, ◌≤◌, List, length, zero, suc, refl, sym, ap, ◌∙◌, Bool, true, arith, zero-add}
use Rattle.std.specs.Prelude.{filter, flat_map}
use Rattle.std.specs.List.{range_with_len, list_all}
use Rattle.std.proofs.lemmas.Bool.{and_parts}
use Rattle.szg_chess.specs.Moves.{all_squares}
use Rattle.szg_chess.proofs.Pushing.{pieces_room}

pub all_is : (n : ℕ) → n ≡ 64 → all_squares ≡ range_with_len 0 n
unfolding all_squares
all_is n e = ap (range_with_len 0) (sym e)

room_at : {A : Type 0} (legal : A → Bool) (f : ℕ → List A) (n i : ℕ) → n ≡ 64 → i < n →
    length (filter legal (flat_map f (range_with_len 0 i))) + length (f i) ≤ length (flat_map f all_squares)
room_at legal f n i e h = let same = ap (λ (ys : List ℕ). length (flat_map f ys)) (all_is n e) in let more = pieces_room legal f n i h in omega (arith, same, more)

pub squares_room : {A : Type 0} (legal : A → Bool) (f : ℕ → List A) (i : ℕ) → i < 64 →
    length (filter legal (flat_map f (range_with_len 0 i))) + length (f i) ≤ length (flat_map f all_squares)
squares_room legal f i h = room_at legal f 64 i refl h

range_all : (test : ℕ → Bool) (a n : ℕ) → list_all test (range_with_len a n) ≡ true → (i : ℕ) → i < n → test (a + i) ≡ true
range_all test a zero e i h = absurd (omega arith)
range_all test a (suc n) e zero h = let z : a + 0 ≡ a = omega arith in ap test z ∙ (and_parts (test a) (list_all test (range_with_len (a + 1) n)) e).0
range_all test a (suc n) e (suc i) h =
    let z : a + suc i ≡ (a + 1) + i = omega arith in
    ap test z ∙ range_all test (a + 1) n (and_parts (test a) (list_all test (range_with_len (a + 1) n)) e).1 i (omega arith)

all_at : (test : ℕ → Bool) (n : ℕ) → n ≡ 64 → list_all test all_squares ≡ true → (i : ℕ) → i < n → test i ≡ true
all_at test n e all i h = ap test (sym (zero-add i)) ∙ range_all test 0 n (ap (list_all test) (sym (all_is n e)) ∙ all) i h

-- what a test computes at all squares holds at each
pub at_square : (test : ℕ → Bool) → list_all test all_squares ≡ true → (i : ℕ) → i < 64 → test i ≡ true
at_square test all i h = all_at test 64 refl all i h
