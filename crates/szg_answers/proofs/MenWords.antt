-- The words of men, one after another.
use Rattle.std.proofs.Common.{◌≡◌, ℕ, zero, suc, ◌+◌, List, [], ◌∷◌, ◌++◌, flat_map, add-one, refl, ap, arith}
use Rattle.std.proofs.lemmas.List.{flat_map_more}
use Rattle.std.specs.List.{range_with_len}
use Rattle.szg_answers.specs.Men.{squares}

range_more : (a n j : ℕ) → a + n ≡ j → range_with_len a (n + 1) ≡ range_with_len a n ++ j ∷ []
range_more a zero j e = let same : a ≡ j = omega arith in rw (same) refl
range_more a (suc n) j e = rw (add-one (suc n)) (ap (λ (xs : List ℕ). a ∷ xs) (rw (add-one n) at (range_more (a + 1) n j (omega arith))))

-- what a text has goes on by the words of the next number
pub numbers_more : (f : ℕ → List ℕ) (i : ℕ) (before now after : List ℕ) → now ≡ before ++ flat_map f (range_with_len 0 i) → after ≡ now ++ f i →
    after ≡ before ++ flat_map f (range_with_len 0 (i + 1))
numbers_more f i before now after so_far next =
    let a : (before ++ flat_map f (range_with_len 0 i)) ++ f i ≡ before ++ flat_map f (range_with_len 0 i ++ i ∷ []) = flat_map_more f before (range_with_len 0 i) i in
    let b : range_with_len 0 (i + 1) ≡ range_with_len 0 i ++ i ∷ [] = range_more 0 i i (omega arith) in
    cc

pub squares_words : (f : ℕ → List ℕ) (n : ℕ) → n ≡ 64 → flat_map f (range_with_len 0 n) ≡ flat_map f squares
unfolding squares
squares_words f n e = rw (e) refl
