-- The items of byte slices and of lists fit their types.
use Rattle.std.proofs.Common.{ℕ, suc, List, [], ◌∷◌, slice_index_or, Fits, w8, w16}
use Rattle.szg_file.specs.Accepted.{AreNumbers}

pub are_bytes : (xs : List ℕ) → ((k : ℕ) → Fits w8 (slice_index_or xs k 0)) → AreNumbers 1 xs
are_bytes [] h = tt
are_bytes (x ∷ xs) h = ((h 0).fits, are_bytes xs (λ k. h (suc k)))

pub are_words : (xs : List ℕ) → ((k : ℕ) → Fits w16 (slice_index_or xs k 0)) → AreNumbers 2 xs
are_words [] h = tt
are_words (x ∷ xs) h = ((h 0).fits, are_words xs (λ k. h (suc k)))
