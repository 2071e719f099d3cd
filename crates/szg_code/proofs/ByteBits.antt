-- The bits of bytes: their number, the offset of a byte's bits, and what one more bit adds to a number.
use Rattle.std.proofs.Common.{ℕ, zero, suc, ◌≡◌, ◌+◌, ◌-◌, ◌*◌, ◌/◌, ◌%◌, ◌^◌, ◌≤◌, inl, inr, List, [], ◌∷◌, ◌++◌, length, take, drop, refl, ap, sym, ◌∙◌, arith, length-append, length-drop}
use Rattle.std.proofs.lemmas.List.{append_assoc, take-append-drop, take_all, take_at, length-take-le, drop_all, drop_at, drop-drop}
use Rattle.szg_code.specs.Bits.{bits, bits_of_number}
use Rattle.std.proofs.lemmas.Bool.{cases_lt}
use Rattle.std.specs.Int.{byte_at, bytes_high_first}
use Rattle.byteorder.proofs.Bytes.{pow256}
use Rattle.szg_code.proofs.Numbers.{length-bits_of_number, bits_of_number-mod, bits_of_number-split}

pub bits-cons : (b : ℕ) (bytes : List ℕ) → bits (b ∷ bytes) ≡ bits_of_number 8 b ++ bits bytes
unfolding bits
bits-cons b bytes = refl

pub bits-nil : bits [] ≡ []
unfolding bits
bits-nil = refl

pub length-bits : (bytes : List ℕ) → length (bits bytes) ≡ 8 * length bytes
length-bits [] = rw bits-nil refl
length-bits (b ∷ bytes) =
    let h : length (bits bytes) ≡ 8 * length bytes = length-bits bytes in
    let e : length (bits (b ∷ bytes)) ≡ length (bits_of_number 8 b) + length (bits bytes) = ap (λ u. length u) (bits-cons b bytes) ∙ length-append (bits_of_number 8 b) (bits bytes) in
    let n : length (bits_of_number 8 b) ≡ 8 = length-bits_of_number 8 b in
    omega arith

-- dropping whole bytes drops their bits
pub drop-bits : (i : ℕ) (bytes : List ℕ) → drop (8 * i) (bits bytes) ≡ bits (drop i bytes)
drop-bits zero bytes = refl
drop-bits (suc i) [] = rw bits-nil (drop_all (8 * suc i) [] (omega arith))
drop-bits (suc i) (b ∷ bytes) =
    let e : 8 * suc i ≡ 8 + 8 * i = omega arith in
    let d : drop 8 (bits_of_number 8 b ++ bits bytes) ≡ bits bytes = drop_at (bits_of_number 8 b) (bits bytes) 8 (length-bits_of_number 8 b) in
    ap (λ u. drop (8 * suc i) u) (bits-cons b bytes) ∙ ap (λ (n : ℕ). drop n (bits_of_number 8 b ++ bits bytes)) e
    ∙ sym (drop-drop (8 * i) 8 (bits_of_number 8 b ++ bits bytes)) ∙ ap (λ u. drop (8 * i) u) d ∙ drop-bits i bytes

-- the bits taken and those left
pub length-taken : (offset : ℕ) (bytes : List ℕ) → offset ≤ 8 * length bytes → length (take offset (bits bytes)) ≡ offset
length-taken offset bytes h = let n : length (bits bytes) ≡ 8 * length bytes = length-bits bytes in length-take-le offset (bits bytes) (omega arith)

pub length-left : (offset : ℕ) (bytes : List ℕ) → length (drop offset (bits bytes)) ≡ 8 * length bytes - offset
length-left offset bytes =
    let n : length (bits bytes) ≡ 8 * length bytes = length-bits bytes in
    let d : length (drop offset (bits bytes)) ≡ length (bits bytes) - offset = length-drop offset (bits bytes) in
    omega arith

pub bits-append : (xs ys : List ℕ) → bits (xs ++ ys) ≡ bits xs ++ bits ys
bits-append [] ys = rw bits-nil refl
bits-append (x ∷ xs) ys =
    bits-cons x (xs ++ ys) ∙ ap (λ u. bits_of_number 8 x ++ u) (bits-append xs ys) ∙ sym (append_assoc (bits_of_number 8 x) (bits xs) (bits ys))
    ∙ ap (λ u. u ++ bits ys) (sym (bits-cons x xs))

-- taking whole bytes takes their bits
pub take-bits : (i : ℕ) (bytes : List ℕ) → take (8 * i) (bits bytes) ≡ bits (take i bytes)
take-bits i bytes =
    let split : bits bytes ≡ bits (take i bytes) ++ bits (drop i bytes) = ap bits (sym (take-append-drop i bytes)) ∙ bits-append (take i bytes) (drop i bytes) in
    elim (cases_lt (length bytes) i) [
      | inl past ↦
          let all : take i bytes ≡ bytes = take_all i bytes (omega arith) in
          let n : length (bits bytes) ≡ 8 * length bytes = length-bits bytes in
          rw all (take_all (8 * i) (bits bytes) (omega arith))
      | inr inside ↦
          let n : length (bits (take i bytes)) ≡ 8 * length (take i bytes) = length-bits (take i bytes) in
          let m : length (take i bytes) ≡ i = length-take-le i bytes inside in
          ap (λ u. take (8 * i) u) split ∙ take_at (bits (take i bytes)) (bits (drop i bytes)) (8 * i) (omega arith)
    ]

-- a number's bytes, the highest first, hold its bits
pub bits-bytes_high_first : (k n : ℕ) → bits (bytes_high_first k n) ≡ bits_of_number (8 * k) n
bits-bytes_high_first zero n = bits-nil
bits-bytes_high_first (suc k) n =
    let e : 8 * suc k ≡ 8 + 8 * k = omega arith in
    let p : 256 ^ k ≡ 2 ^ (8 * k) = pow256 k in
    let b : byte_at k n ≡ n / 2 ^ (8 * k) % 256 = byte_at-is k n ∙ ap (λ (m : ℕ). n / m % 256) p in
    let h : bits_of_number 8 (byte_at k n) ≡ bits_of_number 8 (n / 2 ^ (8 * k)) = ap (λ (m : ℕ). bits_of_number 8 m) b ∙ bits_of_number-mod 8 (n / 2 ^ (8 * k)) in
    bits-cons (byte_at k n) (bytes_high_first k n) ∙ ap (λ u. u ++ bits (bytes_high_first k n)) h ∙ ap (λ u. bits_of_number 8 (n / 2 ^ (8 * k)) ++ u) (bits-bytes_high_first k n)
    ∙ sym (bits_of_number-split 8 (8 * k) n) ∙ ap (λ (m : ℕ). bits_of_number m n) (sym e)
  where
    byte_at-is : (k n : ℕ) → byte_at k n ≡ n / 256 ^ k % 256
    byte_at-is zero n = let e : n / 256 ^ 0 ≡ n = omega arith in rw e refl
    byte_at-is (suc k) n = refl
