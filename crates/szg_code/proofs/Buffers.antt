-- Bytes that hold a number of bits: no bits, and the bits of one more word.
use Rattle.std.proofs.Common.{ℕ, Bool, false, ◌≡◌, ◌+◌, ◌-◌, ◌*◌, ◌/◌, ◌%◌, ◌^◌, ◌<◌, ◌≤◌, inl, inr, List, [], ◌∷◌, ◌++◌, length, get_or, take, drop, replicate, refl, ap, sym, ◌∙◌, arith, length-append}
use Rattle.std.specs.Int.{bytes_high_first}
use Rattle.std.specs.Prelude.{bit_or}
use Rattle.std.proofs.lemmas.Nat.{pow-add, pow_pos, div-add-mod', shl_whole, shl_below, or_shifted}
use Rattle.std.proofs.lemmas.Bool.{cases_lt}
use Rattle.std.proofs.lemmas.List.{append_assoc, append-nil, append_cancel_left, take-append-drop, length-take-le, drop_more, drop_all, take-replicate, get_or_past, take_at}
use Rattle.std.proofs.Math.Seq.{take-append-add}
use Rattle.szg_code.specs.Bits.{bits, bits_of_number, number}
use Rattle.szg_code.specs.Buffer.{HoldsBits}
use Rattle.szg_code.proofs.Numbers.{length-bits_of_number, number-bits_of_number, mod-small, bits_of_number-split, bits_of_number-join, bits_of_number-zeros}
use Rattle.szg_code.proofs.ByteBits.{bits-nil, bits-cons, bits-append, length-bits, length-taken, take-bits, bits-bytes_high_first}

pub HoldsBits-none : (bytes : List ℕ) → bytes ≡ [] → HoldsBits bytes 0
HoldsBits-none bytes e = rw e (record { whole = omega arith; zero_padded = rw bits-nil refl })

-- bytes that hold this number of bits, followed by zeros
pub HoldsBits-from : (bytes : List ℕ) (prefix : List Bool) (count : ℕ) → length bytes ≡ (count + 7) / 8 → length prefix ≡ count →
    bits bytes ≡ prefix ++ replicate (8 * length bytes - count) false → (take count (bits bytes) ≡ prefix) × HoldsBits bytes count
HoldsBits-from bytes prefix count whole long e =
    let t : take count (bits bytes) ≡ prefix = ap (λ (u : List Bool). take count u) e ∙ take_at prefix (replicate (8 * length bytes - count) false) count long in
    (t, record { whole = whole; zero_padded = e ∙ ap (λ (u : List Bool). u ++ replicate (8 * length bytes - count) false) (sym t) })

-- the partial byte holds the last bits, followed by zeros
record PartialByte (bytes : List ℕ) (count : ℕ) (b : ℕ) : Type 0 where
  prefix : take count (bits bytes) ≡ bits (take (count / 8) bytes) ++ bits_of_number (count % 8) (b / 2 ^ (8 - count % 8))
  zeros : b ≡ b / 2 ^ (8 - count % 8) * 2 ^ (8 - count % 8)

-- the bits of the last byte
last_byte : (bytes : List ℕ) (k b : ℕ) → length bytes ≡ k + 1 → b ≡ get_or bytes k 0 → bits bytes ≡ bits (take k bytes) ++ bits_of_number 8 b
last_byte bytes k b n e =
    let d : drop k bytes ≡ get_or bytes k 0 ∷ drop (k + 1) bytes = drop_more bytes k 0 (omega arith) in
    let f : drop (k + 1) bytes ≡ [] = drop_all (k + 1) bytes (omega arith) in
    let g : bits (drop k bytes) ≡ bits_of_number 8 b = ap bits d ∙ ap (λ (xs : List ℕ). bits (get_or bytes k 0 ∷ xs)) f ∙ bits-cons (get_or bytes k 0) []
    ∙ ap (λ (u : List Bool). bits_of_number 8 (get_or bytes k 0) ++ u) bits-nil ∙ append-nil (bits_of_number 8 (get_or bytes k 0)) ∙ ap (λ (m : ℕ). bits_of_number 8 m) (sym e) in
    ap bits (sym (take-append-drop k bytes)) ∙ bits-append (take k bytes) (drop k bytes) ∙ ap (λ (u : List Bool). bits (take k bytes) ++ u) g

partial_byte : (bytes : List ℕ) (count b : ℕ) → HoldsBits bytes count → b ≡ get_or bytes (count / 8) 0 → PartialByte bytes count b
partial_byte bytes count b holds e =
    let whole : length bytes ≡ (count + 7) / 8 = holds.whole in
    let k : ℕ = count / 8 in
    let u : ℕ = count % 8 in
    let split : 8 * k + u ≡ count = omega arith in
    elim (cases_lt 0 u) [
      | inl some ↦
          let n : length bytes ≡ k + 1 = omega arith in
          let last : bits bytes ≡ bits (take k bytes) ++ bits_of_number 8 b = last_byte bytes k b n e in
          let eight : u + (8 - u) ≡ 8 = omega arith in
          let halves : bits_of_number 8 b ≡ bits_of_number u (b / 2 ^ (8 - u)) ++ bits_of_number (8 - u) b = rw eight at (bits_of_number-split u (8 - u) b) in
          let all : bits bytes ≡ (bits (take k bytes) ++ bits_of_number u (b / 2 ^ (8 - u))) ++ bits_of_number (8 - u) b =
          last ∙ ap (λ (x : List Bool). bits (take k bytes) ++ x) halves ∙ sym (append_assoc (bits (take k bytes)) (bits_of_number u (b / 2 ^ (8 - u))) (bits_of_number (8 - u) b)) in
          let m : length (take k bytes) ≡ k = length-take-le k bytes (omega arith) in
          let a : length (bits (take k bytes)) ≡ 8 * length (take k bytes) = length-bits (take k bytes) in
          let f : length (bits_of_number u (b / 2 ^ (8 - u))) ≡ u = length-bits_of_number u (b / 2 ^ (8 - u)) in
          let g : length (bits (take k bytes) ++ bits_of_number u (b / 2 ^ (8 - u))) ≡ length (bits (take k bytes)) + length (bits_of_number u (b / 2 ^ (8 - u))) = length-append (bits (take k bytes)) (bits_of_number u (b / 2 ^ (8 - u))) in
          let prefix : take count (bits bytes) ≡ bits (take k bytes) ++ bits_of_number u (b / 2 ^ (8 - u)) =
          ap (λ (x : List Bool). take count x) all ∙ take_at (bits (take k bytes) ++ bits_of_number u (b / 2 ^ (8 - u))) (bits_of_number (8 - u) b) count (omega arith) in
          let zero_padded : bits bytes ≡ take count (bits bytes) ++ replicate (8 * length bytes - count) false = holds.zero_padded in
          let same : take count (bits bytes) ++ bits_of_number (8 - u) b ≡ take count (bits bytes) ++ replicate (8 * length bytes - count) false =
          ap (λ (x : List Bool). x ++ bits_of_number (8 - u) b) prefix ∙ sym all ∙ zero_padded in
          let tail : bits_of_number (8 - u) b ≡ replicate (8 * length bytes - count) false = append_cancel_left (take count (bits bytes)) (bits_of_number (8 - u) b) (replicate (8 * length bytes - count) false) same in
          let r : 8 * length bytes - count ≡ 8 - u = omega arith in
          let tail' : bits_of_number (8 - u) b ≡ bits_of_number (8 - u) 0 = tail ∙ ap (λ (i : ℕ). replicate i false) r ∙ sym (bits_of_number-zeros (8 - u)) in
          let rest : b % 2 ^ (8 - u) ≡ 0 % 2 ^ (8 - u) = sym (number-bits_of_number (8 - u) b) ∙ ap (λ (x : List Bool). number x) tail' ∙ number-bits_of_number (8 - u) 0 in
          let parts : b / 2 ^ (8 - u) * 2 ^ (8 - u) + b % 2 ^ (8 - u) ≡ b = div-add-mod' b (2 ^ (8 - u)) in
          let zero_rest : 0 % 2 ^ (8 - u) ≡ 0 = mod-small 0 (2 ^ (8 - u)) (pow_pos (8 - u)) in
          record { prefix = prefix; zeros = omega (arith, parts, rest, zero_rest) }
      | inr none ↦
          let at : count ≡ 8 * k = omega arith in
          let b_zero : b ≡ 0 = e ∙ get_or_past bytes k 0 (omega arith) in
          let parts : b / 2 ^ (8 - u) * 2 ^ (8 - u) + b % 2 ^ (8 - u) ≡ b = div-add-mod' b (2 ^ (8 - u)) in
          let none_used : u ≡ 0 = omega arith in
          let f : bits_of_number u (b / 2 ^ (8 - u)) ≡ [] = ap (λ (m : ℕ). bits_of_number m (b / 2 ^ (8 - u))) none_used in
          record {
            prefix = ap (λ (m : ℕ). take m (bits bytes)) at ∙ take-bits k bytes ∙ sym (append-nil (bits (take k bytes))) ∙ ap (λ (x : List Bool). bits (take k bytes) ++ x) (sym f);
            zeros = omega (arith, parts, b_zero);
          }
    ]

-- a word's bits, appended to those of the partial byte and padded with zeros
joined_bits : (q u l v : ℕ) → u + l ≤ 64 → v < 2 ^ l → bits_of_number 64 (q * 2 ^ (64 - u) + v * 2 ^ (64 - u - l)) ≡ (bits_of_number u q ++ bits_of_number l v) ++ replicate (64 - (u + l)) false
joined_bits q u l v fits small =
    let r : ℕ = 64 - (u + l) in
    let all : u + l + r ≡ 64 = omega arith in
    let a : 64 - u ≡ l + r = omega arith in
    let b : 64 - u - l ≡ r = omega arith in
    let p : 2 ^ (l + r) ≡ 2 ^ l * 2 ^ r = pow-add 2 l r in
    let n : q * 2 ^ (64 - u) + v * 2 ^ (64 - u - l) ≡ (q * 2 ^ l + v) * 2 ^ r + 0 = rw (b, a, p) (omega arith) in
    ap (λ (m : ℕ). bits_of_number 64 m) n ∙ ap (λ (m : ℕ). bits_of_number m ((q * 2 ^ l + v) * 2 ^ r + 0)) (sym all)
    ∙ bits_of_number-join (u + l) r (q * 2 ^ l + v) 0 (pow_pos r)
    ∙ ap (λ (x : List Bool). x ++ bits_of_number r 0) (bits_of_number-join u l q v small)
    ∙ ap (λ (x : List Bool). (bits_of_number u q ++ bits_of_number l v) ++ x) (bits_of_number-zeros r)

-- the first bytes of the joined number hold the bits, followed by zeros
taken_bits : (x : List Bool) (i r n : ℕ) → length x ≡ n → n ≤ i → i ≤ n + r → take i (x ++ replicate r false) ≡ x ++ replicate (i - n) false
taken_bits x i r n long from to =
    let e : i ≡ length x + (i - n) = omega arith in
    ap (λ (m : ℕ). take m (x ++ replicate r false)) e ∙ take-append-add x (replicate r false) (i - n) ∙ ap (λ (z : List Bool). x ++ z) (take-replicate (i - n) r false (omega arith))

-- the word's number, shifted below the partial byte, shares no bit with it
pub joined-or : (bytes : List ℕ) (count l v b : ℕ) → HoldsBits bytes count → b ≡ get_or bytes (count / 8) 0 → b < 256 → l ≤ 32 → v < 2 ^ l →
    bit_or (b * 2 ^ 56 % 18446744073709551616) (v * 2 ^ (64 - count % 8 - l) % 18446744073709551616) ≡ b * 2 ^ 56 + v * 2 ^ (64 - count % 8 - l)
joined-or bytes count l v b holds at byte short small =
    let u : ℕ = count % 8 in
    let q : ℕ = b / 2 ^ (8 - u) in
    let g = partial_byte bytes count b holds at in
    let p : 2 ^ (8 - u + 56) ≡ 2 ^ (8 - u) * 2 ^ 56 = pow-add 2 (8 - u) 56 in
    let c : 8 - u + 56 ≡ 64 - u = omega arith in
    let p' : 2 ^ (64 - u) ≡ 2 ^ (8 - u) * 2 ^ 56 = rw c at p in
    let z : b ≡ q * 2 ^ (8 - u) = g.zeros in
    let hi : b * 2 ^ 56 % 2 ^ 64 ≡ b * 2 ^ 56 = shl_whole b 8 56 64 byte (omega arith) in
    let lo : v * 2 ^ (64 - u - l) % 2 ^ 64 ≡ v * 2 ^ (64 - u - l) = shl_whole v l (64 - u - l) 64 small (omega arith) in
    let d : l + (64 - u - l) ≡ 64 - u = omega arith in
    let below : v * 2 ^ (64 - u - l) < 2 ^ (64 - u) = rw d at (shl_below v l (64 - u - l) small) in
    let e : b * 2 ^ 56 ≡ q * 2 ^ (64 - u) = rw p' (omega (arith, z)) in
    let o : bit_or (q * 2 ^ (64 - u)) (v * 2 ^ (64 - u - l)) ≡ q * 2 ^ (64 - u) + v * 2 ^ (64 - u - l) = or_shifted q (64 - u) (v * 2 ^ (64 - u - l)) below in
    ap (λ (m : ℕ). bit_or m (v * 2 ^ (64 - u - l) % 2 ^ 64)) (hi ∙ e) ∙ ap (λ (m : ℕ). bit_or (q * 2 ^ (64 - u)) m) lo ∙ o ∙ ap (λ (m : ℕ). m + v * 2 ^ (64 - u - l)) (sym e)

-- The bytes that hold one more word: the whole bytes, followed by those of the number that joins the partial byte
-- and the word.
pub HoldsBits-word : (bytes after : List ℕ) (count l v b joined : ℕ) → HoldsBits bytes count → b ≡ get_or bytes (count / 8) 0 → l ≤ 32 → v < 2 ^ l →
    joined ≡ b * 2 ^ 56 + v * 2 ^ (64 - count % 8 - l) → after ≡ take (count / 8) bytes ++ take ((count % 8 + l + 7) / 8) (bytes_high_first 8 joined) →
    (take (count + l) (bits after) ≡ take count (bits bytes) ++ bits_of_number l v) × HoldsBits after (count + l)
HoldsBits-word bytes after count l v b joined holds at short small is made =
    let k : ℕ = count / 8 in
    let u : ℕ = count % 8 in
    let w : ℕ = (u + l + 7) / 8 in
    let q : ℕ = b / 2 ^ (8 - u) in
    let g = partial_byte bytes count b holds at in
    let split : 8 * k + u ≡ count = omega arith in
    let p : 2 ^ (8 - u + 56) ≡ 2 ^ (8 - u) * 2 ^ 56 = pow-add 2 (8 - u) 56 in
    let c : 8 - u + 56 ≡ 64 - u = omega arith in
    let p' : 2 ^ (64 - u) ≡ 2 ^ (8 - u) * 2 ^ 56 = rw c at p in
    let z : b ≡ q * 2 ^ (8 - u) = g.zeros in
    let j : joined ≡ q * 2 ^ (64 - u) + v * 2 ^ (64 - u - l) = rw p' (omega (arith, is, z)) in
    let spelled : List ℕ = bytes_high_first 8 joined in
    let old : List Bool = take count (bits bytes) in
    let whole : length bytes ≡ (count + 7) / 8 = holds.whole in
    let front_length : length (take k bytes) ≡ k = length-take-le k bytes (omega arith) in
    let spelled_bits : bits spelled ≡ (bits_of_number u q ++ bits_of_number l v) ++ replicate (64 - (u + l)) false =
    bits-bytes_high_first 8 joined ∙ ap (λ (m : ℕ). bits_of_number 64 m) j ∙ joined_bits q u l v (omega arith) small in
    let long : length (bits_of_number u q ++ bits_of_number l v) ≡ u + l = length-append (bits_of_number u q) (bits_of_number l v) ∙ ap (λ (m : ℕ). m + length (bits_of_number l v)) (length-bits_of_number u q) ∙ ap (λ (m : ℕ). u + m) (length-bits_of_number l v) in
    let cut : bits (take w spelled) ≡ (bits_of_number u q ++ bits_of_number l v) ++ replicate (8 * w - (u + l)) false =
    sym (take-bits w spelled) ∙ ap (λ (x : List Bool). take (8 * w) x) spelled_bits ∙ taken_bits (bits_of_number u q ++ bits_of_number l v) (8 * w) (64 - (u + l)) (u + l) long (omega arith) (omega arith) in
    let n_old : length old ≡ count = length-taken count bytes (omega arith) in
    let t : List Bool = bits (take k bytes) in
    let x : List Bool = bits_of_number u q in
    let y : List Bool = bits_of_number l v in
    let n_spelled : length (take w spelled) ≡ w = length-take-le w spelled (omega arith) in
    let n_after : length after ≡ k + w = ap (λ (xs : List ℕ). length xs) made ∙ length-append (take k bytes) (take w spelled) ∙ ap (λ (m : ℕ). m + length (take w spelled)) front_length ∙ ap (λ (m : ℕ). k + m) n_spelled in
    let free : 8 * w - (u + l) ≡ 8 * length after - (count + l) = omega arith in
    let z' : List Bool = replicate (8 * w - (u + l)) false in
    let groups : t ++ ((x ++ y) ++ z') ≡ ((t ++ x) ++ y) ++ z' = regroup t x y z' in
    let all : bits after ≡ (old ++ y) ++ replicate (8 * length after - (count + l)) false =
    ap bits made ∙ bits-append (take k bytes) (take w spelled) ∙ ap (λ (a : List Bool). t ++ a) cut ∙ groups
    ∙ ap (λ (a : List Bool). (a ++ y) ++ z') (sym g.prefix) ∙ ap (λ (m : ℕ). (old ++ y) ++ replicate m false) free in
    let n_front : length (old ++ y) ≡ count + l = length-append old y ∙ ap (λ (m : ℕ). m + length y) n_old ∙ ap (λ (m : ℕ). count + m) (length-bits_of_number l v) in
    HoldsBits-from after (old ++ y) (count + l) (omega arith) n_front all
  where
    regroup : (t x y z : List Bool) → t ++ ((x ++ y) ++ z) ≡ ((t ++ x) ++ y) ++ z
    regroup t x y z = simp append_assoc
