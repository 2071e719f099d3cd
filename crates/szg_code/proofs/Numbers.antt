-- Laws of bits and numbers.
use Rattle.std.proofs.Common.{ℕ, zero, suc, Bool, true, false, ◌≡◌, ◌+◌, ◌*◌, ◌/◌, ◌%◌, ◌^◌, ◌<◌, ◌==◌, List, [], ◌∷◌, ◌++◌, length, replicate, refl, ap, sym, ◌∙◌, arith, length-append}
use Rattle.std.proofs.lemmas.Nat.{pow-add, pow_pos, mod-pow-add, shr-shr, shr_high, mod_low, mod_below}
use Rattle.std.proofs.lemmas.List.{length-replicate}
use Rattle.std.proofs.Math.Arith.{digits_mod}
use Rattle.std.proofs.Math.Nat.{zero-mul, zero-add}
use Rattle.szg_code.specs.Bits.{bits_of_number, bit_value, number}

pub double : (k : ℕ) → 2 ^ suc k ≡ 2 * 2 ^ k
double k = let h = pow-add 2 k 1 in omega (arith, h)

pub length-bits_of_number : (l v : ℕ) → length (bits_of_number l v) ≡ l
length-bits_of_number zero v = refl
length-bits_of_number (suc l) v = ap suc (length-bits_of_number l v)

pub number-below : (x : List Bool) → number x < 2 ^ length x
number-below [] = omega arith
number-below (true ∷ x) = let h : number x < 2 ^ length x = number-below x in let d : 2 ^ suc (length x) ≡ 2 * 2 ^ length x = double (length x) in omega arith
number-below (false ∷ x) = let h : number x < 2 ^ length x = number-below x in let d : 2 ^ suc (length x) ≡ 2 * 2 ^ length x = double (length x) in omega arith

pub number-append : (x y : List Bool) → number (x ++ y) ≡ number x * 2 ^ length y + number y
number-append [] y = omega arith
number-append (b ∷ x) y =
    let e : length (x ++ y) ≡ length x + length y = length-append x y in
    let p : 2 ^ (length x + length y) ≡ 2 ^ length x * 2 ^ length y = pow-add 2 (length x) (length y) in
    let h : number (x ++ y) ≡ number x * 2 ^ length y + number y = number-append x y in
    rw (e, p, h) (omega arith)

-- bit lists of one length and one number are equal
pub number-injective : (x y : List Bool) → length x ≡ length y → number x ≡ number y → x ≡ y
number-injective [] [] e h = refl
number-injective [] (b ∷ y) e h = absurd (omega arith)
number-injective (a ∷ x) [] e h = absurd (omega arith)
number-injective (a ∷ x) (b ∷ y) e h =
    let s : length x ≡ length y = omega arith in
    let below_x : number x < 2 ^ length x = number-below x in
    let below_y : number y < 2 ^ length x = rw s (number-below y) in
    let t : bit_value a * 2 ^ length x + number x ≡ bit_value b * 2 ^ length x + number y = h ∙ ap (λ n. bit_value b * 2 ^ n + number y) (sym s) in
    first_bits a b t below_x below_y (number-injective x y s)
  where
    first_bits : (a b : Bool) → bit_value a * 2 ^ length x + number x ≡ bit_value b * 2 ^ length x + number y → number x < 2 ^ length x → number y < 2 ^ length x → (number x ≡ number y → x ≡ y) → a ∷ x ≡ b ∷ y
    first_bits true true t p q r = ap (λ z. true ∷ z) (r (omega arith))
    first_bits false false t p q r = ap (λ z. false ∷ z) (r (omega arith))
    first_bits true false t p q r = absurd (omega arith)
    first_bits false true t p q r = absurd (omega arith)

bit_value-of : (n : ℕ) → n < 2 → bit_value (n == 1) ≡ n
bit_value-of zero h = refl
bit_value-of (suc zero) h = refl
bit_value-of (suc (suc n)) h = absurd (omega arith)

pub number-bits_of_number : (l v : ℕ) → number (bits_of_number l v) ≡ v % 2 ^ l
number-bits_of_number zero v = omega arith
number-bits_of_number (suc l) v =
    let h : number (bits_of_number l v) ≡ v % 2 ^ l = number-bits_of_number l v in
    let n : length (bits_of_number l v) ≡ l = length-bits_of_number l v in
    let b : bit_value (v / 2 ^ l % 2 == 1) ≡ v / 2 ^ l % 2 = bit_value-of (v / 2 ^ l % 2) (omega arith) in
    let m : v % 2 ^ (1 + l) ≡ (v / 2 ^ l % 2 ^ 1) * 2 ^ l + v % 2 ^ l = mod-pow-add v 1 l in
    let o : 1 + l ≡ suc l = omega arith in
    rw (h, n, b) (sym (rw o at m))

pub mod-small : (n m : ℕ) → n < m → n % m ≡ n
mod-small n m h = let e : (0 * m + n) % m ≡ n = digits_mod 0 h in rw (zero-mul, zero-add) at e

pub bits_of_number-number : (x : List Bool) → bits_of_number (length x) (number x) ≡ x
bits_of_number-number x =
    number-injective (bits_of_number (length x) (number x)) x (length-bits_of_number (length x) (number x))
    (number-bits_of_number (length x) (number x) ∙ mod-small (number x) (2 ^ length x) (number-below x))

-- bits of the high part, and bits of the low part
pub bits_of_number-split : (a b n : ℕ) → bits_of_number (a + b) n ≡ bits_of_number a (n / 2 ^ b) ++ bits_of_number b n
bits_of_number-split zero b n = let e : 0 + b ≡ b = omega arith in rw e refl
bits_of_number-split (suc a) b n =
    let e : suc a + b ≡ suc (a + b) = omega arith in
    let f : b + a ≡ a + b = omega arith in
    let h : n / 2 ^ b / 2 ^ a ≡ n / 2 ^ (a + b) = rw f at (shr-shr n b a) in
    rw (e, h) (ap (λ (x : List Bool). (n / 2 ^ (a + b) % 2 == 1) ∷ x) (bits_of_number-split a b n))

-- higher bits do not matter
pub bits_of_number-mod : (l n : ℕ) → bits_of_number l (n % 2 ^ l) ≡ bits_of_number l n
bits_of_number-mod l n =
    let p : 0 < 2 ^ l = pow_pos l in
    number-injective (bits_of_number l (n % 2 ^ l)) (bits_of_number l n) (length-bits_of_number l (n % 2 ^ l) ∙ sym (length-bits_of_number l n))
    (number-bits_of_number l (n % 2 ^ l) ∙ mod-small (n % 2 ^ l) (2 ^ l) (mod_below n (2 ^ l) p) ∙ sym (number-bits_of_number l n))

-- two numbers side by side in one word
pub bits_of_number-join : (a b x y : ℕ) → y < 2 ^ b → bits_of_number (a + b) (x * 2 ^ b + y) ≡ bits_of_number a x ++ bits_of_number b y
bits_of_number-join a b x y h =
    let hi : (x * 2 ^ b + y) / 2 ^ b ≡ x = shr_high x b y h in
    let lo : (x * 2 ^ b + y) % 2 ^ b ≡ y = mod_low x b y h in
    let m : bits_of_number b (x * 2 ^ b + y) ≡ bits_of_number b y = sym (bits_of_number-mod b (x * 2 ^ b + y)) ∙ ap (λ (n : ℕ). bits_of_number b n) lo in
    bits_of_number-split a b (x * 2 ^ b + y) ∙ ap (λ (n : ℕ). bits_of_number a n ++ bits_of_number b (x * 2 ^ b + y)) hi ∙ ap (λ (u : List Bool). bits_of_number a x ++ u) m

pub number-zeros : (n : ℕ) → number (replicate n false) ≡ 0
number-zeros zero = refl
number-zeros (suc n) = let h : number (replicate n false) ≡ 0 = number-zeros n in omega arith

pub bits_of_number-zeros : (n : ℕ) → bits_of_number n 0 ≡ replicate n false
bits_of_number-zeros n =
    number-injective (bits_of_number n 0) (replicate n false) (length-bits_of_number n 0 ∙ sym (length-replicate n false))
    (number-bits_of_number n 0 ∙ mod-small 0 (2 ^ n) (pow_pos n) ∙ sym (number-zeros n))
