-- The bits of words: whole bytes, and bits that are not bytes yet.
use Rattle.std.proofs.Common.{ℕ, ◌≡◌, ◌+◌, ◌-◌, ◌*◌, ◌/◌, ◌%◌, ◌^◌, ◌<◌, ◌≤◌, Bool, false, List, [], ◌++◌, length, replicate, refl, sym, ap, subst, ◌∙◌, arith, length-append, append_assoc, append-nil}
use Rattle.std.specs.Int.{bytes_high_first}
use Rattle.std.proofs.Math.Nat.{mul-le-mul_right, div-lt_iff_lt-mul}
use Rattle.std.proofs.lemmas.Nat.{pow-add, pow_pos, shl_whole, shl_below}
use Rattle.szg_code.specs.Bits.{bits, bits_of_number}
use Rattle.szg_code.proofs.Numbers.{length-bits_of_number, bits_of_number-split, bits_of_number-mod, bits_of_number-join, bits_of_number-zeros}
use Rattle.szg_code.proofs.ByteBits.{bits-nil, bits-append, length-bits, bits-bytes_high_first}
use Rattle.szg_subtable.specs.Building.{IsWaiting}

abbrev pub held : List ℕ → ℕ → ℕ → List Bool
held bytes count waiting = bits bytes ++ bits_of_number count waiting

pub held_none : (bytes : List ℕ) (waiting : ℕ) → bytes ≡ [] → held bytes 0 waiting ≡ []
held_none bytes waiting e = ap (λ (z : List ℕ). bits z ++ []) e ∙ append-nil (bits []) ∙ bits-nil

pub length_held : (bytes : List ℕ) (count waiting : ℕ) → length (held bytes count waiting) ≡ 8 * length bytes + count
length_held bytes count waiting =
    let a = length-append (bits bytes) (bits_of_number count waiting) in
    let b = length-bits bytes in
    let c = length-bits_of_number count waiting in
    omega (arith, a, b, c)

-- the waiting bits and the bits of a word, as one number
pub joined_below : (count waiting length number : ℕ) → waiting < 2 ^ count → number < 2 ^ length → waiting * 2 ^ length + number < 2 ^ (count + length)
joined_below count waiting length number small spelled =
    let p : 2 ^ (count + length) ≡ 2 ^ count * 2 ^ length = pow-add 2 count length in
    let m : (waiting + 1) * 2 ^ length ≤ 2 ^ count * 2 ^ length = mul-le-mul_right {m = waiting + 1} {n = 2 ^ count} (2 ^ length) (omega (arith, small)) in
    let d : (waiting + 1) * 2 ^ length ≡ waiting * 2 ^ length + 2 ^ length = omega arith in
    omega (arith, p, m, d, spelled)

pub shifted : (count waiting length : ℕ) → count < 32 → length ≤ 32 → waiting < 2 ^ count → waiting * 2 ^ length % 18446744073709551616 ≡ waiting * 2 ^ length
shifted count waiting length few short small = shl_whole waiting count length 64 small (omega (arith, few, short))

-- the bits after a word is added to those that wait
pub held_more : (bytes : List ℕ) (count waiting length number : ℕ) → number < 2 ^ length → held bytes (count + length) (waiting * 2 ^ length + number) ≡ held bytes count waiting ++ bits_of_number length number
held_more bytes count waiting length number spelled =
    ap (λ (z : List Bool). bits bytes ++ z) (bits_of_number-join count length waiting number spelled)
    ∙ sym (append_assoc (bits bytes) (bits_of_number count waiting) (bits_of_number length number))

-- the bits after four bytes become whole
pub held_four : (bytes after : List ℕ) (rest joined : ℕ) → after ≡ bytes ++ bytes_high_first 4 (joined / 2 ^ rest) → held after rest (joined % 2 ^ rest) ≡ held bytes (32 + rest) joined
held_four bytes after rest joined e =
    ap (λ (z : List ℕ). bits z ++ bits_of_number rest (joined % 2 ^ rest)) e
    ∙ ap (λ (z : List Bool). z ++ bits_of_number rest (joined % 2 ^ rest)) (bits-append bytes (bytes_high_first 4 (joined / 2 ^ rest)))
    ∙ ap (λ (z : List Bool). (bits bytes ++ z) ++ bits_of_number rest (joined % 2 ^ rest)) (bits-bytes_high_first 4 (joined / 2 ^ rest))
    ∙ ap (λ (z : List Bool). (bits bytes ++ bits_of_number 32 (joined / 2 ^ rest)) ++ z) (bits_of_number-mod rest joined)
    ∙ append_assoc (bits bytes) (bits_of_number 32 (joined / 2 ^ rest)) (bits_of_number rest joined)
    ∙ ap (λ (z : List Bool). bits bytes ++ z) (sym (bits_of_number-split 32 rest joined))

pub whole_below : (count waiting length number rest : ℕ) → waiting < 2 ^ count → number < 2 ^ length → count + length ≡ 32 + rest → (waiting * 2 ^ length + number) / 2 ^ rest < 2 ^ 32
whole_below count waiting length number rest small spelled same =
    let b = joined_below count waiting length number small spelled in
    let e : 2 ^ (count + length) ≡ 2 ^ 32 * 2 ^ rest = ap (λ (k : ℕ). 2 ^ k) same ∙ pow-add 2 32 rest in
    (div-lt_iff_lt-mul {k = 2 ^ rest} {x = waiting * 2 ^ length + number} {y = 2 ^ 32} (pow_pos rest)).1 (omega (arith, b, e))

-- the waiting bits as four bytes, padded with zeros
pub held_last : (bytes : List ℕ) (count waiting : ℕ) → count ≤ 32 → bits (bytes ++ bytes_high_first 4 (waiting * 2 ^ (32 - count))) ≡ held bytes count waiting ++ replicate (32 - count) false
held_last bytes count waiting few =
    let all : count + (32 - count) ≡ 32 = omega (arith, few) in
    let zero : waiting * 2 ^ (32 - count) + 0 ≡ waiting * 2 ^ (32 - count) = omega arith in
    let four : bits_of_number 32 (waiting * 2 ^ (32 - count)) ≡ bits_of_number count waiting ++ replicate (32 - count) false =
    ap (λ (k : ℕ). bits_of_number k (waiting * 2 ^ (32 - count))) (sym all) ∙ ap (λ (k : ℕ). bits_of_number (count + (32 - count)) k) (sym zero)
    ∙ bits_of_number-join count (32 - count) waiting 0 (pow_pos (32 - count)) ∙ ap (λ (z : List Bool). bits_of_number count waiting ++ z) (bits_of_number-zeros (32 - count)) in
    bits-append bytes (bytes_high_first 4 (waiting * 2 ^ (32 - count)))
    ∙ ap (λ (z : List Bool). bits bytes ++ z) (bits-bytes_high_first 4 (waiting * 2 ^ (32 - count)) ∙ four)
    ∙ sym (append_assoc (bits bytes) (bits_of_number count waiting) (replicate (32 - count) false))

-- ---- for the bodies

spelled_as : (n v length number : ℕ) → n ≡ length → v ≡ number → number < 2 ^ length → v < 2 ^ n
spelled_as n v length number same_length same_number spelled = subst (λ (k : ℕ). k < 2 ^ n) (sym same_number) (subst (λ (k : ℕ). number < 2 ^ k) (sym same_length) spelled)

-- one more word, after which fewer than 32 bits wait
pub waiting_more : (bytes : List ℕ) (count waiting n v length number : ℕ) → IsWaiting bytes count waiting → n ≡ length → v ≡ number → length ≤ 32 → number < 2 ^ length → count + n < 32 →
    IsWaiting bytes (count + n) (waiting * 2 ^ n % 18446744073709551616 + v)
waiting_more bytes count waiting n v length number is same_length same_number short spelled few = record {
  few = few;
  small = subst (λ (k : ℕ). k + v < 2 ^ (count + n)) (sym (shifted count waiting n is.few (omega (arith, same_length, short)) is.small))
      (joined_below count waiting n v is.small (spelled_as n v length number same_length same_number spelled));
  fours = is.fours;
}

pub appended_short : (bytes : List ℕ) (count waiting n v length number : ℕ) (old : List Bool) → held bytes count waiting ≡ old → IsWaiting bytes count waiting → n ≡ length → v ≡ number → length ≤ 32 → number < 2 ^ length →
    held bytes (count + n) (waiting * 2 ^ n % 18446744073709551616 + v) ≡ old ++ bits_of_number length number
appended_short bytes count waiting n v length number old view is same_length same_number short spelled =
    ap (λ (k : ℕ). held bytes (count + n) (k + v)) (shifted count waiting n is.few (omega (arith, same_length, short)) is.small)
    ∙ held_more bytes count waiting n v (spelled_as n v length number same_length same_number spelled)
    ∙ ap (λ (z : List Bool). z ++ bits_of_number n v) view ∙ ap (λ (k : ℕ). old ++ bits_of_number k v) same_length ∙ ap (λ (k : ℕ). old ++ bits_of_number length k) same_number

pub whole_fits : (bytes : List ℕ) (count waiting n v length number : ℕ) → IsWaiting bytes count waiting → n ≡ length → v ≡ number → length ≤ 32 → number < 2 ^ length → 32 ≤ count + n →
    (waiting * 2 ^ n % 18446744073709551616 + v) / 2 ^ (count + n - 32) < 2 ^ 32
whole_fits bytes count waiting n v length number is same_length same_number short spelled many =
    subst (λ (k : ℕ). (k + v) / 2 ^ (count + n - 32) < 2 ^ 32) (sym (shifted count waiting n is.few (omega (arith, same_length, short)) is.small))
    (whole_below count waiting n v (count + n - 32) is.small (spelled_as n v length number same_length same_number spelled) (omega (arith, many)))

pub appended_long : (bytes after : List ℕ) (count waiting n v length number : ℕ) (old : List Bool) → held bytes count waiting ≡ old → IsWaiting bytes count waiting → n ≡ length → v ≡ number → length ≤ 32 → number < 2 ^ length → 32 ≤ count + n →
    after ≡ bytes ++ bytes_high_first 4 ((waiting * 2 ^ n % 18446744073709551616 + v) / 2 ^ (count + n - 32)) →
    held after (count + n - 32) ((waiting * 2 ^ n % 18446744073709551616 + v) % (1 * 2 ^ (count + n - 32) % 18446744073709551616)) ≡ old ++ bits_of_number length number
appended_long bytes after count waiting n v length number old view is same_length same_number short spelled many made =
    let rest : ℕ = count + n - 32 in
    let joined : ℕ = waiting * 2 ^ n % 18446744073709551616 + v in
    let one : 1 * 2 ^ rest ≡ 2 ^ rest = omega arith in
    let power : 1 * 2 ^ rest % 18446744073709551616 ≡ 2 ^ rest = shl_whole 1 1 rest 64 (omega arith) (omega (arith, is.few, same_length, short)) ∙ one in
    let all : 32 + rest ≡ count + n = omega (arith, many) in
    ap (λ (k : ℕ). held after rest (joined % k)) power ∙ held_four bytes after rest joined made ∙ ap (λ (k : ℕ). held bytes k joined) all
    ∙ appended_short bytes count waiting n v length number old view is same_length same_number short spelled

last_is : (count waiting : ℕ) → count < 32 → waiting < 2 ^ count → waiting * 2 ^ (32 - count) % 18446744073709551616 ≡ waiting * 2 ^ (32 - count)
last_is count waiting few small = shl_whole waiting count (32 - count) 64 small (omega (arith, few))

pub last_fits : (bytes : List ℕ) (count waiting : ℕ) → IsWaiting bytes count waiting → waiting * 2 ^ (32 - count) % 18446744073709551616 < 2 ^ 32
last_fits bytes count waiting is =
    let all : count + (32 - count) ≡ 32 = omega (arith, is.few) in
    subst (λ (k : ℕ). k < 2 ^ 32) (sym (last_is count waiting is.few is.small)) (subst (λ (k : ℕ). waiting * 2 ^ (32 - count) < 2 ^ k) all (shl_below waiting count (32 - count) is.small))

-- `after` is `packed` and then n bytes, which are the bits and zeros
abbrev pub AreMoved : List ℕ → List ℕ → List Bool → ℕ → Type 0
AreMoved packed after old n = (bytes : List ℕ) × (fill : ℕ) × (length bytes ≡ n) × (after ≡ packed ++ bytes) × (bits bytes ≡ old ++ replicate fill false)

pub moved : (bytes packed one two own last : List ℕ) (count waiting n : ℕ) (old : List Bool) → held bytes count waiting ≡ old → IsWaiting bytes count waiting → n ≡ length bytes → own ≡ bytes → one ≡ packed ++ own →
    last ≡ bytes_high_first 4 (waiting * 2 ^ (32 - count) % 18446744073709551616) → two ≡ one ++ last → AreMoved packed two old (n + 4)
moved bytes packed one two own last count waiting n old view is long same first last_is_bytes second =
    let m : ℕ = waiting * 2 ^ (32 - count) in
    let last_same : last ≡ bytes_high_first 4 m = last_is_bytes ∙ ap (bytes_high_first 4) (last_is count waiting is.few is.small) in
    let four : length (bytes_high_first 4 m) ≡ 4 = refl in
    let all = length-append bytes (bytes_high_first 4 m) in (
      bytes ++ bytes_high_first 4 m,
      32 - count,
      omega (arith, all, four, long),
      second ∙ ap (λ (z : List ℕ). z ++ last) (first ∙ ap (λ (z : List ℕ). packed ++ z) same) ∙ ap (λ (z : List ℕ). (packed ++ bytes) ++ z) last_same ∙ append_assoc packed bytes (bytes_high_first 4 m),
      held_last bytes count waiting (omega (arith, is.few)) ∙ ap (λ (z : List Bool). z ++ replicate (32 - count) false) view,
    )

-- the number of bytes for the bits, a multiple of four
pub moved_few : (bytes : List ℕ) (count waiting : ℕ) (old : List Bool) → held bytes count waiting ≡ old → IsWaiting bytes count waiting → 0 < count → length bytes + 4 ≡ 4 * ((length old + 31) / 32)
moved_few bytes count waiting old view is some =
    let long : length old ≡ 8 * length bytes + count = ap (λ (z : List Bool). length z) (sym view) ∙ length_held bytes count waiting in
    omega (arith, long, is.fours, is.few, some)

pub moved_whole : (bytes : List ℕ) (count waiting : ℕ) (old : List Bool) → held bytes count waiting ≡ old → IsWaiting bytes count waiting → count ≡ 0 → length bytes ≡ 4 * ((length old + 31) / 32)
moved_whole bytes count waiting old view is none =
    let long : length old ≡ 8 * length bytes + count = ap (λ (z : List Bool). length z) (sym view) ∙ length_held bytes count waiting in
    omega (arith, long, is.fours, none)

-- if the bits fit a block, their bytes do
pub block_holds : (b long n : ℕ) → 5 ≤ b → long ≤ 8 * 2 ^ b → n ≡ 4 * ((long + 31) / 32) → n ≤ 2 ^ b
block_holds b long n least fits is =
    let five : 5 + (b - 5) ≡ b = omega (arith, least) in
    let p : 2 ^ (5 + (b - 5)) ≡ 2 ^ 5 * 2 ^ (b - 5) = pow-add 2 5 (b - 5) in
    let q : 2 ^ b ≡ 2 ^ 5 * 2 ^ (b - 5) = ap (λ (k : ℕ). 2 ^ k) (sym five) ∙ p in
    omega (arith, q, fits, is)
