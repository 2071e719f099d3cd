-- Laws of a reader's window: what it decides, and how it advances.
use Rattle.std.proofs.Common.{ℕ, zero, suc, Bool, false, ◌≡◌, ◌+◌, ◌-◌, ◌*◌, ◌/◌, ◌%◌, ◌^◌, ◌<◌, ◌≤◌, inl, inr, List, [], ◌∷◌, ◌++◌, length, get_or, take, drop, replicate, refl, ap, sym, ◌∙◌, subst, arith, length-append, length-drop}
use Rattle.std.proofs.lemmas.Bool.{cases_lt}
use Rattle.std.proofs.lemmas.Nat.{pow-add, shl_below, mod_low}
use Rattle.std.proofs.lemmas.List.{take-append-le, take_all, length-replicate, drop-drop, get_or-drop, drop_all}
use Rattle.byteorder.specs.Endian.{big_from}
use Rattle.byteorder.proofs.Bytes.{pow256}
use Rattle.szg_code.specs.Bits.{bits, number}
use Rattle.szg_code.specs.Canonical.{CanonicalCode, base, symbol_at}
use Rattle.szg_code.specs.Acceptance.{IsCode}
use Rattle.szg_code.specs.Least.{IsLeastLength, ReachesNoBase, shifted_base, symbol_of_prefix}
use Rattle.szg_code.specs.Window.{padded, IsWindow, HoldsBits}
use Rattle.szg_code.proofs.Numbers.{number-append, number-below, number-bits_of_number, mod-small, number-zeros}
use Rattle.szg_code.proofs.Reading.{number-take, reaches-shifted_base, shifted_base-reaches, least_length_of_window, no_base_of_window}
use Rattle.szg_code.proofs.Prefixes.{symbol_of_prefix-is}
use Rattle.szg_code.proofs.ByteBits.{bits-cons, bits-nil, drop-bits, length-bits}

-- ---- padded prefixes

pub length-padded : (n : ℕ) (xs : List Bool) → length (padded n xs) ≡ n
length-padded zero xs = refl
length-padded (suc n) [] = ap suc (length-padded n [])
length-padded (suc n) (x ∷ xs) = ap suc (length-padded n xs)

-- padding the first bits, and padding the bits after them
pub padded-add : (a b : ℕ) (xs : List Bool) → padded (a + b) xs ≡ padded a xs ++ padded b (drop a xs)
padded-add zero b xs = let e : 0 + b ≡ b = omega arith in rw e refl
padded-add (suc a) b [] =
    let e : suc a + b ≡ suc (a + b) = omega arith in
    let d : drop {A = Bool} a [] ≡ [] = drop_all a [] (omega arith) in
    rw e (ap (λ (u : List Bool). false ∷ u) (padded-add a b [] ∙ ap (λ (u : List Bool). padded a [] ++ padded b u) d))
padded-add (suc a) b (x ∷ xs) =
    let e : suc a + b ≡ suc (a + b) = omega arith in
    rw e (ap (λ (u : List Bool). x ∷ u) (padded-add a b xs))

pub take-padded : (l n : ℕ) (xs : List Bool) → l ≤ n → l ≤ length xs → take l (padded n xs) ≡ take l xs
take-padded zero n xs h g = refl
take-padded (suc l) zero xs h g = absurd (omega arith)
take-padded (suc l) (suc n) [] h g = absurd (omega arith)
take-padded (suc l) (suc n) (x ∷ xs) h g = ap (λ (u : List Bool). x ∷ u) (take-padded l n xs (omega arith) (omega arith))

-- the padded bits of bytes are the number of the bytes, with zeros past the end
number-padded_byte : (ys : List ℕ) → get_or ys 0 0 < 256 → number (padded 8 (bits ys)) ≡ get_or ys 0 0
number-padded_byte [] h = rw bits-nil refl
number-padded_byte (b ∷ ys) h = rw bits-cons (number-bits_of_number 8 b ∙ mod-small b 256 h)

pub number-padded_bits : (n : ℕ) (bytes : List ℕ) (i : ℕ) → ((k : ℕ) → get_or bytes k 0 < 256) → number (padded (8 * n) (bits (drop i bytes))) ≡ big_from i n bytes
number-padded_bits zero bytes i fit = refl
number-padded_bits (suc n) bytes i fit =
    let xs : List Bool = bits (drop i bytes) in
    let e : 8 * suc n ≡ 8 + 8 * n = omega arith in
    let s : suc i ≡ i + 1 = omega arith in
    let g : get_or (drop i bytes) 0 0 ≡ get_or bytes (i + 0) 0 = get_or-drop i bytes 0 0 in
    let z : i + 0 ≡ i = omega arith in
    let g' : get_or (drop i bytes) 0 0 ≡ get_or bytes i 0 = rw z at g in
    let b : number (padded 8 xs) ≡ get_or bytes i 0 = number-padded_byte (drop i bytes) (rw g' (fit i)) ∙ g' in
    let d : drop 8 xs ≡ bits (drop (i + 1) bytes) = drop-bits 1 (drop i bytes) ∙ ap bits (drop-drop 1 i bytes) in
    let h : number (padded (8 * n) (bits (drop (i + 1) bytes))) ≡ big_from (i + 1) n bytes = number-padded_bits n bytes (i + 1) fit in
    let h' : number (padded (8 * n) (drop 8 xs)) ≡ big_from (suc i) n bytes = ap (λ (u : List Bool). number (padded (8 * n) u)) d ∙ h ∙ ap (λ (k : ℕ). big_from k n bytes) (sym s) in
    let p : 256 ^ n ≡ 2 ^ (8 * n) = pow256 n in
    let a : number (padded 8 xs ++ padded (8 * n) (drop 8 xs)) ≡ number (padded 8 xs) * 2 ^ length (padded (8 * n) (drop 8 xs)) + number (padded (8 * n) (drop 8 xs)) = number-append (padded 8 xs) (padded (8 * n) (drop 8 xs)) in
    let l : length (padded (8 * n) (drop 8 xs)) ≡ 8 * n = length-padded (8 * n) (drop 8 xs) in
    let a' : number (padded 8 xs ++ padded (8 * n) (drop 8 xs)) ≡ get_or bytes i 0 * 2 ^ (8 * n) + big_from (suc i) n bytes = rw (l, b, h') at a in
    ap (λ (m : ℕ). number (padded m xs)) e ∙ ap (λ (u : List Bool). number u) (padded-add 8 (8 * n) xs) ∙ rw p a'

-- ---- how the window advances

-- what remains after a shift of the window
moved : (xs : List Bool) (e l n : ℕ) → l + n + e ≡ 64 → number (padded (64 - e) xs) * 2 ^ e * 2 ^ l % 2 ^ 64 ≡ number (padded n (drop l xs)) * 2 ^ (e + l)
moved xs e l n total =
    let a : ℕ = number (padded l xs) in
    let b : ℕ = number (padded n (drop l xs)) in
    let k : ℕ = 2 ^ (e + l) in
    let s : 64 - e ≡ l + n = omega arith in
    let len : length (padded n (drop l xs)) ≡ n = length-padded n (drop l xs) in
    let ab : number (padded l xs ++ padded n (drop l xs)) ≡ a * 2 ^ length (padded n (drop l xs)) + b = number-append (padded l xs) (padded n (drop l xs)) in
    let whole : number (padded (64 - e) xs) ≡ a * 2 ^ n + b = ap (λ (m : ℕ). number (padded m xs)) s ∙ ap (λ (u : List Bool). number u) (padded-add l n xs) ∙ ab ∙ ap (λ (m : ℕ). a * 2 ^ m + b) len in
    let below : b < 2 ^ length (padded n (drop l xs)) = number-below (padded n (drop l xs)) in
    let below' : b < 2 ^ n = rw len at below in
    let t : n + (e + l) ≡ 64 = omega arith in
    let p : 2 ^ (n + (e + l)) ≡ 2 ^ n * k = pow-add 2 n (e + l) in
    let p' : 2 ^ 64 ≡ 2 ^ n * k = rw t at p in
    let q : k ≡ 2 ^ e * 2 ^ l = pow-add 2 e l in
    let fits : b * k < 2 ^ (n + (e + l)) = shl_below b n (e + l) below' in
    let fits' : b * k < 2 ^ 64 = rw t at fits in
    let j : number (padded (64 - e) xs) * 2 ^ e * 2 ^ l ≡ a * 2 ^ 64 + b * k = rw (whole, p', q) (omega arith) in
    ap (λ (m : ℕ). m % 2 ^ 64) j ∙ mod_low a 64 (b * k) fits'

-- more zeros after bits of which none are left
number-padded_nil : (n : ℕ) → number (padded n []) ≡ 0
number-padded_nil zero = refl
number-padded_nil (suc n) = let h = number-padded_nil n in omega (arith, h)

number-padded_more : (n k : ℕ) (xs : List Bool) → length xs ≤ n → number (padded (n + k) xs) ≡ number (padded n xs) * 2 ^ k
number-padded_more n k xs short =
    let d : drop n xs ≡ [] = drop_all n xs short in
    let len : length (padded k []) ≡ k = length-padded k [] in
    let zeros : number (padded k []) ≡ 0 = number-padded_nil k in
    let a : number (padded n xs ++ padded k []) ≡ number (padded n xs) * 2 ^ length (padded k []) + number (padded k []) = number-append (padded n xs) (padded k []) in
    let a' : number (padded n xs ++ padded k []) ≡ number (padded n xs) * 2 ^ k + 0 = rw (len, zeros) at a in
    ap (λ (u : List Bool). number u) (padded-add n k xs) ∙ ap (λ (u : List Bool). number (padded n xs ++ padded k u)) d ∙ a' ∙ omega arith

-- at most 64 bits, without the first of them
pub number-shifted : (xs : List Bool) (l : ℕ) → l ≤ 64 → length xs ≤ 64 → number (padded 64 xs) * 2 ^ l % 18446744073709551616 ≡ number (padded 64 (drop l xs))
number-shifted xs l fits few =
    let m : number (padded 64 xs) * 2 ^ 0 * 2 ^ l % 2 ^ 64 ≡ number (padded (64 - l) (drop l xs)) * 2 ^ (0 + l) = moved xs 0 l (64 - l) (omega arith) in
    let one : number (padded 64 xs) * 2 ^ 0 ≡ number (padded 64 xs) = omega arith in
    let z : 0 + l ≡ l = omega arith in
    let m' : number (padded 64 xs) * 2 ^ l % 2 ^ 64 ≡ number (padded (64 - l) (drop l xs)) * 2 ^ l = rw (one, z) at m in
    let short : length (drop l xs) ≤ 64 - l = let d = length-drop l xs in omega (arith, d, few) in
    let whole : 64 - l + l ≡ 64 = omega arith in
    let p : number (padded (64 - l + l) (drop l xs)) ≡ number (padded (64 - l) (drop l xs)) * 2 ^ l = number-padded_more (64 - l) l (drop l xs) short in
    m' ∙ sym p ∙ ap (λ (n : ℕ). number (padded n (drop l xs))) whole

-- ---- what the window decides

-- all 64 bits of the window: the bits that were read but not taken, then zeros
window_bits : List Bool → ℕ → List Bool
window_bits left e = padded (64 - e) left ++ replicate e false

window_bits-length : (left : List Bool) (e : ℕ) → e ≤ 64 → length (window_bits left e) ≡ 64
unfolding window_bits
window_bits-length left e h =
    let a : length (padded (64 - e) left) ≡ 64 - e = length-padded (64 - e) left in
    let b : length (replicate e false) ≡ e = length-replicate e false in
    let c : length (padded (64 - e) left ++ replicate e false) ≡ length (padded (64 - e) left) + length (replicate e false) = length-append (padded (64 - e) left) (replicate e false) in
    omega arith

window_bits-number : (bytes : List ℕ) (offset window e : ℕ) → IsWindow bytes offset window e → number (window_bits (drop offset (bits bytes)) e) ≡ window
unfolding window_bits
window_bits-number bytes offset window e r =
    let left : List Bool = drop offset (bits bytes) in
    let n : number (padded (64 - e) left ++ replicate e false) ≡ number (padded (64 - e) left) * 2 ^ length (replicate e false) + number (replicate e false) = number-append (padded (64 - e) left) (replicate e false) in
    let z : number (replicate e false) ≡ 0 = number-zeros e in
    let b : length (replicate e false) ≡ e = length-replicate e false in
    let n' : number (padded (64 - e) left ++ replicate e false) ≡ number (padded (64 - e) left) * 2 ^ e + 0 = rw (b, z) at n in
    let w : window ≡ number (padded (64 - e) left) * 2 ^ e = r.window_is in
    omega arith

window_bits-take : (left : List Bool) (e l : ℕ) → l + e ≤ 64 → l ≤ length left → take l (window_bits left e) ≡ take l left
unfolding window_bits
window_bits-take left e l room inside =
    let a : length (padded (64 - e) left) ≡ 64 - e = length-padded (64 - e) left in
    take-append-le l (padded (64 - e) left) (replicate e false) (omega arith) ∙ take-padded l (64 - e) left (omega arith) inside

module _ (code : CanonicalCode) (accepted : IsCode code) (bytes : List ℕ) (offset window e : ℕ) (r : IsWindow bytes offset window e) where
  -- the length at the first base that the window reaches
  least_of_window : (l : ℕ) → code.min_length ≤ l → l ≤ code.max_length → shifted_base code 64 l ≤ window →
      ((k : ℕ) → code.min_length ≤ k → k < l → window < shifted_base code 64 k) → IsLeastLength code (window_bits (drop offset (bits bytes)) e) l
  least_of_window l long short reaches before =
      let w : List Bool = window_bits (drop offset (bits bytes)) e in
      let n : length w ≡ 64 = window_bits-length (drop offset (bits bytes)) e r.short in
      let v : number w ≡ window = window_bits-number bytes offset window e r in
      let most : code.max_length ≤ 32 = accepted.lengths.at_most in
      record {
        long_enough = long;
        short_enough = short;
        inside = omega arith;
        reaches = shifted_base-reaches code w l (omega arith) (rw (n, v) reaches);
        before = λ k from less.
            elim (cases_lt (number (take k w)) (base code k)) [
              | inl below ↦ below
              | inr above ↦ absurd (
                  let s : shifted_base code (length w) k ≤ number w = reaches-shifted_base code w k (omega arith) above in
                  let s' : shifted_base code 64 k ≤ window = rw (n, v) at s in
                  let b : window < shifted_base code 64 k = before k from less in
                  omega arith
                  )
            ];
      }

  -- it is the least length of the bits left, if there are enough of them
  pub IsLeastLength-of_window : (l : ℕ) → l + e ≤ 64 → code.min_length ≤ l → l ≤ code.max_length → shifted_base code 64 l ≤ window →
      ((k : ℕ) → code.min_length ≤ k → k < l → window < shifted_base code 64 k) → l ≤ length (drop offset (bits bytes)) → IsLeastLength code (drop offset (bits bytes)) l
  IsLeastLength-of_window l room long short reaches before inside =
      let left : List Bool = drop offset (bits bytes) in
      least_length_of_window code (window_bits left e) left l (least_of_window l long short reaches before) inside (window_bits-take left e l (omega arith) inside)

  -- and if there are fewer, they reach no base
  pub ReachesNoBase-of_window : (l : ℕ) → l + e ≤ 64 → code.min_length ≤ l → l ≤ code.max_length → shifted_base code 64 l ≤ window →
      ((k : ℕ) → code.min_length ≤ k → k < l → window < shifted_base code 64 k) → length (drop offset (bits bytes)) < l → ReachesNoBase code (drop offset (bits bytes))
  ReachesNoBase-of_window l room long short reaches before past =
      let left : List Bool = drop offset (bits bytes) in
      no_base_of_window code (window_bits left e) left l (least_of_window l long short reaches before) past
      (window_bits-take left e (length left) (omega arith) (omega arith) ∙ take_all (length left) left (omega arith))

-- the number of the first bits left
pub number-of_window : (bytes : List ℕ) (offset window e l : ℕ) → IsWindow bytes offset window e → l + e ≤ 64 → l ≤ length (drop offset (bits bytes)) →
    window / 2 ^ (64 - l) ≡ number (take l (drop offset (bits bytes)))
number-of_window bytes offset window e l r room inside =
    let left : List Bool = drop offset (bits bytes) in
    let w : List Bool = window_bits left e in
    let n : length w ≡ 64 = window_bits-length left e r.short in
    let v : number w ≡ window = window_bits-number bytes offset window e r in
    let t : number (take l w) ≡ number w / 2 ^ (length w - l) = number-take l w (omega arith) in
    let t' : number (take l w) ≡ window / 2 ^ (64 - l) = rw (n, v) at t in
    sym t' ∙ ap (λ (u : List Bool). number u) (window_bits-take left e l room inside)

-- the bits left begin at the offset, and the window decides the length and the symbol of their first word
pub decided : (code : CanonicalCode) → IsCode code → (bytes : List ℕ) (offset window e : ℕ) → IsWindow bytes offset window e → (left : List Bool) → drop offset (bits bytes) ≡ left → (l : ℕ) → l + e ≤ 64 → code.min_length ≤ l → l ≤ code.max_length →
    shifted_base code 64 l ≤ window → ((k : ℕ) → code.min_length ≤ k → k < l → window < shifted_base code 64 k) → l ≤ length left →
    IsLeastLength code left l × (symbol_at code l (window / 2 ^ (64 - l)) ≡ symbol_of_prefix code left l)
decided code accepted bytes offset window e r left is l room long short reaches before inside =
    let inside' : l ≤ length (drop offset (bits bytes)) = rw is inside in
    let h = IsLeastLength-of_window code accepted bytes offset window e r l room long short reaches before inside' in
    let v = number-of_window bytes offset window e l r (omega arith) inside' in
    let s = symbol_of_prefix-is code (drop offset (bits bytes)) l (window / 2 ^ (64 - l)) v in
    (subst (λ (u : List Bool). IsLeastLength code u l) is h, s ∙ ap (λ (u : List Bool). symbol_of_prefix code u l) is)

-- ---- bytes

-- the number of a byte row's first bytes, shifted by the bits before an offset in the first byte
pub IsWindow-shifted : (bytes : List ℕ) (offset read : ℕ) → read ≡ number (padded 64 (drop (8 * (offset / 8)) (bits bytes))) →
    IsWindow bytes offset (read * 2 ^ (offset % 8) % 18446744073709551616) (offset % 8)
IsWindow-shifted bytes offset read read_is =
    let all : List Bool = bits bytes in
    let l : ℕ = offset % 8 in
    let xs : List Bool = drop (8 * (offset / 8)) all in
    let m : number (padded 64 xs) * 2 ^ 0 * 2 ^ l % 2 ^ 64 ≡ number (padded (64 - l) (drop l xs)) * 2 ^ (0 + l) = moved xs 0 l (64 - l) (omega arith) in
    let at : 8 * (offset / 8) + l ≡ offset = omega arith in
    let d : drop l xs ≡ drop offset all = drop-drop l (8 * (offset / 8)) all ∙ ap (λ (k : ℕ). drop k all) at in
    let z : 0 + l ≡ l = omega arith in
    let one : number (padded 64 xs) * 2 ^ 0 ≡ read = omega (arith, read_is) in
    let m' : read * 2 ^ l % 2 ^ 64 ≡ number (padded (64 - l) (drop offset all)) * 2 ^ l = rw (one, d, z) at m in
    record { short = omega arith; window_is = m' }

-- a window that holds no bits
pub HoldsBits-none : (bytes : List ℕ) (offset : ℕ) → HoldsBits bytes offset 0 0
HoldsBits-none bytes offset = record { spare = 64; room = omega arith; is_window = record { short = omega arith; window_is = refl } }

-- a window of eight bytes
pub HoldsBits-read : (bytes : List ℕ) (offset read : ℕ) → read ≡ number (padded 64 (drop (8 * (offset / 8)) (bits bytes))) →
    HoldsBits bytes offset (read * 2 ^ (offset % 8) % 18446744073709551616) 57
HoldsBits-read bytes offset read read_is = record { spare = offset % 8; room = omega arith; is_window = IsWindow-shifted bytes offset read read_is }

-- a window that holds fewer bits
pub HoldsBits-fewer : (bytes : List ℕ) (offset window held fewer : ℕ) → HoldsBits bytes offset window held → fewer ≤ held → HoldsBits bytes offset window fewer
HoldsBits-fewer bytes offset window held fewer h less = let room = h.room in record { spare = h.spare; room = omega (arith, room, less); is_window = h.is_window }

-- a window from a later offset on
pub HoldsBits-moved : (bytes : List ℕ) (offset window held l most : ℕ) → HoldsBits bytes offset window held → l ≤ most → most ≤ held →
    HoldsBits bytes (offset + l) (window * 2 ^ l % 18446744073709551616) (held - most)
HoldsBits-moved bytes offset window held l most h short enough =
    let all : List Bool = bits bytes in
    let e : ℕ = h.spare in
    let n : ℕ = 64 - (e + l) in
    let room : held + e ≤ 64 = h.room in
    let d : drop l (drop offset all) ≡ drop (offset + l) all = drop-drop l offset all in
    let m : number (padded (64 - e) (drop offset all)) * 2 ^ e * 2 ^ l % 2 ^ 64 ≡ number (padded n (drop l (drop offset all))) * 2 ^ (e + l) = moved (drop offset all) e l n (omega arith) in
    let w : window ≡ number (padded (64 - e) (drop offset all)) * 2 ^ e = h.is_window.window_is in
    record {
      spare = e + l;
      room = omega arith;
      is_window = record { short = omega arith; window_is = rw (← d, w) m };
    }

-- eight bytes that are read from a slice
pub number-read : (bytes : List ℕ) (at : ℕ) → ((k : ℕ) → get_or bytes k 0 < 256) → big_from 0 8 (take (length bytes - at) (drop at bytes)) ≡ number (padded 64 (drop (8 * at) (bits bytes)))
number-read bytes at fit =
    let ys : List ℕ = drop at bytes in
    let whole : take (length bytes - at) ys ≡ ys = take_all (length bytes - at) ys (let d = length-drop at bytes in omega (arith, d)) in
    let fit' : (k : ℕ) → get_or ys k 0 < 256 = λ k. let f = fit (at + k) in let g = get_or-drop at bytes k 0 in omega (arith, f, g) in
    ap (λ (u : List ℕ). big_from 0 8 u) whole ∙ sym (number-padded_bits 8 ys 0 fit') ∙ ap (λ (u : List Bool). number (padded 64 u)) (sym (drop-bits at bytes))

-- at most eight bytes up to the end, followed by zeros
pub number-read_short : (bytes : List ℕ) (at n : ℕ) → n + at ≡ length bytes → n ≤ 8 → ((k : ℕ) → get_or bytes k 0 < 256) →
    big_from 0 n (take (length bytes - at) (drop at bytes)) * 2 ^ (8 * (8 - n)) % 18446744073709551616 ≡ number (padded 64 (drop (8 * at) (bits bytes)))
number-read_short bytes at n end few fit =
    let ys : List ℕ = drop at bytes in
    let d : length ys ≡ length bytes - at = length-drop at bytes in
    let whole : take (length bytes - at) ys ≡ ys = take_all (length bytes - at) ys (omega (arith, d)) in
    let fit' : (k : ℕ) → get_or ys k 0 < 256 = λ k. let f = fit (at + k) in let g = get_or-drop at bytes k 0 in omega (arith, f, g) in
    let b : length (bits ys) ≡ 8 * length ys = length-bits ys in
    let all : 8 * n + 8 * (8 - n) ≡ 64 = omega (arith, few) in
    let more : number (padded (8 * n + 8 * (8 - n)) (bits ys)) ≡ number (padded (8 * n) (bits ys)) * 2 ^ (8 * (8 - n)) = number-padded_more (8 * n) (8 * (8 - n)) (bits ys) (omega (arith, b, d, end)) in
    let is : number (padded 64 (bits ys)) ≡ big_from 0 n ys * 2 ^ (8 * (8 - n)) =
    ap (λ (k : ℕ). number (padded k (bits ys))) (sym all) ∙ more ∙ ap (λ (m : ℕ). m * 2 ^ (8 * (8 - n))) (number-padded_bits n ys 0 fit') in
    let below : number (padded 64 (bits ys)) < 2 ^ 64 = rw (length-padded 64 (bits ys)) at (number-below (padded 64 (bits ys))) in
    ap (λ (u : List ℕ). big_from 0 n u * 2 ^ (8 * (8 - n)) % 18446744073709551616) whole ∙ ap (λ (m : ℕ). m % 18446744073709551616) (sym is)
    ∙ mod-small (number (padded 64 (bits ys))) 18446744073709551616 below ∙ ap (λ (u : List Bool). number (padded 64 u)) (sym (drop-bits at bytes))
