-- The first two words of a byte, and of the bits that begin with it.
use Rattle.std.proofs.Common.{ℕ, Bool, ◌≡◌, ◌≢◌, ◌+◌, ◌-◌, ◌/◌, ◌^◌, ◌<◌, ◌≤◌, inl, inr, List, [], ◌∷◌, ◌++◌, length, take, drop, replicate, set, get_or, refl, ap, sym, ◌∙◌, subst, arith, length-append, append-nil}
use Rattle.std.proofs.lemmas.Bool.{cases_lt}
use Rattle.std.proofs.Math.Seq.{take-length}
use Rattle.std.proofs.lemmas.Nat.{shr-shr}
use Rattle.std.proofs.lemmas.List.{append_assoc, take-append-drop, take_at, take-take, get_or-replicate, get_or_past, get_or-set_other, length-take-le, length-drop}
use Rattle.std.proofs.lemmas.Grind.{get_or-set_at}
use Rattle.szg_code.specs.Bits.{bits, bits_of_number, number}
use Rattle.szg_code.specs.Acceptance.{IsCode}
use Rattle.szg_code.specs.Canonical.{CanonicalCode}
use Rattle.szg_code.specs.Cursor.{Cursor, TakesWord}
use Rattle.szg_code.specs.Spelling.{BeginsWithOneAtMost, BeginsWithWord}
use Rattle.szg_code.specs.Window.{IsWindow}
use Rattle.szg_code.specs.TwoWords.{BeginsWithTwoWords, ContainsTwoWords, HasTwoWords, words_at}
use Rattle.szg_code.specs.declared.two_words.TwoWords.{TwoWords}
use Rattle.szg_code.proofs.Numbers.{length-bits_of_number, number-bits_of_number, number-injective, mod-small}
use Rattle.szg_code.proofs.ByteBits.{bits-cons, bits-nil}
use Rattle.szg_code.proofs.Reading.{number-take}
use Rattle.szg_code.proofs.Spelled.{BeginsWithWord-unique}
use Rattle.szg_code.proofs.Windows.{number-of_window}

-- ---- the words of a byte

bits_of_byte : (byte : ℕ) → bits (byte ∷ []) ≡ bits_of_number 8 byte
bits_of_byte byte = bits-cons byte [] ∙ ap (λ (u : List Bool). bits_of_number 8 byte ++ u) bits-nil ∙ append-nil (bits_of_number 8 byte)

-- a reader over one byte that has moved past two words
pub begins_with_taken : (code : CanonicalCode) (byte : ℕ) (words : TwoWords) (start middle end : Cursor) → start.taken ≡ [] → start.left ≡ bits (byte ∷ []) →
    TakesWord code start middle words.first → TakesWord code middle end words.second → words.bits ≡ length end.taken → BeginsWithTwoWords code byte words
begins_with_taken code byte words start middle end none all first second count =
    let w : List Bool = first.word in
    let v : List Bool = second.word in
    let taken : end.taken ≡ w ++ v = second.taken ∙ ap (λ (u : List Bool). u ++ v) (first.taken ∙ ap (λ (u : List Bool). u ++ w) none) in
    let whole : bits_of_number 8 byte ≡ (w ++ v) ++ end.left =
    sym (bits_of_byte byte) ∙ sym all ∙ first.left ∙ ap (λ (u : List Bool). w ++ u) second.left ∙ sym (append_assoc w v end.left) in
    let n : words.bits ≡ length (w ++ v) = count ∙ ap (λ (u : List Bool). length u) taken in
    let eight : length (bits_of_number 8 byte) ≡ 8 = length-bits_of_number 8 byte in
    let more : length (bits_of_number 8 byte) ≡ length (w ++ v) + length end.left = ap (λ (u : List Bool). length u) whole ∙ length-append (w ++ v) end.left in
    record {
      first_word = w;
      second_word = v;
      is_first = first.is_one;
      is_second = second.is_one;
      inside = omega (arith, n, eight, more);
      joined = ap (λ (u : List Bool). take words.bits u) whole ∙ take_at (w ++ v) end.left words.bits (sym n);
    }

-- ---- the list of them

pub none_by_byte : (code : CanonicalCode) → HasTwoWords code (replicate 256 0) (replicate 256 0) (replicate 256 0)
none_by_byte code byte some =
    let zero : ℕ = 0 in
    let none : get_or (replicate 256 zero) byte zero ≡ zero =
    elim (cases_lt byte 256) [
      | inl inside ↦ get_or-replicate 256 byte zero zero inside
      | inr outside ↦ get_or_past (replicate 256 zero) byte zero (omega arith)
    ] in
    absurd (omega (arith, some, none))

abbrev words_of : ℕ → ℕ → ℕ → TwoWords
words_of a b c = record { first = a; second = b; bits = c }

same_words : (a b c x y z : ℕ) → a ≡ x → b ≡ y → c ≡ z → words_of a b c ≡ words_of x y z
same_words a b c x y z p q r = cc

pub one_more_byte : (code : CanonicalCode) (bits first second : List ℕ) (byte : ℕ) (words : TwoWords) → byte < length bits → byte < length first → byte < length second →
    HasTwoWords code bits first second → ContainsTwoWords code byte words → HasTwoWords code (set bits byte words.bits) (set first byte words.first) (set second byte words.second)
one_more_byte code bits first second byte words in_bits in_first in_second has here k =
    let other : k ≢ byte → ContainsTwoWords code k (words_at (set bits byte words.bits) (set first byte words.first) (set second byte words.second) k) =
    λ apart.
    let e = same_words _ _ _ _ _ _ (get_or-set_other first byte k words.first 0 apart) (get_or-set_other second byte k words.second 0 apart) (get_or-set_other bits byte k words.bits 0 apart) in
    subst (ContainsTwoWords code k) (sym e) (has k) in
    elim (cases_lt k byte) [
      | inl before ↦ other (omega arith)
      | inr later ↦ elim (cases_lt byte k) [
        | inl after ↦ other (omega arith)
        | inr at ↦
            let same : k ≡ byte = omega arith in
            let e = same_words _ _ _ _ _ _ (get_or-set_at first byte k words.first 0 same in_first) (get_or-set_at second byte k words.second 0 same in_second) (get_or-set_at bits byte k words.bits 0 same in_bits) in
            subst (ContainsTwoWords code k) (sym e) (subst (λ (n : ℕ). ContainsTwoWords code n words) (sym same) here)
      ]
    ]

-- ---- a reader whose window begins with that byte

module _ (code : CanonicalCode) (bytes : List ℕ) (offset window spare : ℕ) (r : IsWindow bytes offset window spare) (room : 8 + spare ≤ 64) (fits : window < 2 ^ 64) where
  same_bits : (n : ℕ) → n ≤ 8 → n ≤ length (drop offset (bits bytes)) → take n (drop offset (bits bytes)) ≡ take n (bits_of_number 8 (window / 2 ^ 56))
  same_bits n short inside =
      let left : List Bool = drop offset (bits bytes) in
      let byte : ℕ = window / 2 ^ 56 in
      let low : byte < 256 = omega (arith, fits) in
      let eight : length (bits_of_number 8 byte) ≡ 8 = length-bits_of_number 8 byte in
      let value : number (bits_of_number 8 byte) ≡ byte = number-bits_of_number 8 byte ∙ mod-small byte 256 low in
      let t : number (take n (bits_of_number 8 byte)) ≡ number (bits_of_number 8 byte) / 2 ^ (length (bits_of_number 8 byte) - n) = number-take n (bits_of_number 8 byte) (omega arith) in
      let t' : number (take n (bits_of_number 8 byte)) ≡ byte / 2 ^ (8 - n) = rw (eight, value) at t in
      let s : byte / 2 ^ (8 - n) ≡ window / 2 ^ (56 + (8 - n)) = shr-shr window 56 (8 - n) in
      let e : 56 + (8 - n) ≡ 64 - n = omega arith in
      let v : window / 2 ^ (64 - n) ≡ number (take n left) = number-of_window bytes offset window spare n r (omega arith) inside in
      let long : length (take n left) ≡ n = length-take-le n left inside in
      let long' : length (take n (bits_of_number 8 byte)) ≡ n = length-take-le n (bits_of_number 8 byte) (omega arith) in
      number-injective (take n left) (take n (bits_of_number 8 byte)) (long ∙ sym long') (sym v ∙ ap (λ (k : ℕ). window / 2 ^ k) (sym e) ∙ sym s ∙ sym t')

  pub takes_two : (words : TwoWords) (old new : Cursor) → BeginsWithTwoWords code (window / 2 ^ 56) words → drop offset (bits bytes) ≡ old.left → words.bits ≤ length old.left →
      new.taken ≡ old.taken ++ take words.bits old.left → new.left ≡ drop words.bits old.left → (middle : Cursor) × TakesWord code old middle words.first × TakesWord code middle new words.second
  takes_two words old new h is inside taken left =
      let w : List Bool = h.first_word in
      let v : List Bool = h.second_word in
      let inside' : words.bits ≤ length (drop offset (bits bytes)) = subst (λ (u : List Bool). words.bits ≤ length u) (sym is) inside in
      let both : take words.bits old.left ≡ w ++ v = ap (λ (u : List Bool). take words.bits u) (sym is) ∙ same_bits words.bits h.inside inside' ∙ h.joined in
      let whole : old.left ≡ w ++ (v ++ new.left) =
      sym (take-append-drop words.bits old.left) ∙ ap (λ (u : List Bool). u ++ drop words.bits old.left) both ∙ ap (λ (u : List Bool). (w ++ v) ++ u) (sym left) ∙ append_assoc w v new.left in (
        record { taken = old.taken ++ w; left = v ++ new.left },
        record { word = w; is_one = h.is_first; taken = refl; left = whole },
        record { word = v; is_one = h.is_second; taken = taken ∙ ap (λ (u : List Bool). old.taken ++ u) both ∙ sym (append_assoc old.taken w v); left = refl },
      )

  -- the bits end before the second word does
  pub one_at_most : IsCode code → (words : TwoWords) (left : List Bool) → BeginsWithTwoWords code (window / 2 ^ 56) words → drop offset (bits bytes) ≡ left → length left < words.bits → BeginsWithOneAtMost code left words.first
  one_at_most accepted words left h is past s rest begins =
      let w : List Bool = h.first_word in
      let v : List Bool = h.second_word in
      let byte : List Bool = bits_of_number 8 (window / 2 ^ 56) in
      let n : ℕ = length left in
      let d : List Bool = drop n (w ++ v) in
      let eight : length byte ≡ 8 = length-bits_of_number 8 (window / 2 ^ 56) in
      let long : length (w ++ v) ≡ words.bits = ap (λ (u : List Bool). length u) (sym h.joined) ∙ length-take-le words.bits byte (omega (arith, eight, h.inside)) in
      let some : length d ≡ words.bits - n = length-drop n (w ++ v) ∙ ap (λ (k : ℕ). k - n) long in
      let inside : n ≤ length (drop offset (bits bytes)) = let e = ap (λ (u : List Bool). length u) is in omega (arith, e) in
      let same : take n left ≡ take n byte = subst (λ (u : List Bool). take n u ≡ take n byte) is (same_bits n (omega (arith, past, h.inside)) inside) in
      let begin : left ≡ take n (w ++ v) = sym (take-length left) ∙ same ∙ sym (take-take n words.bits byte (omega (arith, past))) ∙ ap (λ (u : List Bool). take n u) h.joined in
      let whole : w ++ v ≡ left ++ d = sym (take-append-drop n (w ++ v)) ∙ ap (λ (u : List Bool). u ++ d) (sym begin) in
      let a : BeginsWithWord code (w ++ v) words.first v = record { word = w; is_one = h.is_first; joined = refl } in
      let b : BeginsWithWord code (w ++ v) s (rest ++ d) = record { word = begins.word; is_one = begins.is_one; joined = whole ∙ ap (λ (u : List Bool). u ++ d) begins.joined ∙ append_assoc begins.word rest d } in
      let first : (s ≡ words.first) × (rest ++ d ≡ v) = BeginsWithWord-unique code accepted (w ++ v) s words.first (rest ++ d) v b a in (
        first.0,
        λ t r next.
            let e : BeginsWithWord code v words.second [] = record { word = v; is_one = h.is_second; joined = sym (append-nil v) } in
            let f : BeginsWithWord code v t (r ++ d) = record { word = next.word; is_one = next.is_one; joined = sym first.1 ∙ ap (λ (u : List Bool). u ++ d) next.joined ∙ append_assoc next.word r d } in
            let second : (t ≡ words.second) × (r ++ d ≡ []) = BeginsWithWord-unique code accepted v t words.second (r ++ d) [] f e in
            let none : length (r ++ d) ≡ 0 = ap (λ (u : List Bool). length u) second.1 in
            let sum : length (r ++ d) ≡ length r + length d = length-append r d in
            omega (arith, none, sum, some, past),
      )
