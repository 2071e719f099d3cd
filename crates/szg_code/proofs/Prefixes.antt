-- What the words of a length, and the leading bits, say about a code's symbols.
use Rattle.std.proofs.Common.{ℕ, Bool, ◌≡◌, ◌+◌, ◌-◌, ◌/◌, ◌%◌, ◌^◌, ◌<◌, ◌≤◌, inl, inr, List, ◌++◌, length, get_or, take, drop, refl, ap, sym, ◌∙◌, arith}
use Rattle.std.proofs.lemmas.Bool.{cases_lt}
use Rattle.std.proofs.lemmas.Nat.{shl-shr, pow_pos}
use Rattle.std.proofs.Math.Nat.{zero-mul, pow-le-pow_right, le-div_iff_mul-le}
use Rattle.std.proofs.lemmas.List.{append_cancel_right, take-append-drop}
use Rattle.szg_code.specs.Bits.{bits_of_number, number}
use Rattle.szg_code.specs.Canonical.{CanonicalCode, IsWord, base, top, lowest_of, symbol_at}
use Rattle.szg_code.specs.Acceptance.{IsCode}
use Rattle.szg_code.specs.Cursor.{Cursor, TakesWord}
use Rattle.szg_code.specs.Least.{IsLeastLength, symbol_of_prefix, shifted_base, zero_symbol}
use Rattle.szg_code.proofs.Numbers.{length-bits_of_number, number-bits_of_number, mod-small}
use Rattle.szg_code.proofs.Reading.{word_of_least_length}
use Rattle.szg_code.proofs.Spelled.{top-fits}
use Rattle.szg_code.proofs.Words.{base-max}

module _ (code : CanonicalCode) where
  pub symbol_of_prefix-is : (xs : List Bool) (l n : ℕ) → n ≡ number (take l xs) → symbol_at code l n ≡ symbol_of_prefix code xs l
  unfolding symbol_of_prefix
  symbol_of_prefix-is xs l n e = ap (λ (m : ℕ). symbol_at code l m) e

  -- a word of that length has a number in the range
  pub number-of_IsWord : (j s : ℕ) (word : List Bool) → length word ≡ code.min_length + j → IsWord code word s →
      (get_or code.lowest j 0 ≤ s) × (base code (code.min_length + j) + (s - get_or code.lowest j 0) < top code (code.min_length + j))
  unfolding symbol_at lowest_of
  number-of_IsWord j s word long w =
      let l : ℕ = code.min_length + j in
      let from : base code l ≤ number word = rw long at w.from_base in
      let below : number word < top code l = rw long at w.below_top in
      let is : s ≡ get_or code.lowest (length word - code.min_length) 0 + number word - base code (length word) = w.symbol_is in
      let index_is : l - code.min_length ≡ j = omega arith in
      let is' : s ≡ get_or code.lowest j 0 + number word - base code l = rw (long, index_is) at is in
      (omega arith, omega arith)

  -- a window at or above a shifted base: its leading bits are a number at or above the base
  pub reaches_base : (l window : ℕ) → shifted_base code 64 l ≤ window → base code l ≤ window / 2 ^ (64 - l)
  unfolding shifted_base
  reaches_base l window reaches = (le-div_iff_mul-le {k = 2 ^ (64 - l)} {x = base code l} {y = window} (pow_pos (64 - l))).1 reaches

  -- the symbol of a number, from the symbol that the number 0 would have
  pub zero_symbol-add : (l v : ℕ) → lowest_of code l < 2 ^ 16 → base code l ≤ v → v < 2 ^ 32 → (zero_symbol code l + v) % 18446744073709551616 ≡ symbol_at code l v
  unfolding zero_symbol symbol_at
  zero_symbol-add l v small reaches fits = omega (arith, small, reaches, fits)

  -- from the lowest symbol of a length, and its base
  pub zero_symbol-is : (l low b : ℕ) → low ≡ get_or code.lowest (l - code.min_length) 0 → low < 2 ^ 16 → b ≡ base code l → (lowest_of code l < 2 ^ 16) × ((low + (18446744073709551616 - b)) % 18446744073709551616 ≡ zero_symbol code l)
  unfolding zero_symbol lowest_of
  zero_symbol-is l low b low_is small b_is = (omega (arith, low_is, small), rw (low_is, b_is) refl)

  -- the base of the greatest length is 0
  pub shifted_max : shifted_base code 64 code.max_length ≡ 0
  unfolding shifted_base
  shifted_max = let e : base code code.max_length ≡ 0 = base-max code in rw e (zero-mul (2 ^ (64 - code.max_length)))

  -- below the shifted bases up to a length, a window may reach the base of a greater length
  pub next_length : (window l : ℕ) → l ≤ code.max_length → window < shifted_base code 64 l → ((k : ℕ) → code.min_length ≤ k → k < l → window < shifted_base code 64 k) →
      (l + 1 ≤ code.max_length) × ((k : ℕ) → code.min_length ≤ k → k < l + 1 → window < shifted_base code 64 k)
  next_length window l short below before = (
    elim (cases_lt l code.max_length) [
      | inl less ↦ omega (arith, less)
      | inr last ↦ let here : l ≡ code.max_length = omega (arith, short, last) in absurd (let z = shifted_max in let b : window < shifted_base code 64 code.max_length = rw here at below in omega (arith, z, b))
    ],
    λ k long less.
        elim (cases_lt k l) [
          | inl earlier ↦ before k long earlier
          | inr no_earlier ↦ let here : k ≡ l = omega (arith, less, no_earlier) in rw here below
        ],
  )

  pub shifted_back : (l : ℕ) → shifted_base code 64 l / 2 ^ (64 - l) ≡ base code l
  unfolding shifted_base
  shifted_back l = shl-shr (base code l) (64 - l)

module _ (code : CanonicalCode) (accepted : IsCode code) where
  -- numbers have at most 32 bits
  pub number_fits : (j : ℕ) → j < length code.lowest → top code (code.min_length + j) ≤ 2 ^ 32
  number_fits j inside =
      let l : ℕ = code.min_length + j in
      let each : length code.lowest + code.min_length ≡ code.max_length + 1 = accepted.lengths.each in
      let most : code.max_length ≤ 32 = accepted.lengths.at_most in
      let fits : top code l ≤ 2 ^ l = top-fits code accepted l (omega arith) (omega arith) in
      let p : 2 ^ l ≤ 2 ^ 32 = pow-le-pow_right {n = 2} (omega arith) {i = l} {j = 32} (omega arith) in
      omega (arith, fits, p)

  -- a number in the right range is the word of its symbol
  pub IsWord-of_number : (j s low v : ℕ) → j < length code.lowest → s < code.symbols → low ≡ get_or code.lowest j 0 → low ≤ s →
      v ≡ base code (code.min_length + j) + (s - low) → v < top code (code.min_length + j) → (v < 2 ^ (code.min_length + j)) × IsWord code (bits_of_number (code.min_length + j) v) s
  unfolding symbol_at lowest_of
  IsWord-of_number j s low v inside there low_is from v_is below =
      let l : ℕ = code.min_length + j in
      let each : length code.lowest + code.min_length ≡ code.max_length + 1 = accepted.lengths.each in
      let fits : top code l ≤ 2 ^ l = top-fits code accepted l (omega arith) (omega arith) in
      let long : length (bits_of_number l v) ≡ l = length-bits_of_number l v in
      let value : number (bits_of_number l v) ≡ v = number-bits_of_number l v ∙ mod-small v (2 ^ l) (omega arith) in
      let index_is : l - code.min_length ≡ j = omega arith in (
        omega arith,
        record {
          long_enough = omega arith;
          short_enough = omega arith;
          from_base = rw (long, value) (omega arith);
          below_top = rw (long, value) below;
          symbol_is = rw (long, value, index_is) (omega arith);
          symbol_there = there;
        },
      )

  -- the reader moves past the word that begins the bits left
  pub TakesWord-of_prefix : (old new : Cursor) (l : ℕ) → IsLeastLength code old.left l → symbol_of_prefix code old.left l < code.symbols →
      new.taken ≡ old.taken ++ take l old.left → new.left ≡ drop l old.left → TakesWord code old new (symbol_of_prefix code old.left l)
  TakesWord-of_prefix old new l least there taken left =
      let b = word_of_least_length code accepted old.left l least there in
      let split : take l old.left ++ drop l old.left ≡ old.left = take-append-drop l old.left in
      let word : take l old.left ≡ b.word = append_cancel_right (take l old.left) b.word (drop l old.left) (split ∙ b.joined) in
      record {
        word = b.word;
        is_one = b.is_one;
        taken = taken ∙ ap (λ (u : List Bool). old.taken ++ u) word;
        left = b.joined ∙ ap (λ (u : List Bool). b.word ++ u) (sym left);
      }
