-- When no word is without a symbol, and what a window's first number is below.
use Rattle.std.proofs.Common.{ℕ, suc, ◌≡◌, ◌+◌, ◌-◌, ◌*◌, ◌/◌, ◌^◌, ◌<◌, ◌≤◌, inl, inr, arith}
use Rattle.std.proofs.lemmas.Bool.{cases_lt}
use Rattle.std.proofs.lemmas.Nat.{pow-add, shr_below}
use Rattle.std.proofs.Math.Nat.{mul-le-mul_right, le-div_iff_mul-le}
use Rattle.std.proofs.Math.Pow.{pow_pos}
use Rattle.szg_code.specs.Acceptance.{IsCode}
use Rattle.szg_code.specs.Canonical.{CanonicalCode, base, lowest_of, symbol_at, top}
use Rattle.szg_code.specs.Least.{HasAllSymbols, shifted_base}
use Rattle.szg_code.proofs.Numbers.{double}
use Rattle.szg_code.proofs.Words.{base-step, half_of, lowest-spread, lowest-step, top-least, top-step}

module _ (code : CanonicalCode) (accepted : IsCode code) where
  -- the greatest window reaches the base of the least length
  pub reached_last : shifted_base code 64 code.min_length ≤ 2 ^ 64 - 1
  unfolding shifted_base
  reached_last =
      let order = accepted.lengths.in_order in
      let most = accepted.lengths.at_most in
      let p : 2 ^ (code.min_length + (64 - code.min_length)) ≡ 2 ^ code.min_length * 2 ^ (64 - code.min_length) = pow-add 2 code.min_length (64 - code.min_length) in
      let e : code.min_length + (64 - code.min_length) ≡ 64 = omega (arith, order, most) in
      let q : 2 ^ 64 ≡ 2 ^ code.min_length * 2 ^ (64 - code.min_length) = rw e at p in
      let some = pow_pos (64 - code.min_length) in
      let m : suc (base code code.min_length) * 2 ^ (64 - code.min_length) ≤ 2 ^ code.min_length * 2 ^ (64 - code.min_length) = mul-le-mul_right (2 ^ (64 - code.min_length)) accepted.least in
      omega (arith, q, some, m)

  -- each number of the least length is at most the one that begins the greatest window
  pub number_at_most : (v : ℕ) → v < 2 ^ code.min_length → v ≤ (2 ^ 64 - 1) / 2 ^ (64 - code.min_length)
  number_at_most v below =
      let order = accepted.lengths.in_order in
      let most = accepted.lengths.at_most in
      let p : 2 ^ (code.min_length + (64 - code.min_length)) ≡ 2 ^ code.min_length * 2 ^ (64 - code.min_length) = pow-add 2 code.min_length (64 - code.min_length) in
      let e : code.min_length + (64 - code.min_length) ≡ 64 = omega (arith, order, most) in
      let q : 2 ^ 64 ≡ 2 ^ code.min_length * 2 ^ (64 - code.min_length) = rw e at p in
      let some = pow_pos (64 - code.min_length) in
      let m : suc v * 2 ^ (64 - code.min_length) ≤ 2 ^ code.min_length * 2 ^ (64 - code.min_length) = mul-le-mul_right (2 ^ (64 - code.min_length)) below in
      (le-div_iff_mul-le {k = 2 ^ (64 - code.min_length)} {x = v} {y = 2 ^ 64 - 1} some).1 (omega (arith, q, some, m))

  -- no word is without a symbol if the symbol of a number exists that is at least each number of the least length
  pub all_symbols : (last : ℕ) → ((v : ℕ) → v < 2 ^ code.min_length → v ≤ last) → symbol_at code code.min_length last < code.symbols → HasAllSymbols code
  unfolding symbol_at
  all_symbols last most there l v long short below =
      let order = accepted.lengths.in_order in
      let fits : base code code.min_length < 2 ^ code.min_length = accepted.least in
      let covered : base code code.min_length ≤ last = most (base code code.min_length) fits in
      elim (cases_lt code.min_length l) [
        | inr no_longer ↦
            let e : l ≡ code.min_length = omega (arith, no_longer, long) in
            let t : top code code.min_length ≡ 2 ^ code.min_length = top-least code code.min_length (omega arith) in
            let below' : v < top code code.min_length = rw e at below in
            let at_most = most v (omega (arith, t, below')) in
            rw e (omega (arith, there, at_most))
        | inl longer ↦
            let t : top code l ≡ 2 * base code (l - 1) = top-step code l longer in
            let s : base code (l - 1) ≡ (base code (l - 1 + 1) + lowest_of code (l - 1) - lowest_of code (l - 1 + 1)) / 2 = base-step code (l - 1) (omega (arith, longer, short)) in
            let falls : lowest_of code (l - 1 + 1) ≤ lowest_of code (l - 1) = lowest-step code accepted (l - 1) (omega (arith, longer)) (omega (arith, longer, short)) in
            let e : l - 1 + 1 ≡ l = omega (arith, longer) in
            let s' : base code (l - 1) ≡ (base code l + lowest_of code (l - 1) - lowest_of code l) / 2 = rw e at s in
            let falls' : lowest_of code l ≤ lowest_of code (l - 1) = rw e at falls in
            let half = half_of (base code (l - 1)) (base code l) (lowest_of code (l - 1)) (lowest_of code l) s' falls' in
            let d : code.min_length + (l - 1 - code.min_length) ≡ l - 1 = omega (arith, longer) in
            let least : lowest_of code (code.min_length + (l - 1 - code.min_length)) ≤ lowest_of code code.min_length = lowest-spread code accepted code.min_length (l - 1 - code.min_length) (omega arith) (omega (arith, longer, short)) in
            let least' : lowest_of code (l - 1) ≤ lowest_of code code.min_length = rw d at least in
            omega (arith, t, below, half, falls', least', there, covered)
      ]

  -- the first number of a window is below the end of the least length whose base it reaches
  pub number_below_top : (l window : ℕ) → window < 2 ^ 64 → code.min_length ≤ l → l ≤ code.max_length → ((k : ℕ) → code.min_length ≤ k → k < l → window < shifted_base code 64 k) → window / 2 ^ (64 - l) < top code l
  unfolding shifted_base
  number_below_top l window fits long short before =
      let most = accepted.lengths.at_most in
      elim (cases_lt code.min_length l) [
        | inr no_longer ↦
            let t : top code l ≡ 2 ^ l = top-least code l (omega (arith, no_longer, long)) in
            let e : l + (64 - l) ≡ 64 = omega (arith, short, most) in
            rw t (shr_below window l (64 - l) (rw e fits))
        | inl longer ↦
            let t : top code l ≡ 2 * base code (l - 1) = top-step code l longer in
            let b : window < base code (l - 1) * 2 ^ (64 - (l - 1)) = before (l - 1) (omega (arith, longer)) (omega (arith, longer)) in
            let e : 64 - (l - 1) ≡ suc (64 - l) = omega (arith, longer, short, most) in
            let p : 2 ^ suc (64 - l) ≡ 2 * 2 ^ (64 - l) = double (64 - l) in
            let b' : window < base code (l - 1) * (2 * 2 ^ (64 - l)) = rw p at (rw e at b) in
            elim (cases_lt (window / 2 ^ (64 - l)) (2 * base code (l - 1))) [
              | inl below ↦ rw t below
              | inr above ↦
                  let m = (le-div_iff_mul-le {k = 2 ^ (64 - l)} {x = 2 * base code (l - 1)} {y = window} (pow_pos (64 - l))).0 above in
                  absurd (omega (arith, m, b'))
            ]
      ]
