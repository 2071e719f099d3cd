-- What a window decides of the bits left, whether or not they begin with a word.
use Rattle.std.proofs.Common.{ℕ, Bool, ◌≡◌, ◌+◌, ◌-◌, ◌/◌, ◌^◌, ◌<◌, ◌≤◌, inl, inr, List, ◌++◌, length, take, drop, subst, ap, sym, ◌∙◌, arith}
use Rattle.std.proofs.lemmas.Bool.{cases_lt}
use Rattle.std.proofs.lemmas.List.{drop-drop}
use Rattle.std.proofs.Math.Seq.{take-add}
use Rattle.szg_code.specs.Bits.{bits}
use Rattle.szg_code.specs.Canonical.{CanonicalCode, symbol_at}
use Rattle.szg_code.specs.Acceptance.{IsCode}
use Rattle.szg_code.specs.Cursor.{Cursor, TakesWord}
use Rattle.szg_code.specs.Spelling.{BeginsWithNoWord}
use Rattle.szg_code.specs.Least.{shifted_base, symbol_of_prefix}
use Rattle.szg_code.specs.Window.{IsWindow}
use Rattle.szg_code.proofs.Prefixes.{TakesWord-of_prefix}
use Rattle.szg_code.proofs.Reading.{no_word_below_bases, no_word_without_symbol}
use Rattle.szg_code.proofs.Windows.{ReachesNoBase-of_window, decided}

-- no word begins no bits
pub no_word_of_nothing : (code : CanonicalCode) → IsCode code → (left : List Bool) → length left ≡ 0 → BeginsWithNoWord code left
no_word_of_nothing code accepted left none =
    let some : 1 ≤ code.min_length = accepted.lengths.some_bits in
    no_word_below_bases code accepted left (λ k from short inside. absurd (omega (arith, from, inside, none, some)))

module _ (code : CanonicalCode) (accepted : IsCode code) (bytes : List ℕ) (offset window e : ℕ) (r : IsWindow bytes offset window e) (old : Cursor) (is : drop offset (bits bytes) ≡ old.left) (l : ℕ) (room : l + e ≤ 64) (long : code.min_length ≤ l) (short : l ≤ code.max_length) (reaches : shifted_base code 64 l ≤ window) (before : (k : ℕ) → code.min_length ≤ k → k < l → window < shifted_base code 64 k) where
  -- the bits end before the word does
  pub no_word_past : length old.left < l → BeginsWithNoWord code old.left
  no_word_past past =
      let n : length (drop offset (bits bytes)) ≡ length old.left = ap (λ (u : List Bool). length u) is in
      subst (λ (u : List Bool). BeginsWithNoWord code u) is (no_word_below_bases code accepted (drop offset (bits bytes)) (ReachesNoBase-of_window code accepted bytes offset window e r l room long short reaches before (omega (arith, past, n))))

  -- the symbol does not exist
  pub no_word_without : code.symbols ≤ symbol_at code l (window / 2 ^ (64 - l)) → BeginsWithNoWord code old.left
  no_word_without none =
      elim (cases_lt (length old.left) l) [
        | inl past ↦ no_word_past past
        | inr fits ↦
            let d = decided code accepted bytes offset window e r old.left is l room long short reaches before fits in
            no_word_without_symbol code accepted old.left l d.0 (omega (arith, none, d.1))
      ]

  -- the word is within the bits, and its symbol exists
  pub takes_word : (new : Cursor) (s : ℕ) → l ≤ length old.left → s ≡ symbol_at code l (window / 2 ^ (64 - l)) → s < code.symbols → take offset (bits bytes) ≡ old.taken →
      new.taken ≡ take (offset + l) (bits bytes) → new.left ≡ drop (offset + l) (bits bytes) → TakesWord code old new s
  takes_word new s fits s_is there was taken left =
      let d = decided code accepted bytes offset window e r old.left is l room long short reaches before fits in
      let same : s ≡ symbol_of_prefix code old.left l = s_is ∙ d.1 in
      let taken' : new.taken ≡ old.taken ++ take l old.left = taken ∙ take-add offset l (bits bytes) ∙ ap (λ (u : List Bool). u ++ take l (drop offset (bits bytes))) was ∙ ap (λ (u : List Bool). old.taken ++ take l u) is in
      let left' : new.left ≡ drop l old.left = left ∙ sym (drop-drop l offset (bits bytes)) ∙ ap (λ (u : List Bool). drop l u) is in
      subst (λ (n : ℕ). TakesWord code old new n) (sym same) (TakesWord-of_prefix code accepted old new l d.0 (omega (arith, same, there)) taken' left')
