-- The first two words of a byte.
use Rattle.std.specs.Prelude.{ℕ, Bool, ◌≡◌, ◌<◌, ◌≤◌, List, ◌++◌, take, get_or}
use Rattle.szg_code.specs.Bits.{bits_of_number}
use Rattle.szg_code.specs.Canonical.{CanonicalCode, IsWord}
use Rattle.szg_code.specs.declared.two_words.TwoWords.{TwoWords}

-- the first bits of the byte, as many as `words` says, are two words of its symbols
pub record BeginsWithTwoWords (code : CanonicalCode) (byte : ℕ) (words : TwoWords) : Type 0 where
  pub first_word : List Bool
  pub second_word : List Bool
  pub is_first : IsWord code first_word words.first
  pub is_second : IsWord code second_word words.second
  pub inside : words.bits ≤ 8
  pub joined : take words.bits (bits_of_number 8 byte) ≡ first_word ++ second_word

-- `words` has no bits, or the byte begins with them
abbrev pub ContainsTwoWords : CanonicalCode → ℕ → TwoWords → Type 0
ContainsTwoWords code byte words = 0 < words.bits → BeginsWithTwoWords code byte words

-- what the three lists have for a byte; past their end, no words
abbrev pub words_at : List ℕ → List ℕ → List ℕ → ℕ → TwoWords
words_at bits first second byte = record { first = get_or first byte 0; second = get_or second byte 0; bits = get_or bits byte 0 }

-- the lists have the first two words of each byte
abbrev pub HasTwoWords : CanonicalCode → List ℕ → List ℕ → List ℕ → Type 0
HasTwoWords code bits first second = (byte : ℕ) → ContainsTwoWords code byte (words_at bits first second byte)
