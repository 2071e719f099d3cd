-- The state of a count of a file's sections.
use Rattle.std.specs.Prelude.{◌≡◌, ℕ, ◌+◌, ◌%◌, ◌^◌, List, [], ◌∷◌, length}
use Rattle.szg_file.specs.declared.writing.tally.Tally.{Tally}
use Rattle.szg_file.specs.FileOf.{Section, written, padding, spare, fill_of}

-- the number of bytes of a section except its padding bytes
abbrev pub length_of : Section → ℕ
length_of (written bytes) = length bytes
length_of (padding unit) = 0
length_of (spare size) = 0

-- the offset after sections that begin at offset `place`
abbrev pub end_of : ℕ → List Section → ℕ
end_of place [] = place
end_of place (section ∷ sections) = end_of (place + length_of section + fill_of section place) sections

-- the number of padding bytes of sections that begin at offset `place`
abbrev pub fill_from : ℕ → List Section → ℕ
fill_from place [] = 0
fill_from place (section ∷ sections) = fill_of section place + fill_from (place + length_of section + fill_of section place) sections

-- equal modulo 2^64
abbrev pub IsAlike : ℕ → ℕ → Type 0
IsAlike a b = a % 2 ^ 64 ≡ b % 2 ^ 64

-- These sections were counted, at whichever offset they begin.
pub record Counts (sections : List Section) (old new : Tally) : Type 0 where
  pub place : (place : ℕ) → IsAlike old.place place → IsAlike new.place (end_of place sections)
  pub fill : (place : ℕ) → IsAlike old.place place → IsAlike new.fill (old.fill + fill_from place sections)
