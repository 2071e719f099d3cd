-- How the fixed words and the values of a line are written in its text.
use Rattle.std.specs.Prelude.{◌≡◌, ◌⊎◌, ℕ, suc, ◌==◌, false, List, [], ◌∷◌, ◌++◌, codes, Result, Ok, Err}
use Rattle.std.specs.Fmt.{decimal}
use Rattle.std.specs.List.{list_any}
use Rattle.szg_io.specs.declared.device.Input.{Ghosts}
use Rattle.szg_build.specs.declared.reading.incoming.Incoming.{Incoming}
use Rattle.szg_build.specs.declared.dump.DumpFault.{DumpFault}
use Rattle.szg_build.specs.declared.dump.DumpReadFault.{DumpReadFault}
use Rattle.szg_build.specs.declared.dump.DumpReadFault.TheVariants.{Line}
use Rattle.szg_build.specs.Text.{spaced, part_word}
use Rattle.szg_build.specs.Lines.{Lines, means, refuses, line, words_of}
use Rattle.szg_build.specs.Reading.{ReadsLines}
use Rattle.szg_build.specs.Grammar.{Word, fixed, value, line_of}

-- a text without a space
abbrev pub IsWord : List ℕ → Type 0
IsWord word = list_any (λ byte. byte == 32) word ≡ false

-- a pattern's fixed words have no spaces
abbrev pub HasFixedWords : List Word → Type 0
HasFixedWords [] = Unit {0}
HasFixedWords (fixed text ∷ pattern) = IsWord text × HasFixedWords pattern
HasFixedWords (value ∷ pattern) = HasFixedWords pattern

-- the number of a pattern's words that are values
abbrev pub value_count : List Word → ℕ
value_count [] = 0
value_count (fixed text ∷ pattern) = value_count pattern
value_count (value ∷ pattern) = suc (value_count pattern)

-- the words of a pattern with these values in it
abbrev pub filled : List Word → List (List ℕ) → List (List ℕ)
filled [] values = []
filled (fixed text ∷ pattern) values = text ∷ filled pattern values
filled (value ∷ pattern) [] = [] ∷ filled pattern []
filled (value ∷ pattern) (word ∷ values) = word ∷ filled pattern values

-- the text of a line of this pattern is `front` and one value
pub record IsFront (pattern : List Word) (front : List ℕ) : Type 0 where
  pub words : HasFixedWords pattern
  pub one : value_count pattern ≡ 1
  pub text : (word : List ℕ) → spaced (filled pattern (word ∷ [])) ≡ front ++ word

-- the text of a line of this pattern is `front`, a value, a space, `middle` and another value
pub record IsPair (pattern : List Word) (front middle : List ℕ) : Type 0 where
  pub words : HasFixedWords pattern
  pub two : value_count pattern ≡ 2
  pub text : (first second : List ℕ) → spaced (filled pattern (first ∷ second ∷ [])) ≡ front ++ (first ++ 32 ∷ (middle ++ second))

-- the lines that are expected after a line with these words
abbrev pub lines_after : {A : Type 0} → Lines A → List (List ℕ) → Lines A
lines_after (line next) words = next words
lines_after (means a) words = means a
lines_after (refuses why) words = refuses why

-- the result of parsing a line, with the line's number in the error
abbrev pub in_line : {X : Type 0} → ℕ → Result X DumpFault → Result X DumpReadFault
in_line number (Ok x) = Ok x
in_line number (Err fault) = Err (Line number fault)

-- A line was read, and the result is the one to which `parses` relates its text; or no line was read.
abbrev pub ParsesLine : {T R : Type 0} → (List ℕ → Result T DumpFault → Type 0) → Incoming → Incoming → Ghosts R → R → R → Result T DumpReadFault → Type 0
ParsesLine {T = T} parses old new dev input input' result =
    ((text : List ℕ) × (stated : Result T DumpFault) × parses text stated × ReadsLines (line means) words_of old new dev input input' (Ok text) × (result ≡ in_line new.line stated))
    ⊎ ((fault : DumpReadFault) × ReadsLines (line means) words_of old new dev input input' (Err fault) × (result ≡ Err fault))

-- the line that names a subtable
abbrev pub sub_line : ℕ × ℕ → Lines (List (List ℕ))
sub_line place = line_of (fixed (codes "sub") ∷ fixed (part_word place.0) ∷ fixed (decimal place.1) ∷ [])
