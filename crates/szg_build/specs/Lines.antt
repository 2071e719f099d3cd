-- What a text of lines is, and the verdict on bytes. It does not depend on what a dump contains.
use Rattle.std.specs.Prelude.{ℕ, zero, suc, ◌==◌, true, false, List, [], ◌∷◌}
use Rattle.szg_build.specs.declared.dump.DumpFault.{DumpFault}
use Rattle.szg_build.specs.declared.dump.DumpFault.TheVariants.{Field}
use Rattle.szg_build.specs.declared.BuildFault.{BuildFault}

-- why a text is refused: the fault of the line that was read last, or of the table that the lines so far describe
pub data Refusal : Type 0 where
  of_line : DumpFault → Refusal
  of_plan : BuildFault → Refusal

-- The lines that are expected from some line on.
pub data Lines (A : Type 0) : Type 0 where
  -- nothing more: the meaning of what was read
  means : A → Lines A
  -- what was read is refused
  refuses : Refusal → Lines A
  -- a line; what comes next depends on its words
  line : (List (List ℕ) → Lines A) → Lines A

-- The first line of some bytes.
pub data FirstLine : Type 0 where
  -- its bytes before 0A, and the bytes after 0A
  whole : List ℕ → List ℕ → FirstLine
  -- no 0A within the room: the bytes after the first byte that does not fit
  long : List ℕ → FirstLine
  -- the bytes end before 0A
  unended : FirstLine

abbrev pub following : ℕ → FirstLine → FirstLine
following byte (whole text rest) = whole (byte ∷ text) rest
following byte (long rest) = long rest
following byte unended = unended

-- the first line, with room for `room` bytes before 0A
abbrev pub first_line : ℕ → List ℕ → FirstLine
first_line room [] = unended
first_line zero (byte ∷ bytes) = elim (byte == 10) [ true ↦ whole [] bytes | false ↦ long bytes ]
first_line (suc room) (byte ∷ bytes) = elim (byte == 10) [ true ↦ whole [] bytes | false ↦ following byte (first_line room bytes) ]

-- a line has at most 80 bytes before 0A
abbrev pub line_room : ℕ
line_room = 80

abbrev pub with_byte : ℕ → List (List ℕ) → List (List ℕ)
with_byte byte [] = (byte ∷ []) ∷ []
with_byte byte (word ∷ words) = (byte ∷ word) ∷ words

-- the words of a line, cut at each space
abbrev pub words_of : List ℕ → List (List ℕ)
words_of [] = [] ∷ []
words_of (byte ∷ bytes) = elim (byte == 32) [ true ↦ [] ∷ words_of bytes | false ↦ with_byte byte (words_of bytes) ]

-- the number of line ends (0A) among these bytes
abbrev pub line_ends : List ℕ → ℕ
line_ends [] = 0
line_ends (byte ∷ bytes) = elim (byte == 10) [ true ↦ suc (line_ends bytes) | false ↦ line_ends bytes ]

-- The verdict on the bytes from a line on.
pub data Verdict (A : Type 0) : Type 0 where
  -- a whole text: its meaning, the number of lines up to its end, and the bytes after it
  good : A → ℕ → List ℕ → Verdict A
  -- the first refused line, the reason, and the bytes after it
  refused : ℕ → Refusal → List ℕ → Verdict A
  -- the text ends before the 0A of this line
  ended : ℕ → Verdict A

-- The verdict on the bytes after `count` lines, line by line. A line that is too long is refused.
abbrev pub verdict : {A : Type 0} → Lines A → ℕ → List ℕ → Verdict A
verdict (means a) count bytes = good a count bytes
verdict (refuses why) count bytes = refused count why bytes
verdict (line next) count bytes =
    elim (first_line line_room bytes) [
      | whole text rest ↦ verdict (next (words_of text)) (suc count) rest
      | long rest ↦ refused (suc count) (of_line Field) rest
      | unended ↦ ended (suc count)
    ]

-- one text after another
infixl 10 ◌>>=◌
abbrev pub ◌>>=◌ : {A B : Type 0} → Lines A → (A → Lines B) → Lines B
(means a) >>= g = g a
(refuses why) >>= g = refuses why
(line next) >>= g = line (λ words. next words >>= g)

-- a check or a line without a meaning, and then what comes next
infixl 10 ◌>>◌
abbrev pub ◌>>◌ : {A B : Type 0} → Lines A → Lines B → Lines B
f >> g = f >>= λ _. g
