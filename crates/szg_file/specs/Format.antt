-- Formats, and the verdict of a format on bytes. Nothing here is specific to table files.
use Rattle.std.specs.Prelude.{ℕ, ◌+◌, List, [], ◌++◌, length, take, drop, nat_lt, true, false}
use Rattle.szg_file.specs.declared.fault.Reason.{Reason}

-- The format of the bytes of a file from some offset on, read from left to right.
pub data Format (A : Type 0) : Type 0 where
  -- the end: the bytes so far have this meaning
  means : A → Format A
  -- a failing check: the offset and the reason of the refusal
  refuses : ℕ → Reason → Format A
  -- a field of a given number of bytes, which determine what follows
  field : ℕ → (List ℕ → Format A) → Format A
  -- a given number of padding bytes, whose values have no effect
  fill : ℕ → Format A → Format A
  -- what follows depends on the current offset
  placed : (ℕ → Format A) → Format A

-- The verdict on the bytes from some offset on.
pub data Verdict (A : Type 0) : Type 0 where
  -- a whole text: its meaning, its padding bytes in order, and the bytes after it
  good : A → List ℕ → List ℕ → Verdict A
  -- the first failing check: its offset, its reason, and the bytes after the field that it checks
  refused : ℕ → Reason → List ℕ → Verdict A
  -- the bytes end within a field: the number of bytes of the file
  truncated : ℕ → Verdict A

-- prepends padding bytes to those of a verdict
abbrev pub after_fill : {A : Type 0} → List ℕ → Verdict A → Verdict A
after_fill skipped (good a filled rest) = good a (skipped ++ filled) rest
after_fill skipped (refused place reason rest) = refused place reason rest
after_fill skipped (truncated count) = truncated count

-- The verdict on the bytes from offset `place` on, field by field.
abbrev pub verdict : {A : Type 0} → Format A → ℕ → List ℕ → Verdict A
verdict (means a) place bytes = good a [] bytes
verdict (refuses at reason) place bytes = refused at reason bytes
verdict (field size next) place bytes =
    elim (nat_lt (length bytes) size) [
      | true ↦ truncated (place + length bytes)
      | false ↦ verdict (next (take size bytes)) (place + size) (drop size bytes)
    ]
verdict (fill size next) place bytes =
    elim (nat_lt (length bytes) size) [
      | true ↦ truncated (place + length bytes)
      | false ↦ after_fill (take size bytes) (verdict next (place + size) (drop size bytes))
    ]
verdict (placed next) place bytes = verdict (next place) place bytes

-- one format followed by another
infixl 10 ◌>>=◌
abbrev pub ◌>>=◌ : {A B : Type 0} → Format A → (A → Format B) → Format B
(means a) >>= g = g a
(refuses at reason) >>= g = refuses at reason
(field size next) >>= g = field size (λ bytes. next bytes >>= g)
(fill size next) >>= g = fill size (next >>= g)
(placed next) >>= g = placed (λ place. next place >>= g)

-- a check followed by the rest
infixl 10 ◌>>◌
abbrev pub ◌>>◌ : {A B : Type 0} → Format A → Format B → Format B
f >> g = f >>= λ _. g
