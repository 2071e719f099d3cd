-- What is known of the bytes that were read if memory is refused.
use Rattle.std.specs.Prelude.{◌≡◌, ℕ, ◌+◌, ◌≤◌, ◌⊎◌, List, [], ◌∷◌, ◌++◌, length}
use Rattle.szg_io.specs.Moved.{Takes}
use Rattle.szg_io.specs.declared.device.Input.{Ghosts}
use Rattle.szg_build.specs.declared.reading.incoming.Incoming.{Incoming}
use Rattle.szg_build.specs.Held.{held_of}
use Rattle.szg_build.specs.Lines.{Lines, Verdict, good, refused, ended, verdict}
use Rattle.szg_build.specs.Reading.{saturated_line}

-- whole lines: there are none, or the last one has its 0A
abbrev pub AreWhole : List ℕ → Type 0
AreWhole lines = (lines ≡ []) ⊎ ((front : List ℕ) × (lines ≡ front ++ 10 ∷ []))

-- no line is refused, and nothing follows the text
abbrev pub IsUnrefused : {A : Type 0} → Verdict A → Type 0
IsUnrefused (good a count rest) = rest ≡ []
IsUnrefused (refused at why rest) = ⊥
IsUnrefused (ended at) = Unit {0}

-- The bytes are whole lines, none of them refused, and then bytes that were read ahead. Any valid text that begins with
-- these lines has at least `n - following` bytes after them, where `n` is the number of bytes read ahead.
pub record StopsShort {A : Type 0} (f : Lines A) (count following : ℕ) (bytes : List ℕ) : Type 0 where
  pub lines : List ℕ
  pub ahead : List ℕ
  pub split : bytes ≡ lines ++ ahead
  pub whole : AreWhole lines
  pub unrefused : IsUnrefused (verdict f count lines)
  pub due : (more : List ℕ) (a : A) (n : ℕ) (rest : List ℕ) → verdict f count (lines ++ more) ≡ good a n rest → length ahead + length rest ≤ following + length more

-- StopsShort holds for the bytes that were read ahead before the call, followed by those that the call read.
pub record LacksLines {A R : Type 0} (f : Lines A) (following : ℕ) (old : Incoming) (dev : Ghosts R) (input input' : R) : Type 0 where
  pub bytes : List ℕ
  pub taken : Takes dev input input' bytes 1
  pub short : (count : ℕ) → saturated_line count ≡ old.line → StopsShort f count following (held_of old ++ bytes)
