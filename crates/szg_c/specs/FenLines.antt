-- The classes of the positions of many texts, for C.
use Rattle.std.specs.Prelude.{ℕ, suc, zero, ℤ, ◌≡◌, ◌<◌, ◌==◌, Bool, List, IsSomeAnd, MatchResult, slice_get}
use Rattle.std.specs.List.{after_first, before_first}
use Rattle.szg_mapped.specs.InPlace.{InPlace}
use Rattle.szg_c_positions.specs.Fens.{fen_result}
use Rattle.szg_c.specs.Tablebases.{IsClassProbed}
use Rattle.szg_c_positions.specs.declared.status.TheConstants.{DONE, NO_RESULT}
use Rattle.szg_c.specs.declared.tablebase_calls.RawMissing.{RawMissing}

-- ---- lines

abbrev pub is_line_feed : ℕ → Bool
is_line_feed byte = byte == 10

-- a text from its n-th line on, counted from 0; nothing if it has no such line
unfoldable pub text_from : List ℕ → ℕ → List ℕ
text_from text zero = text
text_from text (suc n) = after_first is_line_feed (text_from text n)

-- the n-th line, which is empty if it isn't there
abbrev pub line_at : List ℕ → ℕ → List ℕ
line_at text n = before_first is_line_feed (text_from text n)

-- ---- classes

-- the class of the position that a line names, as the probe of one position gives it; or no result, with the status that says why
abbrev pub IsProbed : List InPlace → List ℕ → ℕ → ℤ → Type 0
IsProbed files line status class = MatchResult (fen_result line)
    (λ said. (before : RawMissing) × (after : RawMissing) × IsClassProbed files said.position status class before after × ((status ≡ DONE → ⊥) → class ≡ NO_RESULT))
    (λ why. (status ≡ why) × (class ≡ NO_RESULT))

-- this is a line's class in a list
abbrev pub IsProbedAt : List InPlace → List ℕ → List ℤ → ℕ → ℕ → Type 0
IsProbedAt files text classes n status = IsSomeAnd (slice_get classes n) (λ class. IsProbed files (line_at text n) status class)

-- the first `count` lines have these classes; the status is the first that isn't DONE, or DONE
pub record AreProbed (files : List InPlace) (text : List ℕ) (classes : List ℤ) (count : ℕ) (status : ℕ) : Type 0 where
  pub each : (n : ℕ) → n < count → (why : ℕ) × IsProbedAt files text classes n why
  pub done : status ≡ DONE → (n : ℕ) → n < count → IsProbedAt files text classes n DONE
  pub first : (status ≡ DONE → ⊥) → (n : ℕ) × (n < count) × IsProbedAt files text classes n status × ((k : ℕ) → k < n → IsProbedAt files text classes k DONE)
