-- What a call that writes a part of a file ensures about the writer, its state and the result.
use Rattle.std.specs.Prelude.{◌≡◌, ℕ, ◌<◌, ◌%◌, ◌^◌, List, ◌++◌, length, Result, Ok, Err}
use denote.Ref.{Bor, MutBor}
use denote.Param.Members.{Shared}
use Rattle.szg_io.specs.Device.{HasFailed}
use Rattle.szg_io.specs.Moved.{Gives}
use Rattle.szg_file.specs.declared.writing.outgoing.Outgoing.{Outgoing}
use Rattle.szg_file.specs.declared.fault.WriteFault.{WriteFault}
use Rattle.szg_file.specs.declared.writing.writer.Writer.{Writer}
use Rattle.szg_io.specs.declared.device.Output.{Ghosts}
use Rattle.szg_file.specs.FileOf.{Section, joined}

-- The count is the length of this text, modulo 2^64.
abbrev pub CountsOut : ℕ → List ℕ → Type 0
CountsOut out text = out ≡ length text % 2 ^ 64

-- These bytes were written after the text so far. The text, these bytes and the bytes buffered now are the text and
-- the bytes buffered before with the sections joined to them. The padding bytes of the sections are used up.
pub record Writes (sections : List Section) (old new : Outgoing) (bytes : List ℕ) : Type 0 where
  pub counts : (text : List ℕ) → CountsOut old.out text → CountsOut new.out (text ++ bytes)
  pub whole : (text : List ℕ) (more : List Section) → CountsOut old.out text →
      joined (text ++ old.held.items) (sections ++ more) old.fill.now ≡ joined ((text ++ bytes) ++ new.held.items) more new.fill.now

-- These bytes were written after the text so far, and they are not yet all of the text and the sections joined.
pub record Stops (sections : List Section) (old : Outgoing) (out : ℕ) (bytes : List ℕ) : Type 0 where
  pub counts : (text : List ℕ) → CountsOut old.out text → CountsOut out (text ++ bytes)
  pub begun : (text : List ℕ) (more : List Section) → CountsOut old.out text →
      (rest : List ℕ) × (0 < length rest) × (joined (text ++ old.held.items) (sections ++ more) old.fill.now ≡ (text ++ bytes) ++ rest)

-- An error may have cost one more round of retries.
abbrev pub turns_of : {X : Type 0} → Result X WriteFault → ℕ
turns_of (Ok x) = 0
turns_of (Err fault) = 1

-- How the result depends on the bytes that were written.
abbrev pub Answer : {X : Type 0} → List Section → Outgoing → Outgoing → ℕ → ℕ → ℕ → List ℕ → Result X WriteFault → Type 0
Answer sections old new failures failures' row bytes (Ok x) = Writes sections old new bytes × (failures' ≡ failures)
Answer sections old new failures failures' row bytes (Err fault) = Stops sections old fault.out bytes × HasFailed failures failures' row

-- Some bytes were written, with few enough calls, and the result is correct for them.
pub record Writing {X W : Type 0} (sections : List Section) (old new : Outgoing)
    (dev : Ghosts W) (output output' : W) (result : Result X WriteFault) : Type 0 where
  pub bytes : List ℕ
  pub given : Gives dev output output' bytes (turns_of result)
  pub answer : Answer sections old new (dev.failures output) (dev.failures output') (dev.interrupted output') bytes result

-- Each call writes an item as these sections.
abbrev pub WritesAs : {F T W : Type 0} → Shared F (Bor T × (MutBor W × (MutBor Outgoing × Unit {0}))) (Result (Unit {0}) WriteFault × (MutBor W × (MutBor Outgoing × Unit {0}))) →
    Ghosts W → F → (T → List Section) → Type 0
WritesAs {T = T} {W = W} calls dev write sections =
    (item : Bor T) (output left : MutBor W) (outgoing rest : MutBor Outgoing) (result : Result (Unit {0}) WriteFault) →
    calls.post write (item, (output, (outgoing, tt))) (result, (left, (rest, tt))) →
    Writing (sections item.now) outgoing.now rest.now dev output.now left.now result

-- What a writer does with sections: it writes them, unless it failed before. Then nothing changes.
abbrev pub WritesNext : {W : Type 0} → Ghosts W → Result (Unit {0}) WriteFault → List Section → Writer → W → Writer → W → Type 0
WritesNext dev (Ok done) sections old output new left = Writing sections old.outgoing new.outgoing dev output left new.result
WritesNext dev (Err fault) sections old output new left = (new.result ≡ Err fault) × (left ≡ output)
