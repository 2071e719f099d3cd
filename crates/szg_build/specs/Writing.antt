-- What a call that writes text does to the writer and to the writer's state, and what it returns.
use Rattle.std.specs.Prelude.{◌≡◌, ℕ, ◌+◌, ◌-◌, ◌^◌, ◌<◌, min, List, ◌++◌, length, Result, Ok, Err}
use Rattle.szg_io.specs.Device.{HasFailed}
use Rattle.szg_io.specs.Moved.{Gives}
use Rattle.szg_io.specs.declared.device.Output.{Ghosts}
use Rattle.szg_file.specs.declared.fault.WriteFault.{WriteFault}
use Rattle.szg_build.specs.declared.writing.dump_text.DumpText.{DumpText}

-- a number as it is returned: it saturates at the greatest 64-bit value
abbrev pub stated : ℕ → ℕ
stated number = min number (2 ^ 64 - 1)

-- These bytes were written. Followed by the bytes buffered now, they are the bytes buffered before and then the text.
pub record Writes (text : List ℕ) (old new : DumpText) (bytes : List ℕ) : Type 0 where
  pub counts : (count : ℕ) → old.out ≡ stated count → new.out ≡ stated (count + length bytes)
  pub whole : bytes ++ new.held.items ≡ old.held.items ++ text

-- These bytes were written. They are a proper prefix of the bytes buffered before, followed by the text.
pub record Stops (text : List ℕ) (old : DumpText) (out : ℕ) (bytes : List ℕ) : Type 0 where
  pub counts : (count : ℕ) → old.out ≡ stated count → out ≡ stated (count + length bytes)
  pub rest : List ℕ
  pub some : 0 < length rest
  pub begun : bytes ++ rest ≡ old.held.items ++ text

-- the `more` of Gives: an error may have taken 1,001 calls beyond those for the bytes that were written
abbrev pub retry_rounds : {X : Type 0} → Result X WriteFault → ℕ
retry_rounds (Ok x) = 0
retry_rounds (Err fault) = 1

-- What the result means for the bytes that were written.
abbrev pub Answer : {X : Type 0} → List ℕ → DumpText → DumpText → ℕ → ℕ → ℕ → List ℕ → Result X WriteFault → Type 0
Answer text old new failures failures' row bytes (Ok x) = Writes text old new bytes × (failures' ≡ failures)
Answer text old new failures failures' row bytes (Err fault) = Stops text old fault.out bytes × HasFailed failures failures' row

-- Some bytes were written, within the bound on calls, and the result means what Answer says of them.
pub record Writing {X W : Type 0} (text : List ℕ) (old new : DumpText)
    (dev : Ghosts W) (output output' : W) (result : Result X WriteFault) : Type 0 where
  pub bytes : List ℕ
  pub given : Gives dev output output' bytes (retry_rounds result)
  pub answer : Answer text old new (dev.failures output) (dev.failures output') (dev.interrupted output') bytes result
