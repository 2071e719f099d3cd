-- What a call that reads lines of a dump does to the reader and to the bytes read ahead, and what it returns.
use Rattle.std.specs.Prelude.{◌≡◌, ℕ, ◌-◌, ◌^◌, min, List, ◌++◌, Option, Result, Ok, Err, Bool, IsTrue}
use Rattle.std.specs.Io.KnownBytes.{IsAtEnd}
use Rattle.szg_io.specs.Device.{HasFailed}
use Rattle.szg_io.specs.Moved.{Takes}
use Rattle.szg_io.specs.declared.device.Input.{Ghosts}
use Rattle.szg_build.specs.declared.reading.incoming.Incoming.{Incoming}
use Rattle.szg_build.specs.Held.{held_of}
use Rattle.szg_build.specs.declared.dump.DumpFault.{DumpFault}
use Rattle.szg_build.specs.declared.dump.DumpFault.TheVariants.{Ended}
use Rattle.szg_build.specs.declared.BuildFault.{BuildFault}
use Rattle.szg_build.specs.declared.dump.DumpReadFault.{DumpReadFault}
use Rattle.szg_build.specs.declared.dump.DumpReadFault.TheVariants.{Line, Build, Device, Memory}
use Rattle.szg_build.specs.Lines.{Lines, means, refuses, Verdict, good, refused, ended, of_line, of_plan, verdict}

-- a line's number as it is returned: it saturates at the greatest 64-bit value
abbrev pub saturated_line : ℕ → ℕ
saturated_line number = min number (2 ^ 64 - 1)

-- the verdict refuses a line, or the text ends before the 0A of one
abbrev pub IsLineFault : {A : Type 0} → Verdict A → ℕ → DumpFault → Type 0
IsLineFault (good a lines rest) number fault = ⊥
IsLineFault (refused at why rest) number fault = (number ≡ saturated_line at) × (why ≡ of_line fault)
IsLineFault (ended at) number fault = (number ≡ saturated_line at) × (fault ≡ Ended)

-- the verdict refuses the table that the lines so far describe
abbrev pub IsPlanFault : {A : Type 0} → Verdict A → BuildFault → Type 0
IsPlanFault (good a lines rest) fault = ⊥
IsPlanFault (refused at why rest) fault = why ≡ of_plan fault
IsPlanFault (ended at) fault = ⊥

-- if the verdict is that the text ends before a line's 0A, the reader is at the end of its bytes
abbrev pub EndsWith : {A : Type 0} → Verdict A → Option (List ℕ) → Type 0
EndsWith (good a lines rest) coming = Unit {0}
EndsWith (refused at why rest) coming = Unit {0}
EndsWith (ended at) coming = IsAtEnd coming

-- What the result means for `bytes`, which come after `count` lines: first those that were read ahead before the call,
-- then those that it read. If it is Ok, the bytes after its lines are kept for the next call. `Device` is returned only
-- if the reader may fail.
abbrev pub LinesAnswer : {A X : Type 0} → Lines A → (X → A) → ℕ → Incoming → List ℕ → Option (List ℕ) → ℕ → ℕ → ℕ → Bool → Result X DumpReadFault → Type 0
LinesAnswer f view count new bytes coming failures failures' row may_fail (Ok x) =
    (count' : ℕ) × (saturated_line count' ≡ new.line) × (verdict f count bytes ≡ good (view x) count' (held_of new)) × (failures' ≡ failures)
LinesAnswer f view count new bytes coming failures failures' row may_fail (Err (Line number fault)) =
    IsLineFault (verdict f count bytes) number fault × EndsWith (verdict f count bytes) coming × (failures' ≡ failures)
LinesAnswer f view count new bytes coming failures failures' row may_fail (Err (Build fault)) = IsPlanFault (verdict f count bytes) fault × (failures' ≡ failures)
LinesAnswer f view count new bytes coming failures failures' row may_fail (Err Device) = HasFailed failures failures' row × IsTrue may_fail
LinesAnswer f view count new bytes coming failures failures' row may_fail (Err Memory) = failures' ≡ failures

-- the `more` of Takes: an error may have taken 1,001 calls beyond those for the bytes that were read
abbrev pub retry_rounds : {X : Type 0} → Result X DumpReadFault → ℕ
retry_rounds (Ok x) = 0
retry_rounds (Err fault) = 1

-- These bytes were read, within the bound on calls. The result is the verdict on the bytes read ahead and these bytes,
-- for any number of lines before them.
pub record ReadsLines {A X R : Type 0} (f : Lines A) (view : X → A) (old new : Incoming)
    (dev : Ghosts R) (input input' : R) (result : Result X DumpReadFault) : Type 0 where
  pub bytes : List ℕ
  pub taken : Takes dev input input' bytes (retry_rounds result)
  pub answer : (count : ℕ) → saturated_line count ≡ old.line →
      LinesAnswer f view count new (held_of old ++ bytes) (dev.coming input') (dev.failures input) (dev.failures input') (dev.interrupted input') (dev.may_fail input) result

-- The meaning of a line's words: a value, or the fault of the line.
abbrev pub IsParsed : {A X : Type 0} → Lines A → (X → A) → Result X DumpFault → Type 0
IsParsed lines view (Ok x) = lines ≡ means (view x)
IsParsed lines view (Err fault) = lines ≡ refuses (of_line fault)
