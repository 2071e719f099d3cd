-- What a call that reads a part of a file ensures about the reader, its state and the result.
use Rattle.std.specs.Prelude.{◌≡◌, ℕ, ◌+◌, List, [], ◌++◌, length, Option, Some, None, Result, Ok, Err, Bool, IsTrue}
use Rattle.std.specs.Io.KnownBytes.{IsAtEnd}
use Rattle.szg_io.specs.Device.{HasFailed}
use Rattle.szg_io.specs.Moved.{Takes}
use Rattle.szg_file.specs.declared.reading.state.ReaderState.{ReaderState}
use Rattle.szg_file.specs.declared.fault.Reason.{Reason}
use Rattle.szg_file.specs.declared.fault.Reason.TheVariants.{Truncated}
use Rattle.szg_file.specs.declared.fault.ReadFault.{ReadFault}
use Rattle.szg_file.specs.declared.fault.ReadFault.TheVariants.{Refused, Device, Memory}
use Rattle.szg_values.specs.Material.{Sides}
use Rattle.szg_file.specs.Format.{Format, means, refuses, Verdict, good, refused, truncated, verdict, ◌>>◌}
use Rattle.szg_values.specs.declared.Kind.{Kind}
use Rattle.szg_file.specs.File.{magic_field, byte4_field}
use Rattle.szg_io.specs.declared.device.Input.{Ghosts}
use Rattle.szg_file.specs.Accepted.{AreNumbers}

-- The verdict is this refusal, with no byte left after the field that fails; if the bytes end within a field, the
-- reader is at its end.
abbrev pub IsRefusal : {A : Type 0} → Verdict A → ℕ → Reason → Option (List ℕ) → Type 0
IsRefusal (good a filled rest) place reason coming = ⊥
IsRefusal (refused at why rest) place reason coming = (place ≡ at) × (reason ≡ why) × (rest ≡ [])
IsRefusal (truncated count) place reason coming = (place ≡ count) × (reason ≡ Truncated) × IsAtEnd coming

-- No byte is left after the text, or after the first field that fails.
abbrev pub StopsWithin : {A : Type 0} → Verdict A → Type 0
StopsWithin (good a filled rest) = rest ≡ []
StopsWithin (refused at why rest) = rest ≡ []
StopsWithin (truncated count) = Unit {0}

-- Likewise, and the text is not whole.
abbrev pub IsCut : {A : Type 0} → Verdict A → Type 0
IsCut (good a filled rest) = ⊥
IsCut (refused at why rest) = rest ≡ []
IsCut (truncated count) = Unit {0}

-- The bytes are a whole text of the format, each below 256, and the state has moved past them.
pub record Advances {A : Type 0} (f : Format A) (a : A) (old new : ReaderState) (bytes : List ℕ) : Type 0 where
  pub fits : AreNumbers 1 bytes
  pub filled : List ℕ
  pub whole : verdict f old.place bytes ≡ good a filled []
  pub place : new.place ≡ old.place + length bytes
  pub fill : new.fill.items ≡ old.fill.items ++ filled

-- An error may have cost one more round of retries.
abbrev pub turns_of : {X : Type 0} → Result X ReadFault → ℕ
turns_of (Ok x) = 0
turns_of (Err fault) = 1

-- How the result depends on the bytes that were read: `Device` occurs only if the reader may fail, and with
-- `Memory` no byte after the text or after the first field that fails was read.
abbrev pub Answer : {A X : Type 0} → Format A → (X → A) → ReaderState → ReaderState → Option (List ℕ) → ℕ → ℕ → ℕ → Bool → List ℕ → Result X ReadFault → Type 0
Answer f view old new coming failures failures' row may_fail bytes (Ok x) = Advances f (view x) old new bytes × (failures' ≡ failures)
Answer f view old new coming failures failures' row may_fail bytes (Err (Refused place reason)) = IsRefusal (verdict f old.place bytes) place reason coming × (failures' ≡ failures)
Answer f view old new coming failures failures' row may_fail bytes (Err Device) = HasFailed failures failures' row × IsTrue may_fail
Answer f view old new coming failures failures' row may_fail bytes (Err Memory) = StopsWithin (verdict f old.place bytes) × (failures' ≡ failures)

-- These bytes were read, with few enough calls, and the result is their verdict.
pub record Reading {A X R : Type 0} (f : Format A) (view : X → A) (old new : ReaderState)
    (dev : Ghosts R) (input input' : R) (result : Result X ReadFault) : Type 0 where
  pub bytes : List ℕ
  pub taken : Takes dev input input' bytes (turns_of result)
  pub answer : Answer f view old new (dev.coming input') (dev.failures input) (dev.failures input') (dev.interrupted input') (dev.may_fail input) bytes result

-- These bytes were read, and they are no whole text.
pub record Lacking {A R : Type 0} (f : Format A) (old : ReaderState) (dev : Ghosts R) (input input' : R) : Type 0 where
  pub bytes : List ℕ
  pub taken : Takes dev input input' bytes 1
  pub short : IsCut (verdict f old.place bytes)

abbrev pub start_field : Sides → Kind → Format ℕ
start_field material kind = magic_field kind >> byte4_field material kind

-- A check that reads nothing: it passes, or it refuses at an offset for a reason.
abbrev pub Checks : Format (Unit {0}) → Option (ℕ × Reason) → Type 0
Checks f None = f ≡ means tt
Checks f (Some refusal) = f ≡ refuses refusal.0 refusal.1
