-- What is known of a table whose front was read from a device.
use Rattle.std.specs.Prelude.{◌≡◌, ◌⊎◌, ℕ, ◌<◌, ◌≤◌, List, length, take, Option, Result, Ok, Err}
use Rattle.szg_io.specs.Moved.{Takes}
use Rattle.szg_io.specs.declared.device.Input.{Ghosts}
use Rattle.szg_values.specs.Material.{Sides}
use Rattle.szg_values.specs.declared.Kind.{Kind}
use Rattle.szg_file.specs.Contents.{Contents}
use Rattle.szg_file.specs.Format.{Verdict, verdict}
use Rattle.szg_file.specs.FrontTable.{FrontKept, IsFrontOf}
use Rattle.szg_file.specs.Reading.{IsRefusal}
use Rattle.szg_file.specs.Unread.{unread_file}
use Rattle.szg_file.specs.WholeRead.{Refuses}
use Rattle.szg_file.specs.declared.fault.Reason.{Reason}
use Rattle.szg_file.specs.declared.fault.Reason.TheVariants.{Truncated}
use Rattle.szg_file.specs.declared.fault.ReadFault.{ReadFault}
use Rattle.szg_file.specs.declared.fault.ReadFault.TheVariants as fault

-- a file of `size` bytes that begins with `front`
pub record BeginsWith (front : List ℕ) (size : ℕ) (content : List ℕ) : Type 0 where
  pub long : length content ≡ size
  pub begins : take (length front) content ≡ front

-- The first check that fails refuses these bytes, or they end within a field. Or they are a whole front of at most
-- `size` bytes, and a file of `size` bytes that begins with it is too short for its blocks. Or `size` is less than
-- the number of bytes read.
abbrev pub IsFrontRefusal : Sides → Kind → List ℕ → ℕ → Option (List ℕ) → ℕ → Reason → Type 0
IsFrontRefusal material kind bytes size coming place reason =
    IsRefusal (verdict (unread_file material kind) 0 bytes) place reason coming
    ⊎ ((length bytes ≤ size) × ((content : List ℕ) → BeginsWith bytes size content → Refuses (verdict (unread_file material kind) 0 content) place reason))
    ⊎ ((size < length bytes) × (place ≡ size) × (reason ≡ Truncated))

-- Ok: the table is that of each file of `size` bytes that begins with the bytes read. Their number is at most
-- `size`, and it is returned too.
abbrev pub FrontOutcome : Sides → Kind → List ℕ → ℕ → Option (List ℕ) → Result (FrontKept × ℕ) ReadFault → Type 0
FrontOutcome material kind bytes size coming (Ok found) =
    (found.0.index.material ≡ material) × (found.0.index.kind ≡ kind) × (found.1 ≡ length bytes) × (length bytes ≤ size) × ((content : List ℕ) → BeginsWith bytes size content → IsFrontOf found.0 content)
FrontOutcome material kind bytes size coming (Err (fault.Refused place reason)) = IsFrontRefusal material kind bytes size coming place reason
FrontOutcome material kind bytes size coming (Err fault.Device) = Unit {0}
FrontOutcome material kind bytes size coming (Err fault.Memory) = Unit {0}

-- These bytes were read from a file of `size` bytes, and the result is FrontOutcome of them.
pub record IsFrontRead {R : Type 0} (device : Ghosts R) (material : Sides) (kind : Kind) (size : ℕ) (old new : R) (result : Result (FrontKept × ℕ) ReadFault) : Type 0 where
  pub bytes : List ℕ
  pub taken : Takes device old new bytes 1
  pub stated : FrontOutcome material kind bytes size (device.coming new) result

-- The result is the verdict on the file's bytes, without the checks of blocks.
abbrev pub IsFrontVerdict : Sides → Kind → List ℕ → Result (FrontKept × ℕ) ReadFault → Type 0
IsFrontVerdict material kind content (Ok found) = IsFrontOf found.0 content
IsFrontVerdict material kind content (Err (fault.Refused place reason)) = Refuses (verdict (unread_file material kind) 0 content) place reason
IsFrontVerdict material kind content (Err fault.Device) = Unit {0}
IsFrontVerdict material kind content (Err fault.Memory) = Unit {0}

-- The fault is a refusal, or an allocation was refused.
abbrev pub IsFrontFault : Verdict Contents → ReadFault → Type 0
IsFrontFault v (fault.Refused place reason) = Refuses v place reason
IsFrontFault v fault.Device = ⊥
IsFrontFault v fault.Memory = Unit {0}
