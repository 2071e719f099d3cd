-- The result of reading a whole table.
use Rattle.std.specs.Prelude.{◌≡◌, ℕ, ◌+◌, ◌*◌, ◌<◌, List, [], ◌++◌, length, map, sum, Option, Some, None, Result, Ok, Err, IfSome, IfOk}
use Rattle.szg_io.specs.Moved.{Takes}
use Rattle.szg_io.specs.declared.device.Input.{Ghosts}
use Rattle.szg_values.specs.declared.Kind.{Kind}
use Rattle.szg_file.specs.declared.fault.Reason.{Reason}
use Rattle.szg_file.specs.declared.fault.Reason.TheVariants.{Truncated}
use Rattle.szg_file.specs.declared.fault.ReadFault.{ReadFault}
use Rattle.szg_file.specs.declared.fault.ReadFault.TheVariants.{Refused, Device, Memory}
use Rattle.szg_file.specs.Format.{Verdict, good, refused, truncated, verdict}
use Rattle.szg_values.specs.Material.{Sides}
use Rattle.szg_file.specs.Accepted.{IsAccepted}
use Rattle.szg_file.specs.Contents as held
use Rattle.szg_file.specs.File.{file}
use Rattle.szg_file.specs.Held.{Shown, file_bytes}
use Rattle.szg_file.specs.Reading.{IsRefusal, IsCut}

-- The remaining bytes are more than those after a table, and no fewer than those after a field that fails.
abbrev pub LeavesMore : {A : Type 0} → Verdict A → Option (List ℕ) → Type 0
LeavesMore (good t filled rest) coming = (more : List ℕ) × (0 < length more) × (coming ≡ Some (more ++ rest))
LeavesMore (refused at why rest) coming = (more : List ℕ) × (coming ≡ Some (more ++ rest))
LeavesMore (truncated count) coming = Unit {0}

-- The result is the verdict on the bytes that remained before, and the bytes after the table, or after the field
-- that fails, remain. If an allocation was refused, the file was not read to its end, and no failing check was
-- skipped.
abbrev pub FollowsVerdict : Verdict held.Contents → Result Shown ReadFault → Option (List ℕ) → Type 0
FollowsVerdict v (Ok t) coming = (rest : List ℕ) × (v ≡ good t.contents t.filled rest) × (coming ≡ Some rest)
FollowsVerdict (good t filled rest) (Err (Refused place reason)) coming = ⊥
FollowsVerdict (refused at why rest) (Err (Refused place reason)) coming = (place ≡ at) × (reason ≡ why) × (coming ≡ Some rest)
FollowsVerdict (truncated count) (Err (Refused place reason)) coming = (place ≡ count) × (reason ≡ Truncated) × (coming ≡ Some [])
FollowsVerdict v (Err Device) coming = Unit {0}
FollowsVerdict v (Err Memory) coming = LeavesMore v coming

-- The bytes are refused at this offset for this reason.
abbrev pub Refuses : {A : Type 0} → Verdict A → ℕ → Reason → Type 0
Refuses (good a filled rest) place reason = ⊥
Refuses (refused at why rest) place reason = (place ≡ at) × (reason ≡ why)
Refuses (truncated count) place reason = (place ≡ count) × (reason ≡ Truncated)

-- The result is the verdict on bytes in memory, or an allocation was refused.
abbrev pub IsVerdict : Verdict held.Contents → Result Shown ReadFault → Type 0
IsVerdict v (Ok t) = (rest : List ℕ) × (v ≡ good t.contents t.filled rest)
IsVerdict v (Err (Refused place reason)) = Refuses v place reason
IsVerdict v (Err Device) = ⊥
IsVerdict v (Err Memory) = Unit {0}

-- The bytes that were read are the table's file, or those up to the end of the field that fails; if an allocation
-- was refused, part of such a text, but no whole file.
abbrev pub TookBytes : Sides → Kind → List ℕ → Option (List ℕ) → Result Shown ReadFault → Type 0
TookBytes material kind bytes coming (Ok t) = bytes ≡ file_bytes t
TookBytes material kind bytes coming (Err (Refused place reason)) = IsRefusal (verdict (file material kind) 0 bytes) place reason coming
TookBytes material kind bytes coming (Err Device) = Unit {0}
TookBytes material kind bytes coming (Err Memory) = IsCut (verdict (file material kind) 0 bytes)

-- an accepted table of this material and kind
pub record IsTable (material : Sides) (kind : Kind) (t : Shown) : Type 0 where
  pub material_is : t.contents.material ≡ material
  pub kind_is : t.contents.kind ≡ kind
  pub accepted : IsAccepted t.contents t.filled

-- This is the result of reading a table from the device. If the device specifies its remaining bytes, it is the verdict
-- on them; in any case it is the verdict on the bytes that were read.
pub record IsFileRead {R : Type 0} (device : Ghosts R) (material : Sides) (kind : Kind) (old new : R) (result : Result Shown ReadFault) : Type 0 where
  pub table : IfOk result (IsTable material kind)
  pub follows : IfSome (device.coming old) (λ bytes. FollowsVerdict (verdict (file material kind) 0 bytes) result (device.coming new))
  pub bytes : List ℕ
  pub taken : Takes device old new bytes 1
  pub took : TookBytes material kind bytes (device.coming new) result

-- the total length of a subtable's lists; a dictionary has two: the entries, and the lengths of their symbols
abbrev pub sub_lengths : held.Subtable → ℕ
sub_lengths (held.constant flags byte) = 0
sub_lengths (held.pairs head sparse lengths packed) =
    length head.code.lowest + 2 * length head.entries + length sparse + length lengths + length packed

abbrev pub map_lengths : Option held.Map → ℕ
map_lengths None = 0
map_lengths (Some (held.narrow lists)) = sum (map length lists)
map_lengths (Some (held.wide lists)) = sum (map length lists)

-- the total length of all lists of a table; each subtable has a slot as well
abbrev pub list_lengths : Shown → ℕ
list_lengths t = length t.contents.parts + sum (map (λ part. length part.order + length part.men) t.contents.parts)
    + 2 * length t.contents.subtables + sum (map sub_lengths t.contents.subtables)
    + length t.contents.maps + sum (map map_lengths t.contents.maps) + length t.filled
