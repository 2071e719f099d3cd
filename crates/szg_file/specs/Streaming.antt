-- A file that is scanned: its values are handed to a sink while it is read.
use Rattle.std.specs.Prelude.{◌≡◌, ℕ, Bool, nat_eq, ◌&&◌, if◌then◌else◌, List, [], ◌∷◌, ◌++◌, length, Result, Ok, Err, IfSome}
use Rattle.std.specs.List.{FoldsTo, flat_map}
use Rattle.szg_io.specs.declared.device.Input.{Ghosts}
use Rattle.szg_values.specs.Material.{Sides}
use Rattle.szg_values.specs.declared.Kind.{Kind}
use Rattle.szg_file.specs.Contents.{Contents, Slot, Subtable, slots}
use Rattle.szg_file.specs.Held.{Shown, file_bytes}
use Rattle.szg_file.specs.Index.{index_of}
use Rattle.szg_file.specs.Values.{slotted, subtable_at, values_of}
use Rattle.szg_file.specs.WholeRead.{IsFileRead}
use Rattle.szg_file.specs.declared.fault.ReadFault.{ReadFault}
use Rattle.szg_file.specs.declared.reading.Scanned.{Scanned}

-- A sink accepted these values in their order, in chunks. The sink and its output before, and both after.
pub record Accepted {K W : Type 0} (accepts : K → W → List ℕ → K → W → Type 0) (values : List ℕ) (sink : K) (out : W) (sink' : K) (out' : W) : Type 0 where
  pub chunks : List (List ℕ)
  pub joined : values ≡ flat_map (λ chunk. chunk) chunks
  pub steps : FoldsTo {P = K × W} (λ p chunk q. accepts p.0 p.1 chunk q.0 q.1) (sink, out) chunks (sink', out')

-- these values, or none
abbrev pub values_if : Bool → List ℕ → List ℕ
values_if wanted values = if wanted then values else []

-- the values of the subtables whose part and side are wanted, in file order
abbrev pub wanted_values : (ℕ → ℕ → Bool) → Kind → List (Slot × Subtable) → List ℕ
wanted_values wanted kind [] = []
wanted_values wanted kind (pair ∷ others) = values_if (wanted pair.0.part pair.0.side) (values_of kind pair) ++ wanted_values wanted kind others

-- the values of a table that are wanted, in file order
abbrev pub wanted_of : (ℕ → ℕ → Bool) → Contents → List ℕ
wanted_of wanted t = wanted_values wanted t.kind (slotted (slots t.material t.kind t.parts) t.subtables)

-- The table whose file was read, what is returned of it, and the values that the sink accepted: just those that it wants.
pub record IsTableScanned {R K W : Type 0} (device : Ghosts R) (wanted : ℕ → ℕ → Bool) (accepts : K → W → List ℕ → K → W → Type 0) (material : Sides) (kind : Kind)
    (old new : R) (sink : K) (out : W) (sink' : K) (out' : W) (scanned : Scanned) : Type 0 where
  pub table : Shown
  pub read : IsFileRead device material kind old new (Ok table)
  pub index_is : scanned.index ≡ index_of table.contents
  pub last_is : scanned.last ≡ table.contents.last
  pub length_is : scanned.length ≡ length (file_bytes table)
  pub accepted : Accepted accepts (wanted_of wanted table.contents) sink out sink' out'

-- The result is what is returned of the table that reading the file would return, or the fault of reading it.
abbrev pub IsScanned : {R K W : Type 0} → Ghosts R → (ℕ → ℕ → Bool) → (K → W → List ℕ → K → W → Type 0) → Sides → Kind → R → R → K → W → K → W → Result Scanned ReadFault → Type 0
IsScanned device wanted accepts material kind old new sink out sink' out' (Ok scanned) = IsTableScanned device wanted accepts material kind old new sink out sink' out' scanned
IsScanned device wanted accepts material kind old new sink out sink' out' (Err fault) = IsFileRead device material kind old new (Err fault)

-- only this part and side are wanted
abbrev pub only : ℕ → ℕ → ℕ → ℕ → Bool
only part side number number' = nat_eq number part && nat_eq number' side

-- where one part and side are wanted, the values are those of its subtable
abbrev pub OnlyOneIsWanted : Type 0
OnlyOneIsWanted = (t : Contents) (part side : ℕ) → IfSome (subtable_at t part side) (λ found. wanted_of (only part side) t ≡ values_of t.kind found)
