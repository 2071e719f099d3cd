-- The results for C of calls with a name, a kind and bytes.
use Rattle.std.specs.Prelude.{◌≡◌, ℕ, zero, suc, Bool, true, false, List, IsErr, Ok}
use Rattle.std.specs.Str.{IsUtf8}
use Rattle.szg_values.specs.declared.Kind.{Kind}
use Rattle.szg_values.specs.declared.Kind.TheVariants.{Wdl, Dtz}
use Rattle.szg_values.specs.Material.{Sides, parsed}
use Rattle.szg_file.specs.declared.fault.Reason.{Reason}
use Rattle.szg_file.specs.declared.fault.Reason.TheVariants as reason
use Rattle.szg_file.specs.declared.fault.ReadFault.{ReadFault}
use Rattle.szg_file.specs.declared.fault.ReadFault.TheVariants.{Refused, Memory, Device}
use Rattle.szg_file.specs.Format.{Format, Verdict, good, verdict}
use Rattle.szg_file.specs.Contents.{Contents}
use Rattle.szg_file.specs.File.{file}
use Rattle.szg_file.specs.Held.{Shown}
use Rattle.szg_file.specs.WholeRead.{Refuses}
use Rattle.szg_c.specs.declared.opening.RawAnswer.{RawAnswer}

abbrev pub kind_of_flag : Bool → Kind
kind_of_flag false = Wdl
kind_of_flag true = Dtz

-- the numbers of the reasons, in the order of the checks
abbrev pub number_of : Reason → ℕ
number_of reason.Truncated = 1
number_of reason.Magic = 2
number_of reason.SplitBit = 3
number_of reason.PawnBit = 4
number_of reason.Pieces = 5
number_of reason.PawnsFirst = 6
number_of reason.OrderPlace = 7
number_of reason.BlockBits = 8
number_of reason.SpanBits = 9
number_of reason.CodeLengths = 10
number_of reason.LowestOrder = 11
number_of reason.TooFull = 12
number_of reason.Child = 13
number_of reason.Cycle = 14
number_of reason.LongSymbol = 15
number_of reason.ShortTotal = 16
number_of reason.SparseEntry = 17
number_of reason.Word = 18

-- these bytes are not the text of a material's name
abbrev pub IsNoName : List ℕ → Type 0
IsNoName name = IsUtf8 name → IsErr (parsed name)

-- the name is a material's
abbrev pub IsName : List ℕ → Type 0
IsName name = (material : Sides) × (parsed name ≡ Ok material)

-- the format accepts the bytes, with this result
abbrev pub Finds : Verdict Contents → Shown → Type 0
Finds v t = (rest : List ℕ) × (v ≡ good t.contents t.filled rest)

-- the name is a material's, and the bytes begin with the file of this table
abbrev pub IsTable : List ℕ → Bool → List ℕ → Shown → Type 0
IsTable name dtz bytes t = (material : Sides) × (parsed name ≡ Ok material) × Finds (verdict (file material (kind_of_flag dtz)) 0 bytes) t

-- the name is a material's, and the bytes are refused by a format at this offset for this reason
abbrev pub IsRefused : (Sides → Kind → Format Contents) → List ℕ → Bool → List ℕ → ℕ → Reason → Type 0
IsRefused format name dtz bytes place why = (material : Sides) × (parsed name ≡ Ok material) × Refuses (verdict (format material (kind_of_flag dtz)) 0 bytes) place why

-- ---- statuses: 0 done; 1 no name; 2 refused; 3 no memory for a table of this name; 4 outside the table

-- the status of a fault of bytes in memory, which never fail; the offset and the reason of a refusal are written
abbrev pub IsFaultStatus : ReadFault → RawAnswer → RawAnswer → ℕ → Type 0
IsFaultStatus (Refused place why) before after status = (status ≡ 2) × (after.place ≡ place) × (after.reason ≡ number_of why)
IsFaultStatus Memory before after status = (status ≡ 3) × (after ≡ before)
IsFaultStatus Device before after status = ⊥

-- why there is no table of a format, by a status other than 0 and 4, with the offset and the reason
abbrev pub Stops : (Sides → Kind → Format Contents) → List ℕ → Bool → List ℕ → ℕ → ℕ → ℕ → Type 0
Stops format name dtz bytes (suc zero) place reason = IsNoName name
Stops format name dtz bytes (suc (suc zero)) place reason = (why : Reason) × IsRefused format name dtz bytes place why × (reason ≡ number_of why)
Stops format name dtz bytes (suc (suc (suc zero))) place reason = IsName name
Stops format name dtz bytes status place reason = ⊥

-- the meaning of a call's status: there is a table that satisfies `done` or `outside`, or the status says why there
-- is none
abbrev pub Reports : List ℕ → Bool → List ℕ → (Shown → Type 0) → (Shown → Type 0) → ℕ → ℕ → ℕ → Type 0
Reports name dtz bytes done outside zero place reason = (t : Shown) × IsTable name dtz bytes t × done t
Reports name dtz bytes done outside (suc (suc (suc (suc zero)))) place reason = (t : Shown) × IsTable name dtz bytes t × outside t
Reports name dtz bytes done outside status place reason = Stops file name dtz bytes status place reason
