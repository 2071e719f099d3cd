-- What a probe returns: what the value of a placement means, or why there is none.
use Rattle.std.specs.Prelude.{◌≡◌, ℕ, ℤ, List, Option, IfSome, Result, Ok, Err}
use Rattle.szg_file.specs.Contents.{Slot, Subtable}
use Rattle.szg_file.specs.Fetching.{NamesBadBlock}
use Rattle.szg_file.specs.FrontTable.{FrontKept}
use Rattle.szg_file.specs.Index.{Index, number_in as number_of}
use Rattle.szg_file.specs.Unread.{front_at, IsDecoded}
use Rattle.szg_file.specs.Values.{list_number}
use Rattle.szg_file.specs.declared.fault.MapFault.{MapFault}
use Rattle.szg_file.specs.declared.opened.fetching.FetchFault.{FetchFault}
use Rattle.szg_place.specs.Tables.{class_of, number_in}
use Rattle.szg_place.specs.declared.Spot.{Spot}
use Rattle.szg_place.specs.declared.probes.Unprobed.{Unprobed}
use Rattle.szg_place.specs.declared.probes.Unprobed.TheVariants.{Place, Fetch, Map}

-- Ok: the class or the number of a value that was fetched. Err: the fault of the fetch, or the map's fault for the value.
abbrev pub IsMeant : {A F : Type 0} → (ℕ → Type 0) → (F → Type 0) → (ℕ → Result A MapFault) → Result A (Unprobed F) → Type 0
IsMeant is_value is_fault meaning (Ok answer) = (v : ℕ) × is_value v × (meaning v ≡ Ok answer)
IsMeant is_value is_fault meaning (Err (Map fault)) = (v : ℕ) × is_value v × (meaning v ≡ Err fault)
IsMeant is_value is_fault meaning (Err (Place fault)) = ⊥
IsMeant is_value is_fault meaning (Err (Fetch fault)) = is_fault fault

-- two meanings of a value: its class; its DTZ number in a class, by the map of its part
abbrev pub as_class : ℕ → Result (Option ℤ) MapFault
as_class v = Ok (class_of v)

abbrev pub as_number : Index → ℕ → ℤ → ℕ → Result ℕ MapFault
as_number x part class v = number_in (list_number class) (number_of x part class v)

-- ---- a table opened by its front, whose blocks are verified when they are fetched

-- the subtable of a spot, with its part, side and size, in the table whose front the bytes begin with
abbrev pub spot_at : FrontKept → List ℕ → Spot → Option (Slot × Subtable)
spot_at kept content spot = front_at kept.index.material kept.index.kind content spot.part spot.side

-- the spot's block decodes, and v is its value at the spot's index
abbrev pub IsValueAt : FrontKept → List ℕ → Spot → ℕ → Type 0
IsValueAt kept content spot v = IfSome (spot_at kept content spot) (λ found. IsDecoded kept.index.kind found spot.index v)

-- the fault names the spot's block and the block's offset, and the block does not decode
abbrev pub IsBadAt : FrontKept → List ℕ → Spot → FetchFault → Type 0
IsBadAt kept content spot fault = IfSome (spot_at kept content spot) (λ found. NamesBadBlock content found spot.index fault)
