-- What calls on an opened front return. Status 18 is a block that doesn't decode, 17 bytes that can't be the file's.
use Rattle.std.specs.Prelude.{◌≡◌, ℕ, ℤ, zero, suc, fold, max, Bool, List, IfSome, Result, Ok, Err}
use Rattle.std.specs.Option.{option_map_or}
use Rattle.szg_block.specs.Subtable.{layout_of}
use Rattle.szg_block.specs.declared.Sub.{Sub}
use Rattle.szg_values.specs.Material.{parsed}
use Rattle.szg_values.specs.Placement.{Board}
use Rattle.szg_file.specs.Fetching.{NamesBadBlock}
use Rattle.szg_file.specs.FrontTable.{FrontKept, IsFrontOf}
use Rattle.szg_file.specs.Unread.{unread_file, front_at, IsDecoded}
use Rattle.szg_file.specs.declared.reading.dropping.PlacedSub.{PlacedSub}
use Rattle.szg_file.specs.declared.opened.fetching.FetchFault.{FetchFault}
use Rattle.szg_file.specs.declared.opened.fetching.FetchFault.TheVariants.{Block, Source}
use Rattle.szg_place.specs.Probes.{IsBadAt, IsValueAt}
use Rattle.szg_c.specs.Outcomes.{IsOutcomeOfMen}
use Rattle.szg_c.specs.Reported.{Stops, kind_of_flag}
use Rattle.szg_c.specs.declared.fronts.BadBlock.{BadBlock}
use Rattle.szg_c.specs.declared.places.Unfound.{Unfound}
use Rattle.szg_c.specs.declared.places.Unfound.TheVariants.{Status, Fetch}

-- the name is a material's, and this is the front of the table that the bytes begin with, blocks unchecked
abbrev pub IsFront : List ℕ → Bool → List ℕ → FrontKept → Type 0
IsFront name dtz bytes kept = (parsed name ≡ Ok kept.index.material) × (kept.index.kind ≡ kind_of_flag dtz) × IsFrontOf kept bytes

-- what a status says of the opening, beside the offset and the reason
abbrev pub ReportsFront : List ℕ → Bool → List ℕ → Type 0 → ℕ → ℕ → ℕ → Type 0
ReportsFront name dtz bytes done zero place reason = done
ReportsFront name dtz bytes done (suc status) place reason = Stops unread_file name dtz bytes (suc status) place reason

-- the span bits of a subtable, 0 of a constant one
abbrev pub span_bits_of : Sub → ℕ
span_bits_of sub = option_map_or (λ layout. layout.span_bits) (layout_of sub) 0

-- the greatest span bits of subtables
abbrev pub greatest_span_bits : List PlacedSub → ℕ
greatest_span_bits subs = fold (λ greatest placed. max greatest (span_bits_of placed.sub)) 0 subs

-- what is written of a fault of a fetch, and its status
abbrev pub FetchReported : FetchFault → BadBlock → BadBlock → ℕ → Type 0
FetchReported (Block number offset) before after status = (status ≡ 18) × (after.block ≡ number) × (after.offset ≡ offset)
FetchReported Source before after status = (status ≡ 17) × (after ≡ before)

-- status 0: the block decodes, and this is the value; else the fault names the block, which does not decode
abbrev pub IsGot : FrontKept → List ℕ → ℕ → ℕ → ℕ → ℕ → ℕ → BadBlock → BadBlock → Type 0
IsGot kept bytes part side index status value before after =
    (status ≡ 0 → IfSome (front_at kept.index.material kept.index.kind bytes part side) (λ found. IsDecoded kept.index.kind found index value))
    × ((status ≡ 0 → ⊥) → (fault : FetchFault) × FetchReported fault before after status × IfSome (front_at kept.index.material kept.index.kind bytes part side) (λ found. NamesBadBlock bytes found index fault))

-- ---- outcomes

-- the status, and the outcome or the bad block
abbrev pub IsOutcomeWritten : Result ℤ (Unfound FetchFault) → ℕ → ℤ → BadBlock → Type 0
IsOutcomeWritten (Ok number) status outcome bad = (status ≡ 0) × (outcome ≡ number)
IsOutcomeWritten (Err (Status why)) status outcome bad = status ≡ why
IsOutcomeWritten (Err (Fetch (Block number offset))) status outcome bad = (status ≡ 18) × (bad.block ≡ number) × (bad.offset ≡ offset)
IsOutcomeWritten (Err (Fetch Source)) status outcome bad = status ≡ 17

-- the outcome of men by the values of blocks that decode, or the bad block
abbrev pub IsOutcomeReported : FrontKept → List ℕ → ℤ → Result Board ℕ → ℕ → ℤ → BadBlock → Type 0
IsOutcomeReported kept bytes class men status outcome bad =
    (r : Result ℤ (Unfound FetchFault)) × IsOutcomeOfMen kept.index (λ spot v. IsFrontOf kept bytes → IsValueAt kept bytes spot v) (λ spot fault. IsFrontOf kept bytes → IsBadAt kept bytes spot fault) class men r
    × IsOutcomeWritten r status outcome bad
