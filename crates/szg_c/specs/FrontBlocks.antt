-- Blocks of a front's file that C reads itself: the byte range that a value needs, and the value in these bytes.
use Rattle.std.specs.Prelude.{ℕ, ◌≡◌, ◌≢◌, ◌↔◌, List, length, Option, Some, None, IfSome, MatchOption}
use Rattle.szg_block.specs.BlocksTrait.{bytes_at}
use Rattle.szg_file.specs.FrontTable.{FrontKept}
use Rattle.szg_file.specs.Unread.{front_at}
use Rattle.szg_file.specs.Wanted.{IsSpelledBy, wanted_block}
use Rattle.szg_c.specs.declared.front_blocks.RawByteRange.{RawByteRange}
use Rattle.szg_c_positions.specs.declared.status.TheConstants.{CHANGED, DONE}

-- the range of this block in a file; without a block, offset 0 and count 0
abbrev pub IsRangeOf : Option (List ℕ) → List ℕ → RawByteRange → Type 0
IsRangeOf None content range = (range.offset ≡ 0) × (range.count ≡ 0)
IsRangeOf (Some block) content range = block ≡ bytes_at content range.offset range.count

-- the range of the block that a value of a front's table needs
abbrev pub IsFoundRange : FrontKept → List ℕ → ℕ → ℕ → ℕ → RawByteRange → Type 0
IsFoundRange kept content part side index range =
    IfSome (front_at kept.index.material kept.index.kind content part side) (λ found. IsRangeOf (wanted_block found.1 index) content range)

-- these bytes are the block that the value needs; if it needs none, any bytes will do
abbrev pub IsBlockOf : FrontKept → List ℕ → ℕ → ℕ → ℕ → List ℕ → Type 0
IsBlockOf kept content part side index block =
    IfSome (front_at kept.index.material kept.index.kind content part side) (λ found. IfSome (wanted_block found.1 index) (λ wanted. wanted ≡ block))

-- the status CHANGED says just that the bytes have another length than the block; a value that needs none is decoded
abbrev pub IsLengthReported : FrontKept → List ℕ → ℕ → ℕ → ℕ → List ℕ → ℕ → Type 0
IsLengthReported kept content part side index block status =
    IfSome (front_at kept.index.material kept.index.kind content part side) (λ found. MatchOption (wanted_block found.1 index) (status ≡ DONE) (λ wanted. (status ≡ CHANGED) ↔ (length block ≢ length wanted)))

-- the value is what the words of these bytes spell at its index, also if they are not the file's
abbrev pub IsSpelledIn : FrontKept → List ℕ → ℕ → ℕ → ℕ → List ℕ → ℕ → Type 0
IsSpelledIn kept content part side index block value =
    IfSome (front_at kept.index.material kept.index.kind content part side) (λ found. IsSpelledBy block found.1 index (Some value))
