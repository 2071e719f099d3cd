-- What a look-up in a file by its front does: the file is read and checked up to its blocks, and then at most one block, or
-- the last bytes.
use Rattle.std.specs.Prelude.{◌≡◌, ◌⊎◌, ℕ, ◌+◌, ◌<◌, ◌≤◌, List, [], ◌++◌, length, Option, Some, None, IsNone, IfSome, IsSomeAnd, Ok}
use Rattle.szg_io.specs.declared.device.Input as input
use Rattle.szg_io.specs.Moved.{Takes}
use Rattle.szg_values.specs.Material.{Sides, parsed}
use Rattle.szg_values.specs.declared.Kind.{Kind}
use Rattle.szg_values.specs.declared.Kind.TheVariants.{Wdl, Dtz}
use Rattle.szg_block.specs.BlocksTrait.{bytes_at}
use Rattle.szg_file.specs.Contents.{Contents}
use Rattle.szg_file.specs.Fetching.{NamesBadBlock}
use Rattle.szg_file.specs.FrontInput.{BeginsWith, IsFrontRefusal}
use Rattle.szg_file.specs.FrontTable.{FrontKept, IsFrontOf}
use Rattle.szg_file.specs.Index.{Index as TableIndex, index_of}
use Rattle.szg_file.specs.Format.{good, verdict}
use Rattle.szg_file.specs.Unread.{IsDecoded, front_at, front_in, unread_file}
use Rattle.szg_file.specs.Values.{subtable_at}
use Rattle.szg_file.specs.Wanted.{wanted_block}
use Rattle.szg_file.specs.declared.fault.Reason.{Reason}
use Rattle.szg_file.specs.declared.opened.fetching.FetchFault.TheVariants as fetch
use Rattle.szg_file.specs.declared.opened.fetching.ByteRange.{ByteRange}
use Rattle.szg_files.specs.Ranges.{HasFailedIn, IsRangeOf}
use Rattle.szg_files.specs.declared.file_system.FileFault.{FileFault}
use Rattle.szg_files.specs.declared.file_system.FileFault.TheVariants.{Memory}
use Rattle.szg_place.specs.Probes.{as_number}
use Rattle.szg_place.specs.Spots.{place_fault, spot_of}
use Rattle.szg_place.specs.Tables.{class_of, numbering_of}
use Rattle.szg_answers.specs.Answers.{IsSpotLine, class_line, front_lines, number_line}
use Rattle.szg_words.specs.Words.{number_of_class}
use Rattle.szg_answers.specs.Refusals.{index_refusal, map_refusal, size_at, spot_refusal}
use Rattle.szg_answers.specs.Requests.{first_check}
use Rattle.szg_answers.specs.declared.fronts.OpenedFront.{OpenedFront}
use Rattle.szg_answers.specs.declared.refusal.Refusal.{Refusal}
use Rattle.szg_answers.specs.declared.refusal.Refusal.TheVariants as why
use Rattle.szg_words.specs.declared.request.Action.{Action}
use Rattle.szg_words.specs.declared.request.Action.TheVariants.{Get, Index, Probe, Show}
use Rattle.szg_words.specs.declared.request.AskedClass.{AskedClass}
use Rattle.szg_words.specs.declared.request.Request.{Request}

-- ---- answers

-- the value of a part and side at one of its indexes, out of a block that decodes
abbrev pub IsDecodedAt : Contents → ℕ → ℕ → ℕ → ℕ → Type 0
IsDecodedAt t part side index value = IsSomeAnd (subtable_at t part side) (λ found. (index < found.0.size) × IsDecoded t.kind found index value)

-- the line of a value: of a WDL table its class, of a DTZ table its number of a part in a class
abbrev pub IsMeaningLine : Kind → TableIndex → ℕ → AskedClass → ℕ → List ℕ → Type 0
IsMeaningLine Wdl x part class value text = text ≡ class_line (class_of value)
IsMeaningLine Dtz x part class value text =
    (number : ℕ) × (as_number x part (number_of_class class) value ≡ Ok number) × (text ≡ number_line number)

-- The file of the table that these bytes begin with has `count` bytes.
pub record HasLength (content : List ℕ) (t : Contents) (count : ℕ) : Type 0 where
  pub filled : List ℕ
  pub rest : List ℕ
  pub begins : verdict (unread_file t.material t.kind) 0 content ≡ good t filled rest
  pub long : count + length rest ≡ length content

-- This text is the answer to a look-up in a table whose blocks are not checked: the first lines of its description, a spot,
-- or a value whose whole block decodes.
abbrev pub IsLookUpAnswer : Action → ℕ → ℕ → List ℕ → Contents → List ℕ → Type 0
IsLookUpAnswer Show part side content t text = (count : ℕ) × HasLength content t count × (rest : List ℕ) × (text ≡ front_lines t.material t.kind count ++ rest)
IsLookUpAnswer (Get index) part side content t text = (value : ℕ) × IsDecodedAt t part side index value × (text ≡ number_line value)
IsLookUpAnswer (Index board) part side content t text = IsSpotLine t board text
IsLookUpAnswer (Probe board class) part side content t text =
    let spot = spot_of (numbering_of t) board in
    IsNone (place_fault (numbering_of t) board) × (value : ℕ) × IsDecodedAt t spot.part spot.side spot.index value × IsMeaningLine t.kind (index_of t) spot.part class value text
IsLookUpAnswer action part side content t text = ⊥

-- ---- refusals

-- the refusal names the block of the value at one of the indexes, which does not decode, and its offset
abbrev pub IsBadBlockAt : List ℕ → Contents → ℕ → ℕ → ℕ → Refusal → Type 0
IsBadBlockAt content t part side index (why.Block number offset) =
    IsSomeAnd (subtable_at t part side) (λ found. (index < found.0.size) × NamesBadBlock content found index (fetch.Block number offset))
IsBadBlockAt content t part side index refusal = ⊥

-- the value has no number of its part in the class
abbrev pub IsMapRefusal : Kind → TableIndex → ℕ → AskedClass → ℕ → Refusal → Type 0
IsMapRefusal Wdl x part class value refusal = ⊥
IsMapRefusal Dtz x part class value refusal = map_refusal (as_number x part (number_of_class class) value) ≡ Some refusal

-- This refusal is the one that the look-up meets in the table of a file with these bytes.
abbrev pub IsLookUpRefused : Action → ℕ → ℕ → List ℕ → Contents → Refusal → Type 0
IsLookUpRefused (Get index) part side content t refusal =
    (index_refusal (size_at t part side) index ≡ Some refusal) ⊎ IsBadBlockAt content t part side index refusal
IsLookUpRefused (Index board) part side content t refusal = spot_refusal t board ≡ Some refusal
IsLookUpRefused (Probe board class) part side content t refusal =
    let spot = spot_of (numbering_of t) board in
    (spot_refusal t board ≡ Some refusal)
    ⊎ (IsNone (place_fault (numbering_of t) board)
    × (IsBadBlockAt content t spot.part spot.side spot.index refusal
    ⊎ ((value : ℕ) × IsDecodedAt t spot.part spot.side spot.index value × IsMapRefusal t.kind (index_of t) spot.part class value refusal)))
IsLookUpRefused action part side content t refusal = ⊥

-- ---- what is read

-- The front of a table of the name and kind that are asked was taken from a file of `size` bytes. It is the front of each
-- file of that size that begins with the bytes that were taken.
pub record IsFrontTaken {F : Type 0} (device : input.Ghosts F) (request : Request) (size : ℕ) (file file' : F) (opened : OpenedFront) : Type 0 where
  pub material : Sides
  pub named : parsed request.name.now ≡ Ok material
  pub material_is : opened.front.index.material ≡ material
  pub kind_is : opened.front.index.kind ≡ request.kind
  pub bytes : List ℕ
  pub taken : Takes device file file' bytes 1
  pub read_is : opened.read ≡ length bytes
  pub room : opened.read ≤ size
  pub length_is : opened.front.length ≡ size
  pub front : (content : List ℕ) → BeginsWith bytes size content → IsFrontOf opened.front content

-- The bytes that a value needs were read after the front, if it needs any.
abbrev pub IsBlockRead : {F : Type 0} → input.Ghosts F → F → ℕ → Option ByteRange → List ℕ → Type 0
IsBlockRead device file read None block = block ≡ []
IsBlockRead device file read (Some wanted) block =
    (skipped : ℕ) × (wanted.offset ≡ read + skipped) × (length block ≡ wanted.count) × IsRangeOf device file skipped block

-- After the front of `read` bytes at most a block was read, and of each file of `size` bytes with this front and with these
-- bytes in the block's place `Stated` holds.
pub record IsFetched {F : Type 0} (device : input.Ghosts F) (file : F) (kept : FrontKept) (read size : ℕ) (Stated : List ℕ → Type 0) : Type 0 where
  pub skipped : ℕ
  pub block : List ℕ
  pub taken : (block ≡ []) ⊎ IsRangeOf device file skipped block
  pub room : read + (skipped + length block) ≤ size
  pub stated : (content : List ℕ) → IsFrontOf kept content → bytes_at content (read + skipped) (length block) ≡ block → Stated content

-- the same of the table that the file begins with
abbrev pub IsFetchedIn : {F : Type 0} → input.Ghosts F → F → FrontKept → ℕ → ℕ → (List ℕ → Contents → Type 0) → Type 0
IsFetchedIn device file kept read size Stated =
    IsFetched device file kept read size (λ content. IsSomeAnd (front_in kept.index.material kept.index.kind content) (λ t. Stated content t))

-- ---- failures

-- These are the bytes that a value needs, of each file with the front.
abbrev pub IsWantedBy : FrontKept → ℕ → ℕ → ℕ → ByteRange → Type 0
IsWantedBy kept part side i wanted = (content : List ℕ) → IsFrontOf kept content → IfSome (front_at kept.index.material kept.index.kind content part side)
    (λ found. wanted_block found.1 i ≡ Some (bytes_at content wanted.offset wanted.count))

-- They begin before the end of the front of `read` bytes, or end after the file does.
abbrev pub IsBeyond : {F : Type 0} → input.Ghosts F → F → ℕ → ByteRange → Type 0
IsBeyond device file read wanted = (wanted.offset < read) ⊎ IfSome (device.coming file) (λ bytes. read + length bytes < wanted.offset + wanted.count)

-- They can't be had: memory was refused, the file failed, or they aren't there.
abbrev pub IsUnhad : {F : Type 0} → input.Ghosts F → F → ℕ → FileFault → ByteRange → Type 0
IsUnhad device file read fault wanted = (fault ≡ Memory) ⊎ HasFailedIn device file ⊎ IsBeyond device file read wanted

-- A value's block can't be had; or it was read, and no file has that front and that block: so a block that doesn't decode is
-- no failure.
abbrev pub IsUnfetched : {F : Type 0} → input.Ghosts F → F → FrontKept → ℕ → ℕ → ℕ → ℕ → ℕ → FileFault → Type 0
IsUnfetched device file kept read size part side i fault =
    ((wanted : ByteRange) × IsWantedBy kept part side i wanted × IsUnhad device file read fault wanted) ⊎ IsFetchedIn device file kept read size (λ content t. ⊥)

-- ---- a look-up in a file

-- What was read of a file: its size, its first bytes, and the bytes of at most one block, `skipped` bytes after these.
pub record Pieces : Type 0 where
  pub size : ℕ
  pub front : List ℕ
  pub skipped : ℕ
  pub block : List ℕ

-- A file with these bytes has that size, begins so, and has that block there.
pub record HasPieces (pieces : Pieces) (content : List ℕ) : Type 0 where
  pub begins : BeginsWith pieces.front pieces.size content
  pub holds : bytes_at content (length pieces.front + pieces.skipped) (length pieces.block) ≡ pieces.block

-- They were read of a file that was opened, and there is room for them in a file of that size.
pub record AreRead {F : Type 0} (device : input.Ghosts F) (file : F) (pieces : Pieces) : Type 0 where
  pub size_is : IfSome (device.coming file) (λ bytes. pieces.size ≡ length bytes)
  pub following : F
  pub front_taken : Takes device file following pieces.front 1
  pub block_taken : (pieces.block ≡ []) ⊎ IsRangeOf device following pieces.skipped pieces.block
  pub room : length pieces.front + (pieces.skipped + length pieces.block) ≤ pieces.size

-- The front of the file and at most a block were read, and `Stated` holds of the table of each file with these pieces.
pub record IsLookedUp {F : Type 0} (device : input.Ghosts F) (request : Request) (file : F) (Stated : List ℕ → Contents → Type 0) : Type 0 where
  pub material : Sides
  pub named : parsed request.name.now ≡ Ok material
  pub pieces : Pieces
  pub read : AreRead device file pieces
  pub stated : (content : List ℕ) → HasPieces pieces content → IsSomeAnd (front_in material request.kind content) (λ t. Stated content t)

-- The bytes that were taken of a file of this size are refused as the beginning of a table of the name and kind that are
-- asked.
pub record IsRefusedFront {F : Type 0} (device : input.Ghosts F) (request : Request) (size : ℕ) (file file' : F) (refusal : Refusal) : Type 0 where
  pub material : Sides
  pub named : parsed request.name.now ≡ Ok material
  pub place : ℕ
  pub reason : Reason
  pub stated : refusal ≡ why.At place reason
  pub bytes : List ℕ
  pub taken : Takes device file file' bytes 1
  pub refused : IsFrontRefusal material request.kind bytes size (device.coming file') place reason

-- No front was read: the name is none and nothing was taken, or the front is refused.
abbrev pub IsUnopened : {F : Type 0} → input.Ghosts F → Request → ℕ → F → F → Refusal → Type 0
IsUnopened device request size file file' refusal =
    ((first_check (parsed request.name.now) request.action ≡ Some refusal) × (file' ≡ file)) ⊎ IsRefusedFront device request size file file' refusal

-- The look-up meets this refusal in the file that was opened.
abbrev pub MeetsIn : {F : Type 0} → input.Ghosts F → Request → F → Refusal → Type 0
MeetsIn {F = F} device request file refusal =
    ((size : ℕ) × (file' : F) × IfSome (device.coming file) (λ bytes. size ≡ length bytes) × IsUnopened device request size file file' refusal)
    ⊎ IsLookedUp device request file (λ content t. IsLookUpRefused request.action request.part request.side content t refusal)

-- This text is the look-up's answer in the file that was opened.
abbrev pub AnswersIn : {F : Type 0} → input.Ghosts F → Request → F → List ℕ → Type 0
AnswersIn device request file text = IsLookedUp device request file (λ content t. IsLookUpAnswer request.action request.part request.side content t text)
