-- What was fetched of a table's file.
use Rattle.std.proofs.Common.{◌≡◌, ℕ, ◌<◌, List, length, take, drop, Option, Some, None, option_map, sym, subst}
use Rattle.std.specs.Prelude.{IfSome, IsSomeAnd, MatchOption}
use Rattle.szg_block.specs.BlocksTrait.{bytes_at}
use Rattle.szg_file.specs.Contents.{Slot, Subtable}
use Rattle.szg_file.specs.FrontTable.{FrontKept, IsFrontOf}
use Rattle.szg_file.specs.Index.{slot_in}
use Rattle.szg_file.specs.Located.{Location, located_at}
use Rattle.szg_file.specs.Unread.{IsDecoded}
use Rattle.szg_file.specs.Wanted.{wanted_block}
use Rattle.szg_file.specs.declared.opened.fetching.ByteRange.{ByteRange}
use Rattle.szg_file.proofs.Openings.LocatedLaws.{value_of, wanted_of}
use Rattle.szg_place.specs.declared.Spot.{Spot}
use Rattle.szg_values.specs.declared.Kind.{Kind}
use Rattle.szg_tables.specs.Fetched.{IsValueIn}

-- ---- bytes of a file

-- the bytes of a range, where the file's bytes are known
pub block_is : (o coming : Option (List ℕ)) (offset count : ℕ) (block : List ℕ) → IfSome o (λ content. coming ≡ Some content) → IfSome coming (λ content. block ≡ take (length block) (drop offset content)) →
    length block ≡ count → IfSome o (λ content. block ≡ bytes_at content offset count)
block_is None coming offset count block from known long = tt
block_is (Some content) coming offset count block from known long =
    subst (λ (n : ℕ). block ≡ take n (drop offset content)) long (subst (λ (o : Option (List ℕ)). IfSome o (λ content. block ≡ take (length block) (drop offset content))) from known)

-- ---- values

abbrev spot_in : FrontKept → Spot → Location
spot_in kept spot = record { kept = kept; part = spot.part; side = spot.side; index = spot.index }

below_of : (o : Option Slot) (i size : ℕ) → option_map (λ slot. slot.size) o ≡ Some size → i < size → IsSomeAnd o (λ slot. i < slot.size)
below_of None i size is below = let no : None ≡ Some size = is in absurd (cc no)
below_of (Some slot) i size is below = let equal : Some slot.size ≡ Some size = is in let same : slot.size ≡ size = cc equal in subst (λ (n : ℕ). i < n) (sym same) below

pub is_below : (kept : FrontKept) (spot : Spot) (size : ℕ) → option_map (λ slot. slot.size) (slot_in kept.index spot.part spot.side) ≡ Some size → spot.index < size →
    IsSomeAnd (slot_in kept.index spot.part spot.side) (λ slot. spot.index < slot.size)
is_below kept spot size is below = below_of (slot_in kept.index spot.part spot.side) spot.index size is below

decoded_by : (kind : Kind) (i v : ℕ) (content block : List ℕ) (o : Option (Slot × Subtable)) (r : Option ByteRange) →
    IfSome o (λ found. MatchOption r (wanted_block found.1 i ≡ None) (λ range. wanted_block found.1 i ≡ Some (bytes_at content range.offset range.count))) →
    IfSome r (λ range. block ≡ bytes_at content range.offset range.count) → IfSome o (λ found. IfSome (wanted_block found.1 i) (λ wanted. wanted ≡ block) → IsDecoded kind found i v) →
    IfSome o (λ found. IsDecoded kind found i v)
decoded_by kind i v content block None r wanted read decoded = tt
decoded_by kind i v content block (Some found) None wanted read decoded = decoded (subst (λ (o : Option (List ℕ)). IfSome o (λ w. w ≡ block)) (sym wanted) tt)
decoded_by kind i v content block (Some found) (Some range) wanted read decoded = decoded (subst (λ (o : Option (List ℕ)). IfSome o (λ w. w ≡ block)) (sym wanted) (sym read))

-- the value at a spot, by the bytes of its block
pub fetched_is : (kept : FrontKept) (spot : Spot) (l : Location) (v : ℕ) (block : List ℕ) (r : Option ByteRange) (o : Option (List ℕ)) → IsSomeAnd (slot_in kept.index spot.part spot.side) (λ slot. spot.index < slot.size) →
    l ≡ record { kept = kept; part = spot.part; side = spot.side; index = spot.index } →
    ((content : List ℕ) → IsFrontOf l.kept content → IfSome (located_at content l) (λ found. MatchOption r (wanted_block found.1 l.index ≡ None) (λ range. wanted_block found.1 l.index ≡ Some (bytes_at content range.offset range.count)))) →
    IfSome o (λ content. IfSome r (λ range. block ≡ bytes_at content range.offset range.count)) →
    ((content : List ℕ) → IsFrontOf l.kept content → IfSome (located_at content l) (λ found. IfSome (wanted_block found.1 l.index) (λ wanted. wanted ≡ block) → IsDecoded l.kept.index.kind found l.index v)) →
    IfSome o (λ content. IsFrontOf kept content → IsValueIn kept content (record { spot = spot; value = v }))
fetched_is kept spot l v block r None below is wanted read decoded = tt
fetched_is kept spot l v block r (Some content) below is wanted read decoded = λ front. (
  below,
  decoded_by kept.index.kind spot.index v content block (located_at content (spot_in kept spot)) r
      (wanted_of l (spot_in kept spot) is r wanted content front) read (value_of l (spot_in kept spot) is block v decoded content front),
)
