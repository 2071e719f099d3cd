-- What a located value ensures, by the part, side and index at which it was located.
use Rattle.std.proofs.Common.{◌≡◌, ℕ, ◌+◌, ◌^◌, ◌<◌, ◌≤◌, List, length, subst, arith, Option, Some, None}
use Rattle.std.specs.Prelude.{◌≢◌, ◌↔◌, IfNone, IfSome, IsOk, IsSomeAnd, MatchOption, Result, Err}
use Rattle.szg_block.specs.BlocksTrait.{bytes_at}
use Rattle.szg_block.specs.Kept.{IsLocatable}
use Rattle.szg_block.specs.Subtable.{IsHeaded}
use Rattle.szg_file.specs.Contents.{Slot}
use Rattle.szg_file.specs.Fetching.{NamesBadBlock}
use Rattle.szg_file.specs.FrontTable.{FrontKept, IsFrontOf}
use Rattle.szg_file.specs.Index.{slot_in, slots_in}
use Rattle.szg_file.specs.Located.{Location, located_at, IsKeptIn}
use Rattle.szg_file.specs.Placed.{blocks_size, IsSlotted}
use Rattle.szg_file.specs.Unread.{IsDecoded}
use Rattle.szg_file.specs.Wanted.{IsSpelledBy, wanted_block}
use Rattle.szg_file.specs.declared.opened.fetching.ByteRange.{ByteRange}
use Rattle.szg_file.specs.declared.opened.fetching.FetchFault.{FetchFault}
use Rattle.szg_file.specs.declared.opened.fetching.FetchFault.TheVariants.{Source}
use Rattle.szg_file.specs.declared.reading.dropping.PlacedSub.{PlacedSub}
use Rattle.szg_file.proofs.Openings.FrontFinds.{one_front_slot, one_front_found}
use Rattle.szg_file.proofs.Openings.KeptFronts.{kept_known}

-- ---- the subtable of a value

pub record IsSlotKnown (l : Location) (slot : Slot) (placed : PlacedSub) : Type 0 where
  pub below : l.index < slot.size
  pub head : IsHeaded placed.sub
  pub index : IsLocatable placed.sub slot.size
  pub inside : placed.first + blocks_size placed.sub ≤ l.kept.length
  pub short : l.kept.length < 2 ^ 64
  pub front : (content : List ℕ) (h : IsFrontOf l.kept content) → IsKeptIn h.all (located_at content l) content slot placed

pub slot_known : (kept : FrontKept) (content : List ℕ) (own : IsFrontOf kept content) (slots : List Slot) (subs : List PlacedSub) (part side i : ℕ) (same : slots ≡ slots_in kept.index) (same_subs : subs ≡ kept.subs)
    (slot : Slot) (sub : PlacedSub) → IsSlotted slots subs part side slot sub → IsSomeAnd (slot_in kept.index part side) (λ slot. i < slot.size) →
    IsSlotKnown (record { kept = kept; part = part; side = side; index = i }) slot sub
slot_known kept content own slots subs part side i same same_subs slot sub at below =
    let there = one_front_slot kept slots subs part side same same_subs slot sub at in
    let found = one_front_found kept slots subs part side same same_subs content own slot sub at in
    let known = kept_known own.all slot content sub.sub sub.first found.found.whole found.found.kept_is found.unread in
    record {
      below = subst (λ (o : Option Slot). IsSomeAnd o (λ slot. i < slot.size)) there below;
      head = known.0;
      index = known.1;
      inside = omega (arith, found.fits.inside, own.long);
      short = own.short;
      front = λ content h. (one_front_found kept slots subs part side same same_subs content h slot sub at).found;
    }

pub spot_found : {S : Type 0} (spot : Option S) (A : Type 0) (B : S → Type 0) → IfNone spot A → IfSome spot B → MatchOption spot A B
spot_found None A B none some = none
spot_found (Some s) A B none some = some

-- ---- what is ensured of it

abbrev IsInside : Option ByteRange → Location → Type 0
IsInside range l = IfSome range (λ w. w.offset + w.count ≤ l.kept.length)

abbrev IsWanted : Option ByteRange → Location → Type 0
IsWanted range l = (content : List ℕ) → IsFrontOf l.kept content → IfSome (located_at content l) (λ found.
    MatchOption range (wanted_block found.1 l.index ≡ None) (λ w. wanted_block found.1 l.index ≡ Some (bytes_at content w.offset w.count)))

abbrev IsValue : List ℕ → ℕ → Location → Type 0
IsValue block value l = (content : List ℕ) → IsFrontOf l.kept content → IfSome (located_at content l) (λ found.
    IfSome (wanted_block found.1 l.index) (λ wanted. wanted ≡ block) → IsDecoded l.kept.index.kind found l.index value)

abbrev IsFault : List ℕ → FetchFault → Location → Type 0
IsFault block fault l = (content : List ℕ) → IsFrontOf l.kept content → IfSome (located_at content l) (λ found.
    IfSome (wanted_block found.1 l.index) (λ wanted. wanted ≡ block) → NamesBadBlock content found l.index fault)

abbrev IsLength : List ℕ → Result ℕ FetchFault → Location → Type 0
IsLength block r l = (content : List ℕ) → IsFrontOf l.kept content → IfSome (located_at content l) (λ found.
    MatchOption (wanted_block found.1 l.index) (IsOk r) (λ wanted. (r ≡ Err Source) ↔ (length block ≢ length wanted)))

abbrev IsSpelled : List ℕ → ℕ → Location → Type 0
IsSpelled block value l = (content : List ℕ) → IsFrontOf l.kept content → IfSome (located_at content l) (λ found. IsSpelledBy block found.1 l.index (Some value))

module _ (l m : Location) (e : l ≡ m) where
  pub inside_of : (range : Option ByteRange) → IsInside range l → IsInside range m
  inside_of range h = subst (IsInside range) e h

  pub wanted_of : (range : Option ByteRange) → IsWanted range l → IsWanted range m
  wanted_of range h = subst (IsWanted range) e h

  pub value_of : (block : List ℕ) (value : ℕ) → IsValue block value l → IsValue block value m
  value_of block value h = subst (IsValue block value) e h

  pub fault_of : (block : List ℕ) (fault : FetchFault) → IsFault block fault l → IsFault block fault m
  fault_of block fault h = subst (IsFault block fault) e h

  pub length_of : (block : List ℕ) (r : Result ℕ FetchFault) → IsLength block r l → IsLength block r m
  length_of block r h = subst (IsLength block r) e h

  pub spelled_of : (block : List ℕ) (value : ℕ) → IsSpelled block value l → IsSpelled block value m
  spelled_of block value h = subst (IsSpelled block value) e h
