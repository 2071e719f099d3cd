-- The byte range that a value needs, and the value in bytes that C brings.
use Rattle.std.proofs.Common.{◌≡◌, ℕ, List, Option, None, Some, IfSome, Err, arith, refl}
use Rattle.std.specs.Prelude.{◌≢◌, ◌↔◌, Result, IsOk, MatchOption, length}
use Rattle.szg_block.specs.BlocksTrait.{bytes_at}
use Rattle.szg_file.specs.Contents.{Slot, Subtable}
use Rattle.szg_file.specs.Wanted.{wanted_block}
use Rattle.szg_file.specs.declared.opened.fetching.FetchFault.{FetchFault}
use Rattle.szg_file.specs.declared.opened.fetching.FetchFault.TheVariants.{Block, Source}
use Rattle.szg_file.specs.declared.opened.fetching.ByteRange.{ByteRange}
use Rattle.szg_c.specs.FrontBlocks.{IsRangeOf}
use Rattle.szg_c.specs.Fronts.{FetchReported}
use Rattle.szg_c.specs.declared.front_blocks.RawByteRange.{RawByteRange}
use Rattle.szg_c.specs.declared.fronts.BadBlock.{BadBlock}
use Rattle.szg_c_positions.specs.declared.status.TheConstants.{CHANGED, DONE}

-- what holds of a value under a condition that also holds
pub under : {X : Type 0} (o : Option X) (P Q : X → Type 0) → IfSome o (λ x. P x → Q x) → IfSome o P → IfSome o Q
under None P Q h p = tt
under (Some x) P Q h p = h p

pub weaker : {X : Type 0} (o : Option X) (P Q : X → Type 0) → IfSome o P → ((x : X) → P x → Q x) → IfSome o Q
weaker None P Q h make = tt
weaker (Some x) P Q h make = make x h

-- the range that was found is the one that the value needs
pub range_stated : (w : Option ByteRange) (b : Option (List ℕ)) (content : List ℕ) (range : RawByteRange) → MatchOption w (b ≡ None) (λ wanted. b ≡ Some (bytes_at content wanted.offset wanted.count)) →
    MatchOption w ((range.offset ≡ 0) × (range.count ≡ 0)) (λ wanted. (range.offset ≡ wanted.offset) × (range.count ≡ wanted.count)) → IsRangeOf b content range
range_stated None None content range e are = are
range_stated None (Some block) content range e are = absurd (cc e)
range_stated (Some wanted) None content range e are = absurd (cc e)
range_stated (Some wanted) (Some block) content range e are =
    let same : block ≡ bytes_at content wanted.offset wanted.count = cc e in
    rw (are.0, are.1) same

-- the status of bytes of another length, by the result
pub length_stated : (o : Option (Slot × Subtable)) (index : ℕ) (block : List ℕ) (r : Result ℕ FetchFault) (status : ℕ) → (IsOk r → status ≡ DONE) → (status ≡ CHANGED → r ≡ Err Source) → (r ≡ Err Source → status ≡ CHANGED) →
    IfSome o (λ found. MatchOption (wanted_block found.1 index) (IsOk r) (λ wanted. (r ≡ Err Source) ↔ (length block ≢ length wanted))) →
    IfSome o (λ found. MatchOption (wanted_block found.1 index) (status ≡ DONE) (λ wanted. (status ≡ CHANGED) ↔ (length block ≢ length wanted)))
length_stated None index block r status done to back h = tt
length_stated (Some found) index block r status done to back h = reported (wanted_block found.1 index) h where
  reported : (w : Option (List ℕ)) → MatchOption w (IsOk r) (λ wanted. (r ≡ Err Source) ↔ (length block ≢ length wanted)) → MatchOption w (status ≡ DONE) (λ wanted. (status ≡ CHANGED) ↔ (length block ≢ length wanted))
  reported None ok = done ok
  reported (Some wanted) is = (λ e. is.0 (to e), λ other. back (is.1 other))

-- the status of a fault is CHANGED just for a wrong length
pub fault_of_changed : (fault : FetchFault) (before after : BadBlock) (status : ℕ) → FetchReported fault before after status → status ≡ CHANGED → ◌≡◌ {A = Result ℕ FetchFault} (Err fault) (Err Source)
fault_of_changed (Block number offset) before after status h e =
    let bad : status ≡ 18 = h.0 in
    let changed : status ≡ 17 = e in
    absurd (omega (arith, bad, changed))
fault_of_changed Source before after status h e = refl

pub changed_of_fault : (fault : FetchFault) (before after : BadBlock) (status : ℕ) → FetchReported fault before after status → ◌≡◌ {A = Result ℕ FetchFault} (Err fault) (Err Source) → status ≡ CHANGED
changed_of_fault (Block number offset) before after status h e = absurd (cc e)
changed_of_fault Source before after status h e = h.0
