-- The slots and the values of a table that was read while a sink accepted its values.
use Rattle.std.proofs.Common.{◌≡◌, Bool, List, [], ◌∷◌, length, map, refl, ap, ◌∙◌, arith, Ok, Err, Vec, Global}
use Rattle.std.specs.Prelude.{IfOk, Result}
use Rattle.szg_io.specs.declared.device.Input.{Ghosts}
use Rattle.szg_file.specs.Accepted.{SideBySide}
use Rattle.szg_file.specs.Contents.{Slot, Subtable, constant, pairs}
use Rattle.szg_file.specs.File.{Begun, begun, each, sparse_field, lengths_field}
use Rattle.szg_file.specs.Kept.{kept_measured, ReadingOf}
use Rattle.szg_file.specs.Reading.{Reading}
use Rattle.szg_file.specs.Values.{slotted}
use Rattle.szg_file.specs.declared.begun.Measured.{Measured}
use Rattle.szg_file.specs.declared.fault.ReadFault.{ReadFault}
use Rattle.szg_file.specs.declared.reading.state.ReaderState.{ReaderState}
use Rattle.szg_file.proofs.Grammar.FileLaws.{sound_each}
use Rattle.szg_file.proofs.Grammar.KeptLaws.{kept_slots}
use Rattle.szg_file.proofs.Grammar.WholeLaws.{sound_sparse, sound_lengths, IsIndexed, IsMeasured}

abbrev pub slot_of : Begun → Slot
slot_of b = b.slot

same_slots : (P : Begun → Begun → Type 0) → ((b c : Begun) → P b c → c.slot ≡ b.slot) → (bs cs : List Begun) → SideBySide P bs cs → map slot_of cs ≡ map slot_of bs
same_slots P one [] [] h = refl
same_slots P one [] (c ∷ cs) h = absurd h
same_slots P one (b ∷ bs) [] h = absurd h
same_slots P one (b ∷ bs) (c ∷ cs) h = ap (λ (s : Slot). s ∷ map slot_of cs) (one b c h.0) ∙ ap (λ (l : List Slot). b.slot ∷ l) (same_slots P one bs cs h.1)

indexed_slot : (slot : Slot) (s : Subtable) (c : Begun) → IsIndexed slot s c → c.slot ≡ slot
indexed_slot slot (constant flags byte) c h = h.0
indexed_slot slot (pairs head sparse lengths packed) c h = h.0

measured_slot : (slot : Slot) (s : Subtable) (c : Begun) → IsMeasured slot s c → c.slot ≡ slot
measured_slot slot (constant flags byte) c h = h.0
measured_slot slot (pairs head sparse lengths packed) c h = h.0

-- reading the sparse indexes changes no slot
pub indexed_slots : {X R : Type 0} (list : List Begun) (view : X → List Begun) (x : X) {o n : ReaderState} {dev : Ghosts R} {i k : R} →
    Reading (each sparse_field list) view o n dev i k (Ok x) → map slot_of (view x) ≡ map slot_of list
indexed_slots list view x {o = o} h =
    let a = h.answer.0 in
    same_slots (λ b c. IsIndexed b.slot b.subtable c) (λ b c. indexed_slot b.slot b.subtable c) list (view x)
    ((sound_each sparse_field _ (λ b c. IsIndexed b.slot b.subtable c) (λ b. sound_sparse b.slot b.subtable) list).sound o.place h.bytes (view x) a.filled a.fits a.whole).2

-- reading the block lengths changes no slot
pub measured_slots : {X R : Type 0} (list : List Begun) (view : X → List Begun) (x : X) {o n : ReaderState} {dev : Ghosts R} {i k : R} →
    Reading (each lengths_field list) view o n dev i k (Ok x) → map slot_of (view x) ≡ map slot_of list
measured_slots list view x {o = o} h =
    let a = h.answer.0 in
    same_slots (λ b c. IsMeasured b.slot b.subtable c) (λ b c. measured_slot b.slot b.subtable c) list (view x)
    ((sound_each lengths_field _ (λ b c. IsMeasured b.slot b.subtable c) (λ b. sound_lengths b.slot b.index b.subtable) list).sound o.place h.bytes (view x) a.filled a.fits a.whole).2

-- nor does it if not all block lengths are kept
pub kept_slots_read : {R : Type 0} (all : Bool) (list : List Begun) (slots : List Slot) → map slot_of list ≡ slots → (result : Result (Vec Measured Global) ReadFault) (o n : ReaderState) (dev : Ghosts R) (i k : R) →
    ReadingOf (each lengths_field list) (λ whole kept. kept.items ≡ kept_measured all whole) o n dev i k result → IfOk result (λ kept. map slot_of kept.items ≡ slots)
kept_slots_read all list slots same (Ok kept) o n dev i k h = ap (map slot_of) h.1 ∙ kept_slots all h.0 ∙ measured_slots list (λ (_ : Vec Measured Global). h.0) kept h.2 ∙ same
kept_slots_read all list slots same (Err fault) o n dev i k h = tt

-- the subtables that were begun have the slots
pub slotted_begun : (slots : List Slot) (heads subs : List Subtable) → length subs ≡ length (begun slots heads) → slotted (map slot_of (begun slots heads)) subs ≡ slotted slots subs
slotted_begun [] heads subs e = refl
slotted_begun (x ∷ slots) [] [] e = refl
slotted_begun (x ∷ slots) [] (s ∷ subs) e = absurd (omega (arith, e))
slotted_begun (x ∷ slots) (h ∷ heads) [] e = refl
slotted_begun (x ∷ slots) (h ∷ heads) (s ∷ subs) e = ap (λ (z : List (Slot × Subtable)). (x, s) ∷ z) (slotted_begun slots heads subs (omega (arith, e)))
