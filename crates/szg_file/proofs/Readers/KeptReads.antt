-- Readings of which not all of the meaning is kept.
use Rattle.std.proofs.Common.{◌≡◌, ℕ, ◌+◌, List, [], ◌++◌, length, sym, ap, subst, ◌∙◌, append-nil, Ok, Err}
use Rattle.std.specs.Prelude.{IsErrOf, Option, Result}
use Rattle.szg_io.specs.declared.device.Input.{Ghosts}
use Rattle.szg_file.specs.declared.fault.Reason.{Reason}
use Rattle.szg_file.specs.declared.fault.ReadFault.{ReadFault}
use Rattle.szg_file.specs.declared.fault.ReadFault.TheVariants.{Refused, Device, Memory}
use Rattle.szg_file.specs.declared.reading.state.ReaderState.{ReaderState}
use Rattle.szg_file.specs.Format.{Format, means, Verdict, good, refused, truncated, verdict, ◌>>=◌}
use Rattle.szg_file.specs.Kept.{ReadingOf}
use Rattle.szg_file.specs.Reading.{Reading, IsRefusal, StopsWithin}
use Rattle.szg_file.proofs.Grammar.FormatLaws.{continued, verdict-then}
use Rattle.szg_file.proofs.Readers.ReadingLaws.{reads_then}

-- the meaning of a text whose kept meaning was read
pub record IsMeant {A B : Type 0} (k : A → B) (v : Verdict A) (b : B) (filled : List ℕ) : Type 0 where
  pub whole : A
  pub is : v ≡ good whole filled []
  pub kept_is : k whole ≡ b

meant : {A B : Type 0} (k : A → B) (count : ℕ) (v : Verdict A) (b : B) (filled : List ℕ) → continued (λ a. means (k a)) count v ≡ good b filled [] → IsMeant k v b filled
meant k count (good a more rest) b filled e =
    let same : k a ≡ b = cc in
    let fills : more ++ [] ≡ filled = cc in
    let ends : rest ≡ [] = cc in
    record {
      whole = a;
      is = ap (λ (z : List ℕ). good a z rest) (sym (append-nil more) ∙ fills) ∙ ap (λ (z : List ℕ). good a filled z) ends;
      kept_is = same;
    }
meant k count (refused at reason rest) b filled e = absurd cc
meant k count (truncated at) b filled e = absurd cc

refusal_of : {A B : Type 0} (k : A → B) (count : ℕ) (v : Verdict A) (place : ℕ) (reason : Reason) (coming : Option (List ℕ)) → IsRefusal (continued (λ a. means (k a)) count v) place reason coming → IsRefusal v place reason coming
refusal_of k count (good a more rest) place reason coming h = absurd h
refusal_of k count (refused at why rest) place reason coming h = h
refusal_of k count (truncated at) place reason coming h = h

stops_of : {A B : Type 0} (k : A → B) (count : ℕ) (v : Verdict A) → StopsWithin (continued (λ a. means (k a)) count v) → StopsWithin v
stops_of k count (good a more rest) h = h
stops_of k count (refused at why rest) h = h
stops_of k count (truncated at) h = h

-- a fault of a reading whose meaning is mapped
pub mapped_fault : {A B X Y R : Type 0} (f : Format A) (k : A → B) (view : X → B) (view' : Y → A) (fault : ReadFault) {o n : ReaderState} {dev : Ghosts R} {i j : R} →
    Reading (f >>= λ a. means (k a)) view o n dev i j (Err fault) → Reading f view' o n dev i j (Err fault)
mapped_fault f k view view' (Refused place reason) {o = o} {dev = dev} {j = j} h = record {
  bytes = h.bytes;
  taken = h.taken;
  answer = (
    refusal_of k (o.place + length h.bytes) (verdict f o.place h.bytes) place reason (dev.coming j)
        (subst (λ (v : Verdict _). IsRefusal v place reason (dev.coming j)) (verdict-then f (λ a. means (k a)) o.place h.bytes) h.answer.0),
    h.answer.1,
  );
}
mapped_fault f k view view' Device h = record { bytes = h.bytes; taken = h.taken; answer = h.answer }
mapped_fault f k view view' Memory {o = o} h = record {
  bytes = h.bytes;
  taken = h.taken;
  answer = (
    stops_of k (o.place + length h.bytes) (verdict f o.place h.bytes)
        (subst (λ (v : Verdict _). StopsWithin v) (verdict-then f (λ a. means (k a)) o.place h.bytes) h.answer.0),
    h.answer.1,
  );
}

-- the meaning of a reading whose meaning is mapped
pub mapped_meaning : {A B X R : Type 0} (f : Format A) (k : A → B) (view : X → B) (x : X) {o n : ReaderState} {dev : Ghosts R} {i j : R} →
    Reading (f >>= λ a. means (k a)) view o n dev i j (Ok x) → (a : A) × (k a ≡ view x) × Reading f (λ (_ : X). a) o n dev i j (Ok x)
mapped_meaning f k view x {o = o} h =
    let a = h.answer.0 in
    let m = meant k (o.place + length h.bytes) (verdict f o.place h.bytes) (view x) a.filled (sym (verdict-then f (λ a. means (k a)) o.place h.bytes) ∙ a.whole) in (
      m.whole,
      m.kept_is,
      record {
        bytes = h.bytes;
        taken = h.taken;
        answer = (record { fits = a.fits; filled = a.filled; whole = m.is; place = a.place; fill = a.fill }, h.answer.1);
      },
    )

-- a reading with another view that shows the same of the result
pub reads_seen : {A X Y R : Type 0} (f : Format A) (view : X → A) (view' : Y → A) (x : X) (y : Y) {o n : ReaderState} {dev : Ghosts R} {i j : R} → view' y ≡ view x →
    Reading f view o n dev i j (Ok x) → Reading f view' o n dev i j (Ok y)
reads_seen f view view' x y {o = o} same h =
    let a = h.answer.0 in
    record {
      bytes = h.bytes;
      taken = h.taken;
      answer = (record { fits = a.fits; filled = a.filled; whole = a.whole ∙ ap (λ (z : _). good z a.filled []) (sym same); place = a.place; fill = a.fill }, h.answer.1);
    }

-- a fault has no meaning
pub fault_seen : {A X Y R : Type 0} (f : Format A) (view : X → A) (view' : Y → A) (fault : ReadFault) {o n : ReaderState} {dev : Ghosts R} {i j : R} →
    Reading f view o n dev i j (Err fault) → Reading f view' o n dev i j (Err fault)
fault_seen f view view' (Refused place reason) h = record { bytes = h.bytes; taken = h.taken; answer = h.answer }
fault_seen f view view' Device h = record { bytes = h.bytes; taken = h.taken; answer = h.answer }
fault_seen f view view' Memory h = record { bytes = h.bytes; taken = h.taken; answer = h.answer }

-- the same error of another result
pub memory_as : {X Y : Type 0} {fault : ReadFault} → IsErrOf {T = X} (Err fault) Memory → IsErrOf {T = Y} (Err fault) Memory
memory_as {Y = Y} {fault = fault} e = let same : fault ≡ Memory = cc in ap (λ (f : ReadFault). let r : Result Y ReadFault = Err f in r) same

-- ---- readings of a meaning that what is returned has a relation to

-- all of the meaning
pub whole_reading : {A X R : Type 0} (f : Format A) (view : X → A) (x : X) {o n : ReaderState} {dev : Ghosts R} {i j : R} →
    ReadingOf f (λ a x. view x ≡ a) o n dev i j (Ok x) → Reading f view o n dev i j (Ok x)
whole_reading {X = X} f view x h = reads_seen f (λ (_ : X). h.0) view x x h.1 h.2

-- what the meaning is mapped to
pub mapped_of : {A B X R : Type 0} (f : Format A) (k : A → B) (view : X → B) (result : Result X ReadFault) {o : ReaderState} (n : ReaderState) {dev : Ghosts R} {i : R} (j : R) →
    Reading (f >>= λ a. means (k a)) view o n dev i j result → ReadingOf f (λ a x. view x ≡ k a) o n dev i j result
mapped_of f k view (Ok x) n j h = let m = mapped_meaning f k view x h in (m.0, sym m.1, m.2)
mapped_of {A = A} f k view (Err fault) n j h = mapped_fault f k view (λ (a : A). a) fault h

-- two formats one after another
pub then_of : {A B X Y R : Type 0} (f : Format A) (g : A → Format B) (Is : B → Y → Type 0) (view : X → A) (x : X) (result : Result Y ReadFault) {o m : ReaderState} (n : ReaderState) {dev : Ghosts R} {i j : R} (l : R) →
    Reading f view o m dev i j (Ok x) → ReadingOf (g (view x)) Is m n dev j l result → ReadingOf (f >>= g) Is o n dev i l result
then_of {Y = Y} f g Is view x (Ok y) n l first h = (h.0, h.1, reads_then f g view (λ (_ : Y). h.0) x first h.2)
then_of {B = B} f g Is view x (Err fault) n l first h = reads_then f g view (λ (b : B). b) x first h
