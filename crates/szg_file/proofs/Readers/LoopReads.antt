-- Loops that read items in order: the state before an item, and the effect of a fault.
use Rattle.std.proofs.Common.{◌≡◌, ℕ, suc, ◌+◌, ◌<◌, List, [], ◌∷◌, ◌++◌, length, take, drop, get_or, refl, sym, ap, subst, ◌∙◌, arith, Ok, Err}
use Rattle.std.proofs.Common.{drop-cons}
use Rattle.std.proofs.lemmas.List.{take_more, take-append-drop}
use Rattle.szg_file.specs.declared.reading.state.ReaderState.{ReaderState}
use Rattle.szg_file.specs.declared.fault.ReadFault.{ReadFault}
use Rattle.szg_file.specs.declared.fault.ReadFault.TheVariants.{Memory}
use Rattle.szg_file.specs.Format.{Format}
use Rattle.szg_file.specs.Contents.{Slot, Subtable}
use Rattle.szg_file.specs.File.{each, Begun, begun}
use Rattle.szg_file.specs.Reading.{Reading}
use Rattle.szg_io.specs.declared.device.Input.{Ghosts}
use Rattle.szg_io.proofs.DeviceLaws.{Takes-more}
use Rattle.szg_file.proofs.Grammar.CutLaws.{stops-whole}
use Rattle.szg_file.proofs.Readers.ReadingLaws.{reads_more, reads_more_stopped}

pub taken_next : {X : Type 0} (xs : List X) (i : ℕ) (x : X) → i < length xs → x ≡ get_or xs i x → take (i + 1) xs ≡ take i xs ++ x ∷ []
taken_next {X = X} xs i x there e = take_more xs i x there ∙ ap (λ (y : X). take i xs ++ y ∷ []) (sym e)

pub cut_at : {X : Type 0} (xs : List X) (i : ℕ) (x : X) → i < length xs → x ≡ get_or xs i x → xs ≡ take i xs ++ x ∷ drop (suc i) xs
cut_at {X = X} xs i x there e =
    sym (take-append-drop i xs)
    ∙ ap (λ (z : List X). take i xs ++ z) (drop-cons xs i x there ∙ ap (λ (y : X). y ∷ drop (suc i) xs) (sym e))

-- A successful reading followed by a refused allocation.
pub reads_lacking : {A X Y R : Type 0} (f : Format A) (view : X → A) (view' : Y → A) (v : X) {o m n : ReaderState}
    {dev : Ghosts R} {i j : R} →
    Reading f view o m dev i j (Ok v) →
    Reading f view' o n dev i j (Err Memory)
reads_lacking f view view' v {o = o} h = record {
  bytes = h.bytes;
  taken = Takes-more h.bytes 1 h.taken;
  answer = (stops-whole f o.place h.bytes (view v) h.answer.0.filled h.answer.0.whole, h.answer.1);
}

-- One more item.
pub each_next : {A B X Y Z R : Type 0} (f : A → Format B) (xs : List A) (at : ℕ) (x : A) (view : X → List B) (view' : Y → B) (view'' : Z → List B) {o m n : ReaderState}
    {dev : Ghosts R} {i j k : R} (v : X) (y : Y) (z : Z) →
    at < length xs → x ≡ get_or xs at x → view'' z ≡ view v ++ view' y ∷ [] →
    Reading (each f (take at xs)) view o m dev i j (Ok v) →
    Reading (f x) view' m n dev j k (Ok y) →
    Reading (each f (take (at + 1) xs)) view'' o n dev i k (Ok z)
each_next {A = A} f xs at x view view' view'' {o = o} {n = n} {dev = dev} {i = i} {k = k} v y z there is e first second =
    subst (λ (l : List A). Reading (each f l) view'' o n dev i k (Ok z)) (sym (taken_next xs at x there is))
    (reads_more f (take at xs) x view view' view'' v y z e first second)

-- The fault of an item is the fault of all.
pub each_stops : {A B X Y Z R : Type 0} (f : A → Format B) (xs : List A) (at : ℕ) (x : A) (view : X → List B) (view' : Y → B) (view'' : Z → List B) {o m n : ReaderState}
    {dev : Ghosts R} {i j k : R} (v : X) (fault : ReadFault) →
    at < length xs → x ≡ get_or xs at x →
    Reading (each f (take at xs)) view o m dev i j (Ok v) →
    Reading (f x) view' m n dev j k (Err fault) →
    Reading (each f xs) view'' o n dev i k (Err fault)
each_stops {A = A} f xs at x view view' view'' {o = o} {n = n} {dev = dev} {i = i} {k = k} v fault there is first second =
    subst (λ (l : List A). Reading (each f l) view'' o n dev i k (Err fault)) (sym (cut_at xs at x there is))
    (reads_more_stopped f (take at xs) x (drop (suc at) xs) view view' view'' v fault first second)

-- ---- subtables and their slots

pub begun_more : (slots : List Slot) (subtables : List Subtable) (slot : Slot) (subtable : Subtable) → length slots ≡ length subtables →
    begun (slots ++ slot ∷ []) (subtables ++ subtable ∷ []) ≡ begun slots subtables ++ record { slot = slot; subtable = subtable; index = 0 } ∷ []
begun_more [] [] slot subtable e = refl
begun_more [] (s ∷ subtables) slot subtable e = absurd (omega (arith, e))
begun_more (s ∷ slots) [] slot subtable e = absurd (omega (arith, e))
begun_more (s ∷ slots) (t ∷ subtables) slot subtable e = ap (λ (z : List Begun). record { slot = s; subtable = t; index = 0 } ∷ z) (begun_more slots subtables slot subtable (omega (arith, e)))
