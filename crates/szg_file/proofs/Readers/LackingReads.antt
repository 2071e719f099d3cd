-- Readings of a whole file, stage by stage. If one ends with `Memory`, the text is not whole.
use Rattle.std.proofs.Common.{◌≡◌, ℕ, ◌+◌, List, [], ◌++◌, length, refl, sym, ap, subst, ◌∙◌, Ok, Err}
use Rattle.std.specs.Prelude.{Result, IsErrOf}
use Rattle.szg_io.proofs.DeviceLaws.{Takes-on}
use Rattle.szg_io.specs.declared.device.Input.{Ghosts}
use Rattle.szg_file.specs.declared.reading.state.ReaderState.{ReaderState}
use Rattle.szg_file.specs.declared.fault.ReadFault.{ReadFault}
use Rattle.szg_file.specs.declared.fault.ReadFault.TheVariants.{Refused, Device, Memory}
use Rattle.szg_file.specs.Format.{Format, means, field, Verdict, verdict, after_fill, ◌>>=◌}
use Rattle.szg_values.specs.declared.Kind.{Kind}
use Rattle.szg_values.specs.Material.{Sides}
use Rattle.szg_file.specs.Contents.{Contents, Subtable}
use Rattle.szg_file.specs.File.{each, blocks_field, filled_to, file}
use Rattle.szg_file.specs.FilePieces.{ending_field}
use Rattle.szg_file.specs.Reading.{Reading, Lacking, IsCut}
use Rattle.szg_file.specs.Unread.{after_front, front_field, unread_table}
use Rattle.szg_file.specs.Unread as front
use Rattle.szg_file.proofs.Openings.FrontLaws.{front_then}
use Rattle.szg_file.proofs.Grammar.CutLaws.{stops-nil, cut-then, cut-first, cut-after_fill}
use Rattle.szg_file.proofs.Readers.ReadingLaws.{after_text, reads_then, reads_stopped}
use Rattle.szg_file.proofs.Readers.Taken.{reads_equal}
use Rattle.szg_file.proofs.Readers.WholeReads.{reads_made}

-- If more bytes are needed after the text that was read, it is not the whole text.
pub lacks_more : {A B X R : Type 0} (f : Format A) (g : A → Format B) (view : X → A) (fault : ReadFault) {o n : ReaderState}
    {dev : Ghosts R} {i k : R} →
    ((a : A) (at : ℕ) → IsCut (verdict (g a) at [])) →
    Reading f view o n dev i k (Err fault) → fault ≡ Memory → Lacking (f >>= g) o dev i k
lacks_more f g view (Refused place reason) needs h e = absurd cc
lacks_more f g view Device needs h e = absurd cc
lacks_more f g view Memory {o = o} needs h e = record {
  bytes = h.bytes;
  taken = h.taken;
  short = cut-then f g o.place h.bytes needs h.answer.0;
}

-- A reading of the first format that lacks bytes lacks them for the sequence, too.
pub lacks_first : {A B R : Type 0} (f : Format A) (g : A → Format B) {o : ReaderState}
    {dev : Ghosts R} {i k : R} →
    Lacking f o dev i k → Lacking (f >>= g) o dev i k
lacks_first f g {o = o} h = record { bytes = h.bytes; taken = h.taken; short = cut-first f g o.place h.bytes h.short }

-- A second reading lacks bytes after a whole first text.
pub lacks_then : {A B X R : Type 0} (f : Format A) (g : A → Format B) (view : X → A) {o m : ReaderState}
    {dev : Ghosts R} {i j k : R} (v : X) →
    Reading f view o m dev i j (Ok v) → Lacking (g (view v)) m dev j k → Lacking (f >>= g) o dev i k
lacks_then f g view {o = o} {m = m} v first second =
    let at : o.place + length first.bytes ≡ m.place = sym first.answer.0.place in
    let joint : verdict (f >>= g) o.place (first.bytes ++ second.bytes) ≡ after_fill first.answer.0.filled (verdict (g (view v)) m.place second.bytes) =
    after_text f g o.place first.bytes second.bytes (view v) first.answer.0.filled first.answer.0.whole
    ∙ ap (λ (p : ℕ). after_fill first.answer.0.filled (verdict (g (view v)) p second.bytes)) at in
    record {
      bytes = first.bytes ++ second.bytes;
      taken = Takes-on first.bytes second.bytes 1 first.taken second.taken;
      short = subst (λ (v : Verdict _). IsCut v) (sym joint) (cut-after_fill first.answer.0.filled (verdict (g (view v)) m.place second.bytes) second.short);
    }

-- the last sixteen bytes are needed
pub last_needed : (at : ℕ) → IsCut (verdict (field 16 means) at [])
last_needed at = tt

pub ending_needed : (at : ℕ) → IsCut (verdict ending_field at [])
ending_needed at = cut-then (filled_to 64) (λ _. field 16 means) at [] (λ _ place. last_needed place) (stops-nil (filled_to 64) at)

-- ---- what follows the stages of a file: its front, its blocks, its end

abbrev after_blocks : Sides → Kind → front.FrontRead → List Subtable → Format Contents
after_blocks material kind r subtables = ending_field >>= λ last. means (unread_table material kind r subtables last)

after_blocks_needed : (material : Sides) (kind : Kind) (r : front.FrontRead) (subtables : List Subtable) (at : ℕ) → IsCut (verdict (after_blocks material kind r subtables) at [])
after_blocks_needed material kind r subtables at = cut-first ending_field (λ last. means (unread_table material kind r subtables last)) at [] (ending_needed at)

after_front_needed : (material : Sides) (kind : Kind) (r : front.FrontRead) (at : ℕ) → IsCut (verdict (after_front blocks_field material kind r) at [])
after_front_needed material kind r at = cut-then (each blocks_field r.measured) (after_blocks material kind r) at [] (after_blocks_needed material kind r) (stops-nil (each blocks_field r.measured) at)

-- a result that is `Memory`, whatever its type
pub memory_stated : {X : Type 0} (fault : ReadFault) → IsErrOf {T = X} (Err fault) Memory → fault ≡ Memory
memory_stated (Refused place reason) e = absurd cc
memory_stated Device e = absurd cc
memory_stated Memory e = refl

pub memory_states : {X : Type 0} (fault : ReadFault) → fault ≡ Memory → IsErrOf {T = X} (Err fault) Memory
memory_states {X = X} fault e = ap (λ (f : ReadFault). let r : Result X ReadFault = Err f in r) e

-- ---- readings that stop

-- A fault ends the reading; with `Memory`, the text is not whole.
pub record Stops {A X R : Type 0} (f : Format A) (view : X → A) (old new : ReaderState) (dev : Ghosts R) (input input' : R) (fault : ReadFault) : Type 0 where
  pub read : Reading f view old new dev input input' (Err fault)
  pub lacks : IsErrOf {T = X} (Err fault) Memory → Lacking f old dev input input'

stops_equal : {A X R : Type 0} (f g : Format A) (view : X → A) {o n : ReaderState} {dev : Ghosts R} {i k : R} (fault : ReadFault) → f ≡ g →
    Stops f view o n dev i k fault → Stops g view o n dev i k fault
stops_equal f g view {o = o} {n = n} {dev = dev} {i = i} {k = k} fault e h = subst (λ (t : Format _). Stops t view o n dev i k fault) e h

-- The first reading stops, and more bytes are needed after its text.
pub stops_first : {A B X Y R : Type 0} (f : Format A) (g : A → Format B) (view : X → A) (view' : Y → B) {o n : ReaderState} {dev : Ghosts R} {i k : R} (fault : ReadFault) →
    ((a : A) (at : ℕ) → IsCut (verdict (g a) at [])) →
    Reading f view o n dev i k (Err fault) → Stops (f >>= g) view' o n dev i k fault
stops_first f g view view' fault needs h = record {
  read = reads_stopped f g view view' fault h;
  lacks = λ e. lacks_more f g view fault needs h (memory_stated fault e);
}

-- The second reading stops.
stops_then : {A B X Y R : Type 0} (f : Format A) (g : A → Format B) (view : X → A) (view' : Y → B) {o m n : ReaderState} {dev : Ghosts R} {i j k : R} (v : X) (fault : ReadFault) →
    Reading f view o m dev i j (Ok v) → Stops (g (view v)) view' m n dev j k fault → Stops (f >>= g) view' o n dev i k fault
stops_then f g view view' v fault first second = record {
  read = reads_then f g view view' v first second.read;
  lacks = λ e. lacks_then f g view v first (second.lacks e);
}

-- The first of several readings stops.
stops_within : {A B X Y R : Type 0} (f : Format A) (g : A → Format B) (view : X → A) (view' : Y → B) {o n : ReaderState} {dev : Ghosts R} {i k : R} (fault : ReadFault) →
    Stops f view o n dev i k fault → Stops (f >>= g) view' o n dev i k fault
stops_within f g view view' fault h = record {
  read = reads_stopped f g view view' fault h.read;
  lacks = λ e. lacks_first f g (h.lacks (memory_states fault (memory_stated fault e)));
}

-- ---- a whole file

pub front_stops : {X Y R : Type 0} (material : Sides) (kind : Kind) (seen : X → front.FrontRead) (view : Y → Contents) {f m : ReaderState} {dev : Ghosts R} {i j : R} (fault : ReadFault) →
    Reading (front_field material kind) seen f m dev i j (Err fault) → Stops (file material kind) view f m dev i j fault
front_stops material kind seen view fault h =
    stops_equal (front_field material kind >>= after_front blocks_field material kind) (file material kind) view fault (front_then blocks_field material kind)
    (stops_first (front_field material kind) (after_front blocks_field material kind) seen view fault (after_front_needed material kind) h)

-- after a front that was read
module _ {V X Y R : Type 0} (material : Sides) (kind : Kind) (r : V) (seen : V → front.FrontRead) (view : X → List Subtable) (view' : Y → Contents) {f m n : ReaderState} {dev : Ghosts R} {i j k : R}
    (first : Reading (front_field material kind) seen f m dev i j (Ok r)) where
  pub blocks_stop : (fault : ReadFault) → Reading (each blocks_field (seen r).measured) view m n dev j k (Err fault) → Stops (file material kind) view' f n dev i k fault
  blocks_stop fault h =
      stops_equal (front_field material kind >>= after_front blocks_field material kind) (file material kind) view' fault (front_then blocks_field material kind)
      (stops_then (front_field material kind) (after_front blocks_field material kind) seen view' r fault first
      (stops_first (each blocks_field (seen r).measured) (after_blocks material kind (seen r)) view view' fault (after_blocks_needed material kind (seen r)) h))

  pub ending_stops : {z : ReaderState} {l : R} (v : X) (fault : ReadFault) → Reading (each blocks_field (seen r).measured) view m n dev j k (Ok v) →
      Stops ending_field (λ (last : List ℕ). last) n z dev k l fault → Stops (file material kind) view' f z dev i l fault
  ending_stops v fault h ending =
      stops_equal (front_field material kind >>= after_front blocks_field material kind) (file material kind) view' fault (front_then blocks_field material kind)
      (stops_then (front_field material kind) (after_front blocks_field material kind) seen view' r fault first
      (stops_then (each blocks_field (seen r).measured) (after_blocks material kind (seen r)) view view' v fault h
      (stops_within ending_field (λ last. means (unread_table material kind (seen r) (view v) last)) (λ (last : List ℕ). last) view' fault ending)))

  pub file_read : {z : ReaderState} {l : R} (v : X) (last : List ℕ) (w : Y) → view' w ≡ unread_table material kind (seen r) (view v) last →
      Reading (each blocks_field (seen r).measured) view m n dev j k (Ok v) → Reading ending_field (λ (last : List ℕ). last) n z dev k l (Ok last) →
      Reading (file material kind) view' f z dev i l (Ok w)
  file_read v last w same h ending =
      reads_equal (front_field material kind >>= after_front blocks_field material kind) (file material kind) view' (Ok w) (front_then blocks_field material kind)
      (reads_then (front_field material kind) (after_front blocks_field material kind) seen view' r first
      (reads_then (each blocks_field (seen r).measured) (after_blocks material kind (seen r)) view view' v h
      (reads_made ending_field (unread_table material kind (seen r) (view v)) (λ (last : List ℕ). last) view' last w same ending)))
