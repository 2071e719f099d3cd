-- A file of which not all block lengths are kept: the readings of its front, its blocks and its end are a reading of the
-- whole file.
use Rattle.std.proofs.Common.{◌≡◌, ℕ, Bool, true, false, List, [], length, map, refl, sym, ap, ◌∙◌, Ok, Err}
use Rattle.szg_io.specs.declared.device.Input.{Ghosts}
use Rattle.szg_values.specs.declared.Kind.{Kind}
use Rattle.szg_values.specs.Material.{Sides}
use Rattle.szg_file.specs.declared.fault.ReadFault.{ReadFault}
use Rattle.szg_file.specs.declared.reading.state.ReaderState.{ReaderState}
use Rattle.szg_file.specs.Contents.{Contents, Part, Slot, Subtable, slots}
use Rattle.szg_file.specs.File.{Begun, each, blocks_field, file}
use Rattle.szg_file.specs.FilePieces.{ending_field}
use Rattle.szg_file.specs.Format.{means, ◌>>=◌}
use Rattle.szg_file.specs.Kept.{kept_contents, kept_front, kept_measured, kept_of, kept_subs}
use Rattle.szg_file.specs.Reading.{Reading}
use Rattle.szg_file.specs.Unread.{FrontRead, front_field, unread_table}
use Rattle.szg_file.specs.Values.{slotted}
use Rattle.szg_file.proofs.Grammar.FileLaws.{sound_each}
use Rattle.szg_file.proofs.Grammar.KeptLaws.{kept_blocks, kept_many, kept_slots, slot_of}
use Rattle.szg_file.proofs.Grammar.WholeLaws.{sound_blocks, IsFilled}
use Rattle.szg_file.proofs.Readers.KeptReads.{mapped_fault, mapped_meaning}
use Rattle.szg_file.proofs.Readers.LackingReads.{Stops, blocks_stop, ending_stops, file_read}
use Rattle.szg_file.proofs.Readers.Taken.{reads_equal}
use Rattle.szg_file.proofs.Tables.TableFinds.{side_lengths}

-- each subtable has blocks
pub blocks_many : {X R : Type 0} (list : List Begun) (view : X → List Subtable) (x : X) {o n : ReaderState} {dev : Ghosts R} {i k : R} →
    Reading (each blocks_field list) view o n dev i k (Ok x) → length (view x) ≡ length list
blocks_many list view x {o = o} h =
    let a = h.answer.0 in
    sym (side_lengths (λ (b : Begun) (s : Subtable). IsFilled b.slot b.subtable s) list (view x)
    ((sound_each blocks_field _ (λ b s. IsFilled b.slot b.subtable s) (λ b. sound_blocks b.slot b.subtable) list).sound o.place h.bytes (view x) a.filled a.fits a.whole).2)

-- the subtables with all lengths
pub record WholeBlocks {X R : Type 0} (all : Bool) (list : List Begun) (shown : List Subtable) (x : X) (old new : ReaderState) (dev : Ghosts R) (input input' : R) : Type 0 where
  pub subs : List Subtable
  pub shown_is : kept_subs all (map slot_of list) subs ≡ shown
  pub many : length subs ≡ length list
  pub read : Reading (each blocks_field list) (λ (_ : X). subs) old new dev input input' (Ok x)

same_blocks : (all : Bool) (kept whole : List Begun) → kept ≡ kept_measured all whole → each blocks_field kept ≡ each blocks_field whole >>= λ subs. means (kept_subs all (map slot_of whole) subs)
same_blocks all kept whole same = ap (each blocks_field) same ∙ kept_blocks all whole

-- a front was read, of which not all is kept
module _ {V R : Type 0} (all : Bool) (material : Sides) (kind : Kind) (r : V) (kept : List Begun) (whole : FrontRead) (same : kept ≡ kept_measured all whole.measured) {f m n : ReaderState} {dev : Ghosts R} {i j k : R}
    (first : Reading (front_field material kind) (λ (_ : V). whole) f m dev i j (Ok r)) where
  pub kept_blocks_stop : {X Y : Type 0} (seen : X → List Subtable) (view : Y → Contents) (fault : ReadFault) → Reading (each blocks_field kept) seen m n dev j k (Err fault) →
      Stops (file material kind) view f n dev i k fault
  kept_blocks_stop {X = X} seen view fault h =
      blocks_stop material kind r (λ _. whole) (λ (_ : X). []) view first fault
      (mapped_fault (each blocks_field whole.measured) (kept_subs all (map slot_of whole.measured)) seen (λ (_ : X). []) fault
      (reads_equal (each blocks_field kept) _ seen (Err fault) (same_blocks all kept whole.measured same) h))

  pub whole_blocks : {X : Type 0} (seen : X → List Subtable) (x : X) → Reading (each blocks_field kept) seen m n dev j k (Ok x) → WholeBlocks all whole.measured (seen x) x m n dev j k
  whole_blocks {X = X} seen x h =
      let found = mapped_meaning (each blocks_field whole.measured) (kept_subs all (map slot_of whole.measured)) seen x (reads_equal (each blocks_field kept) _ seen (Ok x) (same_blocks all kept whole.measured same) h) in
      record { subs = found.0; shown_is = found.1; many = blocks_many whole.measured (λ (_ : X). found.0) x found.2; read = found.2 }

  pub kept_ending_stops : {X Y : Type 0} (x : X) (shown : List Subtable) (view : Y → Contents) (fault : ReadFault) {z : ReaderState} {l : R} → WholeBlocks all whole.measured shown x m n dev j k →
      Stops ending_field (λ (last : List ℕ). last) n z dev k l fault → Stops (file material kind) view f z dev i l fault
  kept_ending_stops {X = X} x shown view fault blocks ending =
      ending_stops material kind r (λ _. whole) (λ (_ : X). blocks.subs) view first x fault blocks.read ending

  pub kept_file_read : {X Y : Type 0} (x : X) (shown : List Subtable) (last : List ℕ) (w : Y) {z : ReaderState} {l : R} (blocks : WholeBlocks all whole.measured shown x m n dev j k) →
      Reading ending_field (λ (last : List ℕ). last) n z dev k l (Ok last) → Reading (file material kind) (λ (_ : Y). unread_table material kind whole blocks.subs last) f z dev i l (Ok w)
  kept_file_read {X = X} {Y = Y} x shown last w blocks ending =
      file_read material kind r (λ _. whole) (λ (_ : X). blocks.subs) (λ (_ : Y). unread_table material kind whole blocks.subs last) first x last w refl blocks.read ending

-- the contents that were read are those of the table, without the lengths that no value needs
pub kept_outline : (all : Bool) (material : Sides) (kind : Kind) (mine whole : FrontRead) (subs shown : List Subtable) (last : List ℕ) → mine ≡ kept_front all whole → kept_subs all (map slot_of whole.measured) subs ≡ shown →
    length subs ≡ length whole.measured → ((subs : List Subtable) → length subs ≡ length mine.measured → slotted (map slot_of mine.measured) subs ≡ slotted (slots material kind mine.parts) subs) →
    unread_table material kind mine shown last ≡ kept_contents all (unread_table material kind whole subs last)
kept_outline true material kind mine whole subs shown last is shown_is many placed =
    ap (λ (f : FrontRead). unread_table material kind f shown last) is ∙ ap (λ (l : List Subtable). unread_table material kind whole l last) (sym shown_is)
kept_outline false material kind mine whole subs shown last is shown_is many placed =
    let parts = ap (λ (f : FrontRead). f.parts) is in
    let measured = ap (λ (f : FrontRead). f.measured) is in
    let long : length subs ≡ length mine.measured = many ∙ sym (kept_many false whole.measured) ∙ ap (λ (l : List Begun). length l) (sym measured) in
    let at : slotted (map slot_of whole.measured) subs ≡ slotted (slots material kind whole.parts) subs =
    ap (λ (l : List Slot). slotted l subs) (sym (kept_slots false whole.measured)) ∙ ap (λ (l : List Begun). slotted (map slot_of l) subs) (sym measured)
    ∙ placed subs long ∙ ap (λ (p : List Part). slotted (slots material kind p) subs) parts in
    let here : shown ≡ kept_subs false (slots material kind whole.parts) subs = sym shown_is ∙ ap (map (λ pair. kept_of pair.0.size pair.1)) at in
    ap (λ (f : FrontRead). unread_table material kind f shown last) is ∙ ap (λ (l : List Subtable). unread_table material kind whole l last) here
