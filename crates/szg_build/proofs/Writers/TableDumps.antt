-- The text of a table's dump that is written a block's values at a time.
use Rattle.std.proofs.Common.{◌≡◌, ℕ, ◌+◌, ◌<◌, suc, add-one, List, [], ◌∷◌, ◌++◌, length, take, drop, get_or, flat_map, refl, sym, ap, ◌∙◌, append_assoc, append-nil}
use Rattle.std.proofs.lemmas.List.{take-append-drop}
use Rattle.std.proofs.lemmas.Grind.{flat_map-append}
use Rattle.std.proofs.Math.Seq.{take-suc, drop-cons}
use Rattle.szg_io.specs.Moved.{Gives}
use Rattle.szg_io.specs.declared.device.Output as output
use Rattle.szg_io.proofs.DeviceLaws.{Gives-on}
use Rattle.szg_values.specs.declared.Kind.{Kind}
use Rattle.szg_file.specs.Accepted.{IsAccepted}
use Rattle.szg_file.specs.Contents.{Contents, Slot, Subtable}
use Rattle.szg_file.specs.Held.{Shown}
use Rattle.szg_file.specs.Index.{Index, index_of}
use Rattle.szg_file.specs.Streaming.{wanted_of, wanted_values}
use Rattle.szg_file.specs.Values.{values_of}
use Rattle.szg_build.specs.Built.{subtables_in}
use Rattle.szg_build.specs.Dump.{parts_of}
use Rattle.szg_build.specs.Shown.{form_of}
use Rattle.szg_build.specs.Stored.{all_values}
use Rattle.szg_build.specs.Streaming.{Goes, text_left}
use Rattle.szg_build.specs.Text.{dump_text, flat_map_beside, front_lines, lines_text, part_lines}
use Rattle.szg_build.specs.declared.writing.dump_sink.DumpSink.{DumpSink}
use Rattle.szg_build.proofs.Texts.OwnDumps.{own_dump}
use Rattle.szg_build.proofs.Builders.PlaceLaws.{no_pair}
use Rattle.szg_build.proofs.Writers.StreamLaws.{all_wanted}
use Rattle.szg_build.proofs.Writers.StreamedDumps.{front_and_left}

-- where all parts and sides are wanted, all values are
wanted_all : (kind : Kind) (pairs : List (Slot × Subtable)) → wanted_values all_wanted kind pairs ≡ flat_map (values_of kind) pairs
wanted_all kind [] = refl
wanted_all kind (pair ∷ pairs) = ap (λ (z : List ℕ). values_of kind pair ++ z) (wanted_all kind pairs)

pub all_are_wanted : (t : Contents) → all_values t ≡ wanted_of all_wanted t
all_are_wanted t = sym (wanted_all t.kind (subtables_in t))

-- the values of one subtable more
pub values_more : (f : Slot × Subtable → List ℕ) (pairs : List (Slot × Subtable)) (i : ℕ) → i < length pairs →
    flat_map f (take i pairs) ++ f (get_or pairs i no_pair) ≡ flat_map f (take (i + 1) pairs)
values_more f pairs i h =
    let longer : take (i + 1) pairs ≡ take i pairs ++ get_or pairs i no_pair ∷ [] = ap (λ (m : ℕ). take m pairs) (add-one i) ∙ take-suc pairs i no_pair h in
    sym (ap (flat_map f) longer ∙ flat_map-append f (take i pairs) (get_or pairs i no_pair ∷ []) ∙ ap (λ (z : List ℕ). flat_map f (take i pairs) ++ z) (append-nil (f (get_or pairs i no_pair))))

-- a beginning of the values of one subtable, and what comes after it
pub values_begun : (f : Slot × Subtable → List ℕ) (pairs : List (Slot × Subtable)) (i : ℕ) (done rest : List ℕ) → i < length pairs → done ++ rest ≡ f (get_or pairs i no_pair) →
    (flat_map f (take i pairs) ++ done) ++ (rest ++ flat_map f (drop (suc i) pairs)) ≡ flat_map f pairs
values_begun f pairs i done rest h e =
    let before : List ℕ = flat_map f (take i pairs) in
    let after : List ℕ = flat_map f (drop (suc i) pairs) in
    append_assoc before done (rest ++ after)
    ∙ ap (λ (z : List ℕ). before ++ z) (sym (append_assoc done rest after) ∙ ap (λ (z : List ℕ). z ++ after) e ∙ sym (ap (flat_map f) (drop-cons pairs i no_pair h)))
    ∙ sym (flat_map-append f (take i pairs) (drop i pairs))
    ∙ ap (flat_map f) (take-append-drop i pairs)

-- one block more
pub blocks_more : (done here left left' whole : List ℕ) → done ++ left ≡ whole → left ≡ here ++ left' → (done ++ here) ++ left' ≡ whole
blocks_more done here left left' whole e next = append_assoc done here left' ∙ ap (λ (z : List ℕ). done ++ z) (sym next) ∙ e

-- a beginning of the dump was written
pub begun_text : {W : Type 0} (writing : output.Ghosts W) (form : ℕ) (x : Index) (last : List ℕ) (t : Shown) (s : DumpSink) (s' : DumpSink) (out out1 out2 : W) (done rest : List ℕ) →
    s.index.now ≡ x → (s.form ≡ form) × (s.next ≡ 0) × (s.left ≡ 0) × (s.count ≡ 0) →
    ((bytes : List ℕ) × Gives writing out out1 bytes 0 × (bytes ++ s.text.held.items ≡ lines_text (front_lines (form_of form) x.material x.kind last) ++ lines_text (flat_map_beside part_lines (parts_of x.material) x.parts))) →
    done ++ rest ≡ wanted_of all_wanted t.contents → Goes writing done s out1 s' out2 →
    x ≡ index_of t.contents → last ≡ t.contents.last → IsAccepted t.contents t.filled →
    (text : List ℕ) × (more : List ℕ) × (text ++ more ≡ dump_text (form_of form) (own_dump t.contents)) × Gives writing out out2 text 0
begun_text writing form x last t s s' out out1 out2 done rest index begun front all goes is ends accepted = (
  front.0 ++ goes.bytes,
  s'.text.held.items ++ text_left s' rest,
  append_assoc front.0 goes.bytes (s'.text.held.items ++ text_left s' rest)
      ∙ ap (λ (z : List ℕ). front.0 ++ z) (sym (goes.whole rest))
      ∙ front_and_left form x last t s front.0 (done ++ rest) index begun front.2 all is ends accepted,
  Gives-on front.0 goes.bytes 0 front.1 goes.given,
)
