-- The text of a dump that was written while its table's file was read.
use Rattle.std.proofs.Common.{◌≡◌, ℕ, List, Option, [], ◌++◌, drop, refl, sym, ap, subst, ◌∙◌, append_assoc, append-nil}
use Rattle.szg_io.specs.Moved.{Gives}
use Rattle.szg_io.specs.declared.device.Output as output
use Rattle.szg_io.proofs.DeviceLaws.{Gives-on}
use Rattle.szg_values.specs.Material.{Sides}
use Rattle.szg_values.specs.declared.Kind.{Kind}
use Rattle.szg_file.specs.Accepted.{IsAccepted}
use Rattle.szg_file.specs.Contents.{Map, Part}
use Rattle.szg_file.specs.Held.{Shown}
use Rattle.szg_file.specs.Index.{Index, index_of, index_with}
use Rattle.szg_file.specs.Streaming.{wanted_of}
use Rattle.szg_build.specs.Built.{IsDumpOf, plan_flags, value_lists}
use Rattle.szg_build.specs.Dump.{parts_of, subtable_ids_of, subs_of}
use Rattle.szg_build.specs.Shown.{form_of}
use Rattle.szg_build.specs.Streaming.{Goes, heads_of, rest_text, subtables_text, text_left}
use Rattle.szg_build.specs.Text.{dump_text, flat_map_beside, front_lines, lines_text, part_lines, sub_lines}
use Rattle.szg_build.specs.declared.writing.dump_sink.DumpSink.{DumpSink}
use Rattle.szg_build.proofs.Texts.OwnDumps.{own_dump}
use Rattle.szg_build.proofs.Writers.StreamLaws.{all_wanted, none_begun, table_text}
use Rattle.szg_build.proofs.Writers.WritingLaws.{dump_apart}

pub same_index : (x y : Index) → x.material ≡ y.material → x.kind ≡ y.kind → x.parts ≡ y.parts → x.flags ≡ y.flags → x.maps ≡ y.maps → x ≡ y
same_index x y m k p f s =
    ap (λ (z : Sides). index_with z x.kind x.parts x.flags x.maps) m
    ∙ ap (λ (z : Kind). index_with y.material z x.parts x.flags x.maps) k
    ∙ ap (λ (z : List Part). index_with y.material y.kind z x.flags x.maps) p
    ∙ ap (λ (z : List ℕ). index_with y.material y.kind y.parts z x.maps) f
    ∙ ap (λ (z : List (Option Map)). index_with y.material y.kind y.parts y.flags z) s

pub own_dump_is : (t : Shown) → IsDumpOf (own_dump t.contents) t.contents
own_dump_is t = record { material = refl; kind = refl; parts = refl; flags = refl; maps = refl; last = refl; values = refl }

-- what a sink has to write before the first value
begun_text : (s : DumpSink) (form : ℕ) (x : Index) (values : List ℕ) → s.index.now ≡ x → s.form ≡ form → s.next ≡ 0 → s.left ≡ 0 → s.count ≡ 0 →
    text_left s values ≡ subtables_text (form_of form) x.kind (subtable_ids_of x.material x.kind) (heads_of x) values
begun_text s form x values index formed next left count =
    ap (λ (y : Index). rest_text (form_of s.form) y.kind (drop s.next (subtable_ids_of y.material y.kind)) (drop s.next (heads_of y)) s.count s.value s.left values) index
    ∙ ap (λ (n : ℕ). rest_text (form_of n) x.kind (drop s.next (subtable_ids_of x.material x.kind)) (drop s.next (heads_of x)) s.count s.value s.left values) formed
    ∙ ap (λ (n : ℕ). rest_text (form_of form) x.kind (drop n (subtable_ids_of x.material x.kind)) (drop n (heads_of x)) s.count s.value s.left values) next
    ∙ ap (λ (n : ℕ). rest_text (form_of form) x.kind (subtable_ids_of x.material x.kind) (heads_of x) s.count s.value n values) left
    ∙ ap (λ (n : ℕ). rest_text (form_of form) x.kind (subtable_ids_of x.material x.kind) (heads_of x) n s.value 0 values) count
    ∙ none_begun (form_of form) x.kind (subtable_ids_of x.material x.kind) (heads_of x) s.value values

-- the lines before the subtables, and those of the subtables, are the dump's text
whole_text : (form : ℕ) (x : Index) (last : List ℕ) (t : Shown) → x ≡ index_of t.contents → last ≡ t.contents.last → IsAccepted t.contents t.filled →
    (lines_text (front_lines (form_of form) x.material x.kind last) ++ lines_text (flat_map_beside part_lines (parts_of x.material) x.parts))
    ++ subtables_text (form_of form) x.kind (subtable_ids_of x.material x.kind) (heads_of x) (wanted_of all_wanted t.contents)
    ≡ dump_text (form_of form) (own_dump t.contents)
whole_text form x last t is ends accepted =
    let c = t.contents in
    let front = lines_text (front_lines (form_of form) c.material c.kind c.last) in
    let parts = lines_text (flat_map_beside part_lines (parts_of c.material) c.parts) in
    ap (λ (y : Index). (lines_text (front_lines (form_of form) y.material y.kind last) ++ lines_text (flat_map_beside part_lines (parts_of y.material) y.parts))
    ++ subtables_text (form_of form) y.kind (subtable_ids_of y.material y.kind) (heads_of y) (wanted_of all_wanted c)) is
    ∙ ap (λ (z : List ℕ). (lines_text (front_lines (form_of form) c.material c.kind z) ++ parts) ++ subtables_text (form_of form) c.kind (subtable_ids_of c.material c.kind) (heads_of (index_of c)) (wanted_of all_wanted c)) ends
    ∙ ap (λ (z : List ℕ). (front ++ parts) ++ z) (sym (table_text (form_of form) c t.filled accepted))
    ∙ append_assoc front parts (lines_text (flat_map_beside (sub_lines (form_of form) c.kind) (subtable_ids_of c.material c.kind) (subs_of c.kind (plan_flags c) c.maps (value_lists c))))
    ∙ sym (dump_apart (form_of form) (own_dump c))

-- what was written before the subtables, what is buffered and what is left to write
pub front_and_left : (form : ℕ) (x : Index) (last : List ℕ) (t : Shown) (s : DumpSink) (bytes values : List ℕ) →
    s.index.now ≡ x → (s.form ≡ form) × (s.next ≡ 0) × (s.left ≡ 0) × (s.count ≡ 0) →
    bytes ++ s.text.held.items ≡ lines_text (front_lines (form_of form) x.material x.kind last) ++ lines_text (flat_map_beside part_lines (parts_of x.material) x.parts) →
    values ≡ wanted_of all_wanted t.contents → x ≡ index_of t.contents → last ≡ t.contents.last → IsAccepted t.contents t.filled →
    bytes ++ (s.text.held.items ++ text_left s values) ≡ dump_text (form_of form) (own_dump t.contents)
front_and_left form x last t s bytes values index begun front all is ends accepted =
    let begin = lines_text (front_lines (form_of form) x.material x.kind last) ++ lines_text (flat_map_beside part_lines (parts_of x.material) x.parts) in
    sym (append_assoc bytes s.text.held.items (text_left s values))
    ∙ ap (λ (z : List ℕ). z ++ text_left s values) front
    ∙ ap (λ (z : List ℕ). begin ++ text_left s z) all
    ∙ ap (λ (z : List ℕ). begin ++ z) (begun_text s form x (wanted_of all_wanted t.contents) index begun.0 begun.1 begun.2 begun.3)
    ∙ whole_text form x last t is ends accepted

-- what was written before the blocks, for their values and at the end
pub streamed_text : {W : Type 0} (writing : output.Ghosts W) (form : ℕ) (x : Index) (last : List ℕ) (t : Shown) (s : DumpSink) (s' : DumpSink) (out out1 out2 out3 : W) →
    s.index.now ≡ x → (s.form ≡ form) × (s.next ≡ 0) × (s.left ≡ 0) × (s.count ≡ 0) →
    ((bytes : List ℕ) × Gives writing out out1 bytes 0 × (bytes ++ s.text.held.items ≡ lines_text (front_lines (form_of form) x.material x.kind last) ++ lines_text (flat_map_beside part_lines (parts_of x.material) x.parts))) →
    Goes writing (wanted_of all_wanted t.contents) s out1 s' out2 → Gives writing out2 out3 (s'.text.held.items ++ text_left s' []) 0 →
    x ≡ index_of t.contents → last ≡ t.contents.last → IsAccepted t.contents t.filled →
    Gives writing out out3 (dump_text (form_of form) (own_dump t.contents)) 0
streamed_text writing form x last t s s' out out1 out2 out3 index begun front goes end is ends accepted =
    let all = wanted_of all_wanted t.contents in
    let last_text = s'.text.held.items ++ text_left s' [] in
    let stated : front.0 ++ (goes.bytes ++ last_text) ≡ dump_text (form_of form) (own_dump t.contents) =
    ap (λ (z : List ℕ). front.0 ++ z) (sym (goes.whole [])) ∙ front_and_left form x last t s front.0 (all ++ []) index begun front.2 (append-nil all) is ends accepted in
    subst (λ (z : List ℕ). Gives writing out out3 z 0) stated (Gives-on front.0 (goes.bytes ++ last_text) 0 front.1 (Gives-on goes.bytes last_text 0 goes.given end))
