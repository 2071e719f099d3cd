use Rattle.std.proofs.Common.{◌≡◌, ◌+◌, ◌<◌, ℕ, List, [], ◌∷◌, ◌++◌, drop, get_or, length, replicate, ap, sym, ◌∙◌, append-nil, arith}
use Rattle.std.specs.Prelude.{codes}
use Rattle.std.specs.Fmt.{decimal}
use Rattle.szg_values.specs.declared.Kind.{Kind}
use Rattle.szg_values.specs.Material.{Sides}
use Rattle.szg_file.specs.Contents.{Slot}
use Rattle.szg_file.specs.Index.{slots_in}
use Rattle.szg_build.specs.Dump.{subtable_ids_of}
use Rattle.szg_build.specs.Shown.{form_of}
use Rattle.szg_build.specs.Streaming.{head_lines, heads_of, no_head, rest_text, sub_of}
use Rattle.szg_build.specs.Text.{flags_lines, line_text, lines_text, part_word, value_lines}
use Rattle.szg_build.proofs.Writers.StreamLaws.{run_then_sub, size_at}
use Rattle.szg_build.proofs.Writers.StreamSteps.{goes_written}
use Rattle.szg_build.proofs.Writers.WritingLaws.{lines-append, writes_as, writes_then}
use Rattle.szg_build.proofs.writing.streaming.begin_sub.Goals as goal

abbrev first : ℕ × ℕ → List ℕ
first place = line_text (codes "sub" ∷ part_word place.0 ∷ decimal place.1 ∷ [])

abbrev count : ℕ → List ℕ
count size = line_text (codes "values" ∷ decimal size ∷ [])

pub bounds-slots-s : goal.bounds-slots-s
bounds-slots-s g c =
    let x = c.args.sink.now.index.now in
    let at = size_at x.kind (slots_in x) x.flags x.maps c.args.sink.now.next (record { part = 0; side = 0; size = 0 }) (omega (arith, c.requires.there)) in
    let below : c.args.sink.now.next < length (slots_in x) = at.0 in
    omega (arith, below, ap length c.slots.ensures.slots)

pub offset_bounds-slots-s : goal.offset_bounds-slots-s
offset_bounds-slots-s g c =
    let x = c.args.sink.now.index.now in
    let at = size_at x.kind (slots_in x) x.flags x.maps c.args.sink.now.next (record { part = 0; side = 0; size = 0 }) (omega (arith, c.requires.there)) in
    let below : c.args.sink.now.next < length (slots_in x) = at.0 in
    omega (arith, below, ap length c.slots.ensures.slots, c.slots.ensures.few)

pub returns-clause-goes : goal.returns-clause-goes
returns-clause-goes g c =
    let s = c.args.sink.now in
    let x = s.index.now in
    let ids = subtable_ids_of x.material x.kind in
    let heads = heads_of x in
    let head = get_or heads s.next no_head in
    let flags = flags_lines x.kind (sub_of head) in
    let slot : Slot = c.index-slots-s.result in
    let at = size_at x.kind (slots_in x) x.flags x.maps s.next slot (omega (arith, c.requires.there)) in
    let size = c.slot.inside.size in
    let sized : size ≡ head.size =
    ap (λ (s : Slot). s.size) c.slot.view_is ∙ ap (λ (s : Slot). s.size) c.index-slots-s.is ∙ ap (λ l. (get_or l s.next slot).size) c.slots.ensures.slots ∙ sym at.1 in
    let run : List ℕ = lines_text (value_lines (form_of s.form) (replicate s.count s.value)) in
    let here : List ℕ = lines_text (head_lines x.kind (get_or ids s.next (0, 0)) head) in
    let place = get_or c.places-places.result.now s.next (0, 0) in
    let places : c.places-places.result.now ≡ ids =
    c.places-places.ensures.places ∙ ap (λ (m : Sides). subtable_ids_of m c.kind.result) c.material.ensures ∙ ap (λ (k : Kind). subtable_ids_of x.material k) c.kind.ensures in
    let lines : here ≡ first place ++ (lines_text flags ++ count size) =
    ap (λ (z : List ℕ). first (get_or ids s.next (0, 0)) ++ z)
    (lines-append flags ((codes "values" ∷ decimal head.size ∷ []) ∷ []) ∙ ap (λ (z : List ℕ). lines_text flags ++ z) (append-nil (count head.size)))
    ∙ ap (λ (n : ℕ). first (get_or ids s.next (0, 0)) ++ (lines_text flags ++ count n)) (sym sized)
    ∙ ap (λ (l : List (ℕ × ℕ)). first (get_or l s.next (0, 0)) ++ (lines_text flags ++ count size)) (sym places) in
    goes_written [] (run ++ here)
    (writes_then run here tt c.in_ok-put_equal.ensures
    (writes_as lines (writes_then (first place) (lines_text flags ++ count size) tt c.in_ok-put_subtable_id.ensures (writes_then (lines_text flags) (count size) tt c.in_ok-put_flags_of.ensures.written c.in_ok-put_number.ensures))))
    (λ rest.
    run_then_sub (form_of s.form) x.kind ids heads s.next s.count s.value s.left rest c.requires.whole (omega (arith, c.requires.there)) (omega (arith, c.requires.there))
    ∙ ap (λ (n : ℕ). (run ++ here) ++ rest_text (form_of s.form) x.kind (drop (s.next + 1) ids) (drop (s.next + 1) heads) 0 s.value n rest) (sym sized))
