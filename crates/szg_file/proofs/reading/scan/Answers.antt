use Rattle.std.proofs.Common.{◌≡◌, ◌+◌, List, ℕ, length, map, option_map, sym, ap, subst, arith, ◌∙◌}
use Rattle.std.proofs.lemmas.Result.{err_from_is_err_and}
use Rattle.szg_io.proofs.DeviceLaws.{Takes-more}
use Rattle.szg_values.specs.declared.Kind.{Kind}
use Rattle.szg_values.specs.Material.{Sides}
use Rattle.szg_file.specs.Accepted.{IsSubtable}
use Rattle.szg_file.specs.Contents.{Contents, slots}
use Rattle.szg_file.specs.File.{file, flags_of}
use Rattle.szg_file.specs.Held.{Shown, file_bytes, part_of, map_of, subtable_of}
use Rattle.szg_file.specs.Index.{IsIndex, index_with, index_of}
use Rattle.szg_file.specs.Streaming.{wanted_of}
use Rattle.szg_file.specs.declared.reading.dropping.PlacedSub.{PlacedSub}
use Rattle.szg_file.specs.declared.fault.ReadFault.{ReadFault}
use Rattle.szg_file.specs.declared.reading.Outline.{Outline}
use Rattle.szg_file.proofs.Tables.IndexLaws.{accepted_index}
use Rattle.szg_file.proofs.Openings.KeptTables.{kept_wanted_of, outline_index_is}
use Rattle.szg_file.proofs.Openings.OutlinedLaws.{outline_index}
use Rattle.szg_file.proofs.Readers.KeptReads.{memory_as}
use Rattle.szg_file.proofs.Readers.Streamed.{accepted_as}
use Rattle.szg_file.proofs.Tables.TableFinds.{side_lengths}
use Rattle.szg_file.proofs.Readers.ReadAnswers.{follows_good, fault_follows, fault_took, whole_file}
use Rattle.szg_file.proofs.reading.scan.Goals as goal

-- the number of bytes read is the length of the file
length_is : (place from : ℕ) (bytes all : List ℕ) → place ≡ from + length bytes → from ≡ 0 → bytes ≡ all → place ≡ length all
length_is place from bytes all there first same = omega (arith, there, first, ap length same)

pub returns-in_err-outline-clause-scanned : goal.returns-in_err-outline-clause-scanned
returns-in_err-outline-clause-scanned g c =
    let m : Sides = c.args.material in
    let k : Kind = c.args.kind in
    let fault : ReadFault = c.in_err-outline.field-0.0 in
    let p = err_from_is_err_and c.from_residual.result c.from_residual.ensures.1 in
    let view = λ (t : Contents). t in
    let follows = fault_follows (file m k) view fault c.new-state.ensures.place c.in_err-outline.ensures.outline (λ e. c.in_err-outline.ensures.memory (memory_as e)) in
    let took = fault_took m k view fault c.new-state.ensures.place c.in_err-outline.ensures.outline (λ e. c.in_err-outline.ensures.memory (memory_as e)) in
    rw (p.1, p.2)
    (record { table = tt; follows = follows; bytes = took.0; taken = took.1; took = took.2 })

pub index_of_placed-requires-clause-is_valid : goal.index_of_placed-requires-clause-is_valid
index_of_placed-requires-clause-is_valid g c =
    let m : Sides = c.args.material in
    let k : Kind = c.args.kind in
    let o : Outline = c.in_ok-outline.outline in
    let bytes : List ℕ = g.R.Input.moved c.read_outline.new.input in
    let read = c.in_ok-outline.ensures.outline in
    let t : Contents = read.0 in
    let h = read.2 in
    let w = whole_file m k t c.new-state.result c.read_outline.new.state h.bytes c.new-state.ensures.place c.new-state.ensures.fill h.answer.0 in
    let long = side_lengths IsSubtable (slots t.material t.kind t.parts) t.subtables w.accepted.subtables in
    let is_valid : IsIndex (outline_index m k o) = subst IsIndex (sym (outline_index_is m k bytes o t read.1 long)) (accepted_index t _ w.accepted) in
    subst (λ (l : List PlacedSub). IsIndex (index_with m k (map part_of o.parts.bytes.items) (map (λ held. flags_of (subtable_of held.sub)) l) (map (option_map map_of) o.maps.items))) (sym c.deref.ensures.value) is_valid

pub returns-clause-scanned : goal.returns-clause-scanned
returns-clause-scanned g c =
    let m : Sides = c.args.material in
    let k : Kind = c.args.kind in
    let o : Outline = c.in_ok-outline.outline in
    let bytes : List ℕ = g.R.Input.moved c.read_outline.new.input in
    let read = c.in_ok-outline.ensures.outline in
    let t : Shown = record { contents = read.0; filled = c.read_outline.new.state.fill.items } in
    let h = read.2 in
    let w = whole_file m k t.contents c.new-state.result c.read_outline.new.state h.bytes c.new-state.ensures.place c.new-state.ensures.fill h.answer.0 in
    let long = side_lengths IsSubtable (slots t.contents.material t.contents.kind t.contents.parts) t.contents.subtables w.accepted.subtables in
    let is : c.index_of_placed.result ≡ index_of t.contents =
    c.index_of_placed.ensures ∙ ap (λ (l : List PlacedSub). index_with m k (map part_of o.parts.bytes.items) (map (λ held. flags_of (subtable_of held.sub)) l) (map (option_map map_of) o.maps.items)) c.deref.ensures.value
    ∙ outline_index_is m k bytes o t.contents read.1 long in
    record {
      table = t;
      read = record {
        table = record { material_is = sym (ap (λ (x : Contents). x.material) read.1); kind_is = sym (ap (λ (x : Contents). x.kind) read.1); accepted = w.accepted };
        follows = follows_good (file m k) t _ _ h.bytes h.taken.bytes_gone w.whole;
        bytes = h.bytes;
        taken = Takes-more h.bytes 1 h.taken;
        took = w.file_is;
      };
      index_is = is;
      last_is = ap (λ (x : Contents). x.last) read.1;
      length_is = length_is c.read_outline.new.state.place c.new-state.result.place h.bytes (file_bytes t) h.answer.0.place c.new-state.ensures.place w.file_is;
      accepted = accepted_as g.K.ValueSink.accepts _ (wanted_of (g.K.ValueSink.wanted c.args.sink.now) t.contents)
          (ap (wanted_of (g.K.ValueSink.wanted c.args.sink.now)) read.1 ∙ kept_wanted_of (g.K.ValueSink.wanted c.args.sink.now) t.contents) c.in_ok-outline.ensures.accepted;
    }
