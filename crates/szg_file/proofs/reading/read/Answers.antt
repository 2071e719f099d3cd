use Rattle.std.proofs.Common.{List, map, refl, sym, subst, arith}
use Rattle.std.proofs.lemmas.Result.{err_from_is_err_and}
use Rattle.szg_io.proofs.DeviceLaws.{Takes-more}
use Rattle.szg_values.specs.declared.Kind.{Kind}
use Rattle.szg_values.specs.Material.{Sides}
use Rattle.szg_block.specs.declared.Sub.{Sub}
use Rattle.szg_file.specs.Contents.{Contents}
use Rattle.szg_file.specs.File.{file, flags_of}
use Rattle.szg_file.specs.FrontRead.{front_read}
use Rattle.szg_file.specs.Grown.{HasCounted}
use Rattle.szg_file.specs.Held.{Shown, subtable_of}
use Rattle.szg_file.specs.Index.{IsIndex, index_with}
use Rattle.szg_file.specs.Unread.{FrontRead, front_field, unread_table}
use Rattle.szg_file.specs.declared.reading.state.ReaderState.{ReaderState}
use Rattle.szg_file.proofs.Tables.IndexLaws.{accepted_index, owned, stated_index}
use Rattle.szg_file.proofs.Readers.Counted.{lists_were_counted, whole_lengths}
use Rattle.szg_file.proofs.Readers.KeptReads.{whole_reading}
use Rattle.szg_file.proofs.Readers.LackingReads.{front_stops, blocks_stop, ending_stops, file_read}
use Rattle.szg_file.proofs.Readers.ReadAnswers.{follows_good, read_ends, whole_file}
use Rattle.szg_file.proofs.reading.read.Goals as goal

pub returns-in_err-front : goal.returns-in_err-front
returns-in_err-front g c =
    let m : Sides = c.args.material in
    let k : Kind = c.args.kind in
    let p = err_from_is_err_and c.from_residual.result c.from_residual.ensures.1 in
    let ends = read_ends m k (λ (t : Contents). t) c.in_err-front.field-0.0 c.new-state.ensures.place (front_stops m k (λ (f : FrontRead). f) (λ (t : Contents). t) c.in_err-front.field-0.0 c.in_err-front.ensures.front) in
    rw (p.1, p.2) (record { verdict = ends.follows; taken = ends.took; material = tt; kind = tt; accepted = tt; lists = tt; device = ends.device; may_fail = ends.may_fail; quiet = ends.quiet })

pub returns-in_err-subs : goal.returns-in_err-subs
returns-in_err-subs g c =
    let m : Sides = c.args.material in
    let k : Kind = c.args.kind in
    let p = err_from_is_err_and c.from_residual-in_err-subs.result c.from_residual-in_err-subs.ensures.1 in
    let front = whole_reading (front_field m k) front_read c.in_ok-front.front c.in_ok-front.ensures.front in
    let ends = read_ends m k (λ (t : Contents). t) c.in_err-subs.field-0.0 c.new-state.ensures.place
    (blocks_stop m k c.in_ok-front.front front_read (λ subs. map subtable_of subs.items) (λ (t : Contents). t) front c.in_err-subs.field-0.0 c.in_err-subs.ensures.blocks) in
    rw (p.1, p.2) (record { verdict = ends.follows; taken = ends.took; material = tt; kind = tt; accepted = tt; lists = tt; device = ends.device; may_fail = ends.may_fail; quiet = ends.quiet })

pub returns-in_err-last : goal.returns-in_err-last
returns-in_err-last g c =
    let m : Sides = c.args.material in
    let k : Kind = c.args.kind in
    let p = err_from_is_err_and c.from_residual-in_err-last.result c.from_residual-in_err-last.ensures.1 in
    let front = whole_reading (front_field m k) front_read c.in_ok-front.front c.in_ok-front.ensures.front in
    let ends = read_ends m k (λ (t : Contents). t) c.in_err-last.field-0.0 c.new-state.ensures.place
    (ending_stops m k c.in_ok-front.front front_read (λ subs. map subtable_of subs.items) (λ (t : Contents). t) front c.in_ok-subs.subs c.in_err-last.field-0.0 c.in_ok-subs.ensures.blocks
    (record { read = c.in_err-last.ensures.ending; lacks = c.in_err-last.ensures.memory })) in
    rw (p.1, p.2) (record { verdict = ends.follows; taken = ends.took; material = tt; kind = tt; accepted = tt; lists = tt; device = ends.device; may_fail = ends.may_fail; quiet = ends.quiet })

pub index_of_subs-index-requires-clause-is_valid : goal.index_of_subs-index-requires-clause-is_valid
index_of_subs-index-requires-clause-is_valid g c =
    let m : Sides = c.args.material in
    let k : Kind = c.args.kind in
    let t : Contents = unread_table m k (front_read c.in_ok-front.front) (map subtable_of c.in_ok-subs.subs.items) c.in_ok-last.last in
    let front = whole_reading (front_field m k) front_read c.in_ok-front.front c.in_ok-front.ensures.front in
    let h = file_read m k c.in_ok-front.front front_read (λ subs. map subtable_of subs.items) (λ (t : Contents). t) front c.in_ok-subs.subs c.in_ok-last.last t refl c.in_ok-subs.ensures.blocks c.in_ok-last.ensures.ending in
    let w = whole_file m k t c.new-state.result c.read_ending.new.state h.bytes c.new-state.ensures.place c.new-state.ensures.fill h.answer.0 in
    subst (λ (l : List Sub). IsIndex (index_with m k t.parts (map flags_of (map subtable_of l)) t.maps)) (sym c.deref.ensures.value) (accepted_index t _ w.accepted)

pub invariant_of-result : goal.invariant_of-result
invariant_of-result g c =
    let m : Sides = c.args.material in
    let k : Kind = c.args.kind in
    let t : Contents = unread_table m k (front_read c.in_ok-front.front) (map subtable_of c.in_ok-subs.subs.items) c.in_ok-last.last in
    let front = whole_reading (front_field m k) front_read c.in_ok-front.front c.in_ok-front.ensures.front in
    let h = file_read m k c.in_ok-front.front front_read (λ subs. map subtable_of subs.items) (λ (t : Contents). t) front c.in_ok-subs.subs c.in_ok-last.last t refl c.in_ok-subs.ensures.blocks c.in_ok-last.ensures.ending in
    let w = whole_file m k t c.new-state.result c.read_ending.new.state h.bytes c.new-state.ensures.place c.new-state.ensures.fill h.answer.0 in
    owned t _ c.index_of_subs-index.result w.accepted (stated_index t c.deref.result.now _ c.index_of_subs-index.result c.deref.ensures.value c.index_of_subs-index.ensures refl)

pub returns-clause-verdict : goal.returns-clause-verdict
returns-clause-verdict g c =
    let m : Sides = c.args.material in
    let k : Kind = c.args.kind in
    let t : Shown = record { contents = unread_table m k (front_read c.in_ok-front.front) (map subtable_of c.in_ok-subs.subs.items) c.in_ok-last.last; filled = c.read_ending.new.state.fill.items } in
    let front = whole_reading (front_field m k) front_read c.in_ok-front.front c.in_ok-front.ensures.front in
    let h = file_read m k c.in_ok-front.front front_read (λ subs. map subtable_of subs.items) (λ (t : Contents). t) front c.in_ok-subs.subs c.in_ok-last.last t.contents refl c.in_ok-subs.ensures.blocks c.in_ok-last.ensures.ending in
    let w = whole_file m k t.contents c.new-state.result c.read_ending.new.state h.bytes c.new-state.ensures.place c.new-state.ensures.fill h.answer.0 in
    let same = stated_index t.contents c.deref.result.now _ c.index_of_subs-index.result c.deref.ensures.value c.index_of_subs-index.ensures refl in
    rw same (follows_good (file m k) t _ _ h.bytes h.taken.bytes_gone w.whole)

pub returns-clause-taken : goal.returns-clause-taken
returns-clause-taken g c =
    let m : Sides = c.args.material in
    let k : Kind = c.args.kind in
    let t : Contents = unread_table m k (front_read c.in_ok-front.front) (map subtable_of c.in_ok-subs.subs.items) c.in_ok-last.last in
    let front = whole_reading (front_field m k) front_read c.in_ok-front.front c.in_ok-front.ensures.front in
    let h = file_read m k c.in_ok-front.front front_read (λ subs. map subtable_of subs.items) (λ (t : Contents). t) front c.in_ok-subs.subs c.in_ok-last.last t refl c.in_ok-subs.ensures.blocks c.in_ok-last.ensures.ending in
    let w = whole_file m k t c.new-state.result c.read_ending.new.state h.bytes c.new-state.ensures.place c.new-state.ensures.fill h.answer.0 in
    let same = stated_index t c.deref.result.now _ c.index_of_subs-index.result c.deref.ensures.value c.index_of_subs-index.ensures refl in
    rw same ((h.bytes, Takes-more h.bytes 1 h.taken, w.file_is))

pub returns-clause-accepted : goal.returns-clause-accepted
returns-clause-accepted g c =
    let m : Sides = c.args.material in
    let k : Kind = c.args.kind in
    let t : Contents = unread_table m k (front_read c.in_ok-front.front) (map subtable_of c.in_ok-subs.subs.items) c.in_ok-last.last in
    let front = whole_reading (front_field m k) front_read c.in_ok-front.front c.in_ok-front.ensures.front in
    let h = file_read m k c.in_ok-front.front front_read (λ subs. map subtable_of subs.items) (λ (t : Contents). t) front c.in_ok-subs.subs c.in_ok-last.last t refl c.in_ok-subs.ensures.blocks c.in_ok-last.ensures.ending in
    let w = whole_file m k t c.new-state.result c.read_ending.new.state h.bytes c.new-state.ensures.place c.new-state.ensures.fill h.answer.0 in
    let same = stated_index t c.deref.result.now _ c.index_of_subs-index.result c.deref.ensures.value c.index_of_subs-index.ensures refl in
    rw same (w.accepted)

pub returns-clause-quiet : goal.returns-clause-quiet
returns-clause-quiet g c = λ never.
    let m : Sides = c.args.material in
    let k : Kind = c.args.kind in
    let t : Contents = unread_table m k (front_read c.in_ok-front.front) (map subtable_of c.in_ok-subs.subs.items) c.in_ok-last.last in
    let front = whole_reading (front_field m k) front_read c.in_ok-front.front c.in_ok-front.ensures.front in
    let h = file_read m k c.in_ok-front.front front_read (λ subs. map subtable_of subs.items) (λ (t : Contents). t) front c.in_ok-subs.subs c.in_ok-last.last t refl c.in_ok-subs.ensures.blocks c.in_ok-last.ensures.ending in
    h.answer.1

-- at the end of the file, the growth is within the bound of the reader state
pub returns-clause-lists : goal.returns-clause-lists
returns-clause-lists g c =
    let m : Sides = c.args.material in
    let k : Kind = c.args.kind in
    let r = c.in_ok-front.front in
    let subs : List Sub = c.in_ok-subs.subs.items in
    let t : Contents = unread_table m k (front_read r) (map subtable_of subs) c.in_ok-last.last in
    let first : ReaderState = c.new-state.result in
    let last : ReaderState = c.read_ending.new.state in
    let front = whole_reading (front_field m k) front_read r c.in_ok-front.ensures.front in
    let h = file_read m k r front_read (λ subs. map subtable_of subs.items) (λ (t : Contents). t) front c.in_ok-subs.subs c.in_ok-last.last t refl c.in_ok-subs.ensures.blocks c.in_ok-last.ensures.ending in
    let w = whole_file m k t first last h.bytes c.new-state.ensures.place c.new-state.ensures.fill h.answer.0 in
    let same = stated_index t c.deref.result.now _ c.index_of_subs-index.result c.deref.ensures.value c.index_of_subs-index.ensures refl in
    let counted : HasCounted first last 0 (whole_lengths r subs) = omega (arith, c.in_ok-front.ensures.grown, c.in_ok-subs.ensures.grown, c.in_ok-subs.ensures.count, c.in_ok-last.ensures.grown) in
    rw same (lists_were_counted m k r subs c.in_ok-last.last first last (h.bytes) c.new-state.ensures.place c.new-state.ensures.growth c.new-state.ensures.fill h.answer.0.place w.file_is counted)
