use Rattle.std.proofs.Common.{◌≡◌, Bool, ◌+◌, ◌++◌, ℕ, List, length, map, sym, ap, ◌∙◌, arith}
use Rattle.std.proofs.lemmas.List.{length-append, length-map}
use Rattle.std.proofs.lemmas.Result.{err_from_is_err_and}
use Rattle.szg_values.specs.declared.Kind.{Kind}
use Rattle.szg_values.specs.Material.{Sides}
use Rattle.szg_file.specs.declared.reading.dropping.PlacedSub.{PlacedSub}
use Rattle.szg_file.specs.Contents.{Contents, Part, Subtable, slots}
use Rattle.szg_file.specs.FrontRead.{front_read}
use Rattle.szg_file.specs.Held.{part_of}
use Rattle.szg_file.specs.Kept.{kept_measured}
use Rattle.szg_file.specs.Placed.{whole_sub}
use Rattle.szg_file.specs.Streaming.{wanted_values}
use Rattle.szg_file.specs.Unread.{FrontRead, front_field, unread_table}
use Rattle.szg_file.specs.Values.{slotted}
use Rattle.szg_file.proofs.Readers.KeptReads.{memory_as}
use Rattle.szg_file.proofs.Readers.KeptOutlines.{kept_blocks_stop, kept_ending_stops, kept_file_read, kept_outline, whole_blocks}
use Rattle.szg_file.proofs.Readers.LackingReads.{front_stops}
use Rattle.szg_file.proofs.Readers.PassedBlocks.{valid_at}
use Rattle.szg_file.proofs.Readers.PlacedSubs.{kept_whole, still_fit}
use Rattle.szg_file.proofs.Readers.Streamed.{accepted_as}
use Rattle.szg_file.proofs.reading.read_outline.Goals as goal

pub returns-in_err-front : goal.returns-in_err-front
returns-in_err-front g c =
    let m : Sides = c.args.material.now in
    let k : Kind = c.args.kind in
    let p = err_from_is_err_and c.from_residual.result c.from_residual.ensures.1 in
    let stops = front_stops m k (λ (f : FrontRead). f) (λ (t : Contents). t) c.in_err-front.field-0.0 c.in_err-front.ensures.front in
    rw (p.1, p.2) (record { outline = stops.read; place = tt; memory = λ e. stops.lacks (memory_as e); slots = tt; fits = tt; accepted = tt })

pub pass_subs-requires-clause-at : goal.pass_subs-requires-clause-at
pass_subs-requires-clause-at g c =
    let none : length (g.R.Input.moved c.args.input.now) ≡ 0 = ap (λ (z : List ℕ). length z) c.requires.first in
    let read = c.in_ok-front.ensures.front in
    valid_at (front_field c.args.material.now c.args.kind) (λ _. read.0) c.in_ok-front.front (c.requires.place ∙ sym none) read.2

pub returns-in_err-subs : goal.returns-in_err-subs
returns-in_err-subs g c =
    let m : Sides = c.args.material.now in
    let k : Kind = c.args.kind in
    let p = err_from_is_err_and c.from_residual-in_err-subs.result c.from_residual-in_err-subs.ensures.1 in
    let read = c.in_ok-front.ensures.front in
    let same : c.in_ok-front.front.measured.items ≡ kept_measured c.args.all read.0.measured = ap (λ (f : FrontRead). f.measured) read.1 in
    let moved : List ℕ = g.R.Input.moved c.pass_subs.new.input in
    let stops = kept_blocks_stop c.args.all m k c.in_ok-front.front _ read.0 same read.2 (λ subs. map (whole_sub moved) subs.items) (λ (t : Contents). t) c.in_err-subs.field-0.0 c.in_err-subs.ensures.blocks in
    rw (p.1, p.2) (record { outline = stops.read; place = tt; memory = λ e. stops.lacks (memory_as e); slots = tt; fits = tt; accepted = tt })

pub returns-in_err-last : goal.returns-in_err-last
returns-in_err-last g c =
    let m : Sides = c.args.material.now in
    let k : Kind = c.args.kind in
    let p = err_from_is_err_and c.from_residual-in_err-last.result c.from_residual-in_err-last.ensures.1 in
    let read = c.in_ok-front.ensures.front in
    let same : c.in_ok-front.front.measured.items ≡ kept_measured c.args.all read.0.measured = ap (λ (f : FrontRead). f.measured) read.1 in
    let before : List ℕ = g.R.Input.moved c.pass_subs.new.input in
    let blocks = whole_blocks c.args.all m k c.in_ok-front.front _ read.0 same read.2 (λ subs. map (whole_sub before) subs.items) c.in_ok-subs.subs c.in_ok-subs.ensures.blocks in
    let stops = kept_ending_stops c.args.all m k c.in_ok-front.front _ read.0 same read.2 c.in_ok-subs.subs _ (λ (t : Contents). t) c.in_err-last.field-0.0 blocks
    (record { read = c.in_err-last.ensures.ending; lacks = c.in_err-last.ensures.memory }) in
    rw (p.1, p.2) (record { outline = stops.read; place = tt; memory = λ e. stops.lacks (memory_as e); slots = tt; fits = tt; accepted = tt })

pub returns-clause-outline : goal.returns-clause-outline
returns-clause-outline g c =
    let m : Sides = c.args.material.now in
    let k : Kind = c.args.kind in
    let r = c.in_ok-front.front in
    let read = c.in_ok-front.ensures.front in
    let same : r.measured.items ≡ kept_measured c.args.all read.0.measured = ap (λ (f : FrontRead). f.measured) read.1 in
    let subs : List PlacedSub = c.in_ok-subs.subs.items in
    let before : List ℕ = g.R.Input.moved c.pass_subs.new.input in
    let following : List ℕ = g.R.Input.moved c.read_ending.new.input in
    let bytes : List ℕ = c.in_ok-last.ensures.ending.bytes in
    let gone : following ≡ before ++ bytes = c.in_ok-last.ensures.ending.taken.bytes_moved in
    let kept : map (whole_sub following) subs ≡ map (whole_sub before) subs =
    ap (λ (z : List ℕ). map (whole_sub z) subs) gone ∙ kept_whole before bytes _ subs c.in_ok-subs.ensures.fits in
    let blocks = whole_blocks c.args.all m k r _ read.0 same read.2 (λ subs. map (whole_sub before) subs.items) c.in_ok-subs.subs c.in_ok-subs.ensures.blocks in (
      unread_table m k read.0 blocks.subs c.in_ok-last.last,
      ap (λ (l : List Subtable). unread_table m k (front_read r) l c.in_ok-last.last) kept
          ∙ kept_outline c.args.all m k (front_read r) read.0 blocks.subs (map (whole_sub before) subs) c.in_ok-last.last read.1 blocks.shown_is blocks.many c.in_ok-front.ensures.slotted,
      kept_file_read c.args.all m k r _ read.0 same read.2 c.in_ok-subs.subs _ c.in_ok-last.last _ blocks c.in_ok-last.ensures.ending,
    )

pub returns-clause-fits : goal.returns-clause-fits
returns-clause-fits g c =
    let before : List ℕ = g.R.Input.moved c.pass_subs.new.input in
    let following : List ℕ = g.R.Input.moved c.read_ending.new.input in
    let bytes : List ℕ = c.in_ok-last.ensures.ending.bytes in
    let gone : following ≡ before ++ bytes = c.in_ok-last.ensures.ending.taken.bytes_moved in
    let more : length following ≡ length before + length bytes = ap (λ (z : List ℕ). length z) gone ∙ length-append before bytes in
    still_fit (length before) (length following) _ _ c.in_ok-subs.subs.items (omega (arith, more)) (omega arith) c.in_ok-subs.ensures.fits

-- ---- what the sink accepted

pub returns-clause-accepted : goal.returns-clause-accepted
returns-clause-accepted g c =
    let m : Sides = c.args.material.now in
    let k : Kind = c.args.kind in
    let parts : List Part = map part_of c.in_ok-front.front.parts.bytes.items in
    let subs : List PlacedSub = c.in_ok-subs.subs.items in
    let before : List ℕ = g.R.Input.moved c.pass_subs.new.input in
    let following : List ℕ = g.R.Input.moved c.read_ending.new.input in
    let bytes : List ℕ = c.in_ok-last.ensures.ending.bytes in
    let gone : following ≡ before ++ bytes = c.in_ok-last.ensures.ending.taken.bytes_moved in
    let kept : map (whole_sub following) subs ≡ map (whole_sub before) subs =
    ap (λ (z : List ℕ). map (whole_sub z) subs) gone ∙ kept_whole before bytes _ subs c.in_ok-subs.ensures.fits in
    let wanted : ℕ → ℕ → Bool = g.K.ValueSink.wanted c.args.sink.now in
    let many : length (map (whole_sub before) subs) ≡ length c.in_ok-front.front.measured.items = length-map subs (whole_sub before) ∙ c.in_ok-subs.ensures.many in
    let same = ap (wanted_values wanted k) (c.in_ok-front.ensures.slotted (map (whole_sub before) subs) many ∙ ap (slotted (slots m k parts)) (sym kept)) in
    accepted_as g.K.ValueSink.accepts _ (wanted_values wanted k (slotted (slots m k parts) (map (whole_sub following) subs))) same c.in_ok-subs.ensures.accepted
