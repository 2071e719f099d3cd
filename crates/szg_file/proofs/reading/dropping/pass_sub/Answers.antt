use Rattle.std.proofs.Common.{◌≡◌, ℕ, Bool, true, false, ap, None, length, List, replicate, refl, sym, subst, ◌∙◌, arith}
use Rattle.std.proofs.lemmas.List.{length-take-le}
use Rattle.std.proofs.lemmas.Result.{err_from_is_err_and}
use Rattle.szg_block.specs.Subtable.{layout_of}
use Rattle.szg_file.specs.Contents.{Slot}
use Rattle.szg_file.specs.File.{filled_to}
use Rattle.szg_file.specs.declared.fault.ReadFault.TheVariants.{Memory}
use Rattle.szg_file.specs.Placed.{whole_sub}
use Rattle.szg_file.specs.Streaming.{Accepted, values_if}
use Rattle.szg_file.specs.Values.{values_in}
use Rattle.szg_file.proofs.Readers.PassedBlocks.{valid_at}
use Rattle.szg_file.proofs.Readers.Streamed.{accepted_as, accepted_one, accepted_unwanted, accepted_wanted, constant_values, placed_accepted}
use Rattle.szg_file.proofs.Readers.PlacedSubs.{constant_whole, placed_at, lacks_first, reads_unfilled, reads_constant, constant_fits, placed_fits, reads_placed, reads_placed_stopped, ends_at, room_is, roomy_for, still_long}
use Rattle.szg_file.proofs.reading.dropping.pass_sub.Goals.{then-wants+in-Ok, else-wants}
use Rattle.szg_file.proofs.reading.dropping.pass_sub.Goals as goal

pub returns-then-is_constant-clause-blocks : goal.returns-then-is_constant-clause-blocks
returns-then-is_constant-clause-blocks g c =
    rw (← c.measured.view_is) (reads_constant c.measured.inside.slot c.measured.inside.sub 0 (c.is_constant.ensures.0 c.if-is_constant.true))

pub returns-then-is_constant-clause-fits : goal.returns-then-is_constant-clause-fits
returns-then-is_constant-clause-fits g c = constant_fits _ _ c.measured.inside.sub (c.is_constant.ensures.0 c.if-is_constant.true)

pub returns-in_default-clause-blocks : goal.returns-in_default-clause-blocks
returns-in_default-clause-blocks g c = lacks_first _ _

pub returns-then-is_constant-clause-accepted : goal.returns-then-is_constant-clause-accepted
returns-then-is_constant-clause-accepted g c =
    let accepts = g.K.ValueSink.accepts in
    let none : layout_of c.measured.inside.sub ≡ None = c.is_constant.ensures.0 c.if-is_constant.true in
    let moved : List ℕ = g.R.Input.moved c.args.input.now in
    let size : ℕ = c.slot.inside.size in
    let wanted : Bool = g.K.ValueSink.wanted c.args.sink.now c.slot.inside.part c.slot.inside.side in
    let values : List ℕ = values_in c.args.kind size (whole_sub moved (placed_at c.measured.inside.sub 0)) in
    let base : Accepted accepts (values_if wanted values) c.args.sink.now c.args.out.now c.if-wants.sink c.if-wants.out = elim c.if-wants.branch [
      | then-wants+in-Ok v ↦
          let on : wanted ≡ true = cc in
          let same : replicate size v.constant_value.result ≡ values =
          ap (λ (k : ℕ). replicate size k) v.constant_value.ensures ∙ constant_values c.args.kind size c.measured.inside.sub none
          ∙ ap (values_in c.args.kind size) (sym (constant_whole moved c.measured.inside.sub 0 none)) in
          rw (v.sink-is, v.out-is) (accepted_wanted accepts wanted values on (accepted_as accepts (replicate size v.constant_value.result) values same (accepted_one accepts (replicate size v.constant_value.result) v.in-Ok.ensures.accepted)))
      | else-wants v ↦
          let off : wanted ≡ false = cc in
          rw (v.sink-is, v.out-is) (accepted_unwanted accepts wanted values c.args.sink.now c.args.out.now off)
    ] in
    rw (← c.measured.view_is)
    (subst (λ (s : Slot). Accepted accepts (values_if (g.K.ValueSink.wanted c.args.sink.now s.part s.side) (values_in c.args.kind s.size (whole_sub moved (placed_at c.measured.inside.sub 0)))) c.args.sink.now c.args.out.now c.if-wants.sink c.if-wants.out)
    c.slot.view_is base)

pub returns-then-is_constant-clause-wanted : goal.returns-then-is_constant-clause-wanted
returns-then-is_constant-clause-wanted g c = elim c.if-wants.branch [ then-wants+in-Ok v ↦ rw v.sink-is v.put_same.ensures.stays | else-wants v ↦ rw v.sink-is refl ]

pub returns-in_err-make_room-clause-blocks : goal.returns-in_err-make_room-clause-blocks
returns-in_err-make_room-clause-blocks g c =
    let p = err_from_is_err_and c.from_residual.result c.from_residual.ensures.1 in
    let memory : c.in_err-make_room.field-0.0 ≡ Memory = let e = c.in_err-make_room.ensures.memory in cc in
    rw (p.1, p.2, memory) (lacks_first _ _)

pub returns-in_err-take_fill-clause-blocks : goal.returns-in_err-take_fill-clause-blocks
returns-in_err-take_fill-clause-blocks g c =
    let p = err_from_is_err_and c.from_residual-in_err-take_fill.result c.from_residual-in_err-take_fill.ensures.1 in
    let some : layout_of c.measured.inside.sub ≡ None → ⊥ = λ e. let t = c.is_constant.ensures.1 e in cc in
    rw (p.1, p.2, ← c.measured.view_is) (reads_unfilled c.measured.inside.slot c.measured.inside.sub _ c.in_err-take_fill.field-0.0 some c.in_err-take_fill.ensures.fill)

pub returns-in_err-stream_blocks-clause-blocks : goal.returns-in_err-stream_blocks-clause-blocks
returns-in_err-stream_blocks-clause-blocks g c =
    let p = err_from_is_err_and c.from_residual-in_err-stream_blocks.result c.from_residual-in_err-stream_blocks.ensures.1 in
    let some : layout_of c.measured.inside.sub ≡ None → ⊥ = λ e. let t = c.is_constant.ensures.1 e in cc in
    let read = rw c.expect.ensures.same at c.in_err-stream_blocks.ensures.blocks in
    rw (p.1, p.2, ← c.measured.view_is) (reads_placed_stopped c.measured.inside.slot c.slot.inside.size c.measured.inside.sub c.in_err-stream_blocks.field-0.0 _ _ (ap (λ (s : Slot). s.size) c.slot.view_is) some c.in_ok-take_fill.ensures.fill read)

pub stream_blocks-requires-clause-room : goal.stream_blocks-requires-clause-room
stream_blocks-requires-clause-room g c =
    let long : length c.deref_mut.result.now ≡ length c.make_room.new.buffer.items = ap (λ (l : List ℕ). length l) c.deref_mut.ensures.value in
    room_is c.measured.inside.sub c.block_bytes-size.result _ c.block_bytes-size.ensures.bytes
    (length-take-le c.block_bytes-size.result c.deref_mut.result.now (omega (arith, long, c.in_ok-make_room.ensures.room)))

pub returns-clause-blocks : goal.returns-clause-blocks
returns-clause-blocks g c =
    let some : layout_of c.measured.inside.sub ≡ None → ⊥ = λ e. let t = c.is_constant.ensures.1 e in cc in
    let at = valid_at (filled_to 64) _ _ c.requires.at c.in_ok-take_fill.ensures.fill in
    let read = rw c.expect.ensures.same at c.in_ok-stream_blocks.ensures.blocks in
    let ends = ends_at c.slot.inside.size c.measured.inside.sub c.take_fill.new.state c.stream_blocks.new.state g.R.Input c.take_fill.new.input c.stream_blocks.new.input at c.in_ok-stream_blocks.ensures.count read in
    rw (← c.measured.view_is) (reads_placed c.measured.inside.slot c.slot.inside.size c.measured.inside.sub (ap (λ (s : Slot). s.size) c.slot.view_is) some at ends c.in_ok-take_fill.ensures.fill read)

pub returns-clause-fits : goal.returns-clause-fits
returns-clause-fits g c =
    let some : layout_of c.measured.inside.sub ≡ None → ⊥ = λ e. let t = c.is_constant.ensures.1 e in cc in
    let at = valid_at (filled_to 64) _ _ c.requires.at c.in_ok-take_fill.ensures.fill in
    let read = rw c.expect.ensures.same at c.in_ok-stream_blocks.ensures.blocks in
    let ends = ends_at c.slot.inside.size c.measured.inside.sub c.take_fill.new.state c.stream_blocks.new.state g.R.Input c.take_fill.new.input c.stream_blocks.new.input at c.in_ok-stream_blocks.ensures.count read in
    let long = still_long c.make_room.new.buffer.len c.buffer-1.given c.make_room.new.buffer.items (sym c.make_room.new.buffer.ok.0) in
    placed_fits _ _ c.take_fill.new.state.place c.measured.inside.sub some ends
    (roomy_for c.measured.inside.sub c.block_bytes-size.result _ c.block_bytes-size.ensures.bytes (omega (arith, long, c.in_ok-make_room.ensures.room)))

pub returns-clause-accepted : goal.returns-clause-accepted
returns-clause-accepted g c =
    let some : layout_of c.measured.inside.sub ≡ None → ⊥ = λ e. let t = c.is_constant.ensures.1 e in cc in
    let at = valid_at (filled_to 64) _ _ c.requires.at c.in_ok-take_fill.ensures.fill in
    let read = rw c.expect.ensures.same at c.in_ok-stream_blocks.ensures.blocks in
    let ends = ends_at c.slot.inside.size c.measured.inside.sub c.take_fill.new.state c.stream_blocks.new.state g.R.Input c.take_fill.new.input c.stream_blocks.new.input at c.in_ok-stream_blocks.ensures.count read in
    let accepts = g.K.ValueSink.accepts in
    let moved : List ℕ = g.R.Input.moved c.stream_blocks.new.input in
    let first : ℕ = c.take_fill.new.state.place in
    let accepted = rw c.expect.ensures.same at c.in_ok-stream_blocks.ensures.accepted in
    let placed = placed_accepted accepts c.args.kind c.slot.inside.size c.measured.inside.sub first (g.R.Input.moved c.take_fill.new.input) moved c.wants-wanted.result some at ends accepted in
    let wanted = subst (λ (b : Bool). Accepted accepts (values_if b (values_in c.args.kind c.slot.inside.size (whole_sub moved (placed_at c.measured.inside.sub first)))) c.args.sink.now c.args.out.now c.stream_blocks.new.sink c.stream_blocks.new.out) c.wants-wanted.ensures placed in
    rw (← c.measured.view_is)
    (subst (λ (s : Slot). Accepted accepts (values_if (g.K.ValueSink.wanted c.args.sink.now s.part s.side) (values_in c.args.kind s.size (whole_sub moved (placed_at c.measured.inside.sub first)))) c.args.sink.now c.args.out.now c.stream_blocks.new.sink c.stream_blocks.new.out)
    c.slot.view_is wanted)
