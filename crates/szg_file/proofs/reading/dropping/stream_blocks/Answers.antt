use Rattle.std.proofs.Common.{◌≡◌, ℕ, ◌+◌, ◌*◌, ◌^◌, ◌++◌, Bool, [], List, length, take, refl, sym, ap, subst, ◌∙◌, arith, Ok}
use Rattle.std.specs.Prelude.{IfSome}
use Rattle.std.proofs.lemmas.Result.{err_from_is_err_and}
use Rattle.szg_block.specs.Block.{block_values, needed, start}
use Rattle.szg_block.specs.Expansion.{joined_values}
use Rattle.szg_block.specs.Layout.{Layout}
use Rattle.szg_block.specs.Subtable.{layout_from, layout_of}
use Rattle.szg_code.specs.Acceptance.{IsCode}
use Rattle.szg_file.specs.declared.fault.ReadFault.TheVariants.{Memory}
use Rattle.szg_file.specs.File.{block_field, blocks_from}
use Rattle.szg_file.specs.Format.{means}
use Rattle.szg_file.specs.Placed.{since}
use Rattle.szg_file.specs.Streaming.{Accepted, values_if}
use Rattle.szg_file.proofs.Readers.BlockReads.{reads_block_refused, reads_block_stopped, reads_blocks_more, reads_blocks_stopped}
use Rattle.szg_file.proofs.Readers.LoopReads.{reads_lacking}
use Rattle.szg_file.proofs.Readers.PassedBlocks.{moved_chunk, passes_block, since_none, since_on}
use Rattle.szg_file.proofs.Readers.ReadingLaws.{reads_nothing}
use Rattle.szg_file.proofs.Readers.Streamed.{accepted_as, accepted_none, accepted_one, accepted_then, accepted_unwanted, accepted_wanted, values_if_none, values_if-append, blocks_long, first_none, first_more, first_all, first_values}
use Rattle.szg_file.proofs.Readers.Taken.{reads_equal}
use Rattle.szg_file.proofs.reading.dropping.stream_blocks.Goals.{then-wanted+in_ok-decode_block+in-Ok-put, else-wanted}
use Rattle.szg_file.proofs.reading.dropping.stream_blocks.Goals as goal

pub each_block-init : goal.each_block-init
unfolding start
each_block-init g c =
    let moved : List ℕ = g.R.Input.moved c.args.input.now in
    record {
      read = rw c.in-Pairs.is (reads_nothing (means []) (λ (_ : Unit {0}). since moved moved) tt (ap (λ (l : List ℕ). means l) (sym (since_none moved))));
      before = rw c.in-Pairs.is refl;
      few = omega arith;
      count = rw c.in-Pairs.is (omega arith);
      place = omega arith;
      growth = refl;
      accepted = rw c.in-Pairs.is (accepted_as g.K.ValueSink.accepts [] _ (sym (values_if_none c.args.wanted _ (first_none _ (since moved moved) c.args.size))) (accepted_none g.K.ValueSink.accepts c.args.sink.now c.args.out.now));
      wanted = refl;
    }

pub returns-in_err-take_field-clause-blocks : goal.returns-in_err-take_field-clause-blocks
returns-in_err-take_field-clause-blocks g c =
    let p = err_from_is_err_and c.from_residual.result c.from_residual.ensures.1 in
    let still : length c.args.buffer.now ≡ length c.take_field.new.chunk = omega (arith, c.take_field.auto.chunk, c.each_block.auto.buffer) in
    let room = subst (λ (k : ℕ). IfSome (layout_of c.args.sub.now) (λ layout. k ≡ 2 ^ layout.block_bits)) still c.requires.room in
    let read = rw c.in-Pairs.is at c.each_block.invariant.read in
    let block = rw c.in-Pairs.is at (reads_block_stopped (layout_of c.args.sub.now) c.args.size c.each_block.n (length c.take_field.new.chunk) _ (λ (_ : Unit {0}). []) c.in_err-take_field.field-0.0 room c.in_err-take_field.ensures.field) in
    rw (c.in-Pairs.is, p.1, p.2) (reads_blocks_stopped _ c.args.size c.each_block.n _ _ _ tt c.in_err-take_field.field-0.0 c.each_block-test.true read block)

pub returns-in_default-check_block_from-clause-blocks : goal.returns-in_default-check_block_from-clause-blocks
returns-in_default-check_block_from-clause-blocks g c =
    let still : length c.args.buffer.now ≡ length c.take_field.new.chunk = omega (arith, c.take_field.auto.chunk, c.each_block.auto.buffer) in
    let room = subst (λ (k : ℕ). IfSome (layout_of c.args.sub.now) (λ layout. k ≡ 2 ^ layout.block_bits)) still c.requires.room in
    let read = rw c.in-Pairs.is at c.each_block.invariant.read in
    let block = rw c.in-Pairs.is at (reads_block_refused (layout_of c.args.sub.now) c.args.size c.each_block.n (length c.take_field.new.chunk) c.take_field.new.chunk (λ (_ : Unit {0}). []) room c.in_default-check_block_from.ensures.fault.1 c.in_ok-take_field.ensures.field) in
    rw c.in-Pairs.is (reads_blocks_stopped _ c.args.size c.each_block.n _ _ _ tt _ c.each_block-test.true read block)

pub returns-in_err-decode_block-clause-blocks : goal.returns-in_err-decode_block-clause-blocks
returns-in_err-decode_block-clause-blocks g c =
    let p = err_from_is_err_and c.from_residual-in_err-decode_block.result c.from_residual-in_err-decode_block.ensures.1 in
    let still : length c.args.buffer.now ≡ length c.take_field.new.chunk = omega (arith, c.take_field.auto.chunk, c.each_block.auto.buffer) in
    let room = subst (λ (k : ℕ). IfSome (layout_of c.args.sub.now) (λ layout. k ≡ 2 ^ layout.block_bits)) still c.requires.room in
    let code : IfSome (layout_of c.args.sub.now) (λ layout. IsCode layout.code) = rw c.in-Pairs.is c.code_fits.ensures in
    let seen : Unit {0} → List ℕ = λ _. since (g.R.Input.moved c.each_block.input) (g.R.Input.moved c.take_field.new.input) in
    let read = rw c.in-Pairs.is at c.each_block.invariant.read in
    let block = rw c.in-Pairs.is at (passes_block (layout_of c.args.sub.now) c.args.size c.each_block.n (length c.take_field.new.chunk) c.take_field.new.chunk code room c.in-Ok.ensures.ok c.in_ok-take_field.ensures.field) in
    let stopped = reads_blocks_stopped _ c.args.size c.each_block.n _ seen _ tt Memory c.each_block-test.true read (reads_lacking (block_field _ c.args.size c.each_block.n) seen seen tt block) in
    rw (c.in-Pairs.is, p.1, p.2) stopped

pub returns-in_default-put-clause-blocks : goal.returns-in_default-put-clause-blocks
returns-in_default-put-clause-blocks g c =
    let still : length c.args.buffer.now ≡ length c.take_field.new.chunk = omega (arith, c.take_field.auto.chunk, c.each_block.auto.buffer) in
    let room = subst (λ (k : ℕ). IfSome (layout_of c.args.sub.now) (λ layout. k ≡ 2 ^ layout.block_bits)) still c.requires.room in
    let code : IfSome (layout_of c.args.sub.now) (λ layout. IsCode layout.code) = rw c.in-Pairs.is c.code_fits.ensures in
    let seen : Unit {0} → List ℕ = λ _. since (g.R.Input.moved c.each_block.input) (g.R.Input.moved c.take_field.new.input) in
    let read = rw c.in-Pairs.is at c.each_block.invariant.read in
    let block = rw c.in-Pairs.is at (passes_block (layout_of c.args.sub.now) c.args.size c.each_block.n (length c.take_field.new.chunk) c.take_field.new.chunk code room c.in-Ok.ensures.ok c.in_ok-take_field.ensures.field) in
    let stopped = reads_blocks_stopped _ c.args.size c.each_block.n _ seen _ tt Memory c.each_block-test.true read (reads_lacking (block_field _ c.args.size c.each_block.n) seen seen tt block) in
    rw c.in-Pairs.is stopped

pub each_block-preserved : goal.each_block-preserved
each_block-preserved g c =
    let accepts = g.K.ValueSink.accepts in
    let layout : Layout = layout_from c.in-Pairs.block_bits c.in-Pairs.span_bits c.in-Pairs.extra c.in-Pairs.blocks c.in-Pairs.code c.in-Pairs.dict c.in-Pairs.sparse.items c.in-Pairs.lengths.items in
    let first : List ℕ = g.R.Input.moved c.args.input.now in
    let here : List ℕ = g.R.Input.moved c.each_block.input in
    let next : List ℕ = g.R.Input.moved c.take_field.new.input in
    let chunk : List ℕ = c.take_field.new.chunk in
    let still : length c.args.buffer.now ≡ length c.take_field.new.chunk = omega (arith, c.take_field.auto.chunk, c.each_block.auto.buffer) in
    let room_now = subst (λ (k : ℕ). IfSome (layout_of c.args.sub.now) (λ layout. k ≡ 2 ^ layout.block_bits)) still c.requires.room in
    let code : IfSome (layout_of c.args.sub.now) (λ layout. IsCode layout.code) = rw c.in-Pairs.is c.code_fits.ensures in
    let read = rw c.in-Pairs.is at c.each_block.invariant.read in
    let block = rw c.in-Pairs.is at (passes_block (layout_of c.args.sub.now) c.args.size c.each_block.n (length chunk) chunk code room_now c.in-Ok.ensures.ok c.in_ok-take_field.ensures.field) in
    let room = rw c.in-Pairs.is at room_now in
    let step = rw c.deref.ensures.value at c.values_in-before.ensures.next in
    let before = rw c.in-Pairs.is at c.each_block.invariant.before in
    let count = rw c.in-Pairs.is at c.each_block.invariant.count in
    let grown : since first next ≡ since first here ++ since here next = since_on _ _ _ _ tt tt read block in
    let held : since here next ≡ chunk = moved_chunk (length chunk) chunk c.in_ok-take_field.ensures.field in
    let whole : length (since here next) ≡ 2 ^ c.in-Pairs.block_bits = ap (λ (z : List ℕ). length z) held ∙ room in
    let long : length (since first here) ≡ c.each_block.n * 2 ^ c.in-Pairs.block_bits = blocks_long _ _ read count in
    let accepted = rw c.in-Pairs.is at c.each_block.invariant.accepted in
    let old : List ℕ = first_values layout (since first here) c.args.size c.each_block.n in
    let w : Bool = c.args.wanted in
    let values : List ℕ → List ℕ = λ z. take (needed c.in-Pairs.lengths.items c.args.size c.each_block.n) (block_values layout z) in
    let some : List ℕ = values chunk in
    let put : Accepted accepts (values_if w some) c.each_block.sink c.each_block.out c.if-wanted.sink c.if-wanted.out = elim c.if-wanted.branch [
      | then-wanted+in_ok-decode_block+in-Ok-put v ↦
          let decoded = rw c.in-Pairs.is at v.in_ok-decode_block.ensures in
          rw (v.sink-is, v.out-is)
          (accepted_wanted accepts w some v.if-wanted.true
          (accepted_as accepts v.as_slice.result.now some (v.as_slice.ensures.value ∙ decoded ∙ ap (λ (z : List ℕ). z ++ some) v.clear.ensures.items)
          (accepted_one accepts v.as_slice.result.now v.in-Ok-put.ensures.accepted)))
      | else-wanted v ↦ rw (v.sink-is, v.out-is) (accepted_unwanted accepts w some c.each_block.sink c.each_block.out v.if-wanted.false)
    ] in
    let wanted : g.K.ValueSink.wanted c.if-wanted.sink ≡ g.K.ValueSink.wanted c.each_block.sink = elim c.if-wanted.branch [ then-wanted+in_ok-decode_block+in-Ok-put v ↦ rw v.sink-is v.put.ensures.stays | else-wanted v ↦ rw v.sink-is refl ] in
    let same : old ++ some ≡ first_values layout (since first next) c.args.size (c.each_block.n + 1) =
    ap (λ (z : List ℕ). old ++ values z) (sym held)
    ∙ sym (first_more layout (since first here) (since here next) c.args.size c.each_block.n long whole)
    ∙ ap (λ (z : List ℕ). first_values layout z c.args.size (c.each_block.n + 1)) (sym grown) in
    record {
      read = rw c.in-Pairs.is (reads_blocks_more _ c.args.size c.each_block.n _ _ (λ (_ : Unit {0}). since first next) tt tt tt grown read block);
      before = rw c.in-Pairs.is (omega (arith, step, before));
      few = omega (arith, c.each_block.invariant.few, c.values_in-before.ensures.few);
      count = rw c.in-Pairs.is (omega (arith, count, room, c.in_ok-take_field.ensures.place));
      place = omega (arith, c.each_block.invariant.place, c.in_ok-take_field.ensures.place, c.requires.short, c.each_block.auto.buffer, c.take_field.auto.chunk);
      growth = c.in_ok-take_field.ensures.growth ∙ c.each_block.invariant.growth;
      accepted = rw c.in-Pairs.is (accepted_as accepts (values_if w old ++ values_if w some) (values_if w (first_values layout (since first next) c.args.size (c.each_block.n + 1)))
          (values_if-append w old some ∙ ap (values_if w) same) (accepted_then accepts (values_if w old) (values_if w some) accepted put));
      wanted = wanted ∙ c.each_block.invariant.wanted;
    }

pub returns-clause-blocks : goal.returns-clause-blocks
returns-clause-blocks g c =
    let layout : Layout = layout_from c.in-Pairs.block_bits c.in-Pairs.span_bits c.in-Pairs.extra c.in-Pairs.blocks c.in-Pairs.code c.in-Pairs.dict c.in-Pairs.sparse.items c.in-Pairs.lengths.items in
    let n : c.each_block.n ≡ c.in-Pairs.blocks = omega arith in
    let read = rw c.in-Pairs.is at c.each_block.invariant.read in
    rw c.in-Pairs.is (reads_equal _ (blocks_from layout c.args.size 0 c.in-Pairs.blocks) _ (Ok tt) (ap (λ (k : ℕ). blocks_from layout c.args.size 0 k) n) read)

pub returns-clause-accepted : goal.returns-clause-accepted
returns-clause-accepted g c =
    let layout : Layout = layout_from c.in-Pairs.block_bits c.in-Pairs.span_bits c.in-Pairs.extra c.in-Pairs.blocks c.in-Pairs.code c.in-Pairs.dict c.in-Pairs.sparse.items c.in-Pairs.lengths.items in
    let n : c.each_block.n ≡ c.in-Pairs.blocks = omega arith in
    let bytes : List ℕ = since (g.R.Input.moved c.args.input.now) (g.R.Input.moved c.each_block.input) in
    let accepted = rw c.in-Pairs.is at c.each_block.invariant.accepted in
    let whole : first_values layout bytes c.args.size c.each_block.n ≡ joined_values layout bytes c.args.size =
    ap (λ (k : ℕ). first_values layout bytes c.args.size k) n ∙ first_all layout bytes c.args.size in
    rw c.in-Pairs.is (accepted_as g.K.ValueSink.accepts _ (values_if c.args.wanted (joined_values layout bytes c.args.size))
    (ap (values_if c.args.wanted) whole) accepted)
