use Rattle.std.proofs.Common.{◌≡◌, Bool, refl, ◌+◌, ◌∷◌, [], ◌++◌, Ok, length, map, take, ℕ, List, sym, ap, subst, ◌∙◌, arith}
use Rattle.std.specs.List.{AllByRecursion}
use Rattle.std.proofs.lemmas.List.{length_push, length-append, length-map, map-append}
use Rattle.std.proofs.lemmas.List.{length-take-le}
use Rattle.std.proofs.lemmas.Result.{err_from_is_err_and}
use Rattle.std.proofs.lemmas.Iterator.Adapters.{YieldsList-from_vec}
use Rattle.std.proofs.lemmas.Iterator.Consumers.{YieldsList-turn}
use Rattle.szg_file.specs.declared.fault.ReadFault.TheVariants.{Memory}
use Rattle.szg_file.specs.declared.reading.dropping.PlacedSub.{PlacedSub}
use Rattle.szg_file.specs.Contents.{Slot, Subtable}
use Rattle.szg_file.specs.Format.{means}
use Rattle.szg_file.specs.File.{Begun, each, blocks_field}
use Rattle.szg_file.specs.Placed.{whole_sub, Fits}
use Rattle.szg_file.specs.Streaming.{values_if, wanted_values}
use Rattle.szg_file.specs.Values.{slotted, values_in}
use Rattle.szg_file.proofs.Readers.PassedBlocks.{valid_at}
use Rattle.szg_file.proofs.Readers.PlacedSubs.{kept_whole, still_fit, all_fit}
use Rattle.szg_file.proofs.Readers.ReadingLaws.{reads_nothing}
use Rattle.szg_file.proofs.Readers.Taken.{reads_as, reads_equal}
use Rattle.szg_file.proofs.Readers.LoopReads.{each_next, each_stops, reads_lacking, taken_next}
use Rattle.szg_file.proofs.Readers.Streamed.{accepted_as, accepted_none, accepted_then, wanted_next}
use Rattle.szg_file.proofs.reading.dropping.pass_subs.Goals as goal

pub subtables-init : goal.subtables-init
subtables-init g c =
    let moved : List ℕ = g.R.Input.moved c.args.input.now in
    record {
      read = reads_nothing (means []) (λ subs. map (whole_sub moved) subs.items) c.new-subs.result (ap (λ (l : List PlacedSub). means (map (whole_sub moved) l)) (sym c.new-subs.ensures.items));
      fits = subst (λ (l : List PlacedSub). AllByRecursion (Fits (length moved) (length c.args.buffer.now.items)) l) (sym c.new-subs.ensures.items) tt;
      many = ap (λ (l : List PlacedSub). length l) c.new-subs.ensures.items;
      accepted = accepted_none g.K.ValueSink.accepts c.args.sink.now c.args.out.now;
      wanted = refl;
      at = c.requires.at;
      place = omega arith;
      growth = omega arith;
    }

pub returns-in_err-sub-clause-blocks : goal.returns-in_err-sub-clause-blocks
returns-in_err-sub-clause-blocks g c =
    let made = c.into_iter-measured-iterator.ensures.into_iter_gives in
    let turn = YieldsList-turn (YieldsList-from_vec {s = c.into_iter-measured-iterator.result} c.args.list.items made.0 (made.1 ∙ c.args.list.ok.0)) c.subtables.yielded c.subtables.measured-iterator c.subtables.yielded_by c.next.result c.next.new.self c.in-Some.measured c.in-Some.is c.next.ensures.steps in
    let p = err_from_is_err_and c.from_residual.result c.from_residual.ensures.1 in
    rw (p.1, p.2)
    (each_stops blocks_field c.args.list.items (length c.subtables.yielded) c.in-Some.measured (λ subs. map (whole_sub (g.R.Input.moved c.subtables.input)) subs.items) _ _
    c.subtables.subs c.in_err-sub.field-0.0 turn.0 turn.1 c.subtables.invariant.read c.in_err-sub.ensures.blocks)

pub returns-in_err-append-clause-blocks : goal.returns-in_err-append-clause-blocks
returns-in_err-append-clause-blocks g c =
    let made = c.into_iter-measured-iterator.ensures.into_iter_gives in
    let turn = YieldsList-turn (YieldsList-from_vec {s = c.into_iter-measured-iterator.result} c.args.list.items made.0 (made.1 ∙ c.args.list.ok.0)) c.subtables.yielded c.subtables.measured-iterator c.subtables.yielded_by c.next.result c.next.new.self c.in-Some.measured c.in-Some.is c.next.ensures.steps in
    let p = err_from_is_err_and c.from_residual-in_err-append.result c.from_residual-in_err-append.ensures.1 in
    let memory : c.in_err-append.field-0.0 ≡ Memory = let e = c.in_err-append.ensures.memory in cc in
    let seen : PlacedSub → Subtable = whole_sub (g.R.Input.moved c.pass_sub.new.input) in
    rw (p.1, p.2, memory)
    (each_stops blocks_field c.args.list.items (length c.subtables.yielded) c.in-Some.measured (λ subs. map (whole_sub (g.R.Input.moved c.subtables.input)) subs.items) seen _
    c.subtables.subs _ turn.0 turn.1 c.subtables.invariant.read
    (reads_lacking (blocks_field c.in-Some.measured) seen seen c.in_ok-sub.sub c.in_ok-sub.ensures.blocks))

pub subtables-preserved : goal.subtables-preserved
subtables-preserved g c =
    let made = c.into_iter-measured-iterator.ensures.into_iter_gives in
    let turn = YieldsList-turn (YieldsList-from_vec {s = c.into_iter-measured-iterator.result} c.args.list.items made.0 (made.1 ∙ c.args.list.ok.0)) c.subtables.yielded c.subtables.measured-iterator c.subtables.yielded_by c.next.result c.next.new.self c.in-Some.measured c.in-Some.is c.next.ensures.steps in
    let longer : length (c.subtables.yielded ++ c.in-Some.measured ∷ []) ≡ length c.subtables.yielded + 1 = length_push c.subtables.yielded c.in-Some.measured in
    let sub : PlacedSub = c.in_ok-sub.sub in
    let subs : List PlacedSub = c.subtables.subs.items in
    let before : List ℕ = g.R.Input.moved c.subtables.input in
    let following : List ℕ = g.R.Input.moved c.pass_sub.new.input in
    let bytes : List ℕ = c.in_ok-sub.ensures.blocks.bytes in
    let gone : following ≡ before ++ bytes = c.in_ok-sub.ensures.blocks.taken.bytes_moved in
    let more : length following ≡ length before + length bytes = ap (λ (z : List ℕ). length z) gone ∙ length-append before bytes in
    let kept : map (whole_sub following) subs ≡ map (whole_sub before) subs =
    ap (λ (z : List ℕ). map (whole_sub z) subs) gone ∙ kept_whole before bytes (length c.subtables.buffer.items) subs c.subtables.invariant.fits in
    let shown : map (whole_sub following) c.append.new.list.items ≡ map (whole_sub before) subs ++ whole_sub following sub ∷ [] =
    ap (λ (l : List PlacedSub). map (whole_sub following) l) c.in_ok-append.ensures.items ∙ map-append (whole_sub following) subs (sub ∷ []) ∙ ap (λ (l : List Subtable). l ++ whole_sub following sub ∷ []) kept in
    let many : length (take (length c.subtables.yielded) c.args.list.items) ≡ length (map (whole_sub before) subs) =
    length-take-le (length c.subtables.yielded) c.args.list.items (omega (arith, turn.0)) ∙ sym c.subtables.invariant.many ∙ sym (length-map subs (whole_sub before)) in
    let more_subs : length c.append.new.list.items ≡ length subs + 1 = ap (λ (l : List PlacedSub). length l) c.in_ok-append.ensures.items ∙ length_push subs sub in
    let wanted : ℕ → ℕ → Bool = g.K.ValueSink.wanted c.args.sink.now in
    let slot_of : Begun → Slot = λ b. b.slot in
    let still = ap (λ (w : ℕ → ℕ → Bool). values_if (w c.in-Some.measured.slot.part c.in-Some.measured.slot.side) (values_in c.args.kind c.in-Some.measured.slot.size (whole_sub following sub))) c.subtables.invariant.wanted in
    let all = wanted_next wanted c.args.kind c.args.list.items (length c.subtables.yielded) c.in-Some.measured (map (whole_sub before) subs) (whole_sub following sub)
    (taken_next c.args.list.items (length c.subtables.yielded) c.in-Some.measured turn.0 turn.1) many
    ∙ ap (λ (l : List Subtable). wanted_values wanted c.args.kind (slotted (map slot_of (take (length c.subtables.yielded + 1) c.args.list.items)) l)) (sym shown)
    ∙ ap (λ (n : ℕ). wanted_values wanted c.args.kind (slotted (map slot_of (take n c.args.list.items)) (map (whole_sub following) c.append.new.list.items))) (sym longer) in
    record {
      read = reads_equal (each blocks_field (take (length c.subtables.yielded + 1) c.args.list.items)) _ (λ subs. map (whole_sub following) subs.items) (Ok c.append.new.list) (ap (λ (n : ℕ). each blocks_field (take n c.args.list.items)) (sym longer))
          (each_next blocks_field c.args.list.items (length c.subtables.yielded) c.in-Some.measured (λ subs. map (whole_sub before) subs.items) (whole_sub following) (λ subs. map (whole_sub following) subs.items)
          c.subtables.subs sub c.append.new.list turn.0 turn.1 shown c.subtables.invariant.read
          (reads_as (blocks_field c.in-Some.measured) (blocks_field c.in-Some.measured) (whole_sub following) (whole_sub following) sub sub refl refl c.in_ok-append.ensures.place c.in_ok-append.ensures.fill c.in_ok-sub.ensures.blocks));
      fits = subst (λ (l : List PlacedSub). AllByRecursion (Fits (length following) (length c.pass_sub.new.buffer.items)) l) (sym c.in_ok-append.ensures.items)
          (all_fit (Fits (length following) (length c.pass_sub.new.buffer.items)) subs sub (still_fit (length before) (length following) (length c.subtables.buffer.items) (length c.pass_sub.new.buffer.items) subs (omega (arith, more)) c.in_ok-sub.ensures.room c.subtables.invariant.fits) c.in_ok-sub.ensures.fits);
      many = omega (arith, longer, more_subs, c.subtables.invariant.many);
      accepted = accepted_as g.K.ValueSink.accepts _ (wanted_values wanted c.args.kind (slotted (map slot_of (take (length (c.subtables.yielded ++ c.in-Some.measured ∷ [])) c.args.list.items)) (map (whole_sub following) c.append.new.list.items))) all
          (accepted_then g.K.ValueSink.accepts _ _ c.subtables.invariant.accepted
          (accepted_as g.K.ValueSink.accepts _ (values_if (wanted c.in-Some.measured.slot.part c.in-Some.measured.slot.side) (values_in c.args.kind c.in-Some.measured.slot.size (whole_sub following sub))) still c.in_ok-sub.ensures.accepted));
      wanted = c.pass_sub.ensures.wanted ∙ c.subtables.invariant.wanted;
      at = c.in_ok-append.ensures.place ∙ valid_at (blocks_field c.in-Some.measured) (whole_sub following) sub c.subtables.invariant.at c.in_ok-sub.ensures.blocks;
      place = omega (arith, c.subtables.invariant.place, c.in_ok-sub.ensures.place, c.in_ok-append.ensures.place, longer);
      growth = omega (arith, c.subtables.invariant.growth, c.in_ok-sub.ensures.growth, c.in_ok-append.ensures.growth, c.in_ok-append.ensures.place, longer);
    }
