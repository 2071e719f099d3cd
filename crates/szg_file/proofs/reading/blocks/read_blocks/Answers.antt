use Rattle.std.proofs.Common.{◌≡◌, refl, ◌+◌, ◌∷◌, [], ◌++◌, Ok, length, map, take, ℕ, List, sym, ap, ◌∙◌, arith}
use Rattle.std.proofs.lemmas.List.{length_push, map-append}
use Rattle.std.proofs.lemmas.Result.{err_from_is_err_and}
use Rattle.std.proofs.lemmas.Iterator.Adapters.{YieldsList-from_vec}
use Rattle.std.proofs.lemmas.Iterator.Consumers.{YieldsList-turn}
use Rattle.szg_file.specs.declared.fault.ReadFault.TheVariants.{Memory}
use Rattle.szg_file.specs.Format.{means}
use Rattle.szg_block.specs.declared.Sub.{Sub}
use Rattle.szg_file.specs.File.{each, blocks_field, Begun}
use Rattle.szg_file.specs.Held.{subtable_of}
use Rattle.szg_file.proofs.Readers.ReadingLaws.{reads_nothing}
use Rattle.szg_file.proofs.Readers.Taken.{reads_as, reads_equal}
use Rattle.szg_file.proofs.Readers.LoopReads.{each_next, each_stops, reads_lacking}
use Rattle.szg_file.specs.WholeRead.{sub_lengths}
use Rattle.std.proofs.lemmas.List.Sums.{sum_by_push}
use Rattle.szg_file.proofs.Readers.Grown.{none_yet, one_more}
use Rattle.szg_file.proofs.reading.blocks.read_blocks.Goals as goal

pub subtables-init : goal.subtables-init
subtables-init g c = record {
  read = reads_nothing (means []) (λ subs. map subtable_of subs.items) c.new-subs.result (ap (λ (l : List Sub). means (map subtable_of l)) (sym c.new-subs.ensures.items));
  count = ap length c.new-subs.ensures.items;
  place = omega arith;
  growth = omega arith;
  grown = omega (arith, none_yet (λ (sub : Sub). sub_lengths (subtable_of sub)) c.new-subs.result.items c.new-subs.ensures.items);
}

pub returns-in_err-sub-clause-blocks : goal.returns-in_err-sub-clause-blocks
returns-in_err-sub-clause-blocks g c =
    let made = c.into_iter-measured-iterator.ensures.into_iter_gives in
    let turn = YieldsList-turn (YieldsList-from_vec {s = c.into_iter-measured-iterator.result} c.args.list.items made.0 (made.1 ∙ c.args.list.ok.0)) c.subtables.yielded c.subtables.measured-iterator c.subtables.yielded_by c.next.result c.next.new.self c.in-Some.measured c.in-Some.is c.next.ensures.steps in
    let p = err_from_is_err_and c.from_residual.result c.from_residual.ensures.1 in
    rw (p.1, p.2)
    (each_stops blocks_field c.args.list.items (length c.subtables.yielded) c.in-Some.measured (λ subs. map subtable_of subs.items) subtable_of (λ subs. map subtable_of subs.items)
    c.subtables.subs c.in_err-sub.field-0.0 turn.0 turn.1 c.subtables.invariant.read c.in_err-sub.ensures.blocks)

pub returns-in_err-append-clause-blocks : goal.returns-in_err-append-clause-blocks
returns-in_err-append-clause-blocks g c =
    let made = c.into_iter-measured-iterator.ensures.into_iter_gives in
    let turn = YieldsList-turn (YieldsList-from_vec {s = c.into_iter-measured-iterator.result} c.args.list.items made.0 (made.1 ∙ c.args.list.ok.0)) c.subtables.yielded c.subtables.measured-iterator c.subtables.yielded_by c.next.result c.next.new.self c.in-Some.measured c.in-Some.is c.next.ensures.steps in
    let p = err_from_is_err_and c.from_residual-in_err-append.result c.from_residual-in_err-append.ensures.1 in
    let memory : c.in_err-append.field-0.0 ≡ Memory = let e = c.in_err-append.ensures.memory in cc in
    rw (p.1, p.2, memory)
    (each_stops blocks_field c.args.list.items (length c.subtables.yielded) c.in-Some.measured (λ subs. map subtable_of subs.items) subtable_of (λ subs. map subtable_of subs.items)
    c.subtables.subs _ turn.0 turn.1 c.subtables.invariant.read
    (reads_lacking (blocks_field c.in-Some.measured) subtable_of subtable_of c.in_ok-sub.sub c.in_ok-sub.ensures.blocks))

pub subtables-preserved : goal.subtables-preserved
subtables-preserved g c =
    let made = c.into_iter-measured-iterator.ensures.into_iter_gives in
    let turn = YieldsList-turn (YieldsList-from_vec {s = c.into_iter-measured-iterator.result} c.args.list.items made.0 (made.1 ∙ c.args.list.ok.0)) c.subtables.yielded c.subtables.measured-iterator c.subtables.yielded_by c.next.result c.next.new.self c.in-Some.measured c.in-Some.is c.next.ensures.steps in
    let longer : length (c.subtables.yielded ++ c.in-Some.measured ∷ []) ≡ length c.subtables.yielded + 1 = length_push c.subtables.yielded c.in-Some.measured in
    let kept : length (c.subtables.subs.items ++ c.in_ok-sub.sub ∷ []) ≡ length c.subtables.subs.items + 1 = length_push c.subtables.subs.items c.in_ok-sub.sub in
    let shown : map subtable_of c.append.new.list.items ≡ map subtable_of c.subtables.subs.items ++ subtable_of c.in_ok-sub.sub ∷ [] =
    ap (λ (l : List Sub). map subtable_of l) c.in_ok-append.ensures.items ∙ map-append subtable_of c.subtables.subs.items (c.in_ok-sub.sub ∷ []) in
    record {
      read = reads_equal (each blocks_field (take (length c.subtables.yielded + 1) c.args.list.items)) _ (λ subs. map subtable_of subs.items) (Ok c.append.new.list) (ap (λ (n : ℕ). each blocks_field (take n c.args.list.items)) (sym longer))
          (each_next blocks_field c.args.list.items (length c.subtables.yielded) c.in-Some.measured (λ subs. map subtable_of subs.items) subtable_of (λ subs. map subtable_of subs.items)
          c.subtables.subs c.in_ok-sub.sub c.append.new.list turn.0 turn.1 shown c.subtables.invariant.read
          (reads_as (blocks_field c.in-Some.measured) (blocks_field c.in-Some.measured) subtable_of subtable_of c.in_ok-sub.sub c.in_ok-sub.sub refl refl c.in_ok-append.ensures.place c.in_ok-append.ensures.fill c.in_ok-sub.ensures.blocks));
      count = ap length c.in_ok-append.ensures.items ∙ kept ∙ omega (arith, c.subtables.invariant.count, longer);
      place = omega (arith, c.subtables.invariant.place, c.in_ok-sub.ensures.place, c.in_ok-append.ensures.place, longer);
      growth = omega (arith, c.subtables.invariant.growth, c.in_ok-sub.ensures.growth, c.in_ok-append.ensures.growth, c.in_ok-append.ensures.place, longer);
      grown = omega (
        arith,
        one_more (λ (sub : Sub). sub_lengths (subtable_of sub)) c.subtables.subs.items c.append.new.list.items c.in_ok-sub.sub c.in_ok-append.ensures.items,
        sum_by_push (λ (b : Begun). sub_lengths b.subtable) c.subtables.yielded c.in-Some.measured,
        c.subtables.invariant.grown,
        c.in_ok-sub.ensures.grown,
        c.in_ok-append.ensures.growth,
        ap length c.in_ok-append.ensures.fill,
      );
    }
