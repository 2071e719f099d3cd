use Rattle.std.proofs.Common.{◌≡◌, ◌∙◌, ◌+◌, ◌∷◌, [], ◌++◌, length, ap, arith}
use Rattle.std.proofs.lemmas.List.{length_push}
use Rattle.std.proofs.lemmas.Result.{err_from_is_err_and}
use Rattle.std.proofs.lemmas.Iterator.Adapters.{YieldsList-from_vec}
use Rattle.std.proofs.lemmas.Iterator.Consumers.{YieldsList-turn, YieldsList-end}
use Rattle.szg_file.specs.declared.fault.ReadFault.TheVariants.{Memory}
use Rattle.szg_file.proofs.Readers.LoopReads.{each_stops, reads_lacking}
use Rattle.szg_file.proofs.Readers.SubtableLoops.{loading_none, loading_next, loading_all}
use Rattle.szg_file.proofs.reading.index.take_each.Goals as goal

pub items-init : goal.items-init
items-init g c = record {
  count = ap length c.new-taken.ensures.items;
  place = omega arith;
  growth = omega arith;
  loaded = λ field before after all. loading_none field c.args.list.items before after (λ taken. taken.items) c.new-taken.result c.new-taken.ensures.items;
}

pub returns-in_err-next-clause-each : goal.returns-in_err-next-clause-each
returns-in_err-next-clause-each g c = λ field before after all.
    let made = c.into_iter-item-iterator.ensures.into_iter_gives in
    let turn = YieldsList-turn (YieldsList-from_vec {s = c.into_iter-item-iterator.result} c.args.list.items made.0 (made.1 ∙ c.args.list.ok.0)) c.items.yielded c.items.item-iterator c.items.yielded_by c.next.result c.next.new.self c.in-Some.item c.in-Some.is c.next.ensures.steps in
    let p = err_from_is_err_and c.from_residual.result c.from_residual.ensures.1 in
    let read = (all _ _ _ _ _ _ _ c.in_err-next.ensures).0 in
    rw (p.1, p.2) (
      each_stops field c.args.list.items (length c.items.yielded) c.in-Some.item (λ taken. taken.items) (λ taken. taken) (λ taken. taken.items)
          c.items.taken c.in_err-next.field-0.0 turn.0 turn.1 (c.items.invariant.loaded field before after all).read read,
      tt,
    )

pub items-preserved : goal.items-preserved
items-preserved g c =
    let made = c.into_iter-item-iterator.ensures.into_iter_gives in
    let turn = YieldsList-turn (YieldsList-from_vec {s = c.into_iter-item-iterator.result} c.args.list.items made.0 (made.1 ∙ c.args.list.ok.0)) c.items.yielded c.items.item-iterator c.items.yielded_by c.next.result c.next.new.self c.in-Some.item c.in-Some.is c.next.ensures.steps in
    let longer : length (c.items.yielded ++ c.in-Some.item ∷ []) ≡ length c.items.yielded + 1 = length_push c.items.yielded c.in-Some.item in
    let kept : length (c.items.taken.items ++ c.in_ok-next.next ∷ []) ≡ length c.items.taken.items + 1 = length_push c.items.taken.items c.in_ok-next.next in
    let append = c.in_ok-append.ensures in
    let few = c.requires.few _ _ _ _ _ _ _ c.in_ok-next.ensures in
    record {
      count = ap length append.items ∙ kept ∙ omega (arith, c.items.invariant.count, longer);
      place = omega (arith, c.items.invariant.place, few.0, append.place, longer);
      growth = omega (arith, c.items.invariant.growth, few.1, append.growth, append.place, longer);
      loaded = λ field before after all.
          let next = all _ _ _ _ _ _ _ c.in_ok-next.ensures in
          loading_next field c.args.list.items c.items.yielded c.in-Some.item c.in_ok-next.next before after (λ taken. taken.items) c.items.taken c.append.new.list turn.0 turn.1
          (c.items.invariant.loaded field before after all)
          record {
            read = next.0;
            grown = next.1;
            pushed = append.items;
            same_place = append.place;
            same_fill = append.fill;
            one_counted = append.growth;
          };
    }

pub returns-in_err-append-clause-each : goal.returns-in_err-append-clause-each
returns-in_err-append-clause-each g c = λ field before after all.
    let made = c.into_iter-item-iterator.ensures.into_iter_gives in
    let turn = YieldsList-turn (YieldsList-from_vec {s = c.into_iter-item-iterator.result} c.args.list.items made.0 (made.1 ∙ c.args.list.ok.0)) c.items.yielded c.items.item-iterator c.items.yielded_by c.next.result c.next.new.self c.in-Some.item c.in-Some.is c.next.ensures.steps in
    let p = err_from_is_err_and c.from_residual-in_err-append.result c.from_residual-in_err-append.ensures.1 in
    let memory : c.in_err-append.field-0.0 ≡ Memory = let e = c.in_err-append.ensures.memory in cc in
    let read = (all _ _ _ _ _ _ _ c.in_ok-next.ensures).0 in
    rw (p.1, p.2, memory) (
      each_stops field c.args.list.items (length c.items.yielded) c.in-Some.item (λ taken. taken.items) (λ taken. taken) (λ taken. taken.items)
          c.items.taken _ turn.0 turn.1 (c.items.invariant.loaded field before after all).read
          (reads_lacking (field c.in-Some.item) (λ taken. taken) (λ taken. taken) c.in_ok-next.next read),
      tt,
    )

pub returns-clause-each : goal.returns-clause-each
returns-clause-each g c = λ field before after all.
    let made = c.into_iter-item-iterator.ensures.into_iter_gives in
    let end = YieldsList-end (YieldsList-from_vec {s = c.into_iter-item-iterator.result} c.args.list.items made.0 (made.1 ∙ c.args.list.ok.0)) c.items.yielded c.items.item-iterator c.items.yielded_by c.next.result c.next.new.self c.in-None.is c.next.ensures.steps in
    loading_all field c.args.list.items c.items.yielded before after (λ taken. taken.items) c.items.taken end (c.items.invariant.loaded field before after all)
