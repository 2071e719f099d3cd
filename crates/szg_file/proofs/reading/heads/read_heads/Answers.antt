use Rattle.std.proofs.Common.{◌≡◌, refl, ◌+◌, ◌∷◌, ◌++◌, [], length, map, arith, List, sym, ap, ◌∙◌, take}
use Rattle.std.proofs.lemmas.List.{map-append, length-map, length-append, length-take}
use Rattle.std.proofs.lemmas.Result.{err_from_is_err_and}
use Rattle.szg_file.specs.Format.{means}
use Rattle.szg_file.specs.Contents.{Slot, Subtable}
use Rattle.szg_file.specs.File.{Begun, begun, head_field}
use Rattle.szg_file.proofs.Readers.HeadReads.{memory_is}
use Rattle.szg_file.proofs.Readers.ReadingLaws.{reads_nothing}
use Rattle.szg_file.proofs.Readers.Taken.{reads_as}
use Rattle.szg_file.proofs.Readers.LoopReads.{each_next, each_stops, reads_lacking, taken_next, begun_more}
use Rattle.szg_file.specs.WholeRead.{sub_lengths}
use Rattle.szg_file.proofs.Readers.Grown.{none_yet, one_more}
use Rattle.szg_file.proofs.reading.heads.read_heads.Goals as goal

pub slots-init : goal.slots-init
slots-init g c = record {
  read = reads_nothing (means []) (λ list. map (λ (b : Begun). b.subtable) list.items) c.new-list.result (ap (λ (l : List Begun). means (map (λ (b : Begun). b.subtable) l)) (sym c.new-list.ensures.items));
  made = c.new-list.ensures.items;
  count = ap length c.new-list.ensures.items;
  place = omega arith;
  growth = omega arith;
  grown = omega (arith, none_yet (λ (b : Begun). sub_lengths b.subtable) c.new-list.result.items c.new-list.ensures.items);
}

pub returns-in_err-begun-clause-heads : goal.returns-in_err-begun-clause-heads
returns-in_err-begun-clause-heads g c =
    let p = err_from_is_err_and c.from_residual.result c.from_residual.ensures.1 in
    rw (p.1, p.2)
    (each_stops head_field c.args.slots.now c.slots.slot-index c.slot-item.result (λ list. map (λ (b : Begun). b.subtable) list.items) (λ (b : Begun). b.subtable) (λ list. map (λ (b : Begun). b.subtable) list.items)
    c.slots.list c.in_err-begun.field-0.0 c.slots-test.true c.slot-item.is c.slots.invariant.read c.in_err-begun.ensures.head)

pub returns-in_err-append-clause-heads : goal.returns-in_err-append-clause-heads
returns-in_err-append-clause-heads g c =
    let p = err_from_is_err_and c.from_residual-in_err-append.result c.from_residual-in_err-append.ensures.1 in
    let memory = memory_is c.in_err-append.field-0.0 c.in_err-append.ensures.memory in
    rw (p.1, p.2, memory)
    (each_stops head_field c.args.slots.now c.slots.slot-index c.slot-item.result (λ list. map (λ (b : Begun). b.subtable) list.items) (λ (b : Begun). b.subtable) (λ list. map (λ (b : Begun). b.subtable) list.items)
    c.slots.list _ c.slots-test.true c.slot-item.is c.slots.invariant.read
    (reads_lacking (head_field c.slot-item.result) (λ (b : Begun). b.subtable) (λ (b : Begun). b.subtable) c.in_ok-begun.begun c.in_ok-begun.ensures.head))

pub slots-preserved : goal.slots-preserved
slots-preserved g c =
    let xs = c.args.slots.now in
    let i = c.slots.slot-index in
    let x = c.slot-item.result in
    let b = c.in_ok-begun.begun in
    let old = c.slots.list.items in
    let more : c.append.new.list.items ≡ old ++ b ∷ [] = c.in_ok-append.ensures.items in
    let shown : map (λ (b : Begun). b.subtable) c.append.new.list.items ≡ map (λ (b : Begun). b.subtable) old ++ b.subtable ∷ [] =
    ap (λ (l : List Begun). map (λ (b : Begun). b.subtable) l) more ∙ map-append (λ (b : Begun). b.subtable) old (b ∷ []) in
    let next : take (i + 1) xs ≡ take i xs ++ x ∷ [] = taken_next xs i x c.slots-test.true c.slot-item.is in
    let counts : length (take i xs) ≡ length (map (λ (b : Begun). b.subtable) old) =
    omega (arith, length-take i xs, length-map old (λ (b : Begun). b.subtable), c.slots.invariant.count, c.slots-test.true) in
    record {
      read = each_next head_field xs i x (λ list. map (λ (b : Begun). b.subtable) list.items) (λ (b : Begun). b.subtable) (λ list. map (λ (b : Begun). b.subtable) list.items)
          c.slots.list b c.append.new.list c.slots-test.true c.slot-item.is shown c.slots.invariant.read
          (reads_as (head_field x) (head_field x) (λ (b : Begun). b.subtable) (λ (b : Begun). b.subtable) b b refl refl c.in_ok-append.ensures.place c.in_ok-append.ensures.fill c.in_ok-begun.ensures.head);
      made = more
          ∙ ap (λ (l : List Begun). l ++ b ∷ []) c.slots.invariant.made
          ∙ ap (λ (e : Begun). begun (take i xs) (map (λ (b : Begun). b.subtable) old) ++ e ∷ []) c.in_ok-begun.ensures.slot
          ∙ sym (begun_more (take i xs) (map (λ (b : Begun). b.subtable) old) x b.subtable counts)
          ∙ ap (λ (l : List Slot). begun l (map (λ (b : Begun). b.subtable) old ++ b.subtable ∷ [])) (sym next)
          ∙ ap (λ (l : List Subtable). begun (take (i + 1) xs) l) (sym shown);
      count = omega (arith, ap length more, length-append old (b ∷ []), c.slots.invariant.count);
      place = omega (arith, c.slots.invariant.place, c.in_ok-begun.ensures.place, c.in_ok-append.ensures.place);
      growth = omega (arith, c.slots.invariant.growth, c.in_ok-begun.ensures.growth, c.in_ok-append.ensures.growth, c.in_ok-append.ensures.place);
      grown = omega (
        arith,
        one_more (λ (b : Begun). sub_lengths b.subtable) old c.append.new.list.items b more,
        c.slots.invariant.grown,
        c.in_ok-begun.ensures.grown,
        c.in_ok-append.ensures.growth,
        ap length c.in_ok-append.ensures.fill,
      );
    }
