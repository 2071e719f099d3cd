use Rattle.std.proofs.Common.{◌≡◌, refl, ◌<◌, ◌∷◌, ◌++◌, [], length, map, arith, List, ℕ, Option, option_map, sym, ap, ◌∙◌, get_or, Ok, Vec, Global}
use Rattle.std.proofs.lemmas.List.{map-append, length-map, get_or-map, take_all}
use Rattle.std.proofs.lemmas.Result.{err_from_is_err_and}
use Rattle.szg_values.specs.declared.Kind.TheVariants.{Wdl}
use Rattle.szg_file.specs.declared.table.Map.{Map}
use Rattle.szg_file.specs.Format.{Format, means, ◌>>◌}
use Rattle.szg_file.specs.Contents.{Subtable}
use Rattle.szg_file.specs.Contents as held
use Rattle.szg_file.specs.File.{Begun, each, map_field, maps_field, filled_to}
use Rattle.szg_file.specs.Held.{map_of}
use Rattle.szg_file.specs.WholeRead.{map_lengths}
use Rattle.szg_file.proofs.Readers.HeadReads.{memory_is}
use Rattle.szg_file.proofs.Readers.ReadingLaws.{reads_then, reads_stopped, reads_nothing}
use Rattle.szg_file.proofs.Readers.Taken.{reads_as, reads_equal}
use Rattle.szg_file.proofs.Readers.LoopReads.{each_next, each_stops, reads_lacking}
use Rattle.szg_file.proofs.Readers.Grown.{none_yet, one_more}
use Rattle.szg_file.proofs.reading.maps.read_maps.Goals as goal

abbrev subtables : List Begun → List Subtable
subtables heads = map (λ (b : Begun). b.subtable) heads

-- subtable `i` of the list is the subtable of item `i`
there : (heads : List Begun) (i : ℕ) → i < length heads → i < length (subtables heads)
there heads i lt = omega (arith, lt, length-map heads (λ (b : Begun). b.subtable))

is_item : (heads : List Begun) (i : ℕ) (x : Begun) → i < length heads → x ≡ get_or heads i x → x.subtable ≡ get_or (subtables heads) i x.subtable
is_item heads i x lt e = ap (λ (b : Begun). b.subtable) e ∙ sym (get_or-map (λ (b : Begun). b.subtable) heads i x x.subtable lt)

-- the items of a map
abbrev items_of : Option Map → ℕ
items_of found = map_lengths (option_map map_of found)

-- what follows the maps
abbrev after : List (Option held.Map) → Format (List (Option held.Map))
after found = filled_to 2 >> means found

pub returns-in-Wdl-clause-maps : goal.returns-in-Wdl-clause-maps
returns-in-Wdl-clause-maps g c =
    rw c.in-Wdl.is
    (reads_nothing (maps_field Wdl (subtables c.args.heads.now)) (λ list. map (option_map map_of) list.items) c.new.result
    (ap (λ (l : List (Option Map)). means (map (option_map map_of) l)) (sym c.new.ensures.items)))

pub heads-init : goal.heads-init
heads-init g c = record {
  read = reads_nothing (means []) (λ list. map (option_map map_of) list.items) c.new-list.result (ap (λ (l : List (Option Map)). means (map (option_map map_of) l)) (sym c.new-list.ensures.items));
  place = omega arith;
  growth = omega arith;
  grown = omega (arith, none_yet items_of c.new-list.result.items c.new-list.ensures.items);
}

pub returns-in_err-lists-in-Dtz-clause-maps : goal.returns-in_err-lists-in-Dtz-clause-maps
returns-in_err-lists-in-Dtz-clause-maps g c =
    let xs = c.args.heads.now in
    let i = c.heads.head-index in
    let x = c.head-item.result in
    let p = err_from_is_err_and c.from_residual.result c.from_residual.ensures.1 in
    rw (c.in-Dtz.is, p.1, p.2)
    (reads_stopped (each map_field (subtables xs)) after (λ (list : Vec (Option Map) Global). map (option_map map_of) list.items) (λ list. map (option_map map_of) list.items) c.in_err-lists-in-Dtz.field-0.0
    (each_stops map_field (subtables xs) i x.subtable (λ list. map (option_map map_of) list.items) (option_map map_of) (λ list. map (option_map map_of) list.items)
    c.heads.list c.in_err-lists-in-Dtz.field-0.0 (there xs i c.heads-test.true) (is_item xs i x c.heads-test.true c.head-item.is) c.heads.invariant.read c.in_err-lists-in-Dtz.ensures.lists))

pub returns-in_err-append-in-Dtz-clause-maps : goal.returns-in_err-append-in-Dtz-clause-maps
returns-in_err-append-in-Dtz-clause-maps g c =
    let xs = c.args.heads.now in
    let i = c.heads.head-index in
    let x = c.head-item.result in
    let p = err_from_is_err_and c.from_residual-in_err-append-in-Dtz.result c.from_residual-in_err-append-in-Dtz.ensures.1 in
    let memory = memory_is c.in_err-append-in-Dtz.field-0.0 c.in_err-append-in-Dtz.ensures.memory in
    rw (c.in-Dtz.is, p.1, p.2, memory)
    (reads_stopped (each map_field (subtables xs)) after (λ (list : Vec (Option Map) Global). map (option_map map_of) list.items) (λ list. map (option_map map_of) list.items) _
    (each_stops map_field (subtables xs) i x.subtable (λ list. map (option_map map_of) list.items) (option_map map_of) (λ list. map (option_map map_of) list.items)
    c.heads.list _ (there xs i c.heads-test.true) (is_item xs i x c.heads-test.true c.head-item.is) c.heads.invariant.read
    (reads_lacking (map_field x.subtable) (option_map map_of) (option_map map_of) c.in_ok-lists-in-Dtz.lists c.in_ok-lists-in-Dtz.ensures.lists)))

pub heads-preserved : goal.heads-preserved
heads-preserved g c =
    let xs = c.args.heads.now in
    let i = c.heads.head-index in
    let x = c.head-item.result in
    let old = c.heads.list.items in
    let lists = c.in_ok-lists-in-Dtz in
    let pushed = c.in_ok-append-in-Dtz in
    let shown : map (option_map map_of) c.append.new.list.items ≡ map (option_map map_of) old ++ option_map map_of lists.lists ∷ [] =
    ap (λ (l : List (Option Map)). map (option_map map_of) l) pushed.ensures.items ∙ map-append (option_map map_of) old (lists.lists ∷ []) in
    record {
      read = each_next map_field (subtables xs) i x.subtable (λ list. map (option_map map_of) list.items) (option_map map_of) (λ list. map (option_map map_of) list.items)
          c.heads.list lists.lists c.append.new.list (there xs i c.heads-test.true) (is_item xs i x c.heads-test.true c.head-item.is) shown c.heads.invariant.read
          (reads_as (map_field x.subtable) (map_field x.subtable) (option_map map_of) (option_map map_of) lists.lists lists.lists refl refl pushed.ensures.place pushed.ensures.fill lists.ensures.lists);
      place = omega (arith, c.heads.invariant.place, lists.ensures.place, pushed.ensures.place);
      growth = omega (arith, c.heads.invariant.growth, lists.ensures.growth, pushed.ensures.growth, pushed.ensures.place);
      grown = omega (
        arith,
        one_more items_of old c.append.new.list.items lists.lists pushed.ensures.items,
        c.heads.invariant.grown,
        lists.ensures.grown,
        pushed.ensures.growth,
        ap length pushed.ensures.fill,
      );
    }

pub returns-in_err-take_fill-in-Dtz-clause-maps : goal.returns-in_err-take_fill-in-Dtz-clause-maps
returns-in_err-take_fill-in-Dtz-clause-maps g c =
    let xs = c.args.heads.now in
    let whole = take_all c.heads.head-index (subtables xs) (omega (arith, length-map xs (λ (b : Begun). b.subtable), c.heads-test.false)) in
    let p = err_from_is_err_and c.from_residual-in_err-take_fill-in-Dtz.result c.from_residual-in_err-take_fill-in-Dtz.ensures.1 in
    rw (c.in-Dtz.is, p.1, p.2)
    (reads_then (each map_field (subtables xs)) after (λ list. map (option_map map_of) list.items) (λ list. map (option_map map_of) list.items) c.heads.list
    (reads_equal _ (each map_field (subtables xs)) _ (Ok c.heads.list) (ap (each map_field) whole) c.heads.invariant.read)
    (reads_stopped (filled_to 2) (λ _. means (map (option_map map_of) c.heads.list.items)) (λ _. tt) (λ list. map (option_map map_of) list.items)
    c.in_err-take_fill-in-Dtz.field-0.0 c.in_err-take_fill-in-Dtz.ensures.fill))

pub returns-in_ok-take_fill-in-Dtz-clause-maps : goal.returns-in_ok-take_fill-in-Dtz-clause-maps
returns-in_ok-take_fill-in-Dtz-clause-maps g c =
    let xs = c.args.heads.now in
    let whole = take_all c.heads.head-index (subtables xs) (omega (arith, length-map xs (λ (b : Begun). b.subtable), c.heads-test.false)) in
    rw c.in-Dtz.is
    (reads_then (each map_field (subtables xs)) after (λ list. map (option_map map_of) list.items) (λ list. map (option_map map_of) list.items) c.heads.list
    (reads_equal _ (each map_field (subtables xs)) _ (Ok c.heads.list) (ap (each map_field) whole) c.heads.invariant.read)
    (reads_then (filled_to 2) (λ _. means (map (option_map map_of) c.heads.list.items)) (λ _. tt) (λ list. map (option_map map_of) list.items)
    tt c.in_ok-take_fill-in-Dtz.ensures.fill
    (reads_nothing (means (map (option_map map_of) c.heads.list.items)) (λ list. map (option_map map_of) list.items) c.heads.list refl)))
