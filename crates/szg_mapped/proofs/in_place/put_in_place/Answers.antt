use Rattle.std.proofs.Common.{ℕ, List, ◌≡◌, ◌≤◌, ◌∙◌, ◌+◌, ◌∷◌, [], ◌++◌, length, sum_by, sym, ap, subst, arith, rules}
use Rattle.std.proofs.lemmas.List.{length_push, take_all}
use Rattle.std.proofs.lemmas.Iterator.Adapters.{YieldsList-from_vec}
use Rattle.std.proofs.lemmas.Iterator.Consumers.{YieldsList-turn, YieldsList-end}
use Rattle.szg_file.specs.Accepted.{SideBySide}
use Rattle.szg_mapped.specs.InPlace.{lengths_size, sparse_size, AreLengthsFrom, AreSparseFrom, Stands}
use Rattle.szg_mapped.specs.declared.in_place.SubInPlace.{SubInPlace}
use Rattle.szg_file.specs.declared.reading.dropping.PlacedSub.{PlacedSub}
use Rattle.szg_mapped.proofs.StandLaws.{between_at, ends_after, ends_within, lengths_after, lengths_begin, one_stands, put_more, sparse_after, sparse_begins}
use Rattle.szg_mapped.proofs.in_place.put_in_place.Goals as goal

pub subtables-init : goal.subtables-init
subtables-init c =
    let r = c.requires in
    let subs : List PlacedSub = c.args.subs.items in
    let content : List ℕ = c.args.bytes.now in
    let sizes = c.list_bytes-sparse_bytes.ensures in
    let sparse_bytes = sizes.sparse ∙ ap (λ (l : List PlacedSub). sum_by sparse_size l) c.deref.ensures.value in
    let length_bytes = sizes.lengths ∙ ap (λ (l : List PlacedSub). sum_by lengths_size l) c.deref.ensures.value in
    let middle = lengths_begin content subs c.args.place c.list_bytes-sparse_bytes.result.0 c.list_bytes-sparse_bytes.result.1 r sparse_bytes length_bytes in
    let first = sparse_begins content subs c.args.place c.list_bytes-sparse_bytes.result.0 c.list_bytes-sparse_bytes.result.1 r sparse_bytes length_bytes in
    record {
      put = subst (λ (l : List SubInPlace). SideBySide Stands [] l) (sym c.new-put.ensures.items) tt;
      sparse = subst (λ (k : ℕ). AreSparseFrom content k subs) (sym first) r.sparse;
      sparse_end = omega (arith, first, r.sparse_end, r.lengths_end, r.inside);
      lengths = subst (λ (k : ℕ). AreLengthsFrom content k subs) (sym middle) r.lengths;
      lengths_end = omega (arith, middle, r.lengths_end, r.inside);
    }

pub overflow_add-index : goal.overflow_add-index
overflow_add-index c =
    let made = c.into_iter-placed-iterator.ensures.into_iter_gives in
    let turn = YieldsList-turn (YieldsList-from_vec {s = c.into_iter-placed-iterator.result} c.args.subs.items made.0 (made.1 ∙ c.args.subs.ok.0)) c.subtables.yielded c.subtables.placed-iterator c.subtables.yielded_by c.next.result c.next.new.self c.in-Some.placed c.in-Some.is c.next.ensures.steps in
    let within = ends_within c.args.bytes.now c.args.subs.items (length c.subtables.yielded) c.in-Some.placed turn.0 turn.1 sparse_size c.subtables.sparse_at c.subtables.invariant.sparse_end in
    let end : c.subtables.sparse_at + c.list_sizes-sparse_bytes.result.0 ≤ length c.args.bytes.now = omega (arith, within, c.list_sizes-sparse_bytes.ensures.sparse) in
    search rules

pub slice_bounds-index-end : goal.slice_bounds-index-end
slice_bounds-index-end c =
    let made = c.into_iter-placed-iterator.ensures.into_iter_gives in
    let turn = YieldsList-turn (YieldsList-from_vec {s = c.into_iter-placed-iterator.result} c.args.subs.items made.0 (made.1 ∙ c.args.subs.ok.0)) c.subtables.yielded c.subtables.placed-iterator c.subtables.yielded_by c.next.result c.next.new.self c.in-Some.placed c.in-Some.is c.next.ensures.steps in
    let within = ends_within c.args.bytes.now c.args.subs.items (length c.subtables.yielded) c.in-Some.placed turn.0 turn.1 sparse_size c.subtables.sparse_at c.subtables.invariant.sparse_end in
    let end : c.subtables.sparse_at + c.list_sizes-sparse_bytes.result.0 ≤ length c.args.bytes.now = omega (arith, within, c.list_sizes-sparse_bytes.ensures.sparse) in
    search rules

pub overflow_add-index-in-subtables : goal.overflow_add-index-in-subtables
overflow_add-index-in-subtables c =
    let made = c.into_iter-placed-iterator.ensures.into_iter_gives in
    let turn = YieldsList-turn (YieldsList-from_vec {s = c.into_iter-placed-iterator.result} c.args.subs.items made.0 (made.1 ∙ c.args.subs.ok.0)) c.subtables.yielded c.subtables.placed-iterator c.subtables.yielded_by c.next.result c.next.new.self c.in-Some.placed c.in-Some.is c.next.ensures.steps in
    let within = ends_within c.args.bytes.now c.args.subs.items (length c.subtables.yielded) c.in-Some.placed turn.0 turn.1 lengths_size c.subtables.lengths_at c.subtables.invariant.lengths_end in
    let end : c.subtables.lengths_at + c.list_sizes-sparse_bytes.result.1 ≤ length c.args.bytes.now = omega (arith, within, c.list_sizes-sparse_bytes.ensures.lengths) in
    search rules

pub slice_bounds-index-end-in-subtables : goal.slice_bounds-index-end-in-subtables
slice_bounds-index-end-in-subtables c =
    let made = c.into_iter-placed-iterator.ensures.into_iter_gives in
    let turn = YieldsList-turn (YieldsList-from_vec {s = c.into_iter-placed-iterator.result} c.args.subs.items made.0 (made.1 ∙ c.args.subs.ok.0)) c.subtables.yielded c.subtables.placed-iterator c.subtables.yielded_by c.next.result c.next.new.self c.in-Some.placed c.in-Some.is c.next.ensures.steps in
    let within = ends_within c.args.bytes.now c.args.subs.items (length c.subtables.yielded) c.in-Some.placed turn.0 turn.1 lengths_size c.subtables.lengths_at c.subtables.invariant.lengths_end in
    let end : c.subtables.lengths_at + c.list_sizes-sparse_bytes.result.1 ≤ length c.args.bytes.now = omega (arith, within, c.list_sizes-sparse_bytes.ensures.lengths) in
    search rules

pub subtables-preserved : goal.subtables-preserved
subtables-preserved c =
    let made = c.into_iter-placed-iterator.ensures.into_iter_gives in
    let turn = YieldsList-turn (YieldsList-from_vec {s = c.into_iter-placed-iterator.result} c.args.subs.items made.0 (made.1 ∙ c.args.subs.ok.0)) c.subtables.yielded c.subtables.placed-iterator c.subtables.yielded_by c.next.result c.next.new.self c.in-Some.placed c.in-Some.is c.next.ensures.steps in
    let n : ℕ = length c.subtables.yielded in
    let placed : PlacedSub = c.in-Some.placed in
    let subs : List PlacedSub = c.args.subs.items in
    let content : List ℕ = c.args.bytes.now in
    let h = c.subtables.invariant in
    let sizes = c.list_sizes-sparse_bytes.ensures in
    let longer : length (c.subtables.yielded ++ placed ∷ []) ≡ n + 1 = length_push c.subtables.yielded placed in
    record {
      put = put_more content subs n placed turn.0 turn.1 c.subtables.put.items _ _ _ c.in_ok-push.ensures.items longer h.put
          (one_stands content subs n placed turn.0 turn.1 c.subtables.sparse_at c.subtables.lengths_at h.sparse h.lengths _ c.without_lists.ensures.first c.without_lists.ensures.head (between_at content c.subtables.sparse_at c.list_sizes-sparse_bytes.result.0 (sparse_size placed) sizes.sparse) (between_at content c.subtables.lengths_at c.list_sizes-sparse_bytes.result.1 (lengths_size placed) sizes.lengths));
      sparse = sparse_after content subs n placed turn.0 turn.1 c.subtables.sparse_at c.subtables.lengths_at h.sparse h.lengths _ c.list_sizes-sparse_bytes.result.0 longer sizes.sparse;
      sparse_end = ends_after content subs n placed turn.0 turn.1 sparse_size c.subtables.sparse_at _ c.list_sizes-sparse_bytes.result.0 longer sizes.sparse h.sparse_end;
      lengths = lengths_after content subs n placed turn.0 turn.1 c.subtables.sparse_at c.subtables.lengths_at h.sparse h.lengths _ c.list_sizes-sparse_bytes.result.1 longer sizes.lengths;
      lengths_end = ends_after content subs n placed turn.0 turn.1 lengths_size c.subtables.lengths_at _ c.list_sizes-sparse_bytes.result.1 longer sizes.lengths h.lengths_end;
    }

pub returns : goal.returns
returns c =
    let made = c.into_iter-placed-iterator.ensures.into_iter_gives in
    let end = YieldsList-end (YieldsList-from_vec {s = c.into_iter-placed-iterator.result} c.args.subs.items made.0 (made.1 ∙ c.args.subs.ok.0)) c.subtables.yielded c.subtables.placed-iterator c.subtables.yielded_by c.next.result c.next.new.self c.in-None.is c.next.ensures.steps in
    subst (λ (l : List PlacedSub). SideBySide Stands l c.subtables.put.items) (take_all (length c.subtables.yielded) c.args.subs.items (omega (arith, end.1))) c.subtables.invariant.put
