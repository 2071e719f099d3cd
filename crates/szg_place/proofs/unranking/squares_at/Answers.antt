use Rattle.std.proofs.Common.{◌≡◌, ◌≤◌, ℕ, List, [], ◌++◌, length, take, get_or, sym, ap, ◌∙◌, arith}
use Rattle.std.specs.List.{concat}
use Rattle.std.proofs.lemmas.List.{take_more, take_all}
use Rattle.std.proofs.lemmas.Option.{slice_get_within}
use Rattle.szg_count.proofs.InSlots.{squares_room}
use Rattle.szg_place.specs.Known.{AreGrouped}
use Rattle.szg_place.specs.Spots.{ordered_sets}
use Rattle.szg_place.proofs.Ranks.Ways.{concat-more}
use Rattle.szg_place.proofs.Indexes.Indexing.{step_in, after_at, stated_many}
use Rattle.szg_place.proofs.Placements.Stating.{stating_at, placed_at, set_stated}
use Rattle.szg_place.proofs.unranking.squares_at.Goals as goal

pub nonzero_div-number : goal.nonzero_div-number
nonzero_div-number g c =
    let grouped : AreGrouped c.args.material.now c.args.part g.given.0 c.args.grouped.now.groups = record { has_part = c.requires.0; ordered = c.requires.1.0; groups_are = c.requires.1.1.0 } in
    let t = stating_at c.args.index c.material.ensures.named grouped c.requires.1.1.1.0 c.requires.1.1.1.1.0 in
    let s = step_in c.material.ensures.named grouped t.lists c.loop-i-test.true c.count-i-end.ensures c.group-group.ensures in
    let a = (placed_at t s).factor in omega (arith, a)

pub nonzero_rem-number : goal.nonzero_rem-number
nonzero_rem-number g c =
    let grouped : AreGrouped c.args.material.now c.args.part g.given.0 c.args.grouped.now.groups = record { has_part = c.requires.0; ordered = c.requires.1.0; groups_are = c.requires.1.1.0 } in
    let t = stating_at c.args.index c.material.ensures.named grouped c.requires.1.1.1.0 c.requires.1.1.1.1.0 in
    let s = step_in c.material.ensures.named grouped t.lists c.loop-i-test.true c.count-i-end.ensures c.group-group.ensures in
    let a = (placed_at t s).ways in omega (arith, a)

pub unrank_group-set-requires : goal.unrank_group-set-requires
unrank_group-set-requires g c =
    let grouped : AreGrouped c.args.material.now c.args.part g.given.0 c.args.grouped.now.groups = record { has_part = c.requires.0; ordered = c.requires.1.0; groups_are = c.requires.1.1.0 } in
    let t = stating_at c.args.index c.material.ensures.named grouped c.requires.1.1.1.0 c.requires.1.1.1.1.0 in
    let s = step_in c.material.ensures.named grouped t.lists c.loop-i-test.true c.count-i-end.ensures c.group-group.ensures in
    let sets = g.given.1 in let i = c.loop-i.i in let group = c.group-group.result in
    let few : group.length ≤ 6 = let a = s.size in let r = squares_room sets i s.count in let f = c.requires.1.1.1.1.1 in omega (arith, a, r, f) in
    let taken : c.as_slice.result.now ≡ concat (take i sets) = c.as_slice.ensures.value ∙ c.loop-i.invariant in
    (after_at c.requires.0 s taken, (few, slice_get_within (ordered_sets c.args.material.now c.args.part (take i sets) group.length) _ (get_or sets i []) (placed_at t s).set))

pub append-requires : goal.append-requires
append-requires g c =
    let grouped : AreGrouped c.args.material.now c.args.part g.given.0 c.args.grouped.now.groups = record { has_part = c.requires.0; ordered = c.requires.1.0; groups_are = c.requires.1.1.0 } in
    let t = stating_at c.args.index c.material.ensures.named grouped c.requires.1.1.1.0 c.requires.1.1.1.1.0 in
    let s = step_in c.material.ensures.named grouped t.lists c.loop-i-test.true c.count-i-end.ensures c.group-group.ensures in
    let more = c.as_slice-in-loop-i.ensures.value ∙ set_stated (placed_at t s) c.unrank_group-set.ensures in
    let a = ap length more in let b = ap length c.loop-i.invariant in let r = squares_room g.given.1 c.loop-i.i s.count in let f = c.requires.1.1.1.1.1 in omega (arith, a, b, r, f)

pub loop-i-preserved : goal.loop-i-preserved
loop-i-preserved g c =
    let grouped : AreGrouped c.args.material.now c.args.part g.given.0 c.args.grouped.now.groups = record { has_part = c.requires.0; ordered = c.requires.1.0; groups_are = c.requires.1.1.0 } in
    let t = stating_at c.args.index c.material.ensures.named grouped c.requires.1.1.1.0 c.requires.1.1.1.1.0 in
    let s = step_in c.material.ensures.named grouped t.lists c.loop-i-test.true c.count-i-end.ensures c.group-group.ensures in
    let sets = g.given.1 in let i = c.loop-i.i in
    let more = c.as_slice-in-loop-i.ensures.value ∙ set_stated (placed_at t s) c.unrank_group-set.ensures in
    c.append.ensures ∙ ap (λ (l : List ℕ). l ++ c.as_slice-in-loop-i.result.now) c.loop-i.invariant ∙ ap (λ (l : List ℕ). concat (take i sets) ++ l) more
    ∙ sym (concat-more (take i sets) (get_or sets i [])) ∙ ap concat (sym (take_more sets i [] s.count))

pub returns : goal.returns
returns g c =
    let grouped : AreGrouped c.args.material.now c.args.part g.given.0 c.args.grouped.now.groups = record { has_part = c.requires.0; ordered = c.requires.1.0; groups_are = c.requires.1.1.0 } in
    let sides = c.args.material.now in let part = c.args.part in let sets = g.given.1 in
    let t = stating_at c.args.index c.material.ensures.named grouped c.requires.1.1.1.0 c.requires.1.1.1.1.0 in
    let many = stated_many sides part g.given.0 sets t.lists in let q = ap length c.requires.1.1.0 in let n = c.count-i-end.ensures in let f = c.loop-i-test.false in
    c.loop-i.invariant ∙ ap concat (take_all c.loop-i.i sets (omega (arith, many, q, n, f)))
