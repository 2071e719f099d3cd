use Rattle.std.proofs.Common.{◌≡◌, ◌+◌, List, [], ◌∷◌, map, take, get_or, sym, ap, subst, ◌∙◌, arith, rules}
use Rattle.std.proofs.lemmas.List.{map-append, take_all}
use Rattle.szg_file.specs.Contents.{Subtable}
use Rattle.szg_file.specs.Held.{subtable_of}
use Rattle.szg_build.specs.Shown.{plan_seen}
use Rattle.szg_build.specs.Tabling.{AreBuilt, IsBuildable}
use Rattle.szg_build.proofs.Builders.SubLaws.{choice_in_bounds}
use Rattle.szg_build.proofs.Builders.TableLaws.{built_next, flag_at, lent_at}
use Rattle.szg_build.proofs.table.build_subs.Goals as goal

pub build_sub-requires-clause-flags : goal.build_sub-requires-clause-flags
build_sub-requires-clause-flags g c =
    let flags : c.unwrap_or-flags.result ≡ get_or c.args.plan.now.flags.items c.lists.n 0 = search rules in
    omega (arith, flags, flag_at c.args.plan.now.flags.items c.lists.n c.requires.is_valid.range.flags)

pub build_sub-requires-clause-few : goal.build_sub-requires-clause-few
build_sub-requires-clause-few g c =
    (lent_at (IsBuildable c.args.plan.now.kind) (λ list. list.now) c.args.lists.now c.lists.n _ c.lists-test.true c.requires.is_valid.each).few

pub build_sub-requires-clause-small : goal.build_sub-requires-clause-small
build_sub-requires-clause-small g c =
    (lent_at (IsBuildable c.args.plan.now.kind) (λ list. list.now) c.args.lists.now c.lists.n _ c.lists-test.true c.requires.is_valid.each).small

pub build_sub-requires-clause-different : goal.build_sub-requires-clause-different
build_sub-requires-clause-different g c =
    (lent_at (IsBuildable c.args.plan.now.kind) (λ list. list.now) c.args.lists.now c.lists.n _ c.lists-test.true c.requires.is_valid.each).different

pub build_sub-requires-clause-choice : goal.build_sub-requires-clause-choice
build_sub-requires-clause-choice g c = choice_in_bounds (plan_seen c.args.plan.now) c.args.choice c.requires.is_valid.range c.requires.choice

pub lists-preserved : goal.lists-preserved
lists-preserved g c =
    let plan = plan_seen c.args.plan.now in
    let flags : c.unwrap_or-flags.result ≡ get_or c.args.plan.now.flags.items c.lists.n 0 = search rules in
    subst (λ (z : List Subtable). AreBuilt c.args.choice plan c.args.plan.now.flags.items (map (λ list. list.now) (take (c.lists.n + 1) c.args.lists.now)) z)
    (sym (ap (map subtable_of) c.in_ok-push.ensures.items ∙ map-append subtable_of c.lists.subs.items (c.in_ok-sub.sub ∷ [])))
    (built_next (λ list. list.now) c.args.choice plan c.args.plan.now.flags.items c.args.lists.now c.lists.n _ (map subtable_of c.lists.subs.items) (subtable_of c.in_ok-sub.sub) c.unwrap_or-flags.result
    c.lists-test.true c.lists.invariant flags c.in_ok-sub.ensures)

pub returns : goal.returns
returns g c = record {
  is_valid = c.requires.is_valid;
  built = subst (λ z. AreBuilt c.args.choice (plan_seen c.args.plan.now) c.args.plan.now.flags.items (map (λ list. list.now) z) (map subtable_of c.lists.subs.items))
      (take_all c.lists.n c.args.lists.now (omega arith)) c.lists.invariant;
}
