use Rattle.std.proofs.Common.{◌≡◌, ℕ, get_or, true, sym, ap, ◌∙◌, rules, tests}
use Rattle.std.specs.Prelude.{◌==◌}
use Rattle.std.specs.List.{list_all}
use Rattle.std.proofs.lemmas.Iterator.{YieldsList-from_slice}
use Rattle.std.proofs.lemmas.Iterator.Search.{all_from_yields_List}
use Rattle.szg_values.specs.declared.Kind.{Kind}
use Rattle.szg_build.specs.Rule.{constant_for}
use Rattle.szg_build.proofs.Builders.SubLaws.{wdl_constant, dtz_constant}
use Rattle.szg_build.proofs.subtables.constant_byte.Goals as goal
use Rattle.szg_build.proofs.subtables.constant_byte.Goals.{in-Wdl, in-Dtz}

pub returns-then-all-clause-rule : goal.returns-then-all-clause-rule
returns-then-all-clause-rule c = λ _.
    let values = c.args.values.now in
    let one : ℕ = c.match-kind.constant in
    let all : list_all (λ value. value == one) values ≡ true =
    sym (all_from_yields_List (λ value. value == one) _ _ c.all.result c.all.ensures.ran (YieldsList-from_slice values cc) (λ x b q k. search (rules, tests))) ∙ c.if-all.true in
    elim c.match-kind.branch [
      | in-Wdl w ↦
          let first : one ≡ get_or values 0 0 = search rules in
          wdl_constant values one first all ∙ ap (λ (k : Kind). constant_for k values) (sym w.in-Wdl.is)
      | in-Dtz w ↦ dtz_constant values one w.constant-is all ∙ ap (λ (k : Kind). constant_for k values) (sym w.in-Dtz.is)
    ]
