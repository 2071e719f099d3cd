use Rattle.std.proofs.Common.{List, Option, subst, sym}
use Rattle.std.specs.Prelude.{IfErr, IfOk, IfSome, None, Some, ◌≡◌, option_and_then}
use Rattle.szg_tables.specs.Hints.{AreHints}
use Rattle.szg_tables.specs.Opened.{IsReasonIn, number_in}
use Rattle.szg_tables.proofs.OpenedSets.{element_is, put_back, some_below}
use Rattle.szg_tables.proofs.opened.OpenedSet.number_at.Goals as goal

pub invariant_of-self : goal.invariant_of-self
invariant_of-self g c =
    let same = put_back c.self.inside.tables.items c.args.n c.number_in.new.table c.index_mut.result.now c.number_in.ensures.same c.index_mut.ensures.value in
    subst (λ (tables : List _). AreHints g.T.OpenTable.opened tables c.self.inside.hints) (sym same) c.self.invariant

pub returns-clause-number : goal.returns-clause-number
returns-clause-number g c =
    let at = element_is c.self.inside.tables.items c.args.self.now c.args.n c.index_mut.result.now c.self.view_is (some_below c.args.self.now c.args.n _ c.requires) c.index_mut.ensures.value in
    subst (λ (o : Option _). IfOk c.number_in.result (λ k. option_and_then (λ t. number_in c.args.men.now c.args.class (g.T.OpenTable.opened t)) o ≡ Some k)) (sym at) c.number_in.ensures.number

pub returns-clause-none : goal.returns-clause-none
returns-clause-none g c =
    let at = element_is c.self.inside.tables.items c.args.self.now c.args.n c.index_mut.result.now c.self.view_is (some_below c.args.self.now c.args.n _ c.requires) c.index_mut.ensures.value in
    subst (λ (o : Option _). IfErr c.number_in.result (λ reason. option_and_then (λ t. number_in c.args.men.now c.args.class (g.T.OpenTable.opened t)) o ≡ None)) (sym at) c.number_in.ensures.none

pub returns-clause-reason : goal.returns-clause-reason
returns-clause-reason g c =
    let at = element_is c.self.inside.tables.items c.args.self.now c.args.n c.index_mut.result.now c.self.view_is (some_below c.args.self.now c.args.n _ c.requires) c.index_mut.ensures.value in
    subst (λ (o : Option _). IfErr c.number_in.result (λ reason. IfSome o (λ t. IsReasonIn (g.T.OpenTable.explains t) c.args.men.now (g.T.OpenTable.opened t) reason))) (sym at) c.number_in.ensures.reason
