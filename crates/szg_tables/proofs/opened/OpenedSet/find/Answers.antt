use Rattle.std.proofs.Common.{◌∙◌, List, subst, sym}
use Rattle.szg_tables.specs.Hints.{AreHints}
use Rattle.szg_tables.proofs.OpenedSets.{found_at, found_nowhere, kind_at}
use Rattle.szg_tables.proofs.opened.OpenedSet.find.Goals as goal

pub find-requires : goal.find-requires
find-requires g c = subst (λ (tables : List _). AreHints g.T.OpenTable.opened tables c.self.inside.hints) (sym c.deref.ensures.value) c.self.invariant

pub invariant_of-self : goal.invariant_of-self
invariant_of-self g c = subst (λ (tables : List _). AreHints g.T.OpenTable.opened tables c.find.new.hints) c.deref.ensures.value c.find.ensures.hints

pub returns-clause-found : goal.returns-clause-found
returns-clause-found g c = found_at g.T.OpenTable.opened c.args.kind c.args.men.now c.deref.result.now c.args.self.now (c.deref.ensures.value ∙ c.self.view_is) c.find.result c.find.ensures.found

pub returns-clause-kind : goal.returns-clause-kind
returns-clause-kind g c = kind_at g.T.OpenTable.opened c.args.kind c.args.men.now c.deref.result.now c.args.self.now (c.deref.ensures.value ∙ c.self.view_is) c.find.result c.find.ensures.found

pub returns-clause-none : goal.returns-clause-none
returns-clause-none g c = found_nowhere g.T.OpenTable.opened c.args.kind c.args.men.now c.deref.result.now c.args.self.now (c.deref.ensures.value ∙ c.self.view_is) c.find.result c.find.ensures.found
