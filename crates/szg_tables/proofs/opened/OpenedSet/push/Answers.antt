use Rattle.std.proofs.Common.{List, subst, sym}
use Rattle.std.specs.Prelude.{is_ok}
use Rattle.szg_tables.specs.Hints.{AreHints}
use Rattle.szg_tables.proofs.FirstTables.{pushed}
use Rattle.szg_tables.proofs.opened.OpenedSet.push.Goals as goal

pub invariant_of-self : goal.invariant_of-self
invariant_of-self g c =
    let set = c.self.inside in
    subst (λ (tables : List _). AreHints g.T.OpenTable.opened tables set.hints) (sym c.push.ensures.items) (pushed g.T.OpenTable.opened set.tables.items c.args.table set.hints (is_ok c.push.result) c.self.invariant)
