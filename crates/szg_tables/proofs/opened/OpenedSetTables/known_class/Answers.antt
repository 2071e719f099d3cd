use Rattle.std.proofs.Common.{◌≡◌, List, subst}
use Rattle.std.specs.Prelude.{Some, option_and_then, slice_get}
use Rattle.szg_tables.specs.Opened.{class_in}
use Rattle.szg_tables.proofs.OpenedSets.{class_by}
use Rattle.szg_tables.proofs.Stored.{placed_is}
use Rattle.szg_tables.proofs.opened.OpenedSetTables.known_class.Goals as goal

pub returns-in-Ok-clause-class : goal.returns-in-Ok-clause-class
returns-in-Ok-clause-class g c =
    let men = c.args.position.now.placed_men in
    let mover = c.args.position.now.mover in
    let board = c.in-Some.men in
    let is = placed_is men mover c.placed_men.result board c.placed_men.ensures.placed c.requires c.in-Some.is in
    class_by g.T.OpenTable.opened c.args.self.now men mover board is _ _ c.in-Some-find.ensures.found (subst (λ (tables : List _). option_and_then (λ t. class_in board (g.T.OpenTable.opened t)) (slice_get tables c.in-Some-find.n) ≡ Some c.in-Ok.class) c.find.ensures.same c.in-Ok.ensures.class)
