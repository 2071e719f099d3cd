use Rattle.std.proofs.Common.{List, ap, subst, ◌∙◌}
use Rattle.szg_values.specs.declared.Color.{Color}
use Rattle.szg_values.specs.declared.Man.{Man}
use Rattle.szg_chess.specs.Laws.{kinds_of}
use Rattle.szg_verify.specs.Entries.{StoredTables, tables_of}
use Rattle.szg_verify.specs.Memory.{AreRight}
use Rattle.szg_verify.proofs.Kept.{carried}
use Rattle.szg_verify.proofs.walk.check_number.Goals as goal

pub returns-in-Ok-check_placed-clause-right : goal.returns-in-Ok-check_placed-clause-right
returns-in-Ok-check_placed-clause-right g c =
    subst (λ (kinds : List (Man × Color)). AreRight kinds (tables_of (g.T.Tables.stored c.args.classes.now) (g.D.DtzTables.distances c.args.distances.now)) c.check_placed-2.new.cells)
    (ap kinds_of c.as_slice-2.ensures.value ∙ c.place-placed.ensures.kinds)
    (carried (λ (t : StoredTables). AreRight (kinds_of c.as_slice-2.result.now) t c.check_placed-2.new.cells) (g.T.Tables.stored c.check_placed.new.classes) (g.T.Tables.stored c.args.classes.now)
    (g.D.DtzTables.distances c.check_placed.new.distances) (g.D.DtzTables.distances c.args.distances.now) c.check_placed.ensures.same_classes c.check_placed.ensures.same_distances c.check_placed-2.ensures.right)
