use Rattle.std.proofs.Common.{List}
use Rattle.szg_game.specs.declared.Class.{Class}
use Rattle.szg_game.specs.declared.Class.TheVariants.{Draw}
use Rattle.szg_tables.specs.Fetched.{fetched_classes, fetched_numbers}
use Rattle.szg_tables.specs.declared.fetched.FetchedTable.{FetchedTable}
use Rattle.szg_results.proofs.Noted.{known, no_class, unknown}
use Rattle.szg_results.proofs.wanted.NotingTables.class.Goals as goal

pub returns-in-Ok-clause-class : goal.returns-in-Ok-clause-class
returns-in-Ok-clause-class c =
    known {A = Class} (λ (ts : List FetchedTable). fetched_classes ts c.args.position.now.placed_men c.args.position.now.mover) Draw c.self.inside.tables c.args.self.now c.self.view_is
    c.in-Ok.class c.in-Ok.ensures.class

pub returns-in-Ok-note-clause-class : goal.returns-in-Ok-note-clause-class
returns-in-Ok-note-clause-class c =
    let men = c.args.position.now.placed_men in let mover = c.args.position.now.mover in
    unknown {A = Class} (λ (ts : List FetchedTable). fetched_classes ts men mover) Draw c.self.inside.tables c.args.self.now c.self.view_is
    (no_class (fetched_classes c.self.inside.tables) (fetched_numbers c.self.inside.tables) c.in-Err.missing men mover c.in-Wdl.is c.in-Err.ensures.fault)
