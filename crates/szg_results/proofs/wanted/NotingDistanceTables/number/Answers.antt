use Rattle.std.proofs.Common.{ℕ, List, Option, Some}
use Rattle.szg_tables.specs.Fetched.{fetched_numbers}
use Rattle.szg_tables.specs.declared.fetched.FetchedTable.{FetchedTable}
use Rattle.szg_results.proofs.Noted.{known, unknown}
use Rattle.szg_results.proofs.wanted.NotingDistanceTables.number.Goals as goal

pub returns-in-Ok-clause-number : goal.returns-in-Ok-clause-number
returns-in-Ok-clause-number c =
    known {A = Option ℕ} (λ (ts : List FetchedTable). fetched_numbers ts c.args.position.now.placed_men c.args.position.now.mover c.args.class) (Some 0) c.self.inside.tables c.args.self.now c.self.view_is
    c.in-Ok.number c.in-Ok.ensures.number

pub returns-in-Ok-note-clause-number : goal.returns-in-Ok-note-clause-number
returns-in-Ok-note-clause-number c =
    unknown {A = Option ℕ} (λ (ts : List FetchedTable). fetched_numbers ts c.args.position.now.placed_men c.args.position.now.mover c.args.class) (Some 0) c.self.inside.tables c.args.self.now c.self.view_is
    c.in-Err.ensures.none
