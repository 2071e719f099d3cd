use Rattle.std.proofs.Common.{◌≡◌, arith}
use Rattle.std.proofs.lemmas.Grind.{common_steps}
use Rattle.szg_values.specs.declared.Kind.TheVariants.{Dtz}
use Rattle.szg_answers.proofs.placements.outcome_answer.Goals as goal

pub returns-in-Err-Place-clause-refused : goal.returns-in-Err-Place-clause-refused
returns-in-Err-Place-clause-refused c = λ refusal is.
    let kind : c.args.table.now.contents.kind ≡ Dtz = cc in
    rw (kind) (grind (arith, common_steps))

pub returns-in-Err-Map-clause-refused : goal.returns-in-Err-Map-clause-refused
returns-in-Err-Map-clause-refused c = λ refusal is.
    let kind : c.args.table.now.contents.kind ≡ Dtz = cc in
    rw (kind) (grind (arith, common_steps))
