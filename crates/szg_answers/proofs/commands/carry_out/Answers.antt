use Rattle.std.proofs.Common.{inr}
use Rattle.szg_answers.proofs.commands.carry_out.Goals as goal

pub returns-in_ok-table-in-OnTable-clause-refused : goal.returns-in_ok-table-in-OnTable-clause-refused
returns-in_ok-table-in-OnTable-clause-refused g c = λ refusal is.
    let why = c.answer_request.ensures.refused refusal is in
    (why.0, rw (c.in-OnTable.is) (inr (record { placed = c.in_ok-table-in-OnTable.ensures.placed; table = _; queried = c.in_ok-table-in-OnTable.ensures.table; taken = c.in_ok-table-in-OnTable.ensures.taken; refused = why.1 })))

pub returns-in-Build-clause-stated : goal.returns-in-Build-clause-stated
returns-in-Build-clause-stated g c = rw (c.in-Build.is) (rw (c.choice_of.ensures) at c.build_and_write.ensures.stated)

pub returns-in-Build-clause-refused : goal.returns-in-Build-clause-refused
returns-in-Build-clause-refused g c = λ refusal is. rw (c.in-Build.is) (rw (c.choice_of.ensures) at (c.build_and_write.ensures.refused refusal is))
