use Rattle.std.proofs.Common.{rules, inr}
use Rattle.szg_answers.proofs.commands.read_requested.Goals as goal

-- the words were a whole request before anything was read
pub returns-in-Err-Refused-clause-refused : goal.returns-in-Err-Refused-clause-refused
returns-in-Err-Refused-clause-refused g c = λ refusal is.
    let took = c.in-Err-Refused.ensures.taken in
    inr (record {
      placed = search rules;
      material = c.in-Ok.material;
      named = search rules;
      place = c.in-Err-Refused.place;
      reason = c.in-Err-Refused.reason;
      stated = search rules;
      bytes = took.0;
      taken = took.1;
      refused = rw (c.in-Err-Refused.field-0-is) at took.2;
    })
