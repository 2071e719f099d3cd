use Rattle.std.proofs.Common.{ℕ, sym, subst, rules, ◌∙◌}
use Rattle.std.specs.Prelude.{IfErr, Result}
use Rattle.szg_verified.specs.Verified.{IsCause}
use Rattle.szg_verified.specs.declared.verifying.Cause.{Cause}
use Rattle.szg_verified.proofs.Causes.{leads_in, logged_in}
use Rattle.szg_verified.proofs.verifying.verify_material.Goals as goal

pub returns-in-Err-clause-found : goal.returns-in-Err-clause-found
returns-in-Err-clause-found g c =
    let tables = c.args.tables.now in let unverified = c.args.unverified.now in let sides = c.args.material.now in
    subst (λ (to : ℕ). IsCause tables unverified sides 0 to c.in-Err.cause) c.number_count-count.ensures.count
    (subst (λ (walked : Result ℕ Cause). IfErr walked (λ cause. IsCause tables unverified sides 0 c.number_count-count.result cause)) c.in-Err.is (c.in_ok-walked.ensures.cause unverified))

pub returns-in-Some-clause-found : goal.returns-in-Some-clause-found
returns-in-Some-clause-found g c = leads_in c.args.material.now c.args.unverified.now c.in-Some.other (sym c.in-Some.is ∙ c.first_unverified.ensures)

pub returns-in-Some-logged_positions-clause-found : goal.returns-in-Some-logged_positions-clause-found
returns-in-Some-logged_positions-clause-found g c =
    logged_in c.args.log c.in-Some-log.text c.args.tables.now c.args.material.now c.as_str.result.now c.args.digest.now c.in-Some-log.is (search rules) c.requires c.in-Some-logged_positions.ensures
