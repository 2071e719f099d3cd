use Rattle.std.proofs.Common.{Some, sym, ap, ◌∙◌}
use Rattle.szg_values.specs.Material.{Sides}
use Rattle.szg_verified.proofs.Causes.{leads_here, leads_not, leads_nowhere}
use Rattle.szg_verified.proofs.verifying.first_unverified.Goals as goal

pub returns-then-leads_to : goal.returns-then-leads_to
returns-then-leads_to c =
    ap (λ (m : Sides). Some m) c.copy.ensures
    ∙ leads_here c.args.material.now c.args.unverified.now c.unverified.other-index c.other-item.result c.unverified-test.true c.other-item.is (sym c.leads_to.ensures ∙ c.if-leads_to.true) c.unverified.invariant

pub unverified-preserved : goal.unverified-preserved
unverified-preserved c =
    leads_not c.args.material.now c.args.unverified.now c.unverified.other-index c.other-item.result c.unverified-test.true c.other-item.is (sym c.leads_to.ensures ∙ c.if-leads_to.false) c.unverified.invariant

pub returns : goal.returns
returns c = leads_nowhere c.args.material.now c.args.unverified.now c.unverified.other-index c.unverified-test.false c.unverified.invariant
