use Rattle.std.proofs.Common.{◌∙◌, Option, IfSome, sym, subst}
use Rattle.szg_file.specs.FrontTable.{FrontKept, IsFrontOf}
use Rattle.szg_file.specs.Index.{slot_in}
use Rattle.szg_c.specs.Fronts.{IsGot}
use Rattle.szg_c.specs.Places.{with_slot}
use Rattle.szg_c.proofs.fronts.szg_front_get.Goals as goal

pub returns-clause-got : goal.returns-clause-got
returns-clause-got c =
    let Reported : FrontKept → Type 0 = λ f. IsFrontOf f c.args.bytes.now → IfSome (with_slot (slot_in f.index c.args.part c.args.side) c.args.index)
    (λ slot. IsGot f c.args.bytes.now c.args.part c.args.side c.args.index c.value_in-status.result c.value_in-status.new.value c.args.bad.now c.value_in-status.new.bad) in
    subst (λ (o : Option FrontKept). IfSome o Reported) (sym c.in-Some.ensures.taken) (subst Reported (c.value.ensures ∙ c.deref.ensures) c.value_in-status.ensures.got)
