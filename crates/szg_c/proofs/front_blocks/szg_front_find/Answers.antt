use Rattle.std.proofs.Common.{◌∙◌, ℕ, List, Option, IfSome, sym, subst}
use Rattle.szg_file.specs.FrontTable.{FrontKept, IsFrontOf}
use Rattle.szg_file.specs.Index.{slot_in}
use Rattle.szg_c.specs.FrontBlocks.{IsFoundRange}
use Rattle.szg_c.specs.Places.{with_slot}
use Rattle.szg_c.proofs.front_blocks.szg_front_find.Goals as goal

pub returns-clause-found : goal.returns-clause-found
returns-clause-found c =
    let Reported : FrontKept → Type 0 = λ f. (content : List ℕ) → IsFrontOf f content → IfSome (with_slot (slot_in f.index c.args.part c.args.side) c.args.index)
    (λ slot. IsFoundRange f content c.args.part c.args.side c.args.index c.find_in-status.new.range) in
    subst (λ (o : Option FrontKept). IfSome o Reported) (sym c.in-Some.ensures.taken) (subst Reported (c.value.ensures ∙ c.deref.ensures) c.find_in-status.ensures.found)
