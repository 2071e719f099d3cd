use Rattle.std.proofs.Common.{◌≡◌, ◌∙◌, ℕ, List, Option, IfSome, sym, subst}
use Rattle.szg_file.specs.FrontTable.{FrontKept, IsFrontOf}
use Rattle.szg_file.specs.Index.{slot_in}
use Rattle.szg_c.specs.FrontBlocks.{IsBlockOf, IsLengthReported, IsSpelledIn}
use Rattle.szg_c.specs.Fronts.{IsGot}
use Rattle.szg_c.specs.Places.{with_slot}
use Rattle.szg_c.proofs.front_blocks.szg_front_value.Goals as goal

pub returns-clause-length : goal.returns-clause-length
returns-clause-length c =
    let Reported : FrontKept → Type 0 = λ f. (content : List ℕ) → IsFrontOf f content → IfSome (with_slot (slot_in f.index c.args.part c.args.side) c.args.index)
    (λ slot. IsLengthReported f content c.args.part c.args.side c.args.index c.args.block.now c.value_of-status.result) in
    subst (λ (o : Option FrontKept). IfSome o Reported) (sym c.in-Some.ensures.taken) (subst Reported (c.value.ensures ∙ c.deref.ensures) c.value_of-status.ensures.length)

pub returns-clause-got : goal.returns-clause-got
returns-clause-got c =
    let Reported : FrontKept → Type 0 = λ f. (content : List ℕ) → IsFrontOf f content → IfSome (with_slot (slot_in f.index c.args.part c.args.side) c.args.index)
    (λ slot. IsBlockOf f content c.args.part c.args.side c.args.index c.args.block.now →
    IsGot f content c.args.part c.args.side c.args.index c.value_of-status.result c.value_of-status.new.value c.args.bad.now c.value_of-status.new.bad) in
    subst (λ (o : Option FrontKept). IfSome o Reported) (sym c.in-Some.ensures.taken) (subst Reported (c.value.ensures ∙ c.deref.ensures) c.value_of-status.ensures.got)

pub returns-clause-spelled : goal.returns-clause-spelled
returns-clause-spelled c =
    let Reported : FrontKept → Type 0 = λ f. (content : List ℕ) → IsFrontOf f content → IfSome (with_slot (slot_in f.index c.args.part c.args.side) c.args.index)
    (λ slot. c.value_of-status.result ≡ 0 → IsSpelledIn f content c.args.part c.args.side c.args.index c.args.block.now c.value_of-status.new.value) in
    subst (λ (o : Option FrontKept). IfSome o Reported) (sym c.in-Some.ensures.taken) (subst Reported (c.value.ensures ∙ c.deref.ensures) c.value_of-status.ensures.spelled)
