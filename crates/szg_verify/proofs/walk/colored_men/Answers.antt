use Rattle.std.proofs.Common.{ℕ, List, ap, ◌∙◌, arith}
use Rattle.std.specs.Prelude.{map}
use Rattle.std.proofs.lemmas.List.{take_all}
use Rattle.szg_verify.specs.Walk.{colored_man}
use Rattle.szg_verify.proofs.Whole.{men_by_codes}
use Rattle.szg_verify.proofs.walk.colored_men.Goals as goal

pub returns-clause-men : goal.returns-clause-men
returns-clause-men c =
    c.loop-code.invariant
    ∙ ap (λ (codes : List ℕ). map colored_man codes) (take_all c.loop-code.code-index c.as_slice-code-items.result.now (omega arith) ∙ c.as_slice-code-items.ensures.value ∙ c.men-codes.ensures.codes)
    ∙ men_by_codes c.args.material.now
