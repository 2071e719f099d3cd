use Rattle.std.proofs.Common.{ap, ◌∙◌, Bool, List}
use Rattle.std.specs.Prelude.{◌&&◌, ◌||◌, not}
use Rattle.std.specs.List.{list_all}
use Rattle.szg_values.specs.declared.Man.{Man}
use Rattle.szg_verify.specs.Materials.{has_man, without}
use Rattle.szg_verify.proofs.Changes.{capturable, pair, side_changes}
use Rattle.szg_verify.proofs.closed.do_side_changes_pass.Goals as goal

pub returns : goal.returns
returns g c =
    let pass : List Man → Bool = λ changed. g.T.MaterialTest.passes c.args.test.now (pair changed c.args.other.now.items) in
    let side = c.args.side.now.items in
    let captures = list_all (λ (man : Man). not (has_man side man) || pass (without man side)) capturable in
    c.both.ensures
    ∙ ap (λ (b : Bool). b && c.do_promotions_pass-promotions.result) c.do_captures_pass-captures.ensures
    ∙ ap (λ (b : Bool). captures && b) c.do_promotions_pass-promotions.ensures
    ∙ side_changes pass side
