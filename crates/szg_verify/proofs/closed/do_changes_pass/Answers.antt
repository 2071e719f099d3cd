use Rattle.std.proofs.Common.{◌≡◌, ap, ◌∙◌, Bool, List}
use Rattle.std.specs.Prelude.{◌&&◌}
use Rattle.std.specs.List.{list_all}
use Rattle.szg_values.specs.declared.Man.{Man}
use Rattle.szg_values.specs.declared.Color.TheVariants.{White, Black}
use Rattle.szg_verify.specs.Materials.{changed_from}
use Rattle.szg_verify.specs.Walk.{side_in}
use Rattle.szg_verify.proofs.Changes.{pair, changes_are, white_side, black_side}
use Rattle.szg_verify.proofs.closed.do_changes_pass.Goals as goal

pub returns : goal.returns
returns g c =
    let passes = g.T.MaterialTest.passes c.args.test.now in
    let sides = c.args.material.now in
    let pass : List Man → List Man → Bool = λ side other. list_all (λ (changed : List Man). passes (pair changed other)) (changed_from side) in
    let first : c.side_of-first.result.items ≡ sides.first = c.side_of-first.ensures ∙ ap (side_in White) c.colored_men-men.ensures.men ∙ white_side sides in
    let second : c.side_of-second.result.items ≡ sides.second = c.side_of-second.ensures ∙ ap (side_in Black) c.colored_men-men.ensures.men ∙ black_side sides in
    c.both.ensures
    ∙ ap (λ (b : Bool). b && c.do_side_changes_pass-by_second.result) c.do_side_changes_pass-by_first.ensures
    ∙ ap (λ (b : Bool). pass c.side_of-first.result.items c.side_of-second.result.items && b) c.do_side_changes_pass-by_second.ensures
    ∙ ap (λ (side : List Man). pass side c.side_of-second.result.items && pass c.side_of-second.result.items side) first
    ∙ ap (λ (side : List Man). pass sides.first side && pass side sides.first) second
    ∙ changes_are passes c.is_same_exchanged.ensures sides
