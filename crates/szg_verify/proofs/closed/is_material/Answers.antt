use Rattle.std.proofs.Common.{◌≡◌, ap, ◌∙◌, List}
use Rattle.szg_values.specs.declared.Man.{Man}
use Rattle.szg_values.specs.declared.Color.TheVariants.{White, Black}
use Rattle.szg_verify.specs.Materials.{is_same_material}
use Rattle.szg_verify.specs.Walk.{side_in}
use Rattle.szg_verify.proofs.Changes.{pair, white_side, black_side}
use Rattle.szg_verify.proofs.closed.is_material.Goals as goal

pub returns : goal.returns
returns c =
    let sides = c.args.material.now in
    let first : c.as_slice.result.now ≡ sides.first = c.as_slice.ensures.value ∙ c.side_of-white.ensures ∙ ap (side_in White) c.colored_men-men.ensures.men ∙ white_side sides in
    let second : c.as_slice-2.result.now ≡ sides.second = c.as_slice-2.ensures.value ∙ c.side_of-black.ensures ∙ ap (side_in Black) c.colored_men-men.ensures.men ∙ black_side sides in
    c.is_same_pair.ensures
    ∙ ap (λ (side : List Man). is_same_material (pair c.args.first.now c.args.second.now) (pair side c.as_slice-2.result.now)) first
    ∙ ap (λ (side : List Man). is_same_material (pair c.args.first.now c.args.second.now) (pair sides.first side)) second
