use Rattle.std.proofs.Common.{◌≡◌, ℕ, ◌+◌, ◌≤◌, List, length, map, sym, ap, ◌∙◌, arith}
use Rattle.std.specs.Prelude.{sum}
use Rattle.szg_values.specs.Material.{Sides, other_pawns, man_codes, has_pawns}
use Rattle.szg_count.specs.Groups.{lead_length, groups_of}
use Rattle.szg_count.specs.Steps.{lengths_of}
use Rattle.szg_count.proofs.Pawns.{peopled, lead_length-fits, rearranged-length, no_pawns}
use Rattle.szg_count.proofs.Cutting.{lengths_given, length-prefix, length-lengths_of-le, sum-lengths_of, cut_given}
use Rattle.szg_count.proofs.cut.group_lengths.Goals as goal

cut_lengths : (sides : Sides) (men : List ℕ) → lead_length sides + other_pawns sides ≤ length men →
    map (λ group. length group) (groups_of sides men) ≡ lengths_of (lead_length sides) (other_pawns sides) men
unfolding groups_of
cut_lengths sides men h = lengths_given (has_pawns sides) (lead_length sides) (other_pawns sides) men (λ e. let n = no_pawns sides e in omega (arith, n)) h

pub overflow_add-lead : goal.overflow_add-lead
overflow_add-lead c =
    let p = peopled c.args.material.now c.requires.material in let few = p.few in
    let fits = lead_length-fits c.args.material.now c.requires.material in let at_most = fits.1 in omega arith

pub split_at-requires : goal.split_at-requires
split_at-requires c =
    let fits = lead_length-fits c.args.material.now c.requires.material in let at_most = fits.1 in
    let same = rearranged-length c.args.men.now (man_codes c.args.material.now) c.requires.pieces in omega arith

pub push_runs-requires : goal.push_runs-requires
push_runs-requires c =
    let p = peopled c.args.material.now c.requires.material in let few = p.few in
    let fits = lead_length-fits c.args.material.now c.requires.material in let some = fits.0 in
    let same = rearranged-length c.args.men.now (man_codes c.args.material.now) c.requires.pieces in
    let front = ap length c.leading_lengths-lengths.ensures in
    let most = length-prefix c.lead_length-lead.result c.other_pawns-others.result (omega arith) in
    omega arith

pub returns-clause-lengths : goal.returns-clause-lengths
returns-clause-lengths c =
    let fits = lead_length-fits c.args.material.now c.requires.material in let at_most = fits.1 in
    let same = rearranged-length c.args.men.now (man_codes c.args.material.now) c.requires.pieces in
    cut_given c.lead_length-lead.result c.other_pawns-others.result (lead_length c.args.material.now) (other_pawns c.args.material.now) c.from.result
    c.args.men.now c.leading_lengths-lengths.result.items c.split_at.result.1.now c.push_runs.new.lengths.items
    c.lead_length-lead.ensures c.other_pawns-others.ensures c.from.ensures c.leading_lengths-lengths.ensures c.split_at.ensures.back c.push_runs.ensures
    ∙ sym (cut_lengths c.args.material.now c.args.men.now (omega arith))

pub returns-clause-few : goal.returns-clause-few
returns-clause-few c =
    let p = peopled c.args.material.now c.requires.material in let few = p.few in
    let fits = lead_length-fits c.args.material.now c.requires.material in let at_most = fits.1 in
    let same = rearranged-length c.args.men.now (man_codes c.args.material.now) c.requires.pieces in
    let items = cut_given c.lead_length-lead.result c.other_pawns-others.result (lead_length c.args.material.now) (other_pawns c.args.material.now) c.from.result
    c.args.men.now c.leading_lengths-lengths.result.items c.split_at.result.1.now c.push_runs.new.lengths.items
    c.lead_length-lead.ensures c.other_pawns-others.ensures c.from.ensures c.leading_lengths-lengths.ensures c.split_at.ensures.back c.push_runs.ensures in
    let all = ap sum items in
    let total = sum-lengths_of (lead_length c.args.material.now) (other_pawns c.args.material.now) c.args.men.now (omega arith) in
    omega arith

pub returns-clause-capacity : goal.returns-clause-capacity
returns-clause-capacity c =
    let p = peopled c.args.material.now c.requires.material in let few = p.few in
    let fits = lead_length-fits c.args.material.now c.requires.material in let at_most = fits.1 in
    let same = rearranged-length c.args.men.now (man_codes c.args.material.now) c.requires.pieces in
    let items = cut_given c.lead_length-lead.result c.other_pawns-others.result (lead_length c.args.material.now) (other_pawns c.args.material.now) c.from.result
    c.args.men.now c.leading_lengths-lengths.result.items c.split_at.result.1.now c.push_runs.new.lengths.items
    c.lead_length-lead.ensures c.other_pawns-others.ensures c.from.ensures c.leading_lengths-lengths.ensures c.split_at.ensures.back c.push_runs.ensures in
    let all = ap length items in
    let most = length-lengths_of-le (lead_length c.args.material.now) (other_pawns c.args.material.now) c.args.men.now fits.0 (omega arith) in
    omega arith
