use Rattle.std.proofs.Common.{◌≡◌, ◌+◌, ◌-◌, min, [], refl, ap, ◌∙◌, rules}
use Rattle.std.specs.List.{slice_index}
use Rattle.szg_block.proofs.Parts.{count-needed}
use Rattle.szg_block.proofs.needed_in.Goals as goal

pub returns-clause-needed : goal.returns-clause-needed
returns-clause-needed c =
    let before = rw c.in-Pairs.is at c.requires.before in
    let length : c.unwrap_or.result ≡ slice_index c.in-Pairs.lengths.items c.args.n = search rules in
    let e : c.needed_from.result ≡ min (slice_index c.in-Pairs.lengths.items c.args.n + 1) (c.args.size - c.args.before) = c.needed_from.ensures ∙ ap (λ k. min (k + 1) (c.args.size - c.args.before)) length in
    rw c.in-Pairs.is (count-needed c.in-Pairs.code c.in-Pairs.dict c.in-Pairs.lengths.items c.args.size c.args.n c.args.before c.needed_from.result [] [] e before refl)
