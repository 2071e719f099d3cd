use Rattle.std.proofs.Common.{◌≡◌, ◌+◌, List, ℕ, ◌++◌, ap, arith, string_bytes, ◌∙◌}
use Rattle.szg_answers.specs.Answers.{front_lines}
use Rattle.szg_answers.proofs.Endings.{if_ok_then}
use Rattle.szg_answers.proofs.description.front_description.Goals as goal

pub overflow_add-length : goal.overflow_add-length
overflow_add-length c =
    let inside = c.ending-length.ensures.inside in
    let short = c.ending-length.ensures.front.1.short in
    omega (arith, inside, short)

pub returns : goal.returns
returns c =
    let first : string_bytes c.in_ok-front.front ≡ front_lines c.args.table.now.index.material c.args.table.now.index.kind (c.args.table.now.ending + 16) = cc (c.in_ok-front.ensures, c.index-index.ensures, c.material.ensures, c.kind.ensures, c.ending-length.ensures.ending) in
    if_ok_then c.format.result (λ text is. (string_bytes c.in_ok-rest.rest, is ∙ ap (λ (z : List ℕ). z ++ string_bytes c.in_ok-rest.rest) first)) c.format.ensures.ok
