use Rattle.std.proofs.Common.{◌≡◌, List, ℕ, ◌++◌, ap, length, string_bytes, ◌∙◌}
use Rattle.szg_file.specs.Held.{file_bytes}
use Rattle.szg_answers.specs.Answers.{front_lines}
use Rattle.szg_answers.proofs.Endings.{if_ok_then}
use Rattle.szg_answers.proofs.description.table_description.Goals as goal

pub returns : goal.returns
returns c =
    let first : string_bytes c.in_ok-front.front ≡ front_lines c.args.table.now.contents.material c.args.table.now.contents.kind (length (file_bytes c.args.table.now)) = cc (c.in_ok-front.ensures, c.material.ensures, c.kind.ensures, c.file_len.ensures) in
    if_ok_then c.format.result (λ text is. (string_bytes c.in_ok-rest.rest, is ∙ ap (λ (z : List ℕ). z ++ string_bytes c.in_ok-rest.rest) first)) c.format.ensures.ok
