use Rattle.std.proofs.Common.{ap, ◌∙◌}
use Rattle.szg_values.proofs.Letters.{king_first, king_letter_first, king_letter_at}
use Rattle.szg_values.proofs.parsing.has_king_first.Goals as goal

pub returns-then-first-eq75 : goal.returns-then-first-eq75
returns-then-first-eq75 c = λ men e.
    king_letter_at c.args.side.now c.contains.result c.in-len1-up.len_at_least c.if-first-eq75.true c.contains.ensures.value
    ∙ ap king_letter_first e ∙ king_first men
