use Rattle.std.proofs.Common.{sym, ap, ◌∙◌, arith}
use Rattle.szg_values.proofs.Letters.{letters_fall, in_order, fall_stops, fall_ends}
use Rattle.szg_values.proofs.parsing.is_in_order.Goals as goal

pub returns-then-code-last : goal.returns-then-code-last
returns-then-code-last c = λ men e.
    sym (fall_stops c.args.side.now c.loop-letter.letter-index c.loop-letter.last (omega arith) (omega arith))
    ∙ sym c.loop-letter.invariant ∙ ap (letters_fall 6) e ∙ in_order men

pub returns : goal.returns
returns c = λ men e.
    sym (fall_ends c.args.side.now c.loop-letter.letter-index c.loop-letter.last (omega arith))
    ∙ sym c.loop-letter.invariant ∙ ap (letters_fall 6) e ∙ in_order men
