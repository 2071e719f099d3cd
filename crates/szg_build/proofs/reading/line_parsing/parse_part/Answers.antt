use Rattle.std.proofs.Common.{Some, None, refl}
use Rattle.szg_build.specs.declared.dump.DumpFault.TheVariants.{Field, Hex}
use Rattle.szg_build.specs.Fronts.{lines_after}
use Rattle.szg_build.specs.Grammar.{part_line}
use Rattle.szg_build.specs.Lines.{words_of}
use Rattle.szg_build.proofs.Readers.LineParses.{parsed_fault}
use Rattle.szg_build.proofs.Readers.SayingLaws.{part_parsed, part_unparsed}
use Rattle.szg_build.proofs.reading.line_parsing.parse_part.Goals as goal

pub returns-in_err-order_word : goal.returns-in_err-order_word
returns-in_err-order_word c =
    parsed_fault (lines_after (part_line c.args.number) (words_of c.args.text.now)) c.from_residual.result (λ part. record { order = part.0.items; men = part.1.items }) c.in_err-order_word.field-0.0 Field c.from_residual.ensures.1 c.in_err-order_word.ensures.0
    (part_unparsed c.args.number c.args.text.now c.in_err-order_word.ensures.1)

pub returns-in_err-order : goal.returns-in_err-order
returns-in_err-order c =
    parsed_fault (lines_after (part_line c.args.number) (words_of c.args.text.now)) c.from_residual-in_err-order.result (λ part. record { order = part.0.items; men = part.1.items }) c.in_err-order.field-0.0 Hex c.from_residual-in_err-order.ensures.1 c.in_err-order.ensures.0
    (part_parsed c.args.number c.args.text.now c.in_ok-order_word.order_word.now c.in_ok-order_word.men_word.now None _ c.in_ok-order_word.ensures.0 c.in_ok-order_word.ensures.1 c.in_ok-order_word.ensures.2 c.in_err-order.ensures.1 refl)

pub returns-in_err-men : goal.returns-in_err-men
returns-in_err-men c =
    parsed_fault (lines_after (part_line c.args.number) (words_of c.args.text.now)) c.from_residual-in_err-men.result (λ part. record { order = part.0.items; men = part.1.items }) c.in_err-men.field-0.0 Hex c.from_residual-in_err-men.ensures.1 c.in_err-men.ensures.0
    (part_parsed c.args.number c.args.text.now c.in_ok-order_word.order_word.now c.in_ok-order_word.men_word.now (Some c.in_ok-order.order.items) None c.in_ok-order_word.ensures.0 c.in_ok-order_word.ensures.1 c.in_ok-order_word.ensures.2 c.in_ok-order.ensures c.in_err-men.ensures.1)

pub returns : goal.returns
returns c =
    part_parsed c.args.number c.args.text.now c.in_ok-order_word.order_word.now c.in_ok-order_word.men_word.now (Some c.in_ok-order.order.items) (Some c.in_ok-men.men.items)
    c.in_ok-order_word.ensures.0 c.in_ok-order_word.ensures.1 c.in_ok-order_word.ensures.2 c.in_ok-order.ensures c.in_ok-men.ensures
