use Rattle.std.proofs.Common.{◌∙◌, sym, ap, None}
use Rattle.std.specs.Prelude.{bytes_eq}
use Rattle.szg_build.specs.declared.dump.DumpFault.TheVariants.{Field}
use Rattle.szg_build.specs.Fronts.{lines_after}
use Rattle.szg_build.specs.Grammar.{kind_line}
use Rattle.szg_build.specs.Lines.{words_of}
use Rattle.szg_build.proofs.Readers.LineParses.{parsed_fault}
use Rattle.szg_build.proofs.Readers.SayingLaws.{kind_unparsed, kind_parsed, kind_none}
use Rattle.szg_build.proofs.reading.line_parsing.parse_kind.Goals as goal

pub returns-in_err-word : goal.returns-in_err-word
returns-in_err-word c =
    parsed_fault (lines_after kind_line (words_of c.args.text.now)) c.from_residual.result (λ kind. kind) c.in_err-word.field-0.0 Field c.from_residual.ensures.1 c.in_err-word.ensures.0
    (kind_unparsed c.args.text.now c.in_err-word.ensures.1)

pub returns : goal.returns
returns c =
    let word = c.in_ok-word.word.now in
    kind_parsed c.args.text.now word None c.in_ok-word.ensures.0 c.in_ok-word.ensures.1
    (kind_none word (ap (bytes_eq word) (sym c.as_slice.ensures) ∙ sym c.eq.ensures ∙ c.if-eq.false) (ap (bytes_eq word) (sym c.as_slice-2.ensures) ∙ sym c.eq-2.ensures ∙ c.if-eq-2.false))
