use Rattle.std.proofs.Common.{◌∙◌, sym, ap, None}
use Rattle.std.specs.Prelude.{bytes_eq}
use Rattle.szg_build.specs.declared.dump.DumpFault.TheVariants.{Field}
use Rattle.szg_build.specs.Fronts.{lines_after}
use Rattle.szg_build.specs.Grammar.{version_line}
use Rattle.szg_build.specs.Lines.{words_of}
use Rattle.szg_build.specs.Shown.{form_of}
use Rattle.szg_build.proofs.Readers.LineParses.{parsed_fault}
use Rattle.szg_build.proofs.Readers.SayingLaws.{version_unparsed, version_parsed, form_none}
use Rattle.szg_build.proofs.reading.line_parsing.parse_form.Goals as goal

pub returns-in_err-word : goal.returns-in_err-word
returns-in_err-word c =
    parsed_fault (lines_after version_line (words_of c.args.text.now)) c.from_residual.result form_of c.in_err-word.field-0.0 Field c.from_residual.ensures.1 c.in_err-word.ensures.0
    (version_unparsed c.args.text.now c.in_err-word.ensures.1)

pub returns : goal.returns
returns c =
    let word = c.in_ok-word.word.now in
    version_parsed c.args.text.now word None c.in_ok-word.ensures.0 c.in_ok-word.ensures.1
    (form_none word (ap (bytes_eq word) (sym c.as_slice.ensures) ∙ sym c.eq.ensures ∙ c.if-eq.false) (ap (bytes_eq word) (sym c.as_slice-2.ensures) ∙ sym c.eq-2.ensures ∙ c.if-eq-2.false))
