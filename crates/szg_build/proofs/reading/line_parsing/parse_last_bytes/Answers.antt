use Rattle.std.proofs.Common.{◌∙◌, List, ℕ, sym, ap, Some, None, arith}
use Rattle.szg_build.specs.declared.dump.DumpFault.TheVariants.{Field, Hex}
use Rattle.szg_build.specs.Fronts.{lines_after}
use Rattle.szg_build.specs.Grammar.{end_line}
use Rattle.szg_build.specs.Lines.{means, words_of}
use Rattle.szg_build.proofs.Readers.LineParses.{parsed_fault}
use Rattle.szg_build.proofs.Readers.SayingLaws.{last_bytes_unparsed, last_bytes_parsed, sixteen_there, sixteen_none}
use Rattle.szg_build.proofs.reading.line_parsing.parse_last_bytes.Goals as goal

pub returns-in_err-word : goal.returns-in_err-word
returns-in_err-word c =
    parsed_fault (lines_after end_line (words_of c.args.text.now)) c.from_residual.result (λ bytes. bytes) c.in_err-word.field-0.0 Field c.from_residual.ensures.1 c.in_err-word.ensures.0
    (last_bytes_unparsed c.args.text.now c.in_err-word.ensures.1)

pub returns-in_err-bytes : goal.returns-in_err-bytes
returns-in_err-bytes c =
    parsed_fault (lines_after end_line (words_of c.args.text.now)) c.from_residual-in_err-bytes.result (λ bytes. bytes) c.in_err-bytes.field-0.0 Hex c.from_residual-in_err-bytes.ensures.1 c.in_err-bytes.ensures.0
    (last_bytes_parsed c.args.text.now c.in_ok-word.word.now None c.in_ok-word.ensures.0 c.in_ok-word.ensures.1 c.in_err-bytes.ensures.1)

pub returns-then-len-ne16 : goal.returns-then-len-ne16
returns-then-len-ne16 c =
    last_bytes_parsed c.args.text.now c.in_ok-word.word.now (Some c.in_ok-bytes.bytes.items) c.in_ok-word.ensures.0 c.in_ok-word.ensures.1 c.in_ok-bytes.ensures
    ∙ sixteen_none c.in_ok-bytes.bytes.items (λ e. c.if-len-ne16.true (c.len.ensures.value ∙ e))

pub returns : goal.returns
returns c =
    let same = c.copy_from_slice.ensures.after ∙ c.deref.ensures.0 in
    last_bytes_parsed c.args.text.now c.in_ok-word.word.now (Some c.in_ok-bytes.bytes.items) c.in_ok-word.ensures.0 c.in_ok-word.ensures.1 c.in_ok-bytes.ensures
    ∙ sixteen_there c.in_ok-bytes.bytes.items (omega (arith, c.if-len-ne16.false, c.len.ensures.value)) ∙ ap (λ (z : List ℕ). means z) (sym same)
