use Rattle.std.proofs.Common.{◌∙◌, sym, ap, Some, None}
use Rattle.szg_values.specs.Material.{parsed}
use Rattle.szg_build.specs.declared.dump.DumpFault.TheVariants.{Field}
use Rattle.szg_build.specs.Fronts.{lines_after}
use Rattle.szg_build.specs.Grammar.{name_line, material_in}
use Rattle.szg_build.specs.Lines.{words_of}
use Rattle.szg_build.proofs.Readers.LineParses.{parsed_fault}
use Rattle.szg_build.proofs.Readers.SayingLaws.{name_unparsed, name_parsed, name_no_text}
use Rattle.szg_build.proofs.reading.line_parsing.parse_material.Goals as goal

pub returns-in_err-word : goal.returns-in_err-word
returns-in_err-word c =
    parsed_fault (lines_after name_line (words_of c.args.text.now)) c.from_residual.result (λ material. material) c.in_err-word.field-0.0 Field c.from_residual.ensures.1 c.in_err-word.ensures.0
    (name_unparsed c.args.text.now c.in_err-word.ensures.1)

pub returns-in_default : goal.returns-in_default
returns-in_default c =
    name_parsed c.args.text.now c.in_ok-word.word.now None c.in_ok-word.ensures.0 c.in_ok-word.ensures.1 (name_no_text c.in_ok-word.word.now (rw c.in_default.is at c.from_utf8.ensures.cases).0)

pub returns-in-Ok-parse : goal.returns-in-Ok-parse
returns-in-Ok-parse c =
    name_parsed c.args.text.now c.in_ok-word.word.now (Some c.in-Ok-parse.material) c.in_ok-word.ensures.0 c.in_ok-word.ensures.1
    (ap (λ z. material_in (parsed z)) (sym c.in-Ok.ensures.cases.0) ∙ ap material_in (sym c.parse.ensures.parsed ∙ c.in-Ok-parse.is))

pub returns-in-Err : goal.returns-in-Err
returns-in-Err c =
    name_parsed c.args.text.now c.in_ok-word.word.now None c.in_ok-word.ensures.0 c.in_ok-word.ensures.1
    (ap (λ z. material_in (parsed z)) (sym c.in-Ok.ensures.cases.0) ∙ ap material_in (sym c.parse.ensures.parsed ∙ c.in-Err.is))
