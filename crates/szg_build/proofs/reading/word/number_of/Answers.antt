use Rattle.std.proofs.Common.{◌≡◌, ◌∙◌, true, false, refl, sym, ap, arith}
use Rattle.std.proofs.lemmas.Slice.Eq.{bytes_eq-Decides}
use Rattle.szg_build.specs.Grammar.{number_in}
use Rattle.szg_build.proofs.Readers.NumberWords.{number_there, number_of_no_text, number_of_no_digits, number_of_another}
use Rattle.szg_build.proofs.reading.word.number_of.Goals as goal

pub returns-in_default-clause-value : goal.returns-in_default-clause-value
returns-in_default-clause-value c = (refl, number_of_no_text c.args.limit c.args.word.now (omega arith) (rw c.in_default.is at c.from_utf8.ensures.cases).0)

pub returns-in_default-parse-clause-value : goal.returns-in_default-parse-clause-value
returns-in_default-parse-clause-value c =
    (refl, ap (number_in c.args.limit) (sym c.in-Ok.ensures.cases.0) ∙ number_of_no_digits c.args.limit c.in-Ok.text.now c.parse.result (omega arith) c.in_default-parse.not-Ok c.parse.ensures.value.0)

pub returns-then-number-limit-clause-value : goal.returns-then-number-limit-clause-value
returns-then-number-limit-clause-value c = (
  refl,
  ap (number_in c.args.limit) (sym c.in-Ok.ensures.cases.0)
      ∙ number_of_another c.args.limit c.in-Ok-parse.number c.in-Ok.text.now c.parse.result (omega arith) c.in-Ok-parse.is c.parse.ensures.value.0 (λ le e. omega (arith, le, c.if-number-limit.true)),
)

pub returns-then-eq-clause-value : goal.returns-then-eq-clause-value
returns-then-eq-clause-value c =
    let same = (bytes_eq-Decides c.as_bytes.result.now c.args.word.now).0 (sym c.eq.ensures ∙ c.if-eq.true) in
    number_there c.args.limit c.in-Ok-parse.number c.args.word.now (sym same ∙ c.as_bytes.ensures.value ∙ c.format.ensures.text) (omega (arith, c.if-number-limit.false)) (omega (arith, c.if-number-limit.false))

pub returns-else-eq-clause-value : goal.returns-else-eq-clause-value
returns-else-eq-clause-value c =
    let text = c.as_bytes.ensures.value ∙ c.format.ensures.text in (
      refl,
      ap (number_in c.args.limit) (sym c.in-Ok.ensures.cases.0)
          ∙ number_of_another c.args.limit c.in-Ok-parse.number c.in-Ok.text.now c.parse.result (omega arith) c.in-Ok-parse.is c.parse.ensures.value.0
          (λ le e. let yes : c.eq.result ≡ true = c.eq.ensures ∙ (bytes_eq-Decides c.as_bytes.result.now c.args.word.now).1 (text ∙ sym e ∙ c.in-Ok.ensures.cases.0) in
          let not : c.eq.result ≡ false = c.if-eq.false in
          cc),
    )
