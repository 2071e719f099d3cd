use Rattle.std.proofs.Common.{◌∙◌, refl, sym, Some, None}
use Rattle.szg_build.proofs.Readers.WordLaws.{no_word, stripped}
use Rattle.szg_build.proofs.reading.word.one_word.Goals as goal

pub returns-in_default : goal.returns-in_default
returns-in_default c = (refl, λ word is same. stripped c.args.front.now c.args.text.now None c.in_default.ensures.cases word same)

pub returns-then-contains : goal.returns-then-contains
returns-then-contains c = (
  refl,
  no_word c.args.front.now c.args.text.now c.in-Some.word.now (stripped c.args.front.now c.args.text.now (Some c.in-Some.word) c.in-Some.ensures.cases)
      (sym c.contains.ensures.value ∙ c.if-contains.true),
)

pub returns : goal.returns
returns c = (
  sym c.contains.ensures.value ∙ c.if-contains.false,
  stripped c.args.front.now c.args.text.now (Some c.in-Some.word) c.in-Some.ensures.cases,
)
