use Rattle.std.proofs.Common.{ℕ, List, ◌++◌, ◌∷◌, refl, ap, ◌∙◌, Some, None}
use Rattle.std.proofs.lemmas.Result.{err_from_is_err_and}
use Rattle.szg_build.proofs.Readers.WordLaws.{no_first_word, no_second_word, stripped}
use Rattle.szg_build.proofs.reading.word.two_words.Goals as goal

pub returns-in_default : goal.returns-in_default
returns-in_default c = (refl, λ a b ha hb e. stripped c.args.front.now c.args.text.now None c.in_default.ensures.cases _ e)

pub returns-in_default-split_word : goal.returns-in_default-split_word
returns-in_default-split_word c = (
  refl,
  no_first_word c.args.front.now c.args.middle.now c.args.text.now c.in-Some.following.now
      (stripped c.args.front.now c.args.text.now (Some c.in-Some.following) c.in-Some.ensures.cases) c.in_default-split_word.ensures,
)

pub returns-in_err-second : goal.returns-in_err-second
returns-in_err-second c =
    let p = err_from_is_err_and c.from_residual.result c.from_residual.ensures.1 in
    rw (p.1, p.2) (
      c.in_err-second.ensures.0,
      no_second_word c.args.front.now c.args.middle.now c.args.text.now c.in-Some.following.now c.in-Some-split_word.first.now c.in-Some-split_word.last.now
          (stripped c.args.front.now c.args.text.now (Some c.in-Some.following) c.in-Some.ensures.cases) c.in-Some-split_word.ensures.0 c.in-Some-split_word.ensures.1 c.in_err-second.ensures.1,
    )

pub returns : goal.returns
returns c = (
  c.in-Some-split_word.ensures.0,
  c.in_ok-second.ensures.0,
  stripped c.args.front.now c.args.text.now (Some c.in-Some.following) c.in-Some.ensures.cases
      ∙ ap (λ (z : List ℕ). c.args.front.now ++ z) (c.in-Some-split_word.ensures.1 ∙ ap (λ (z : List ℕ). c.in-Some-split_word.first.now ++ 32 ∷ z) c.in_ok-second.ensures.1),
)
