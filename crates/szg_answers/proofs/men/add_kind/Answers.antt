use Rattle.std.proofs.Common.{◌≡◌, ◌∙◌, ◌++◌, string_bytes, arith, refl}
use Rattle.std.proofs.lemmas.Grind.{common_steps}
use Rattle.szg_answers.specs.Men.{square_word}
use Rattle.szg_answers.proofs.MenWords.{numbers_more, squares_words}
use Rattle.szg_answers.proofs.men.add_kind.Goals as goal
use Rattle.szg_answers.proofs.men.add_kind.Goals.{then-is_valid+in_ok-add_man, else-is_valid}

pub squares-preserved : goal.squares-preserved
squares-preserved c =
    let word : string_bytes c.if-is_valid.text ≡ string_bytes c.squares.text ++ square_word c.args.men.now c.args.kind c.args.color c.squares.number =
    elim c.if-is_valid.branch [
      | then-is_valid+in_ok-add_man w ↦ grind (arith, common_steps)
      | else-is_valid w ↦ grind (arith, common_steps)
    ] in
    numbers_more (square_word c.args.men.now c.args.kind c.args.color) c.squares.number _ _ _ c.squares.invariant word

pub returns : goal.returns
returns c =
    let all = squares_words (square_word c.args.men.now c.args.kind c.args.color) c.squares.number (omega arith) in
    c.squares.invariant ∙ rw (all) refl
