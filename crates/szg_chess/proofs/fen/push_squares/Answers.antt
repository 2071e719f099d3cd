use Rattle.std.proofs.Common.{◌≡◌, ℕ, ◌+◌, ◌-◌, ◌++◌, ◌∙◌, List, sym, ap, arith}
use Rattle.szg_chess.specs.Position.{man_on}
use Rattle.szg_chess.specs.Fen.{squares_text, after_square}
use Rattle.szg_chess.proofs.Writing.{after_empties, square_written, squares_more, squares_end, empties_end}
use Rattle.szg_chess.proofs.fen.push_squares.Goals as goal

pub loop-file-init : goal.loop-file-init
unfolding after_empties
loop-file-init c =
    let start : c.args.first + 0 ≡ c.args.first = omega arith in
    record { text = ap (λ (n : ℕ). c.args.text.now.bytes ++ squares_text c.args.men.now 8 n) start; few = omega arith; len = omega arith }

pub loop-file-preserved : goal.loop-file-preserved
loop-file-preserved c =
    let file = c.loop-file.file in let men = c.args.men.now in let square = c.args.first + file in
    let one : 7 - file ≡ 8 - (file + 1) = omega arith in
    let next : square + 1 ≡ c.args.first + (file + 1) = omega arith in
    let rest = squares_text men (8 - (file + 1)) (c.args.first + (file + 1)) in
    let pushed = c.push_square_after-empty.ensures in
    let more = squares_more men (8 - file) (8 - (file + 1)) square (omega arith) in
    let few = c.loop-file.invariant.few in
    let len = c.loop-file.invariant.len in let longer = pushed.len in let fewer = pushed.few in
    record {
      text = square_written c.loop-file.text.bytes c.push_square_after-empty.new.text.bytes rest c.loop-file.empty c.push_square_after-empty.result c.man_on.result (omega arith)
          pushed.none (λ e. ap (λ t. t.bytes) (pushed.kept e)) pushed.some pushed.text
          ∙ ap (λ o. c.loop-file.text.bytes ++ after_empties c.loop-file.empty (after_square o rest)) c.man_on.ensures
          ∙ ap (λ (n : ℕ). c.loop-file.text.bytes ++ after_empties c.loop-file.empty (after_square (man_on men square) (squares_text men (8 - (file + 1)) n))) (sym next)
          ∙ ap (λ (xs : List ℕ). c.loop-file.text.bytes ++ after_empties c.loop-file.empty xs) (sym more)
          ∙ c.loop-file.invariant.text;
      few = omega (arith, few, fewer);
      len = omega (arith, len, longer);
    }

pub returns : goal.returns
returns c =
    let whole : 8 - c.loop-file.file ≡ 0 = omega arith in
    let end = squares_end c.args.men.now (8 - c.loop-file.file) (c.args.first + c.loop-file.file) whole in
    let few = c.loop-file.invariant.few in let len = c.loop-file.invariant.len in let longer = c.push_empty.ensures.len in
    record {
      text = c.push_empty.ensures.text ∙ ap (λ (xs : List ℕ). c.loop-file.text.bytes ++ xs) (sym (empties_end c.loop-file.empty (omega arith)) ∙ ap (after_empties c.loop-file.empty) (sym end)) ∙ c.loop-file.invariant.text;
      len = omega (arith, len, longer);
    }
