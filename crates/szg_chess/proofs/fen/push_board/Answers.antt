use Rattle.std.proofs.Common.{◌≡◌, ℕ, ◌+◌, ◌-◌, ◌*◌, ◌++◌, ◌∷◌, [], ◌∙◌, List, sym, ap, refl, arith, append_assoc}
use Rattle.szg_chess.specs.Fen.{squares_text, ranks_text}
use Rattle.szg_chess.proofs.Writing.{ranks_more, ranks_end}
use Rattle.szg_chess.proofs.fen.push_board.Goals as goal

joined : (a b c d : List ℕ) → ((a ++ b) ++ c) ++ d ≡ a ++ (b ++ (c ++ d))
joined a b c d = simp append_assoc refl

pub loop-rank-preserved : goal.loop-rank-preserved
loop-rank-preserved c =
    let rank = c.loop-rank.rank in let men = c.args.men.now in
    let up : 6 - rank + 1 ≡ 7 - rank = omega arith in
    let down : 8 - (rank + 1) ≡ 7 - rank = omega arith in
    let more = ranks_more men (8 - rank) (6 - rank) (omega arith) in
    let here = squares_text men 8 (8 * (7 - rank)) in
    let rest = ranks_text men (7 - rank) in
    let len = c.loop-rank.invariant.len in let squares = c.push_squares.ensures.len in let slash = c.push_letter.ensures.len in
    let written : c.push_letter.new.text.bytes ≡ (c.loop-rank.text.bytes ++ here) ++ 47 ∷ [] = c.push_letter.ensures.text ∙ ap (λ (xs : List ℕ). xs ++ 47 ∷ []) c.push_squares.ensures.text in
    record {
      text = ap (λ (n : ℕ). c.push_letter.new.text.bytes ++ ranks_text men n) down
          ∙ ap (λ (xs : List ℕ). xs ++ rest) written
          ∙ joined c.loop-rank.text.bytes here (47 ∷ []) rest
          ∙ ap (λ (n : ℕ). c.loop-rank.text.bytes ++ (squares_text men 8 (8 * n) ++ 47 ∷ ranks_text men n)) (sym up)
          ∙ ap (λ (xs : List ℕ). c.loop-rank.text.bytes ++ xs) (sym more)
          ∙ c.loop-rank.invariant.text;
      len = omega (arith, len, squares, slash);
    }

pub returns : goal.returns
returns c =
    let last = ranks_end c.args.men.now (8 - c.loop-rank.rank) (omega arith) in
    let len = c.loop-rank.invariant.len in let squares = c.push_squares-2.ensures.len in
    record {
      text = c.push_squares-2.ensures.text ∙ ap (λ (xs : List ℕ). c.loop-rank.text.bytes ++ xs) (sym last) ∙ c.loop-rank.invariant.text;
      len = omega (arith, len, squares);
    }
