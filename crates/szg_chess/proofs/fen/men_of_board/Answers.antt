use Rattle.std.proofs.Common.{◌≡◌, ◌+◌, ◌-◌, ◌*◌, ◌++◌, ◌∙◌, ℕ, List, append_assoc, sym, ap, arith, true}
use Rattle.std.specs.Prelude.{◌==◌}
use Rattle.std.proofs.lemmas.Bool.{and_parts, eqb-true}
use Rattle.std.proofs.lemmas.List.{append-nil}
use Rattle.std.specs.List.{before_first, after_first}
use Rattle.szg_values.specs.Placement.{PlacedMan}
use Rattle.szg_chess.specs.Fen.{is_slash, rank_width, men_of_rank, men_of_ranks, are_ranks}
use Rattle.szg_chess.proofs.Cells.{are_ranks_more, men_of_ranks_more, men_of_ranks_end}
use Rattle.szg_chess.proofs.fen.men_of_board.Goals as goal

-- what a loop's test says of the first rank and of the others
parts : (n k : ℕ) (text : List ℕ) → n ≡ k + 1 → are_ranks n text ≡ true → (rank_width (before_first is_slash text) ≡ 8) × (are_ranks k (after_first is_slash text) ≡ true)
parts n k text e wide =
    let both = and_parts (rank_width (before_first is_slash text) == 8) (are_ranks k (after_first is_slash text)) (sym (are_ranks_more n k text e) ∙ wide) in
    (eqb-true (rank_width (before_first is_slash text)) 8 both.0, both.1)

pub push_rank-requires-clause-rank : goal.push_rank-requires-clause-rank
push_rank-requires-clause-rank c =
    let rank = c.loop-rank.rank in
    ap rank_width c.first_rank.ensures ∙ (parts (8 - rank) (7 - rank) c.loop-rank.left.now (omega arith) c.loop-rank.invariant.wide).0

pub loop-rank-preserved : goal.loop-rank-preserved
loop-rank-preserved c =
    let rank = c.loop-rank.rank in let left = c.loop-rank.left.now in let rest = after_first is_slash left in
    let one : 7 - rank ≡ 8 - (rank + 1) = omega arith in
    let n : 8 - rank ≡ (7 - rank) + 1 = omega arith in
    let here = men_of_rank (8 * (7 - rank)) (before_first is_slash left) in
    let ranks = men_of_ranks_more (8 - rank) (7 - rank) left n in
    let to : men_of_ranks (7 - rank) rest ≡ men_of_ranks (8 - (rank + 1)) c.after-left.result.now = ap (λ (k : ℕ). men_of_ranks k rest) one ∙ ap (men_of_ranks (8 - (rank + 1))) (sym c.after-left.ensures) in
    let pushed : c.push_rank.new.men.items ≡ c.loop-rank.men.items ++ here = c.push_rank.ensures.men ∙ ap (λ (ys : List ℕ). c.loop-rank.men.items ++ men_of_rank (8 * (7 - rank)) ys) c.first_rank.ensures in
    record {
      men = ap (λ (ms : List PlacedMan). ms ++ men_of_ranks (8 - (rank + 1)) c.after-left.result.now) pushed
          ∙ append_assoc c.loop-rank.men.items here (men_of_ranks (8 - (rank + 1)) c.after-left.result.now)
          ∙ ap (λ (ms : List PlacedMan). c.loop-rank.men.items ++ (here ++ ms)) (sym to)
          ∙ ap (λ (ms : List PlacedMan). c.loop-rank.men.items ++ ms) (sym ranks)
          ∙ c.loop-rank.invariant.men;
      wide = ap (are_ranks (8 - (rank + 1))) c.after-left.ensures ∙ ap (λ (k : ℕ). are_ranks k rest) (sym one) ∙ (parts (8 - rank) (7 - rank) left n c.loop-rank.invariant.wide).1;
      few = omega (arith, c.push_rank.ensures.few, c.loop-rank.invariant.few);
    }

pub returns : goal.returns
returns c =
    let end = men_of_ranks_end (8 - c.loop-rank.rank) c.loop-rank.left.now (omega arith) in
    sym (append-nil c.loop-rank.men.items) ∙ ap (λ (ms : List PlacedMan). c.loop-rank.men.items ++ ms) (sym end) ∙ c.loop-rank.invariant.men
