use Rattle.std.proofs.Common.{◌≡◌, ◌+◌, ◌-◌, ◌∙◌, ℕ, true, false, sym, ap, refl, arith, Bool}
use Rattle.std.specs.Prelude.{◌&&◌, ◌==◌}
use Rattle.std.specs.List.{before_first, after_first}
use Rattle.szg_chess.specs.Fen.{is_slash, rank_width, are_ranks}
use Rattle.szg_chess.proofs.Cells.{are_ranks_more, are_ranks_end}
use Rattle.szg_chess.proofs.fen.are_ranks.Goals as goal

pub returns-then-not-is_eight_wide : goal.returns-then-not-is_eight_wide
returns-then-not-is_eight_wide c =
    let rank = c.loop-rank._rank in let left = c.loop-rank.left.now in
    let narrow : (rank_width (before_first is_slash left) == 8) ≡ false = ap (λ (text : _). rank_width text == 8) (sym c.first_rank.ensures) ∙ sym c.is_eight_wide.ensures ∙ c.if-not-is_eight_wide.true in
    sym (c.loop-rank.invariant ∙ are_ranks_more (8 - rank) (7 - rank) left (omega arith) ∙ rw narrow refl)

pub loop-rank-preserved : goal.loop-rank-preserved
loop-rank-preserved c =
    let rank = c.loop-rank._rank in let left = c.loop-rank.left.now in
    let wide : (rank_width (before_first is_slash left) == 8) ≡ true = ap (λ (text : _). rank_width text == 8) (sym c.first_rank.ensures) ∙ sym c.is_eight_wide.ensures ∙ c.if-not-is_eight_wide.false in
    let one : 7 - rank ≡ 8 - (rank + 1) = omega arith in
    c.loop-rank.invariant ∙ are_ranks_more (8 - rank) (7 - rank) left (omega arith) ∙ ap (λ (b : Bool). b && are_ranks (7 - rank) (after_first is_slash left)) wide
    ∙ ap (λ (n : ℕ). are_ranks n (after_first is_slash left)) one ∙ ap (are_ranks (8 - (rank + 1))) (sym c.after-left.ensures)

pub returns : goal.returns
returns c = sym (c.loop-rank.invariant ∙ are_ranks_end (8 - c.loop-rank._rank) c.loop-rank.left.now (omega arith))
