use Rattle.std.proofs.Common.{◌≡◌, ◌+◌, ◌++◌, ◌∙◌, ℕ, List, [], length, length-append, append_assoc, true, false, take, get_or, sym, ap, arith}
use Rattle.std.proofs.lemmas.List.{append-nil}
use Rattle.std.specs.Prelude.{if◌then◌else◌}
use Rattle.szg_values.specs.Placement.{PlacedMan}
use Rattle.szg_chess.specs.Fen.{is_gap, rank_width, men_at, man_of_letter, men_of_rank}
use Rattle.szg_chess.proofs.Cells.{width_more, width_part, width_positive, men_more, few_men}
use Rattle.szg_chess.proofs.fen.push_rank.Goals as goal
use Rattle.szg_chess.proofs.fen.push_rank.Goals.{then-not-is_gap, else-not-is_gap}

pub loop-byte-init : goal.loop-byte-init
unfolding rank_width men_of_rank
loop-byte-init c = record { men = sym (append-nil c.args.men.now.items); square = omega arith }

pub push_man-requires-clause-square : goal.push_man-requires-clause-square
push_man-requires-clause-square c =
    let rank = c.args.rank.now in let i = c.loop-byte.byte-index in
    let more = width_more rank i c.loop-byte-test.true in let part = width_part rank (i + 1) in let one = width_positive (get_or rank i 0) in let wide = c.requires.rank in
    omega (arith, more, part, one, wide, c.loop-byte.invariant.square, c.requires.first)

pub push_man-requires-clause-room : goal.push_man-requires-clause-room
push_man-requires-clause-room c =
    let rank = c.args.rank.now in let i = c.loop-byte.byte-index in
    let more = width_more rank i c.loop-byte-test.true in let part = width_part rank (i + 1) in let one = width_positive (get_or rank i 0) in let wide = c.requires.rank in
    let few = few_men c.args.first (take i rank) in
    let size = ap length c.loop-byte.invariant.men ∙ length-append c.args.men.now.items (men_of_rank c.args.first (take i rank)) in
    omega (arith, more, part, one, wide, few, size, c.requires.room)

pub overflow_add-square : goal.overflow_add-square
overflow_add-square c =
    let rank = c.args.rank.now in let part = width_part rank c.loop-byte.byte-index in let wide = c.requires.rank in
    omega (arith, part, wide, c.loop-byte.invariant.square, c.requires.first, c.width_of-square.ensures.small)

pub loop-byte-preserved : goal.loop-byte-preserved
loop-byte-preserved c =
    let rank = c.args.rank.now in let i = c.loop-byte.byte-index in let b = get_or rank i 0 in let first = c.args.first in
    let more = width_more rank i c.loop-byte-test.true in
    let old = c.args.men.now.items in let so_far = men_of_rank first (take i rank) in
    let piece : List PlacedMan = if is_gap b then [] else men_at (first + rank_width (take i rank)) (man_of_letter b) in
    let now : c.if-not-is_gap.men.items ≡ c.loop-byte.men.items ++ piece = elim c.if-not-is_gap.branch [
      | then-not-is_gap w ↦
          let letter : is_gap b ≡ false = sym c.is_gap.ensures ∙ w.if-not-is_gap.true in
          rw (w.men-is, letter) (w.push_man.ensures.men ∙ ap (λ (n : ℕ). c.loop-byte.men.items ++ men_at n (man_of_letter b)) c.loop-byte.invariant.square)
      | else-not-is_gap w ↦
          let gap : is_gap b ≡ true = sym c.is_gap.ensures ∙ w.if-not-is_gap.false in
          rw (w.men-is, gap) (sym (append-nil c.loop-byte.men.items))
    ] in
    record {
      men = now ∙ ap (λ (ms : List PlacedMan). ms ++ piece) c.loop-byte.invariant.men ∙ append_assoc old so_far piece ∙ ap (λ (ms : List PlacedMan). old ++ ms) (sym (men_more first rank i c.loop-byte-test.true));
      square = omega (arith, more, c.loop-byte.invariant.square, c.width_of-square.ensures.width);
    }

pub returns-clause-few : goal.returns-clause-few
returns-clause-few c =
    let rank = c.args.rank.now in let i = c.loop-byte.byte-index in
    let part = width_part rank i in let wide = c.requires.rank in let few = few_men c.args.first (take i rank) in
    let size = ap length c.loop-byte.invariant.men ∙ length-append c.args.men.now.items (men_of_rank c.args.first (take i rank)) in
    omega (arith, part, wide, few, size)
