use Rattle.std.proofs.Common.{◌<◌, ◌+◌, sym, refl, arith}
use Rattle.szg_chess.specs.Fen.{rank_width}
use Rattle.szg_chess.proofs.Cells.{width_more, width_part}
use Rattle.std.proofs.lemmas.Bool.{ne_eqb}
use Rattle.szg_chess.proofs.fen.is_eight_wide.Goals as goal

pub loop-byte-init : goal.loop-byte-init
unfolding rank_width
loop-byte-init c = record { width = refl; small = omega arith }

pub returns-then-width-gt8 : goal.returns-then-width-gt8
returns-then-width-gt8 c =
    let rank = c.args.rank.now in let i = c.loop-byte.byte-index in
    let more = width_more rank i c.loop-byte-test.true in let part = width_part rank (i + 1) in
    let wide : 8 < rank_width rank = omega (arith, more, part, c.loop-byte.invariant.width, c.width_of-width.ensures.width, c.if-width-gt8.true) in
    sym (ne_eqb (rank_width rank) 8 (λ e. omega (arith, wide, e)))

pub loop-byte-preserved : goal.loop-byte-preserved
loop-byte-preserved c =
    let more = width_more c.args.rank.now c.loop-byte.byte-index c.loop-byte-test.true in
    record { width = omega (arith, more, c.loop-byte.invariant.width, c.width_of-width.ensures.width); small = omega (arith, c.if-width-gt8.false) }
