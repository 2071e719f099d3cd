use Rattle.std.proofs.Common.{sym, subst, List}
use Rattle.std.specs.Prelude.{All, Contains}
use Rattle.szg_chess.specs.Moves.{legal_moves}
use Rattle.szg_probe.specs.declared.assessments.RankedMove.{RankedMove}
use Rattle.szg_results.proofs.lines.text_of.Goals as goal

pub add_move-requires : goal.add_move-requires
add_move-requires c =
    let legal = λ (r : RankedMove). Contains (legal_moves c.args.position.now) r.m in
    let all = subst (λ (rs : List RankedMove). All legal rs) (sym c.as_slice-r-items.ensures.value) c.requires in
    subst legal (sym c.r-item.is) (all c.moves.r-index c.r-item.result c.moves-test.true)
