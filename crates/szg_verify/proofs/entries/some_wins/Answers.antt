use Rattle.std.proofs.Common.{Contains, sym, subst}
use Rattle.szg_chess.specs.Moves.{legal_moves}
use Rattle.szg_verify.proofs.entries.some_wins.Goals as goal

pub after-requires : goal.after-requires
after-requires g c =
    subst (Contains (legal_moves c.args.position.now)) (sym c.m-item.is) (c.requires.legal c.loop-m.m-index c.m-item.result c.loop-m-test.true)
