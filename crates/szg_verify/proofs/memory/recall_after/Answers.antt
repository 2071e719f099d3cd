use Rattle.std.proofs.Common.{refl}
use Rattle.std.proofs.lemmas.Option.{IfSome_then}
use Rattle.szg_chess.specs.Moves.{after}
use Rattle.szg_chess.proofs.AfterMove.{after_is_position}
use Rattle.szg_verify.proofs.Kept.{right_after}
use Rattle.szg_verify.proofs.memory.recall_after.Goals as goal

pub returns : goal.returns
returns c =
    let p = c.args.position.now in
    let m = c.args.m.now in
    let position = c.in-Some.ensures.position in
    IfSome_then c.recall_at.result c.recall_at.ensures (λ e found. λ tables right.
    found (after p m) tables (after_is_position p m position c.requires.legal) c.in-Some.ensures.spot
    (right_after tables c.args.cells.now p (after p m) m position c.requires.legal c.requires.quiet refl right))
