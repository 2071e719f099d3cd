use Rattle.std.proofs.Common.{◌∙◌, ap, sym}
use Rattle.std.specs.Prelude.{not}
use Rattle.szg_chess.specs.Moves.{is_capture, legal_moves}
use Rattle.szg_probe.proofs.Moves.{no_quiet_move, none_fails}
use Rattle.szg_probe.proofs.distances.has_no_quiet_move.Goals as goal

pub returns : goal.returns
returns c =
    let p = c.args.position.now in
    ap not c.has_quiet_move.ensures ∙ none_fails (is_capture p) (legal_moves p) ∙ sym (no_quiet_move p)
