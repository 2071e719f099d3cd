use Rattle.std.proofs.Common.{◌∙◌, ap, sym}
use Rattle.std.specs.Prelude.{not}
use Rattle.szg_verify.specs.Memory.{holds_pawn}
use Rattle.szg_verify.proofs.Zeroing.{zeroing_by_captures}
use Rattle.szg_verify.proofs.entries.has_only_zeroing.Goals as goal

pub returns-else-holds_pawn : goal.returns-else-holds_pawn
returns-else-holds_pawn c =
    ap not c.has_quiet_move.ensures ∙ zeroing_by_captures c.args.position.now (ap holds_pawn (sym c.men.ensures.men) ∙ sym c.holds_pawn.ensures ∙ c.if-holds_pawn.false)
