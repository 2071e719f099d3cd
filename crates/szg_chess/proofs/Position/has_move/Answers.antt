use Rattle.std.proofs.Common.{◌∙◌, ap, sym, Bool, List, length}
use Rattle.std.specs.Prelude.{filter, not, ◌||◌, ◌==◌}
use Rattle.szg_chess.specs.declared.Move.{Move}
use Rattle.szg_chess.specs.Moves.{is_capture, legal_moves}
use Rattle.szg_chess.proofs.Found.{some_either}
use Rattle.szg_chess.proofs.Position.has_move.Goals as goal

pub returns-else-has_quiet_move : goal.returns-else-has_quiet_move
returns-else-has_quiet_move c =
    let p = c.args.self.now in
    ap not c.is_empty.ensures ∙ ap (λ (ms : List Move). not (length ms == 0)) c.captures-2.ensures.all
    ∙ ap (λ (b : Bool). b || not (length (filter (is_capture p) (legal_moves p)) == 0)) (sym c.if-has_quiet_move.false ∙ c.has_quiet_move.ensures)
    ∙ some_either (is_capture p) (legal_moves p)
