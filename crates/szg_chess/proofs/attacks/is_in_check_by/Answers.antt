use Rattle.std.proofs.Common.{◌∙◌, sym}
use Rattle.szg_chess.proofs.Reached.{check_reached, unreached}
use Rattle.szg_chess.proofs.attacks.is_in_check_by.Goals as goal

pub returns-then-reached-eq0 : goal.returns-then-reached-eq0
returns-then-reached-eq0 c =
    sym (unreached c.args.men.now c.args.occupied c.args.reached c.args.color c.args.other c.requires.on_board c.requires.squares c.requires.other c.requires.reached c.if-reached-eq0.true)

pub returns : goal.returns
returns c =
    c.has_attacked_king.ensures ∙ check_reached c.args.men.now c.args.occupied c.args.reached c.args.color c.args.other c.requires.on_board c.requires.squares c.requires.other c.requires.reached
