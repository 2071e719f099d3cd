use Rattle.std.proofs.Common.{◌∙◌, ap, sym}
use Rattle.szg_values.specs.Men.{other_color}
use Rattle.szg_chess.proofs.Enemies.{back_again}
use Rattle.szg_chess.proofs.positions.SoundMen.of_men.Goals as goal

pub is_in_check_by-requires-clause-other : goal.is_in_check_by-requires-clause-other
is_in_check_by-requires-clause-other c = sym (ap other_color c.other_color.ensures ∙ back_again c.args.mover)
