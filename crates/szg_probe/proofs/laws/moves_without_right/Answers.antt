use Rattle.std.proofs.Common.{sym}
use Rattle.std.proofs.lemmas.Bool.{not_from_false}
use Rattle.szg_chess.specs.Moves.{is_en_passant}
use Rattle.szg_probe.proofs.WithoutRight.{legal_without, plain_step}
use Rattle.szg_probe.proofs.laws.moves_without_right.Goals as goal

pub returns : goal.returns
returns c = λ p position. (legal_without p position, λ m e. sym (plain_step p m (not_from_false (is_en_passant p m) e)))
