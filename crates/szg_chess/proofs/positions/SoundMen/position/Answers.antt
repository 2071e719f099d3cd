use Rattle.szg_chess.proofs.Facts.{standing}
use Rattle.szg_chess.proofs.positions.SoundMen.position.Goals as goal

pub few_men-requires : goal.few_men-requires
few_men-requires c = (standing _ c.self.invariant.position).few
