use Rattle.szg_block.proofs.SoundSources.{ready_recent}
use Rattle.szg_block.proofs.expanding.Sound+Paged+S.get_counted.Goals as goal

pub invariant_of-self : goal.invariant_of-self
invariant_of-self g c = ready_recent _ _ _ _ _ c.look_up.ensures.count c.look_up.ensures.unchanged c.self.inside.sub.now c.self.invariant
