use Rattle.std.proofs.Common.{arith}
use Rattle.szg_probe_laws.proofs.Within.{won_from, lost_from, wins_to, loses_to}
use Rattle.szg_probe_laws.proofs.within_is_from_counter.Goals as goal

pub returns : goal.returns
returns g c = λ game limit counter n p some room. (
  (λ w. won_from game limit n counter p (omega arith) w, λ w. wins_to game limit w.0 counter n p room some w.1),
  (λ l. lost_from game limit n counter p (omega arith) l, λ l. loses_to game limit l.0 counter n p room some l.1),
)
