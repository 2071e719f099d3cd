use Rattle.std.specs.Prelude.{Result, IfOk, Ok, Err, ◌≡◌, Some}
use Rattle.szg_game.specs.declared.Class.{Class}
use Rattle.szg_chess.specs.Position.{Position, IsPosition}
use Rattle.szg_probe.specs.Chess.{ChessClass}
use Rattle.szg_probe.specs.Probing.{StoredClasses, AreTrue, probed}
use Rattle.szg_probe.proofs.Probed.{probed_true}
use Rattle.szg_probe.proofs.probes.probe_wdl.Goals as goal

class_of : {E : Type 0} (r : Result Class E) (tables : StoredClasses) (p : Position) → IsPosition p → IfOk r (λ k. probed tables p ≡ Some k) → IfOk r (λ k. AreTrue tables → ChessClass p k)
class_of (Ok k) tables p position e = λ right. probed_true tables p k right position e
class_of (Err e) tables p position h = h

pub returns-clause-class : goal.returns-clause-class
returns-clause-class g c = class_of c.search.result (g.T.Tables.stored c.args.tables.now) c.args.position.now c.men.ensures.position c.search.ensures.probed
