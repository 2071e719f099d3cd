use Rattle.std.proofs.Common.{None, Some}
use Rattle.szg_file.specs.Index.{slot_in}
use Rattle.szg_c.proofs.FrontsStated.{has}
use Rattle.szg_c.proofs.fronts.has_index.Goals as goal

pub returns-in-Some : goal.returns-in-Some
returns-in-Some c = has (Some c.in-Some.size) (slot_in c.args.table.now c.args.spot.part c.args.spot.side) c.args.spot.index c.in-Some.ensures

pub returns-in-None : goal.returns-in-None
returns-in-None c = has None (slot_in c.args.table.now c.args.spot.part c.args.spot.side) c.args.spot.index c.in-None.ensures
