use Rattle.std.proofs.Common.{◌≡◌, sym, ◌∙◌, false}
use Rattle.szg_tables.specs.Distances.{is_left_out}
use Rattle.szg_tables.proofs.Stored.{placed_is, kept_is_many, distance_by_table}
use Rattle.szg_tables.proofs.distances.TableSetDtzTables.distance.Goals as goal

pub returns-in-Ok-distance_in-clause-distance : goal.returns-in-Ok-distance_in-clause-distance
returns-in-Ok-distance_in-clause-distance c =
    let men = c.args.position.now.placed_men in
    let mover = c.args.position.now.mover in
    let board = c.in-Some.placement in
    let kept : is_left_out men mover ≡ false = sym c.is_left_out.ensures ∙ c.if-is_left_out.false in
    let is = placed_is men mover c.placement.result board c.placement.ensures.placed (kept_is_many men mover kept) c.in-Some.is in
    distance_by_table c.args.self.now men mover board is c.args.class c.in-Ok.table c.in-Ok-distance_in.distance kept c.in-Ok.ensures.found c.in-Ok-distance_in.ensures
