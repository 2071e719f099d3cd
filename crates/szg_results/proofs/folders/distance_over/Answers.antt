use Rattle.std.proofs.Common.{◌≡◌, ◌∙◌, List, Vec, Global, Some, ap, subst}
use Rattle.std.specs.Prelude.{IfOk}
use Rattle.szg_probe.specs.Distances.{probed_distance}
use Rattle.szg_probe.specs.declared.distances.Distance.{Distance}
use Rattle.szg_tables.specs.Fetched.{fetched_classes, fetched_numbers}
use Rattle.szg_tables.specs.declared.fetched.FetchedTable.{FetchedTable}
use Rattle.szg_results.proofs.folders.distance_over.Goals as goal

pub returns-clause-distance : goal.returns-clause-distance
returns-clause-distance c =
    let set : List FetchedTable = c.of-set.result in
    let same : set ≡ c.args.tables.now.items = c.of-set.ensures ∙ ap (λ (tables : Vec FetchedTable Global). tables.items) c.replace.ensures.value in
    subst (λ (tables : List FetchedTable). IfOk c.probe_dtz-distance.result (λ (d : Distance). probed_distance (fetched_classes tables) (fetched_numbers tables) c.args.position.now ≡ Some (d.class, d.plies)))
    same c.probe_dtz-distance.ensures.distance
