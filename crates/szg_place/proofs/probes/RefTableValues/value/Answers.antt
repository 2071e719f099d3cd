use Rattle.std.proofs.Common.{◌<◌}
use Rattle.szg_file.specs.Values.{item, subtable_at, values_of}
use Rattle.szg_place.proofs.Indexes.Probed.{and_if, some_there, subtable_there, value_is}
use Rattle.szg_place.proofs.probes.RefTableValues.value.Goals as goal

pub get-requires-clause-there : goal.get-requires-clause-there
get-requires-clause-there c =
    let t = c.args.self.now.now.contents in let spot = c.args.spot in
    some_there (subtable_at t spot.part spot.side) (λ found. spot.index < found.0.size) (subtable_there t c.args.self.now.now.filled spot c.table_fits.ensures c.requires)

pub get-requires-clause-below : goal.get-requires-clause-below
get-requires-clause-below c =
    let t = c.args.self.now.now.contents in let spot = c.args.spot in
    and_if (subtable_at t spot.part spot.side) (λ found. spot.index < found.0.size) (subtable_there t c.args.self.now.now.filled spot c.table_fits.ensures c.requires)

pub returns-clause-value : goal.returns-clause-value
returns-clause-value c =
    let t = c.args.self.now.now.contents in let spot = c.args.spot in
    value_is (subtable_at t spot.part spot.side) (λ found. item (values_of t.kind found) spot.index) c.get.result (λ found. spot.index < found.0.size) (subtable_there t c.args.self.now.now.filled spot c.table_fits.ensures c.requires) c.get.ensures
