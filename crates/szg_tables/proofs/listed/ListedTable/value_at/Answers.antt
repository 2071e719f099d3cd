use Rattle.std.proofs.Common.{◌≡◌, ◌<◌, sym, subst, Some, IsSome}
use Rattle.std.specs.Prelude.{IfSome}
use Rattle.szg_file.specs.Held.{Shown}
use Rattle.szg_file.specs.Values.{item, subtable_at, values_of}
use Rattle.szg_place.proofs.Indexes.Probed.{and_if, some_there, value_is}
use Rattle.szg_tables.proofs.listed.ListedTable.value_at.Goals as goal

pub get-requires-clause-there : goal.get-requires-clause-there
get-requires-clause-there c =
    let spot = c.args.spot in
    subst (λ (t : Shown). IsSome (subtable_at t.contents spot.part spot.side)) (sym c.self.view_is)
    (some_there (subtable_at c.args.self.now.contents spot.part spot.side) (λ found. spot.index < found.0.size) c.requires)

pub get-requires-clause-below : goal.get-requires-clause-below
get-requires-clause-below c =
    let spot = c.args.spot in
    subst (λ (t : Shown). IfSome (subtable_at t.contents spot.part spot.side) (λ found. spot.index < found.0.size)) (sym c.self.view_is)
    (and_if (subtable_at c.args.self.now.contents spot.part spot.side) (λ found. spot.index < found.0.size) c.requires)

pub returns-in-None : goal.returns-in-None
returns-in-None c =
    let t = c.args.self.now.contents in let spot = c.args.spot in
    value_is (subtable_at t spot.part spot.side) (λ found. item (values_of t.kind found) spot.index) c.get.result (λ found. spot.index < found.0.size) c.requires
    (subst (λ (t : Shown). IfSome (subtable_at t.contents spot.part spot.side) (λ found. item (values_of t.contents.kind found) spot.index ≡ Some c.get.result)) c.self.view_is c.get.ensures)
