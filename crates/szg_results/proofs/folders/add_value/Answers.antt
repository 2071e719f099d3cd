use Rattle.std.proofs.Common.{is_ok, refl}
use Rattle.szg_tables.specs.declared.fetched.FetchedTable.{FetchedTable}
use Rattle.szg_results.proofs.Kept.{more_values}
use Rattle.szg_results.proofs.folders.add_value.Goals as goal

pub returns : goal.returns
returns c = λ files words is of.
    let t = c.args.table.now in
    let u : FetchedTable = record { path = t.path; size = t.size; read = t.read; front = t.front; values = c.push.new.self } in
    more_values files words t u c.args.value (is_ok c.push.result) refl refl c.push.ensures.items is of
