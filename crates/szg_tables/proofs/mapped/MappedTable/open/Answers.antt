use Rattle.std.proofs.Common.{rules}
use Rattle.std.specs.Arc.{arc_value}
use Rattle.szg_mapped.specs.InPlace.{IsTableIn}
use Rattle.szg_tables.proofs.mapped.MappedTable.open.Goals as goal

-- no block is noted
pub invariant_of-result : goal.invariant_of-result
invariant_of-result c =
    let table : IsTableIn (arc_value c.in-Ok.table) = search rules in
    (table, c.new-in-Ok.ensures (arc_value c.in-Ok.table).index (arc_value c.in-Ok.table).content)
