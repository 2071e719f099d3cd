use Rattle.std.proofs.Common.{take, All}
use Rattle.szg_file.specs.Held.{Shown}
use Rattle.szg_place.specs.Layout.{IsLayout}
use Rattle.szg_place.specs.Tables.{numbering_of}
use Rattle.szg_tables.proofs.laws.stored_at_images.Given as goal

-- the tables so far have numberings
abbrev pub invariant-loop-table : goal.invariant-loop-table
invariant-loop-table l = All (λ (t : Shown). IsLayout (numbering_of t.contents)) (take l.table-index l.tables)
