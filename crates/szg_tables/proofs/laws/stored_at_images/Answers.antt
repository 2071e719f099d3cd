use Rattle.std.proofs.Common.{◌≤◌, ℕ, List, length, get_or, take, sym, subst, All}
use Rattle.std.proofs.lemmas.List.{take_more, take_all}
use Rattle.std.proofs.lemmas.List.Elements.{All-push, All-contains}
use Rattle.szg_file.specs.Held.{Shown}
use Rattle.szg_place.specs.Layout.{IsLayout}
use Rattle.szg_place.specs.Tables.{numbering_of}
use Rattle.szg_tables.proofs.Images.{AreNumbered, from_in, symmetric_classes, symmetric_numbers}
use Rattle.szg_tables.proofs.ImageDistances.{symmetric_tables}
use Rattle.szg_tables.proofs.laws.stored_at_images.Goals as goal

abbrev IsNumbered : Shown → Type 0
IsNumbered t = IsLayout (numbering_of t.contents)

all_numbered : (tables : List Shown) (n : ℕ) → All IsNumbered (take n tables) → length tables ≤ n → AreNumbered tables
all_numbered tables n seen past t i = All-contains IsNumbered tables t (subst (λ (l : List Shown). All IsNumbered l) (take_all n tables past) seen) (from_in tables t i)

pub loop-table-preserved : goal.loop-table-preserved
loop-table-preserved c =
    let tables = c.args.tables.now in let i = c.loop-table.table-index in let t = c.table-item.result in
    subst (λ (l : List Shown). All IsNumbered l) (sym (take_more tables i t c.loop-table-test.true))
    (All-push IsNumbered (take i tables) (get_or tables i t) c.loop-table.invariant (subst IsNumbered c.table-item.is c.table_numbering.ensures))

pub returns-clause-classes : goal.returns-clause-classes
returns-clause-classes c = symmetric_classes c.args.tables.now (all_numbered c.args.tables.now c.loop-table.table-index c.loop-table.invariant c.loop-table-test.false)

pub returns-clause-numbers : goal.returns-clause-numbers
returns-clause-numbers c = symmetric_numbers c.args.tables.now (all_numbered c.args.tables.now c.loop-table.table-index c.loop-table.invariant c.loop-table-test.false)

pub returns-clause-tables : goal.returns-clause-tables
returns-clause-tables c = symmetric_tables c.args.tables.now (all_numbered c.args.tables.now c.loop-table.table-index c.loop-table.invariant c.loop-table-test.false)
