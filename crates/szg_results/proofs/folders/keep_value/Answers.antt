use Rattle.szg_results.proofs.Kept.{kept_at}
use Rattle.szg_results.proofs.folders.keep_value.Goals as goal

pub returns-then-number-tables : goal.returns-then-number-tables
returns-then-number-tables c = λ files words is all.
    kept_at files words c.args.tables.now c.args.number c.index-tables-number.result c.add_value.new.table c.args.value c.if-number-tables.true (c.add_value.ensures files words) is all
