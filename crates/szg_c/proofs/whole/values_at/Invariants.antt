use Rattle.std.proofs.Common.{◌≡◌, ◌<◌, ℕ, drop, IfSome}
use Rattle.std.specs.Prelude.{slice_index}
use Rattle.szg_file.specs.Values.{subtable_at, values_of}
use Rattle.szg_c.specs.Lists.{AreValuesAt}
use Rattle.szg_c.proofs.whole.values_at.Given as goal

abbrev pub invariant-indexes : goal.invariant-indexes
invariant-indexes l = (k : ℕ) → k < l.i → slice_index l.indexes k < l.size

abbrev pub invariant-values : goal.invariant-values
invariant-values l = record {
  values : IfSome (subtable_at l.table.contents l.part l.side) (λ found. AreValuesAt (values_of l.table.contents.kind found) l.indexes l.values l.i);
  rest : drop l.count l.values ≡ drop l.count l.fn.values;
}
