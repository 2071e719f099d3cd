use Rattle.std.proofs.Common.{◌≡◌, length}
use Rattle.szg_file.specs.Contents.{items}
use Rattle.szg_file.proofs.reading.taking.take_entries.Given as goal

abbrev pub invariant-rows : goal.invariant-rows
invariant-rows g l = record {
  read : l.list.items ≡ items 3 l.i l.rows;
  count : length l.list.items ≡ l.i;
}
