use Rattle.std.proofs.Common.{◌≡◌, take}
use Rattle.szg_tables.proofs.listed.as_bytes.Given as goal

abbrev pub invariant-values : goal.invariant-values
invariant-values l = l.bytes.items ≡ take l.value-index l.values
