use Rattle.std.proofs.Common.{map}
use Rattle.szg_archive.specs.Verdicts.{AllMissing, listed_of}
use Rattle.szg_archive.proofs.entries.missing.Given as goal

abbrev pub invariant-names : goal.invariant-names
invariant-names l = AllMissing (map listed_of l.found.items)
