use Rattle.std.proofs.Common.{◌≡◌, take}
use Rattle.szg_archive.specs.Records.{listed_name}
use Rattle.szg_archive.proofs.records.listed_name.Given as goal

abbrev pub invariant-bytes : goal.invariant-bytes
invariant-bytes l = l.text.items ≡ listed_name (take l.byte-index l.name)
