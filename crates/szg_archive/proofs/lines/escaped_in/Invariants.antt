use Rattle.std.proofs.Common.{◌≡◌, take}
use Rattle.szg_archive.specs.Records.{escaped_in}
use Rattle.szg_archive.proofs.lines.escaped_in.Given as goal

abbrev pub invariant-bytes : goal.invariant-bytes
invariant-bytes l = l.text.items ≡ escaped_in l.format (take l.byte-index l.source)
