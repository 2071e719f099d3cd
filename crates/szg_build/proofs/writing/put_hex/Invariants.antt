use Rattle.std.proofs.Common.{take}
use Rattle.std.specs.Prelude.{Ok}
use Rattle.std.specs.List.{flat_map}
use Rattle.szg_build.specs.Writing.{Writing}
use Rattle.szg_build.proofs.Writers.WritingLaws.{byte_digits}
use Rattle.szg_build.proofs.writing.put_hex.Given as goal

-- the bytes so far are written
abbrev pub invariant-bytes : goal.invariant-bytes
invariant-bytes g l = Writing {X = Unit {0}} (flat_map byte_digits (take l.byte-index l.bytes)) l.initial.text l.text g.W.Output l.initial.output l.output (Ok tt)
