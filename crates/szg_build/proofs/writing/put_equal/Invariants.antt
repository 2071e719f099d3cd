use Rattle.std.proofs.Common.{replicate, Ok}
use Rattle.std.specs.List.{flat_map}
use Rattle.szg_build.specs.Writing.{Writing}
use Rattle.szg_build.proofs.Writers.WritingLaws.{value_line}
use Rattle.szg_build.proofs.writing.put_equal.Given as goal

-- the lines so far are written
abbrev pub invariant-lines : goal.invariant-lines
invariant-lines g l = Writing {X = Unit {0}} (flat_map value_line (replicate l._done l.value)) l.initial.text l.text g.W.Output l.initial.output l.output (Ok tt)
