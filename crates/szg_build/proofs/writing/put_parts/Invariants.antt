use Rattle.std.proofs.Common.{take, map}
use Rattle.std.specs.Prelude.{Ok}
use Rattle.szg_file.specs.Contents.{part_numbers}
use Rattle.szg_file.specs.Held.{part_of}
use Rattle.szg_build.specs.Text.{lines_text, flat_map_beside, part_lines}
use Rattle.szg_build.specs.Writing.{Writing}
use Rattle.szg_build.proofs.writing.put_parts.Given as goal

-- the parts so far are written
abbrev pub invariant-parts : goal.invariant-parts
invariant-parts g l =
    Writing {X = Unit {0}} (lines_text (flat_map_beside part_lines (take l.number (part_numbers l.fn.material)) (take l.number (map part_of l.parts))))
    l.initial.text l.text g.W.Output l.initial.output l.output (Ok tt)
