use Rattle.std.proofs.Common.{◌*◌, ◌-◌, ◌≤◌, List, length, map}
use Rattle.szg_file.specs.Held.{part_of}
use Rattle.szg_build.specs.Dump.{SubDump}
use Rattle.szg_build.specs.Held.{held_of}
use Rattle.szg_build.specs.Packed.{ArePacked}
use Rattle.szg_build.specs.Shown.{form_of}
use Rattle.szg_build.specs.Wholes.{AreSubs, dump_after_parts}
use Rattle.szg_build.proofs.Readers.GoingLaws.{GoesOn}
use Rattle.szg_build.proofs.Readers.WholeLaws.{subs_left}
use Rattle.szg_build.proofs.reading.dumpreading.read_subs.Given as goal

-- the subtables so far were read, the first of them are packed, and the others are left
abbrev pub invariant-each : goal.invariant-each
invariant-each g l =
    (read : List SubDump) × AreSubs l.header.kind l.subs read
    × GoesOn (dump_after_parts (form_of l.form) l.header.material l.header.kind l.header.last (map part_of l.header.parts.items)) (subs_left (form_of l.form) l.header.material l.header.kind l.header.last (map part_of l.header.parts.items) read l.s) l.fn.incoming l.incoming g.R.Input l.fn.input l.input
    × (length (held_of l.incoming) ≤ 2 * (l.count - l.s)) × ArePacked l.header.kind l.choice l.subs
