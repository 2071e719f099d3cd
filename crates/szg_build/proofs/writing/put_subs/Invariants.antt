use Rattle.std.proofs.Common.{take}
use Rattle.std.specs.Prelude.{Ok}
use Rattle.szg_build.specs.Dump.{subtable_ids_of}
use Rattle.szg_build.specs.Text.{lines_text, flat_map_beside, sub_lines}
use Rattle.szg_build.specs.Shown.{form_of, subs_seen}
use Rattle.szg_build.specs.Writing.{Writing}
use Rattle.szg_build.proofs.writing.put_subs.Given as goal

-- the subtables so far are written
abbrev pub invariant-subs : goal.invariant-subs
invariant-subs g l =
    Writing {X = Unit {0}} (lines_text (flat_map_beside (sub_lines (form_of l.form) l.fn.dump.kind) (take l.s (subtable_ids_of l.fn.dump.material l.fn.dump.kind)) (take l.s (subs_seen l.fn.dump))))
    l.initial.text l.text g.W.Output l.initial.output l.output (Ok tt)
