use Rattle.std.proofs.Common.{◌≡◌, ℕ, ◌-◌, ◌≤◌, List, ◌++◌, length, drop, Ok}
use Rattle.szg_build.specs.Shown.{form_of}
use Rattle.szg_build.specs.Text.{lines_text, value_lines}
use Rattle.szg_build.specs.Writing.{Writing}
use Rattle.szg_build.proofs.writing.put_list.Given as goal

-- the lines of the runs so far are written; with those of the remaining values they are the lines of the list
abbrev pub invariant-runs : goal.invariant-runs
invariant-runs g l =
    (l.from ≤ length l.values)
    × ((text : List ℕ)
    × Writing {X = Unit {0}} text l.initial.text l.text g.W.Output l.initial.output l.output (Ok tt)
    × (text ++ lines_text (value_lines (form_of l.form) (drop l.from l.values)) ≡ lines_text (value_lines (form_of l.form) l.values)))

abbrev pub decreases-runs : goal.decreases-runs
decreases-runs g l = length l.values - l.from
