use Rattle.std.proofs.Common.{◌≡◌, ◌++◌, flat_map, string_bytes, take}
use Rattle.szg_results.specs.Lines.{head_lines, move_line}
use Rattle.szg_results.proofs.lines.text_of.Given as goal

-- the lines of the moves so far
abbrev pub invariant-moves : goal.invariant-moves
invariant-moves l = string_bytes l.text ≡ head_lines l.is_known l.answer.distance ++ flat_map (move_line l.position l.is_known) (take l.r-index l.r-items)
