use Rattle.std.proofs.Common.{◌+◌, ◌-◌, ◌≤◌, length, map, ◌++◌}
use Rattle.std.specs.List.{range_with_len}
use Rattle.szg_file.specs.Held.{part_of}
use Rattle.szg_build.specs.Grammar.{each, part_line}
use Rattle.szg_build.specs.Held.{held_of}
use Rattle.szg_build.proofs.Readers.GoingLaws.{GoesOn, mapped}
use Rattle.szg_build.proofs.reading.read_parts.Given as goal

-- the parts so far were read, and the others are left
abbrev pub invariant-parts : goal.invariant-parts
invariant-parts g l =
    GoesOn (each part_line (range_with_len 0 l.count)) (mapped (λ xs. map part_of l.parts.items ++ xs) (each part_line (range_with_len l.number-counter (l.count - l.number-counter)))) l.fn.incoming l.incoming g.R.Input l.fn.input l.input
    × (length (held_of l.incoming) ≤ l.following + (l.count - l.number-counter))
