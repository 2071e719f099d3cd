use Rattle.std.proofs.Common.{◌≡◌, ◌+◌, ◌*◌, ◌≤◌, length, map, Ok}
use Rattle.std.specs.List.{range_with_len}
use Rattle.szg_file.specs.Contents.{slots_from, side_numbers}
use Rattle.szg_file.specs.File.{each, part_field}
use Rattle.szg_file.specs.Held.{part_of}
use Rattle.szg_file.specs.Reading.{Reading}
use Rattle.szg_file.specs.Grown.{HasCounted, parts_lengths}
use Rattle.szg_file.proofs.reading.parts.read_parts.Given as goal

-- the parts so far, and their slots
abbrev pub invariant-parts : goal.invariant-parts
invariant-parts g l =
    Reading (each (λ _. part_field l.material l.kind) (range_with_len 0 l.part)) (λ (_ : Unit {0}). map part_of l.parts.bytes.items) l.initial.state l.state
    g.R.Input l.initial.input l.input (Ok tt)
    × (l.parts.slots.items ≡ slots_from l.material (side_numbers l.material l.kind) 0 (map part_of l.parts.bytes.items))
    × (length l.parts.bytes.items ≡ l.part)
    × (length l.parts.slots.items ≤ 2 * l.part)
    × (l.state.place ≤ l.initial.state.place + 8 * l.part)
    × (l.state.growth + 2 * l.initial.state.place ≤ l.initial.state.growth + 2 * l.state.place + l.part)
    × HasCounted l.initial.state l.state 0 (length l.parts.bytes.items + parts_lengths l.parts.bytes.items)
