use Rattle.std.proofs.Common.{map, take}
use Rattle.szg_file.specs.Accepted.{SideBySide}
use Rattle.szg_file.specs.Held.{part_of}
use Rattle.szg_file.specs.Index.{AreSlotGroups}
use Rattle.szg_file.proofs.table_index.groups_of_slots.Given as goal

abbrev pub invariant-loop-slot : goal.invariant-loop-slot
invariant-loop-slot l = SideBySide (AreSlotGroups l.material (map part_of l.parts.bytes.items)) (take l.slot-index l.parts.slots.items) l.groups.items
