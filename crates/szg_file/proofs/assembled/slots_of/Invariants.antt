use Rattle.std.proofs.Common.{◌≡◌, ◌*◌, ◌≤◌, length, map, take}
use Rattle.std.specs.List.{AllByRecursion}
use Rattle.szg_file.specs.Accepted.{IsPart}
use Rattle.szg_file.specs.Contents.{slots_from, side_numbers}
use Rattle.szg_file.specs.Held.{part_of}
use Rattle.szg_file.proofs.assembled.slots_of.Given as goal

-- the slots of the parts so far, which pass their checks
abbrev pub invariant-parts : goal.invariant-parts
invariant-parts l = record {
  slots : l.list.items ≡ slots_from l.material (side_numbers l.material l.kind) 0 (map part_of (take l.n l.parts));
  pass : AllByRecursion (IsPart l.material l.kind) (map part_of (take l.n l.parts));
  few : length l.list.items ≤ 2 * l.n;
}
