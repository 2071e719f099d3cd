use Rattle.std.proofs.Common.{map, take}
use Rattle.std.specs.List.{AllByRecursion}
use Rattle.szg_file.specs.Held.{part_of}
use Rattle.szg_build.specs.Tabling.{IsOfBytes}
use Rattle.szg_build.proofs.table.parts_fit.Given as goal

-- the parts so far
abbrev pub invariant-parts : goal.invariant-parts
invariant-parts l = AllByRecursion IsOfBytes (map part_of (take l.part-index l.parts))
