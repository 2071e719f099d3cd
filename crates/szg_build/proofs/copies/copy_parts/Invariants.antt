use Rattle.std.proofs.Common.{◌≡◌, map, take}
use Rattle.szg_file.specs.Held.{part_of}
use Rattle.szg_build.proofs.copies.copy_parts.Given as goal

-- the items so far
abbrev pub invariant-parts : goal.invariant-parts
invariant-parts l = map part_of l.copies.items ≡ map part_of (take l.part-index l.parts)
