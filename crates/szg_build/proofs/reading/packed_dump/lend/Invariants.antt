use Rattle.std.proofs.Common.{◌≡◌, map, take}
use Rattle.szg_build.proofs.reading.packed_dump.lend.Given as goal

-- the lists so far
abbrev pub invariant-lists : goal.invariant-lists
invariant-lists l = map (λ slice. slice.now) l.slices.items ≡ map (λ list. list.items) (take l.list-index l.lists)
