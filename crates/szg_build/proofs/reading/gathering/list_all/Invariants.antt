use Rattle.std.proofs.Common.{◌≡◌, map, take}
use Rattle.szg_build.specs.Packed.{packed_values}
use Rattle.szg_build.proofs.reading.gathering.list_all.Given as goal

-- the lists so far
abbrev pub invariant-subs : goal.invariant-subs
invariant-subs l = map (λ list. list.items) l.lists.items ≡ map (packed_values l.kind) (take l.sub-index l.packed)
