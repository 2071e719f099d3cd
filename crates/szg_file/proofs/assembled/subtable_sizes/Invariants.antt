use Rattle.std.proofs.Common.{◌≡◌, ◌<◌, ◌^◌, map, take}
use Rattle.std.specs.List.{AllByRecursion}
use Rattle.szg_file.proofs.assembled.subtable_sizes.Given as goal

-- the sizes of the slots so far
abbrev pub invariant-loop-slot : goal.invariant-loop-slot
invariant-loop-slot l = record {
  sizes : l.sizes.items ≡ map (λ slot. slot.size) (take l.slot-index l.slot-items);
  fit : AllByRecursion (λ size. size < 2 ^ 33) l.sizes.items;
}
