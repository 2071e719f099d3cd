use Rattle.std.proofs.Common.{◌<◌, ◌^◌, length, map, take}
use Rattle.std.specs.List.{AllByRecursion}
use Rattle.szg_file.specs.Accepted.{AreNumbers}
use Rattle.szg_file.proofs.passing.wide_lists_fit.Given as goal

-- the lists so far fit
abbrev pub invariant-lists : goal.invariant-lists
invariant-lists l = AllByRecursion (λ list. (length list < 256 ^ 2) × AreNumbers 2 list) (map (λ list. list.items) (take l.list-index l.lists))
