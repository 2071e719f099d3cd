use Rattle.std.proofs.Common.{◌≡◌, None, map, option_map, take}
use Rattle.szg_sums.specs.Names.{best, name_of}
use Rattle.szg_sums.proofs.lists.longest.Given as goal

abbrev pub invariant-names : goal.invariant-names
invariant-names l = option_map (λ one. name_of one.now) l.found ≡ best l.path None (map name_of (take l.one-index l.listed))
