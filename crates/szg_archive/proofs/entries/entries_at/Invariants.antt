use Rattle.std.proofs.Common.{map, take}
use Rattle.szg_archive.specs.Verdicts.{AreListed, listed_of}
use Rattle.szg_archive.proofs.entries.entries_at.Given as goal

abbrev pub invariant-paths : goal.invariant-paths
invariant-paths g l = AreListed (map (λ path. path.now) (take l.path-index l.paths)) (map listed_of l.entries.items)
