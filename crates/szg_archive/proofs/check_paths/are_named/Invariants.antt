use Rattle.std.proofs.Common.{◌≡◌, map, drop}
use Rattle.szg_archive.specs.Requested.{all_named}
use Rattle.szg_archive.proofs.check_paths.are_named.Given as goal

abbrev pub invariant-paths : goal.invariant-paths
invariant-paths l = all_named (map (λ path. path.now) l.paths) ≡ all_named (map (λ path. path.now) (drop l.path-index l.paths))
