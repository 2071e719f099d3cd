use Rattle.std.proofs.Common.{◌≡◌, map, take}
use Rattle.szg_archive.specs.Verdicts.{file_at, listed_of}
use Rattle.szg_archive.proofs.entries.files_at.Given as goal

abbrev pub invariant-paths : goal.invariant-paths
invariant-paths l = map listed_of l.entries.items ≡ map file_at (map (λ path. path.now) (take l.path-index l.paths))
