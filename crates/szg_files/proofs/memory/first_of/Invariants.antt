use Rattle.std.proofs.Common.{◌≡◌, drop}
use Rattle.szg_files.specs.Memory.{found}
use Rattle.szg_files.proofs.memory.first_of.Given as goal

abbrev pub invariant-files : goal.invariant-files
invariant-files l = found l.files l.path ≡ found (drop l.file-index l.files) l.path
