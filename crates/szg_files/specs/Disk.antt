-- The number of paths of a disk that could not be opened.
use Rattle.std.specs.Prelude.{ℕ}
use Rattle.szg_files.specs.declared.disk.Disk.{Disk}

abbrev pub failures_of : {R F D P : Type 0} → Disk R F D P → ℕ
failures_of disk = disk.failures
