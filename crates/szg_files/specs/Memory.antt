-- Files in memory, by path.
use Rattle.std.specs.Prelude.{ℕ, List, [], ◌∷◌, Option, Some, None, if◌then◌else◌}
use Rattle.std.specs.Str.{bytes_eq}
use Rattle.szg_files.specs.declared.memory.MemoryFile.{MemoryFile}

-- the bytes of the first file with this path
abbrev pub found : List MemoryFile → List ℕ → Option (List ℕ)
found [] path = None
found (file ∷ files) path = if bytes_eq file.path.now path then Some file.bytes.now else found files path
