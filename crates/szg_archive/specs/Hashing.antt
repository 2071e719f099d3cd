-- What a hashed input wraps.
use Rattle.szg_io.specs.declared.device.Input as input
use Rattle.szg_sums.specs.declared.hasher.Hasher as hasher
use Rattle.szg_archive.specs.declared.hashed.Hashed.{Hashed}

abbrev pub input_of : {F H : Type 0} {device : input.Ghosts F} {hashing : hasher.Ghosts H} → Hashed F H device hashing → F
input_of hashed = hashed.input
