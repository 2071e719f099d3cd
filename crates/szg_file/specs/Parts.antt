-- Definitions for the contracts of the readers of parts.
use Rattle.std.specs.Prelude.{ℕ, List}
use Rattle.szg_file.specs.Contents.{Part}

abbrev pub part_with : List ℕ → List ℕ → Part
part_with order men = record { order = order; men = men }
