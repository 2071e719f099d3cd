-- The format of a table file in three stages.
use Rattle.std.specs.Prelude.{ℕ, List, Option}
use Rattle.szg_values.specs.declared.Kind.{Kind}
use Rattle.szg_values.specs.Material.{Sides}
use Rattle.szg_file.specs.Format.{Format, means, field, ◌>>=◌, ◌>>◌}
use Rattle.szg_file.specs.Contents as held
use Rattle.szg_file.specs.File.{Begun, each, part_field, filled_to, head_field, maps_field, sparse_field, lengths_field}
use Rattle.szg_file.specs.Reading.{start_field}

-- the contents before the sparse indexes: byte 4, the parts, the subtables with their headers alone, and the maps
pub record Opened : Type 0 where
  pub byte4 : ℕ
  pub parts : List held.Part
  pub heads : List held.Subtable
  pub maps : List (Option held.Map)

-- magic and byte 4, the parts, padding, the headers, the maps
abbrev pub opening_field : Sides → Kind → Format Opened
opening_field material kind = do
  byte ← start_field material kind
  parts ← each (λ _. part_field material kind) (held.part_numbers material)
  filled_to 2
  heads ← each head_field (held.slots material kind parts)
  found ← maps_field kind heads
  means (record { byte4 = byte; parts = parts; heads = heads; maps = found })

-- the sparse indexes, the block lengths
abbrev pub measured_field : List Begun → Format (List Begun)
measured_field list = do
  indexed ← each sparse_field list
  each lengths_field indexed

-- padding and the last sixteen bytes
abbrev pub ending_field : Format (List ℕ)
ending_field = filled_to 64 >> field 16 means
