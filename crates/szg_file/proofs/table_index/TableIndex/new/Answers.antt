use Rattle.std.proofs.Common.{map, sym, subst}
use Rattle.szg_values.specs.Material.{Sides}
use Rattle.szg_file.specs.Accepted.{SideBySide, IsPart}
use Rattle.szg_file.specs.Contents.{part_numbers}
use Rattle.szg_file.specs.Held.{part_of}
use Rattle.szg_file.proofs.table_index.TableIndex.new.Goals as goal

pub groups_of_slots-groups-requires-clause-valid : goal.groups_of_slots-groups-requires-clause-valid
groups_of_slots-groups-requires-clause-valid c =
    subst (λ (m : Sides). SideBySide (λ _. IsPart m c.args.kind) (part_numbers m) (map part_of c.args.parts.bytes.items)) (sym c.of-info.ensures.same) c.requires.is_valid.parts_are_valid
