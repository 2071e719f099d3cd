use Rattle.std.proofs.Common.{◌≡◌, Option, None, Some, refl}
use Rattle.std.specs.Prelude.{IsNone}
use Rattle.szg_values.proofs.SideOf.{placed_few}
use Rattle.szg_values.specs.Placement.{placement_fault}
use Rattle.szg_values.specs.declared.PlacementFault.{PlacementFault}
use Rattle.szg_c_positions.proofs.men.write_placement.Goals as goal

none : (o : Option PlacementFault) → IsNone o → o ≡ None
none None h = refl
none (Some why) h = cc

pub coded_men-coded-requires : goal.coded_men-coded-requires
coded_men-coded-requires c = placed_few c.men-placed.result.now (none (placement_fault c.men-placed.result.now) c.men-placed.ensures.no_fault)
