use Rattle.std.proofs.Common.{rules, ◌≡◌, Option, None, Some, sym}
use Rattle.std.specs.Prelude.{IsNone, IsSome}
use Rattle.szg_values.specs.Placement.{Board, placement_fault}
use Rattle.szg_values.specs.declared.PlacementFault.{PlacementFault}
use Rattle.szg_chess.proofs.PlacementMen.{no_men_fault}
use Rattle.szg_chess.proofs.positions.standing_fault.Goals as goal

unrefused : (fault : Option PlacementFault) (r : Option Board) (board : Board) → (IsSome fault → r ≡ None) → r ≡ Some board → IsNone fault
unrefused None r board refused is = search rules
unrefused (Some why) r board refused is = let none = refused (search rules) in cc

pub returns-in-Some : goal.returns-in-Some
returns-in-Some c = sym (no_men_fault c.args.men.now (unrefused (placement_fault c.args.men.now) c.of_standing.result c.in-Some.field-0 c.of_standing.ensures.refused c.in-Some.is))
