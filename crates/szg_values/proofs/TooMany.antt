-- Too many men for a placement.
use Rattle.std.proofs.Common.{◌≡◌, ◌<◌, true, false, List, length, map, refl, arith}
use Rattle.std.proofs.lemmas.Bool.{le-leb, lt-leb}
use Rattle.std.proofs.lemmas.List.{length-map}
use Rattle.std.specs.Prelude.{Some, nat_le}
use Rattle.szg_values.specs.Placement.{PlacedMan, placement_fault}
use Rattle.szg_values.specs.declared.PlacementFault.TheVariants as fault

-- more than six men are not a placement
too_many : (placed_men : List PlacedMan) → 6 < length placed_men → placement_fault placed_men ≡ Some fault.Men
unfolding placement_fault
too_many placed_men more =
    let low : nat_le 3 (length placed_men) ≡ true = le-leb 3 (length placed_men) (omega arith) in
    let high : nat_le (length placed_men) 6 ≡ false = lt-leb (length placed_men) 6 more in
    rw (low, high) refl

-- the same for a list that is mapped to men
pub too_many_mapped : {X : Type 0} (man_of : X → PlacedMan) (men : List X) → 6 < length men → placement_fault (map man_of men) ≡ Some fault.Men
too_many_mapped man_of men more = too_many (map man_of men) (let n = length-map men man_of in omega (arith, n))
