-- The men of a placement are those of a position.
use Rattle.std.proofs.Common.{◌≡◌, List, length, refl, Bool, true, false, arith, Some, None}
use Rattle.std.specs.Prelude.{◌&&◌, ◌==◌, not, nat_le, if◌then◌else◌, IsNone}
use Rattle.std.proofs.lemmas.Bool.{and_parts, leb-true, le-leb}
use Rattle.szg_values.specs.Material.{is_count}
use Rattle.szg_values.specs.Placement.{PlacedMan, has_men, number_of, has_distinct_squares, has_pawns_on_inner_ranks, placement_fault}
use Rattle.szg_values.specs.declared.Man.TheVariants.{King}
use Rattle.szg_values.specs.declared.Color.TheVariants.{White, Black}
use Rattle.szg_values.specs.declared.PlacementFault.TheVariants as placement
use Rattle.szg_chess.specs.Position.{men_fault}

parts_of : (a b c : Bool) → IsNone (if not a then Some placement.Men else if not b then Some placement.SameSquare else if not c then Some placement.PawnRank else None) → (a ≡ true) × (b ≡ true) × (c ≡ true)
parts_of true true true h = (refl, refl, refl)
parts_of true true false h = cc
parts_of true false c h = cc
parts_of false b c h = cc

placement_parts : (men : List PlacedMan) → IsNone (placement_fault men) → (has_men men ≡ true) × (has_distinct_squares men ≡ true) × (has_pawns_on_inner_ranks men ≡ true)
unfolding placement_fault
placement_parts men h = parts_of (has_men men) (has_distinct_squares men) (has_pawns_on_inner_ranks men) h

pub no_men_fault : (men : List PlacedMan) → IsNone (placement_fault men) → men_fault men ≡ None
unfolding men_fault
no_men_fault men h =
    let parts = placement_parts men h in
    let counted = and_parts (is_count (length men) && number_of King White men == 1) (number_of King Black men == 1) parts.0 in
    let white = and_parts (is_count (length men)) (number_of King White men == 1) counted.0 in
    let bounds = and_parts (nat_le 3 (length men)) (nat_le (length men) 6) white.0 in
    let many = leb-true 3 (length men) bounds.0 in
    rw (le-leb 2 (length men) (omega (arith, many)), bounds.1, white.1, counted.1, parts.1, parts.2) refl
