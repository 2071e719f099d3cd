-- A colour's men, kind by kind in name order.
use Rattle.std.proofs.Common.{◌≡◌, ℕ, zero, suc, ◌+◌, ◌<◌, ◌≤◌, List, length, get_or, take, refl, arith, length-append, replicate, ap, sym, ◌∙◌, [], ◌++◌}
use Rattle.std.specs.Prelude.{true, false, Option, Some, IsNone, None, flat_map, nat_le, ◌==◌, ◌&&◌}
use Rattle.szg_values.specs.Material.{is_count, may_be_first}
use Rattle.std.proofs.lemmas.List.{take_more, flat_map_more}
use Rattle.std.proofs.Math.ListN.{length-replicate}
use Rattle.std.proofs.lemmas.Bool.{and_parts, leb-true}
use Rattle.szg_values.specs.Men.{name_order}
use Rattle.szg_values.specs.Placement.{PlacedMan, number_of, has_men, placement_fault, side_of, material_of}
use Rattle.szg_values.proofs.MaterialOf.{all_counted, all_kinds, pass}
use Rattle.szg_values.specs.declared.Man.{Man}
use Rattle.szg_values.specs.declared.Man.TheVariants.{King}
use Rattle.szg_values.specs.declared.Color.{Color}
use Rattle.szg_values.specs.declared.Color.TheVariants.{White, Black}

color_counted : (color : Color) (placed_men : List PlacedMan) → all_kinds (λ kind. number_of kind color placed_men) ≤ length placed_men
color_counted White placed_men = omega (arith, all_counted placed_men)
color_counted Black placed_men = omega (arith, all_counted placed_men)

-- there are at most six men
pub placed_few : (placed_men : List PlacedMan) → placement_fault placed_men ≡ None → length placed_men ≤ 6
unfolding placement_fault
placed_few placed_men h =
    let men = pass (has_men placed_men) _ _ h in
    let counted = (and_parts (is_count (length placed_men)) (number_of King White placed_men == 1) (and_parts (is_count (length placed_men) && number_of King White placed_men == 1) (number_of King Black placed_men == 1) men).0).0 in
    leb-true (length placed_men) 6 (and_parts (nat_le 3 (length placed_men)) (nat_le (length placed_men) 6) counted).1

-- the men of the first i kinds
abbrev pub side_so_far : Color → List PlacedMan → ℕ → List Man
side_so_far color placed_men i = flat_map (λ kind. replicate (number_of kind color placed_men) kind) (take i name_order)

-- these men and the men of the next kind are at most all men
pub side_fits : (color : Color) (placed_men : List PlacedMan) (i : ℕ) (d : Man) → i < 6 →
    length (side_so_far color placed_men i) + number_of (get_or name_order i d) color placed_men ≤ length placed_men
side_fits color placed_men zero d h = omega (arith, color_counted color placed_men)
side_fits color placed_men (suc zero) d h = simp (length-append, length-replicate) (omega (arith, color_counted color placed_men))
side_fits color placed_men (suc (suc zero)) d h = simp (length-append, length-replicate) (omega (arith, color_counted color placed_men))
side_fits color placed_men (suc (suc (suc zero))) d h = simp (length-append, length-replicate) (omega (arith, color_counted color placed_men))
side_fits color placed_men (suc (suc (suc (suc zero)))) d h = simp (length-append, length-replicate) (omega (arith, color_counted color placed_men))
side_fits color placed_men (suc (suc (suc (suc (suc zero))))) d h = simp (length-append, length-replicate) (omega (arith, color_counted color placed_men))
side_fits color placed_men (suc (suc (suc (suc (suc (suc i)))))) d h = absurd (omega arith)

pub side_more : (color : Color) (placed_men : List PlacedMan) (i : ℕ) (d : Man) → i < 6 →
    side_so_far color placed_men (i + 1) ≡ side_so_far color placed_men i ++ replicate (number_of (get_or name_order i d) color placed_men) (get_or name_order i d)
side_more color placed_men i d h =
    let f : Man → List Man = λ kind. replicate (number_of kind color placed_men) kind in
    ap (flat_map f) (take_more name_order i d h) ∙ sym (flat_map_more f [] (take i name_order) (get_or name_order i d))

none_is : {X : Type 0} (o : Option X) → IsNone o → o ≡ None
none_is None h = refl
none_is (Some x) h = cc

-- `IsNone` as an equation
pub no_fault : (placed_men : List PlacedMan) → IsNone (placement_fault placed_men) → placement_fault placed_men ≡ None
no_fault placed_men h = none_is (placement_fault placed_men) h

pub white_first : (placed_men : List PlacedMan) → may_be_first (side_of White placed_men) (side_of Black placed_men) ≡ true → material_of placed_men ≡ record { first = side_of White placed_men; second = side_of Black placed_men }
white_first placed_men e = rw e refl

pub black_first : (placed_men : List PlacedMan) → may_be_first (side_of White placed_men) (side_of Black placed_men) ≡ false → material_of placed_men ≡ record { first = side_of Black placed_men; second = side_of White placed_men }
black_first placed_men e = rw e refl
