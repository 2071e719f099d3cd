-- Examples of sizes: the subtables that the parts of a plan give, through the definitions of the layers below.
use Rattle.std.proofs.Common.{◌≡◌, ℕ, List, [], ◌∷◌, replicate, refl, ap, Some, None}
use Rattle.std.specs.Prelude.{map}
use Rattle.szg_values.specs.Material.{Sides}
use Rattle.szg_values.specs.declared.Man.TheVariants.{Pawn, Bishop, King}
use Rattle.szg_values.specs.declared.Kind.TheVariants.{Wdl, Dtz}
use Rattle.szg_count.specs.Sets.{sets_of, numbers_below}
use Rattle.szg_count.specs.Leads.{squares, diagonal, below_diagonal, lists_by, triples_from, triples, king_pairs, pawn_order, after, lead_pawn_sets}
use Rattle.szg_count.specs.Groups.{runs_of, counted, order_fault, groups_of, lead_sets, group_ways, factors_of, lead_ways, size_of}
use Rattle.szg_file.specs.Contents.{Part, Slot, slots, Contents, constant}
use Rattle.szg_file.specs.Values.{slotted, values_of}
use Rattle.szg_build.specs.declared.BuildFault.TheVariants as fault
use Rattle.szg_build.specs.Plan.{sizes_if_valid, fault_for, build_fault}
use Rattle.szg_build.specs.Built.{IsBuilt}
use Rattle.szg_build.proofs.Rows.{knvk, kqvk, knvk_plan, last_bytes}

abbrev kpvk : Sides
kpvk = record { first = King ∷ Pawn ∷ []; second = King ∷ [] }

abbrev kbbvk : Sides
kbbvk = record { first = King ∷ Bishop ∷ Bishop ∷ []; second = King ∷ [] }

abbrev kpvkp : Sides
kpvkp = record { first = King ∷ Pawn ∷ []; second = King ∷ Pawn ∷ [] }

abbrev part_with : List ℕ → List ℕ → Part
part_with order men = record { order = order; men = men }

sizes_by_parts : sizes_if_valid knvk Wdl knvk_plan.parts ≡ Some (31332 ∷ 31332 ∷ [])
unfolding sizes_if_valid order_fault groups_of runs_of size_of counted lead_sets group_ways factors_of lead_ways triples triples_from diagonal below_diagonal lists_by squares
sizes_by_parts = refl

one_side_of_distances : sizes_if_valid kqvk Dtz (part_with (0 ∷ []) (6 ∷ 5 ∷ 14 ∷ []) ∷ []) ≡ Some (31332 ∷ [])
unfolding sizes_if_valid order_fault groups_of runs_of size_of counted lead_sets group_ways factors_of lead_ways triples triples_from diagonal below_diagonal lists_by squares
one_side_of_distances = refl

four_parts : sizes_if_valid kpvk Dtz (replicate 4 (part_with (0 ∷ []) (1 ∷ 6 ∷ 14 ∷ []))) ≡ Some (23436 ∷ 23436 ∷ 23436 ∷ 23436 ∷ [])
unfolding sizes_if_valid order_fault groups_of runs_of size_of counted lead_sets group_ways factors_of lead_ways lead_pawn_sets pawn_order after lists_by squares sets_of numbers_below
four_parts = refl

two_kings_lead : sizes_if_valid kbbvk Wdl (part_with (0x10 ∷ []) (0x66 ∷ 0xEE ∷ 0x33 ∷ 0x33 ∷ []) ∷ []) ≡ Some (873642 ∷ 873642 ∷ [])
unfolding sizes_if_valid order_fault groups_of runs_of size_of counted lead_sets group_ways factors_of lead_ways king_pairs lists_by squares sets_of numbers_below
two_kings_lead = refl

two_order_bytes : sizes_if_valid kpvkp Wdl (replicate 4 (part_with (0 ∷ 1 ∷ []) (1 ∷ 9 ∷ 6 ∷ 14 ∷ []))) ≡ Some (1066524 ∷ 1066524 ∷ 1066524 ∷ 1066524 ∷ [])
unfolding sizes_if_valid order_fault groups_of runs_of size_of counted lead_sets group_ways factors_of lead_ways lead_pawn_sets pawn_order after lists_by squares sets_of numbers_below
two_order_bytes = refl

a_place_that_is_none : sizes_if_valid knvk Wdl (part_with (1 ∷ []) (0x66 ∷ 0x22 ∷ 0xEE ∷ []) ∷ []) ≡ None
unfolding sizes_if_valid order_fault groups_of runs_of
a_place_that_is_none = refl

men_of_another_name : sizes_if_valid knvk Wdl (part_with (0 ∷ []) (0x66 ∷ 0x33 ∷ 0xEE ∷ []) ∷ []) ≡ None
unfolding sizes_if_valid order_fault groups_of runs_of
men_of_another_name = refl

one_order_byte_too_few : sizes_if_valid kpvkp Wdl (replicate 4 (part_with (0 ∷ []) (1 ∷ 9 ∷ 6 ∷ 14 ∷ []))) ≡ None
unfolding sizes_if_valid order_fault groups_of runs_of
one_order_byte_too_few = refl

no_parts : sizes_if_valid knvk Wdl [] ≡ None
unfolding sizes_if_valid
no_parts = refl

-- ---- a built table: KNvK, all draws

abbrev draws : List (List ℕ)
draws = replicate 31332 2 ∷ replicate 31332 2 ∷ []

-- parts that are not valid are refused before anything else
order_before_bits : build_fault (record knvk_plan { parts = []; block_bits = 4 }) draws ≡ Some fault.Order
unfolding build_fault fault_for sizes_if_valid
order_before_bits = refl

abbrev knvk_table : Contents
knvk_table = record {
  material = knvk;
  kind = Wdl;
  byte4 = 1;
  parts = knvk_plan.parts;
  subtables = constant 0x80 2 ∷ constant 0x80 2 ∷ [];
  maps = [];
  last = last_bytes;
}

abbrev knvk_slots : List Slot
knvk_slots = record { part = 0; side = 0; size = 31332 } ∷ record { part = 0; side = 1; size = 31332 } ∷ []

slots_of_knvk : slots knvk Wdl knvk_plan.parts ≡ knvk_slots
unfolding size_of counted groups_of runs_of lead_sets group_ways factors_of lead_ways triples triples_from diagonal below_diagonal lists_by squares
slots_of_knvk = refl

draws_are_built : IsBuilt knvk_plan draws knvk_table
draws_are_built = record {
  material = refl;
  kind = refl;
  parts = refl;
  flags = refl;
  bytes = refl;
  maps = refl;
  last = refl;
  packed = (tt, (tt, tt));
  values = ap (λ (found : List Slot). map (values_of Wdl) (slotted found knvk_table.subtables)) slots_of_knvk;
}
