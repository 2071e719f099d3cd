use Rattle.std.proofs.Common.{◌≡◌, ℕ, ap, ◌∙◌, arith, sym, subst, length, option_map, Some, Option, List, get_or, w8}
use Rattle.std.specs.Prelude.{ℤ}
use Rattle.std.proofs.lemmas.Int.{to_z-of_z}
use Rattle.std.proofs.lemmas.List.{length-map}
use Rattle.std.proofs.lemmas.Option.{slice_get-get_or}
use Rattle.std.specs.Option.{ok_or}
use Rattle.szg_file.specs.declared.fault.MapFault.TheVariants.{OutsideMap}
use Rattle.szg_file.specs.Held.{map_of}
use Rattle.szg_file.specs.Index.{Index, IsIndex, number_in}
use Rattle.szg_file.specs.Values.{item, list_number}
use Rattle.szg_file.proofs.Tables.TableFinds.{item-slice_get, map_at, answer_of}
use Rattle.szg_file.proofs.Tables.IndexLaws.{at_position, mapped_index, number_found}
use Rattle.szg_file.proofs.table_index.TableIndex.map_value.Goals as goal

pub bounds-flags-found : goal.bounds-flags-found
bounds-flags-found c =
    let lt = at_position c.args.part 0 _ c.in-Some-find.found.number c.in-Some-find.ensures.number_is in
    let many = c.flags.ensures.many in
    omega (arith, lt, many)

-- there is an item for the part among the maps
pub index-requires : goal.index-requires
index-requires c =
    let is_valid = subst (λ (x : Index). IsIndex x) c.self.view_is c.self.invariant.0 in
    let below = mapped_index c.args.self.now c.args.part c.in-Some-find.found.number is_valid c.requires.dtz c.in-Some-find.ensures.number_is in
    let shown = ap (λ (x : Index). length x.maps) c.self.view_is in
    let many = length-map c.self.inside.maps.items (option_map map_of) in
    let long = c.self.inside.maps.ok.0 in
    omega (arith, below, shown, many, long)

pub returns-clause-number : goal.returns-clause-number
returns-clause-number c =
    let now : Index = c.args.self.now in
    let n : ℕ = c.in-Some-find.found.number in
    let flags : ℕ = get_or c.flags.result.now n 0 in
    let class_is : list_number c.args.class ≡ Some c.in-Some.list = sym (c.in-Some.ensures.number ∙ ap (λ (z : ℤ). list_number z) (to_z-of_z w8 c.args.class c.ranges.class)) in
    let lt = at_position c.args.part 0 _ n c.in-Some-find.ensures.number_is in
    let many = c.flags.ensures.many in
    let flags_is : item now.flags n ≡ Some flags =
    subst (λ (l : List ℕ). item l n ≡ Some flags) c.flags.ensures.flags (item-slice_get c.flags.result.now n ∙ slice_get-get_or c.flags.result.now n 0 (omega (arith, lt, many))) in
    let is_valid = subst (λ (x : Index). IsIndex x) c.self.view_is c.self.invariant.0 in
    let below = mapped_index now c.args.part n is_valid c.requires.dtz c.in-Some-find.ensures.number_is in
    let shown = ap (λ (x : Index). length x.maps) c.self.view_is in
    let held = length-map c.self.inside.maps.items (option_map map_of) in
    let lists = option_map map_of c.index.result.now in
    let map_is : item now.maps c.args.part ≡ Some lists =
    subst (λ (x : Index). item x.maps c.args.part ≡ Some lists) c.self.view_is (map_at (option_map map_of) c.self.inside.maps.items c.args.part c.index.result.now (omega (arith, below, shown, held)) c.index.ensures) in
    let stated = number_found now c.args.part c.args.class c.args.v c.in-Some.list n flags lists class_is c.in-Some-find.ensures.number_is flags_is map_is in
    answer_of (number_in now c.args.part c.args.class c.args.v) _ OutsideMap c.ok_or.result
    (c.ok_or.ensures.value ∙ ap (λ (o : Option ℕ). ok_or o OutsideMap) (c.number_at-number.ensures ∙ sym stated))
