use Rattle.std.proofs.Common.{◌∙◌, ℕ, List, length, refl, sym, ap, subst}
use Rattle.std.specs.Prelude.{Ok, ◌%◌, slice_index}
use Rattle.szg_values.specs.Material.{Sides, IsMaterial}
use Rattle.szg_values.specs.Placement.{Board, PlacedMan, placement_fault}
use Rattle.szg_count.specs.Laws.{IsIn}
use Rattle.szg_place.proofs.Indexes.Indexed.{refused_is, refused_not, answered_is, kept_in, regrouped}
use Rattle.szg_place.proofs.Placements.Placed.{mover_is, at_of, part_at, ordered_at, below_at, inside_at, manned_at, men_placed, placed_at, board_same, refused_irregular, refused_unstated, refused_none, none_holds, stated_same}
use Rattle.szg_place.proofs.unranking.placement.Goals as goal

pub groups-grouped-requires-clause-part : goal.groups-grouped-requires-clause-part
groups-grouped-requires-clause-part c = (kept_in c.material_info-material.ensures.is_valid c.material_info-material.ensures.named c.requires.there).has_part

pub groups-grouped-requires-clause-side : goal.groups-grouped-requires-clause-side
groups-grouped-requires-clause-side c = (kept_in c.material_info-material.ensures.is_valid c.material_info-material.ensures.named c.requires.there).has_side

pub returns-then-not-grouped-clause-refused : goal.returns-then-not-grouped-clause-refused
returns-then-not-grouped-clause-refused c =
    let a = at_of c.args.spot.part c.args.spot.side c.args.spot.index c.material_info-material.ensures.is_valid c.material_info-material.ensures.material
    (subst (λ (m : Sides). IsMaterial m) (sym c.material_info-material.ensures.material) c.material_info-material.ensures.named) c.requires.there c.requires.below c.groups-grouped.ensures.nibbles in
    let own = regrouped c.material_info-material.ensures.material c.groups-grouped.ensures in
    refused_is _ _ _ (refused_irregular a own.regular c.if-not-grouped.true)

pub returns-then-not-grouped-clause-placed : goal.returns-then-not-grouped-clause-placed
returns-then-not-grouped-clause-placed c =
    let a = at_of c.args.spot.part c.args.spot.side c.args.spot.index c.material_info-material.ensures.is_valid c.material_info-material.ensures.material
    (subst (λ (m : Sides). IsMaterial m) (sym c.material_info-material.ensures.material) c.material_info-material.ensures.named) c.requires.there c.requires.below c.groups-grouped.ensures.nibbles in
    let own = regrouped c.material_info-material.ensures.material c.groups-grouped.ensures in
    refused_not _ _ (refused_irregular a own.regular c.if-not-grouped.true)

pub returns-then-has_no_placements-clause-refused : goal.returns-then-has_no_placements-clause-refused
returns-then-has_no_placements-clause-refused c =
    let a = at_of c.args.spot.part c.args.spot.side c.args.spot.index c.material_info-material.ensures.is_valid c.material_info-material.ensures.material
    (subst (λ (m : Sides). IsMaterial m) (sym c.material_info-material.ensures.material) c.material_info-material.ensures.named) c.requires.there c.requires.below c.groups-grouped.ensures.nibbles in
    let own = regrouped c.material_info-material.ensures.material c.groups-grouped.ensures in
    refused_is _ _ _ (refused_unstated a own.regular c.if-not-grouped.false c.has_no_placements.ensures c.kind-kind.ensures (c.stored_side-stored.ensures ∙ ap (λ (l : List ℕ). slice_index l c.args.spot.part % 2) c.flags.ensures.flags) c.if-has_no_placements.true)

pub returns-then-has_no_placements-clause-placed : goal.returns-then-has_no_placements-clause-placed
returns-then-has_no_placements-clause-placed c =
    let a = at_of c.args.spot.part c.args.spot.side c.args.spot.index c.material_info-material.ensures.is_valid c.material_info-material.ensures.material
    (subst (λ (m : Sides). IsMaterial m) (sym c.material_info-material.ensures.material) c.material_info-material.ensures.named) c.requires.there c.requires.below c.groups-grouped.ensures.nibbles in
    let own = regrouped c.material_info-material.ensures.material c.groups-grouped.ensures in
    refused_not _ _ (refused_unstated a own.regular c.if-not-grouped.false c.has_no_placements.ensures c.kind-kind.ensures (c.stored_side-stored.ensures ∙ ap (λ (l : List ℕ). slice_index l c.args.spot.part % 2) c.flags.ensures.flags) c.if-has_no_placements.true)

pub squares_at-squares-requires : goal.squares_at-squares-requires
squares_at-squares-requires c =
    let a = at_of c.args.spot.part c.args.spot.side c.args.spot.index c.material_info-material.ensures.is_valid c.material_info-material.ensures.material
    (subst (λ (m : Sides). IsMaterial m) (sym c.material_info-material.ensures.material) c.material_info-material.ensures.named) c.requires.there c.requires.below c.groups-grouped.ensures.nibbles in
    let own = regrouped c.material_info-material.ensures.material c.groups-grouped.ensures in
    (part_at a, (ordered_at a, (own.groups, (below_at a, (refl, (manned_at a).few)))))

pub men_on_squares-men-requires-clause-same : goal.men_on_squares-men-requires-clause-same
men_on_squares-men-requires-clause-same c =
    let a = at_of c.args.spot.part c.args.spot.side c.args.spot.index c.material_info-material.ensures.is_valid c.material_info-material.ensures.material
    (subst (λ (m : Sides). IsMaterial m) (sym c.material_info-material.ensures.material) c.material_info-material.ensures.named) c.requires.there c.requires.below c.groups-grouped.ensures.nibbles in
    let own = regrouped c.material_info-material.ensures.material c.groups-grouped.ensures in
    ap length (c.as_slice-2.ensures.value ∙ c.squares_at-squares.ensures) ∙ (manned_at a).same ∙ ap length (sym c.as_slice.ensures.value)

pub men_on_squares-men-requires-clause-inside : goal.men_on_squares-men-requires-clause-inside
men_on_squares-men-requires-clause-inside c =
    let a = at_of c.args.spot.part c.args.spot.side c.args.spot.index c.material_info-material.ensures.is_valid c.material_info-material.ensures.material
    (subst (λ (m : Sides). IsMaterial m) (sym c.material_info-material.ensures.material) c.material_info-material.ensures.named) c.requires.there c.requires.below c.groups-grouped.ensures.nibbles in
    let own = regrouped c.material_info-material.ensures.material c.groups-grouped.ensures in
    let none = refused_none a own.regular c.if-not-grouped.false c.has_no_placements.ensures c.kind-kind.ensures (c.stored_side-stored.ensures ∙ ap (λ (l : List ℕ). slice_index l c.args.spot.part % 2) c.flags.ensures.flags) c.if-has_no_placements.false in
    λ s i. inside_at a none s (subst (λ (l : List PlacedMan). IsIn s l) (men_placed a c.as_slice.ensures.value (c.as_slice-2.ensures.value ∙ c.squares_at-squares.ensures)) i)

pub unreachable-requires : goal.unreachable-requires
unreachable-requires c =
    let a = at_of c.args.spot.part c.args.spot.side c.args.spot.index c.material_info-material.ensures.is_valid c.material_info-material.ensures.material
    (subst (λ (m : Sides). IsMaterial m) (sym c.material_info-material.ensures.material) c.material_info-material.ensures.named) c.requires.there c.requires.below c.groups-grouped.ensures.nibbles in
    let own = regrouped c.material_info-material.ensures.material c.groups-grouped.ensures in
    let none = refused_none a own.regular c.if-not-grouped.false c.has_no_placements.ensures c.kind-kind.ensures (c.stored_side-stored.ensures ∙ ap (λ (l : List ℕ). slice_index l c.args.spot.part % 2) c.flags.ensures.flags) c.if-has_no_placements.false in
    c.in_default.not-Ok _ (c.new.ensures.accepted (none_holds (placement_fault c.as_slice-3.result.now) (placed_at a none c.as_slice-3.ensures.value (c.men_on_squares-men.ensures ∙ men_placed a c.as_slice.ensures.value (c.as_slice-2.ensures.value ∙ c.squares_at-squares.ensures)))))

pub returns-clause-refused : goal.returns-clause-refused
returns-clause-refused c =
    let a = at_of c.args.spot.part c.args.spot.side c.args.spot.index c.material_info-material.ensures.is_valid c.material_info-material.ensures.material
    (subst (λ (m : Sides). IsMaterial m) (sym c.material_info-material.ensures.material) c.material_info-material.ensures.named) c.requires.there c.requires.below c.groups-grouped.ensures.nibbles in
    let own = regrouped c.material_info-material.ensures.material c.groups-grouped.ensures in
    answered_is _ _ (refused_none a own.regular c.if-not-grouped.false c.has_no_placements.ensures c.kind-kind.ensures (c.stored_side-stored.ensures ∙ ap (λ (l : List ℕ). slice_index l c.args.spot.part % 2) c.flags.ensures.flags) c.if-has_no_placements.false)

pub returns-clause-placed : goal.returns-clause-placed
returns-clause-placed c =
    let a = at_of c.args.spot.part c.args.spot.side c.args.spot.index c.material_info-material.ensures.is_valid c.material_info-material.ensures.material
    (subst (λ (m : Sides). IsMaterial m) (sym c.material_info-material.ensures.material) c.material_info-material.ensures.named) c.requires.there c.requires.below c.groups-grouped.ensures.nibbles in
    let own = regrouped c.material_info-material.ensures.material c.groups-grouped.ensures in
    let none = refused_none a own.regular c.if-not-grouped.false c.has_no_placements.ensures c.kind-kind.ensures (c.stored_side-stored.ensures ∙ ap (λ (l : List ℕ). slice_index l c.args.spot.part % 2) c.flags.ensures.flags) c.if-has_no_placements.false in
    let made = c.new.ensures.accepted (none_holds (placement_fault c.as_slice-3.result.now) (placed_at a none c.as_slice-3.ensures.value (c.men_on_squares-men.ensures ∙ men_placed a c.as_slice.ensures.value (c.as_slice-2.ensures.value ∙ c.squares_at-squares.ensures)))) in
    let mover = mover_is c.args.index.now c.material_info-material.result.now c.args.spot.part c.args.spot.side c.kind-kind.result c.stored_side-stored.result c.mover_at-mover.result c.mover_at-mover.ensures c.kind-kind.ensures c.material_info-material.ensures.material (c.stored_side-stored.ensures ∙ ap (λ (l : List ℕ). slice_index l c.args.spot.part % 2) c.flags.ensures.flags) in
    λ _. ap (λ (b : Board). Ok b) (stated_same c.new.result c.in-Ok.placement _ c.in-Ok.is made ∙ board_same a c.as_slice-3.ensures.value (c.men_on_squares-men.ensures ∙ men_placed a c.as_slice.ensures.value (c.as_slice-2.ensures.value ∙ c.squares_at-squares.ensures)) mover)
