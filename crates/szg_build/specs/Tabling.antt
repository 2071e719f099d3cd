-- What each of the builder's last steps, from lists of values to a table, establishes for the next.
use Rattle.std.specs.Prelude.{◌≡◌, ℕ, ◌^◌, ◌<◌, ◌≤◌, List, [], ◌∷◌, length, map, true, Option, Some, None, IfSome}
use Rattle.std.specs.List.{AllByRecursion}
use Rattle.szg_values.specs.declared.Kind.{Kind}
use Rattle.szg_file.specs.Accepted.{SideBySide, AreNumbers, AreBytes, IsPart, IsSubtable, IsAccepted}
use Rattle.szg_file.specs.Contents.{Part, Slot, Subtable, Map, narrow, wide, Contents, slots, part_numbers}
use Rattle.szg_file.specs.File.{flags_of}
use Rattle.szg_file.specs.FileOf.{fill_asked}
use Rattle.szg_file.specs.Values.{values_in}
use Rattle.szg_subtable.specs.declared.building.Choice.{Choice}
use Rattle.szg_subtable.specs.declared.building.Choice.TheVariants.{Fixed, Small}
use Rattle.szg_subtable.specs.Pairing.{different_values}
use Rattle.szg_subtable.specs.PackedSubtable.{IsPackedBy, IsCodedAs}
use Rattle.szg_build.specs.Plan.{Plan, greatest_value, has_maps}
use Rattle.szg_build.specs.Rule.{byte4_for, constant_for, constant_in, HasSpanIndex}
use Rattle.szg_build.specs.Built.{layout_in, packed_in, subtables_in, value_lists, plan_flags, flags_byte, flags_bytes}

-- a subtable that follows the builder's rule
pub record IsByRule (kind : Kind) (values : List ℕ) (choice : Choice) (subtable : Subtable) : Type 0 where
  pub constants : constant_in subtable ≡ constant_for kind values
  pub codes : IfSome (layout_in subtable) (IsCodedAs choice)
  pub index : HasSpanIndex (length values) subtable

-- A subtable built from a list of values: it passes the checks of a file, it expands to the values, its flags byte
-- has these flags, it is packed as chosen if it is not constant, and it follows the builder's rule.
pub record IsBuiltSub (kind : Kind) (flags : ℕ) (values : List ℕ) (choice : Choice) (subtable : Subtable) : Type 0 where
  pub is_valid : (slot : Slot) → slot.size ≡ length values → IsSubtable slot subtable
  pub expands : values_in kind (length values) subtable ≡ values
  pub flags_kept : flags_of subtable ≡ flags_byte flags subtable
  pub packed : IfSome (layout_in subtable) (λ layout. IsPackedBy choice layout (packed_in subtable) (length values))
  pub rule : IsByRule kind values choice subtable

-- a list of values from which a subtable can be built
pub record IsBuildable (kind : Kind) (values : List ℕ) : Type 0 where
  pub few : length values < 2 ^ 33
  pub small : AllByRecursion (λ v. v ≤ greatest_value kind) values
  pub different : length (different_values values) ≤ 4095

-- the numbers of a plan are in their ranges
pub record IsInRange (plan : Plan) : Type 0 where
  pub least_block : 5 ≤ plan.block_bits
  pub most_block : plan.block_bits ≤ 10
  pub least_span : 1 ≤ plan.span_bits
  pub most_span : plan.span_bits ≤ 16
  pub rounds : plan.rounds ≤ 4000
  pub flags : AllByRecursion (λ flags. flags < 32) plan.flags

-- the choice is fixed to the plan's numbers, or is the small one
abbrev pub IsChoiceOf : Plan → Choice → Type 0
IsChoiceOf plan (Fixed packing) = (packing.block_bits ≡ plan.block_bits) × (packing.span_bits ≡ plan.span_bits) × (packing.rounds ≡ plan.rounds)
IsChoiceOf plan Small = Unit {0}

-- subtables built from lists, each with its flags; flags that are missing are 0
abbrev pub AreBuilt : Choice → Plan → List ℕ → List (List ℕ) → List Subtable → Type 0
AreBuilt choice plan flags [] [] = Unit {0}
AreBuilt choice plan flags [] (subtable ∷ subtables) = ⊥
AreBuilt choice plan flags (values ∷ lists) [] = ⊥
AreBuilt choice plan [] (values ∷ lists) (subtable ∷ subtables) =
    IsBuiltSub plan.kind 0 values choice subtable × AreBuilt choice plan [] lists subtables
AreBuilt choice plan (first ∷ flags) (values ∷ lists) (subtable ∷ subtables) =
    IsBuiltSub plan.kind first values choice subtable × AreBuilt choice plan flags lists subtables

-- the order bytes and man bytes of a part are below 256
abbrev pub IsOfBytes : Part → Type 0
IsOfBytes part = AreNumbers 1 part.order × AreNumbers 1 part.men

-- the items of a map's four lists fit their width
abbrev pub IsOfItems : Option Map → Type 0
IsOfItems None = Unit {0}
IsOfItems (Some (narrow lists)) = (length lists ≡ 4) × AllByRecursion (AreNumbers 1) lists
IsOfItems (Some (wide lists)) = (length lists ≡ 4) × AllByRecursion (AreNumbers 2) lists

-- a built table, packed as chosen
pub record IsBuiltBy (choice : Choice) (plan : Plan) (lists : List (List ℕ)) (t : Contents) : Type 0 where
  pub material : t.material ≡ plan.material
  pub kind : t.kind ≡ plan.kind
  pub parts : t.parts ≡ plan.parts
  pub flags : plan_flags t ≡ plan.flags
  pub bytes : map flags_of t.subtables ≡ flags_bytes plan.flags t.subtables
  pub maps : t.maps ≡ plan.maps
  pub last : t.last ≡ plan.last
  pub packed : AllByRecursion (λ pair. IfSome (layout_in pair.1) (λ layout. IsPackedBy choice layout (packed_in pair.1) pair.0.size)) (subtables_in t)
  pub values : value_lists t ≡ lists
  pub byte4 : t.byte4 ≡ byte4_for plan.material
  pub rule : SideBySide (λ list subtable. IsByRule plan.kind list choice subtable) lists t.subtables
  pub index : AllByRecursion (λ pair. HasSpanIndex pair.0.size pair.1) (subtables_in t)

-- all of a built table but its padding
pub record IsBuiltBare (choice : Choice) (plan : Plan) (lists : List (List ℕ)) (t : Contents) : Type 0 where
  pub built : IsBuiltBy choice plan lists t
  pub accepted : (fill : List ℕ) → AreBytes (fill_asked t) fill → IsAccepted t fill

-- a plan and its lists have no fault
pub record HasNoFault (plan : Plan) (lists : List (List ℕ)) : Type 0 where
  pub parts : SideBySide (λ _. IsPart plan.material plan.kind) (part_numbers plan.material) plan.parts
  pub sizes : map (λ slot. slot.size) (slots plan.material plan.kind plan.parts) ≡ map length lists
  pub range : IsInRange plan
  pub each : AllByRecursion (IsBuildable plan.kind) lists
  pub maps : has_maps plan ≡ true

-- the subtables built from a plan and lists without fault
pub record AreMade (choice : Choice) (plan : Plan) (lists : List (List ℕ)) (subtables : List Subtable) : Type 0 where
  pub is_valid : HasNoFault plan lists
  pub built : AreBuilt choice plan plan.flags lists subtables
