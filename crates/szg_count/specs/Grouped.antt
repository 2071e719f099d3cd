-- The men of a side of a part, cut into groups.
use Rattle.std.specs.Prelude.{◌≡◌, ℕ, ◌<◌, ◌≤◌, ◌==◌, ◌&&◌, ◌||◌, Bool, true, List, [], ◌∷◌, length, slice_index}
use Rattle.std.specs.List.{list_all, concat}
use Rattle.szg_values.specs.Material.{Sides, has_pawns, count_of}
use Rattle.szg_count.specs.Groups.{Nibbles, counted, groups_of}
use Rattle.szg_count.specs.Views.{nibbles_in, groups_in_slot_order}
use Rattle.szg_count.specs.declared.side_groups.SideGroups.{SideGroups}

-- each group after the lead group has all men of its kind and colour, and if there are no pawns, each man of the lead
-- group is the only one of its kind and colour
abbrev pub is_regular : Sides → List (List ℕ) → Bool
is_regular sides [] = true
is_regular sides (lead ∷ groups) = (has_pawns sides || list_all (λ code. count_of code (concat (lead ∷ groups)) == 1) lead)
    && list_all (λ group. list_all (λ code. count_of code (concat (lead ∷ groups)) == length group) group) groups

-- `slots` has the first slot of each code that some man has
pub record AreFirst (men slots : List ℕ) : Type 0 where
  pub many : length slots ≡ 16
  pub first : (i : ℕ) → i < length men → slice_index men i < 16 → (slice_index slots (slice_index men i) ≤ i) × (slice_index men (slice_index slots (slice_index men i)) ≡ slice_index men i)

-- the groups of a part and side with these nibbles
pub record AreGroupsOf (sides : Sides) (part : ℕ) (n : Nibbles) (g : SideGroups) : Type 0 where
  pub nibbles : nibbles_in g.order ≡ n
  pub groups : g.groups ≡ groups_in_slot_order (counted sides part n)
  pub regular : g.regular ≡ is_regular sides (groups_of sides n.men)
  pub slots : AreFirst n.men g.slots
