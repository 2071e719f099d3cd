-- Sets of materials that captures and promotions do not leave.
use Rattle.std.specs.Prelude.{◌≡◌, true, false, ◌&&◌, ◌||◌, ◌==◌, Bool, List, [], ◌∷◌, ◌++◌, map, filter, IsTrue, count_by, if◌then◌else◌}
use Rattle.std.specs.List.{list_any, list_all}
use Rattle.szg_values.specs.Men.{is_man, name_order}
use Rattle.szg_values.specs.Material.{Sides, is_same_men}
use Rattle.szg_values.specs.Placement.{PlacedMan, number_of}
use Rattle.szg_values.specs.declared.Man.{Man}
use Rattle.szg_values.specs.declared.Man.TheVariants.{Pawn, Knight, Bishop, Rook, Queen, King}
use Rattle.szg_values.specs.declared.Color.TheVariants.{White, Black}
use Rattle.szg_verify.specs.Verified.{IsClosed}

-- a side without one of its men of this kind
abbrev pub without : Man → List Man → List Man
without man [] = []
without man (other ∷ side) = if is_man man other then side else other ∷ without man side

abbrev pub has_man : List Man → Man → Bool
has_man side man = list_any (is_man man) side

-- what captures of one of its men but the king leave of a side
abbrev pub captured_from : List Man → List (List Man)
captured_from side = map (λ man. without man side) (filter (has_man side) (Queen ∷ Rook ∷ Bishop ∷ Knight ∷ Pawn ∷ []))

-- what a promotion makes of a side
abbrev pub promoted_from : List Man → List (List Man)
promoted_from side = if has_man side Pawn then map (λ piece. piece ∷ without Pawn side) (Queen ∷ Rook ∷ Bishop ∷ Knight ∷ []) else []

abbrev pub changed_from : List Man → List (List Man)
changed_from side = captured_from side ++ promoted_from side

-- the materials that one capture or one promotion makes
abbrev pub changes : Sides → List Sides
changes sides = map (λ side. record { first = side; second = sides.second }) (changed_from sides.first)
    ++ map (λ side. record { first = sides.first; second = side }) (changed_from sides.second)

-- two materials have the same men, or the colors are exchanged
abbrev pub is_same_material : Sides → Sides → Bool
is_same_material a b = (is_same_men a.first b.first && is_same_men a.second b.second) || (is_same_men a.first b.second && is_same_men a.second b.first)

-- the two kings alone, which need no table
abbrev pub kings_alone : Sides
kings_alone = record { first = King ∷ []; second = King ∷ [] }

abbrev pub is_listed : List Sides → Sides → Bool
is_listed materials sides = list_any (is_same_material sides) (kings_alone ∷ materials)

-- each capture and each promotion leads to one of these materials, or to the two kings
abbrev pub are_closed : List Sides → Bool
are_closed materials = list_all (λ sides. list_all (is_listed materials) (changes sides)) materials

-- a capture or a promotion leads from the first material to the second
abbrev pub leads_to : Sides → Sides → Bool
leads_to sides other = list_any (λ changed. is_same_material changed other) (changes sides)

-- White has the men of one side, and Black those of the other
abbrev pub has_sides : List PlacedMan → List Man → List Man → Bool
has_sides men white black = list_all (λ man. number_of man White men == count_by (is_man man) white && number_of man Black men == count_by (is_man man) black) name_order

-- the men have this material, with either side as White
abbrev pub is_of : List PlacedMan → Sides → Bool
is_of men sides = has_sides men sides.first sides.second || has_sides men sides.second sides.first

-- the men have one of these materials, or are the two kings
abbrev pub covers : List Sides → List PlacedMan → Bool
covers materials men = list_any (is_of men) (kings_alone ∷ materials)

-- closed materials are closed under moves
abbrev pub ClosedByMaterials : Type 0
ClosedByMaterials = (materials : List Sides) → IsTrue (are_closed materials) → IsClosed (covers materials)

-- ---- worked examples

abbrev pub against_king : List Man → Sides
against_king men = record { first = King ∷ men; second = King ∷ [] }

-- the materials of three men
abbrev pub three_men : List Sides
three_men = map (λ man. against_king (man ∷ [])) (Queen ∷ Rook ∷ Bishop ∷ Knight ∷ Pawn ∷ [])

pub record MaterialExamples : Type 0 where
  -- no table, and all tables of three men
  pub kings : are_closed [] ≡ true
  pub three : are_closed three_men ≡ true
  -- KPvK without what its pawn is promoted to; KRvKR without KRvK
  pub promotion : are_closed (against_king (Pawn ∷ []) ∷ []) ≡ false
  pub capture : are_closed (record { first = King ∷ Rook ∷ []; second = King ∷ Rook ∷ [] } ∷ []) ≡ false
  -- Black may have the rook, but no knight may be there
  pub exchanged : covers three_men ((King, White, 0) ∷ (Rook, Black, 1) ∷ (King, Black, 63) ∷ []) ≡ true
  pub another : covers three_men ((King, White, 0) ∷ (Rook, Black, 1) ∷ (King, Black, 63) ∷ (Knight, White, 20) ∷ []) ≡ false
