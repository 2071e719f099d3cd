-- The list of all materials: all pairs of sides, each a king and other men, that are a material.
use Rattle.std.specs.Prelude.{ℕ, zero, suc, List, [], ◌∷◌, map, flat_map, filter}
use Rattle.szg_values.specs.Material.{Sides, is_material}
use Rattle.szg_values.specs.declared.Man.{Man}
use Rattle.szg_values.specs.declared.Man.TheVariants.{Pawn, Knight, Bishop, Rook, Queen, King}

-- all lists of n men other than kings
abbrev pub words : ℕ → List (List Man)
words zero = [] ∷ []
words (suc n) = flat_map (λ man. map (λ word. man ∷ word) (words n)) (Queen ∷ Rook ∷ Bishop ∷ Knight ∷ Pawn ∷ [])

-- all pairs of a king with i men and a king with j men
abbrev pub pairs : ℕ × ℕ → List Sides
pairs numbers = flat_map (λ a. map (λ b. record { first = King ∷ a; second = King ∷ b }) (words numbers.1)) (words numbers.0)

-- all pairs of numbers with a sum of at most four
abbrev pub numbers : List (ℕ × ℕ)
numbers = (0, 0) ∷ (0, 1) ∷ (1, 0) ∷ (0, 2) ∷ (1, 1) ∷ (2, 0) ∷ (0, 3) ∷ (1, 2) ∷ (2, 1) ∷ (3, 0)
    ∷ (0, 4) ∷ (1, 3) ∷ (2, 2) ∷ (3, 1) ∷ (4, 0) ∷ []

unfoldable pub materials : List Sides
materials = filter is_material (flat_map pairs numbers)
