-- Facts about a material, computed once for many placements.
use Rattle.std.specs.Prelude.{◌≡◌, ◌<◌, ◌∷◌, [], ℕ, ◌+◌, ◌*◌, ◌/◌, ◌%◌, ◌^◌, Bool, List}
use Rattle.std.specs.List.{sum_by}
use Rattle.szg_values.specs.Material.{Sides, IsMaterial, is_symmetric, has_pawns, lead_pawns, other_pawns, lead_pawn_code, has_single_lead, man_codes}

-- A key holds the number of men of each code: each code has a digit of base 8, since there are at most six men.
abbrev pub key_of : List ℕ → ℕ
key_of codes = sum_by (λ code. 8 ^ code) codes

-- a key with its eight lower and its eight upper digits swapped: that of the same men with colours exchanged
abbrev pub with_exchanged_halves : ℕ → ℕ
with_exchanged_halves key = key / 16777216 + key % 16777216 * 16777216

-- the facts that `MaterialInfo` stores of a material
pub record IsMaterialInfo (sides : Sides) (symmetric pawns single : Bool) (lead other code : ℕ) (keys : List ℕ) : Type 0 where
  pub material : IsMaterial sides
  pub symmetric_is : symmetric ≡ is_symmetric sides
  pub pawns_is : pawns ≡ has_pawns sides
  pub single_is : single ≡ has_single_lead sides
  pub lead_is : lead ≡ lead_pawns sides
  pub other_is : other ≡ other_pawns sides
  pub code_is : code ≡ lead_pawn_code sides
  pub keys_are : keys ≡ key_of (man_codes sides) ∷ with_exchanged_halves (key_of (man_codes sides)) ∷ []
  pub small : key_of (man_codes sides) < 281474976710656
