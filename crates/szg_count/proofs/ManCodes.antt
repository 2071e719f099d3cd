-- Man codes, their keys, and the lead pawns' code.
use Rattle.std.proofs.Common.{◌≡◌, ℕ, ◌+◌, ◌*◌, ◌%◌, ◌^◌, ◌<◌, inl, inr, List, map, refl, true, arith}
use Rattle.std.specs.Prelude.{◌==◌}
use Rattle.std.specs.List.{list_all, range_with_len}
use Rattle.std.proofs.lemmas.Bool.{eqb-true}
use Rattle.szg_values.specs.Men.{code_of}
use Rattle.szg_values.specs.Material.{Sides, man_codes}
use Rattle.szg_values.specs.declared.Man.{Man}
use Rattle.szg_values.specs.declared.Man.TheVariants.{Pawn, Knight, Bishop, Rook, Queen, King}
use Rattle.szg_count.specs.Laws.{IsIn}
use Rattle.szg_count.proofs.Binomials.{tested}
use Rattle.szg_count.proofs.Differ.{IsIn-append, IsIn-map}

pub code_small : (man : Man) → (0 < code_of man) × (code_of man < 7)
code_small Pawn = (omega arith, omega arith)
code_small Knight = (omega arith, omega arith)
code_small Bishop = (omega arith, omega arith)
code_small Rook = (omega arith, omega arith)
code_small Queen = (omega arith, omega arith)
code_small King = (omega arith, omega arith)

first_small : (men : List Man) (c : ℕ) → IsIn c (map code_of men) → c < 16
first_small men c i = let r = IsIn-map code_of men c i in let k = code_small r.0 in let e = r.2 in omega (arith, k, e)

second_small : (men : List Man) (c : ℕ) → IsIn c (map (λ man. 8 + code_of man) men) → c < 16
second_small men c i = let r = IsIn-map (λ man. 8 + code_of man) men c i in let k = code_small r.0 in let e = r.2 in omega (arith, k, e)

pub codes_small : (sides : Sides) (c : ℕ) → IsIn c (man_codes sides) → c < 16
codes_small sides c i = elim (IsIn-append c (map code_of sides.first) (map (λ man. 8 + code_of man) sides.second) i) [ inl a ↦ first_small sides.first c a | inr b ↦ second_small sides.second c b ]

first_some : (men : List Man) (c : ℕ) → IsIn c (map code_of men) → 0 < c
first_some men c i = let r = IsIn-map code_of men c i in let k = code_small r.0 in let e = r.2 in omega (arith, k, e)

pub codes_some : (sides : Sides) (c : ℕ) → IsIn c (man_codes sides) → 0 < c
codes_some sides c i = elim (IsIn-append c (map code_of sides.first) (map (λ man. 8 + code_of man) sides.second) i) [
  | inl a ↦ first_some sides.first c a
  | inr b ↦ let r = IsIn-map (λ man. 8 + code_of man) sides.second c b in let e = r.2 in omega (arith, e)
]

keys_test : list_all (λ c. (1 * 2 ^ (3 * c)) % 2 ^ 64 == 8 ^ c) (range_with_len 0 16) ≡ true
keys_test = refl

pub key_stated : (c : ℕ) → c < 16 → (1 * 2 ^ (3 * c)) % 2 ^ 64 ≡ 8 ^ c
key_stated c h = eqb-true ((1 * 2 ^ (3 * c)) % 2 ^ 64) (8 ^ c) (tested (λ c. (1 * 2 ^ (3 * c)) % 2 ^ 64 == 8 ^ c) 0 16 c keys_test (omega arith) (omega (arith, h)))
