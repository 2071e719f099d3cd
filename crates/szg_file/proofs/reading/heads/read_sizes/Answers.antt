use Rattle.std.proofs.Common.{◌≡◌, ℕ, List, ◌<◌, ◌≤◌, ◌⊎◌, get_or, nat_lt, nat_le, ◌&&◌, false, arith, rules}
use Rattle.std.proofs.lemmas.Bool.Decides.{nat_tests}
use Rattle.szg_file.proofs.reading.heads.read_sizes.Goals as goal

-- lengths that no code has
unfit : (min max : ℕ) → (min ≡ 0) ⊎ (((min ≡ 0 → ⊥) × (max < min)) ⊎ ((min ≡ 0 → ⊥) × (min ≤ max) × (32 < max))) → (nat_lt 0 min && nat_le min max && nat_le max 32) ≡ false
unfit min max h = grind (arith, nat_tests)

pub returns-then-sizes-eq0-clause-sizes : goal.returns-then-sizes-eq0-clause-sizes
returns-then-sizes-eq0-clause-sizes g c =
    let chunk : List ℕ = c.take_field.new.chunk in
    let no = unfit (get_or chunk 6 0) (get_or chunk 5 0) c.then-sizes-eq0.either in
    search rules
