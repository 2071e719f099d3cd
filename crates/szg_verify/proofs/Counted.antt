-- The number of positions of a range of numbers.
use Rattle.std.proofs.Common.{◌≡◌, ℕ, ◌+◌, ◌-◌, ◌≤◌, ◌%◌, List, [], ◌∷◌, max, refl, sym, ◌∙◌, ap, Bool, true, false, arith, if◌then◌else◌}
use Rattle.std.specs.List.{range_with_len}
use Rattle.std.proofs.lemmas.List.FromFn.{sum_by-map-range_with_len_more}
use Rattle.std.proofs.lemmas.List.Sums.{sum-map}
use Rattle.szg_values.specs.declared.Man.{Man}
use Rattle.szg_values.specs.declared.Color.{Color}
use Rattle.szg_values.specs.declared.Color.TheVariants.{White, Black}
use Rattle.szg_verify.specs.Walk.{is_king_walked, movers_to, position_count, positions_by}

abbrev count_at : List (Man × Color) → ℕ → ℕ
count_at men number = if is_king_walked men (number % 64) then positions_by men (White ∷ Black ∷ []) number else 0

one_more : (men : List (Man × Color)) (from n : ℕ) → from ≤ n → position_count men from (n + 1) ≡ position_count men from n + count_at men n
unfolding position_count
one_more men from n low =
    let long : n + 1 - from ≡ n - from + 1 = omega (arith, low) in
    rw long (sym (sum-map (count_at men) (range_with_len from (n - from + 1))) ∙ sum_by-map-range_with_len_more (λ k. k) (count_at men) from (n - from) n (omega (arith, low))
    ∙ ap (λ (k : ℕ). k + count_at men n) (sum-map (count_at men) (range_with_len from (n - from))))

-- a number with White's king on a walked square, and one with it on another square
pub walked_more : (men : List (Man × Color)) (from n : ℕ) → from ≤ n → is_king_walked men (n % 64) ≡ true →
    position_count men from (n + 1) ≡ position_count men from n + positions_by men (movers_to Black) n
walked_more men from n low walked = one_more men from n low ∙ ap (λ (b : Bool). position_count men from n + (if b then positions_by men (movers_to Black) n else 0)) walked

pub passed_more : (men : List (Man × Color)) (from n : ℕ) → from ≤ n → is_king_walked men (n % 64) ≡ false → position_count men from (n + 1) ≡ position_count men from n
passed_more men from n low passed =
    let e : position_count men from (n + 1) ≡ position_count men from n + 0 = one_more men from n low ∙ ap (λ (b : Bool). position_count men from n + (if b then positions_by men (movers_to Black) n else 0)) passed in
    omega (arith, e)

-- no number, and all
pub none_counted : (men : List (Man × Color)) (from : ℕ) → position_count men from from ≡ 0
unfolding position_count
none_counted men from =
    let none : from - from ≡ 0 = omega arith in
    rw none refl

pub all_counted : (men : List (Man × Color)) (from to n : ℕ) → from ≤ n → to ≤ n → n ≤ max from to → position_count men from n ≡ position_count men from to
unfolding position_count
all_counted men from to n low done within =
    let same : n - from ≡ to - from = omega (arith, low, done, within) in
    rw same refl
