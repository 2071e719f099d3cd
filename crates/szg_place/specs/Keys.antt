-- The keys of placed men.
use Rattle.std.specs.Prelude.{ℕ, ◌^◌, Bool, List}
use Rattle.std.specs.List.{sum_by}
use Rattle.szg_values.specs.Placement.{PlacedMan}
use Rattle.szg_place.specs.Normal.{colored_code, exchanged_color}

-- the key of placed men, with colours exchanged or not: as `key_of` of szg_count for a material's codes
abbrev pub men_key : Bool → List PlacedMan → ℕ
men_key exchanged placed_men = sum_by (λ s. 8 ^ colored_code s.0 (exchanged_color exchanged s.1)) placed_men
