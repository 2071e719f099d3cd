-- Tables in memory store the same distances for a position and for the images that keep its number.
use Rattle.std.proofs.Common.{◌≡◌, ℕ, List, [], ◌∷◌, length, map, refl, sym, ap, ◌∙◌, Bool, true, false, cond, Option, Some, None}
use Rattle.std.specs.Prelude.{◌==◌, nat_lt, slice_index, option_map, option_and_then, unwrap_or}
use Rattle.std.specs.List.{list_all}
use Rattle.std.proofs.Math.Bool.{not, ◌&&◌, ◌||◌}
use Rattle.std.proofs.lemmas.Bool.{and_parts, not-true}
use Rattle.std.proofs.lemmas.List.Sums.{length-filter}
use Rattle.szg_values.specs.Men.{is_man, is_color, name_order}
use Rattle.szg_values.specs.Placement.{PlacedMan, Board, number_of}
use Rattle.szg_values.specs.declared.Man.{Man}
use Rattle.szg_values.specs.declared.Color.{Color}
use Rattle.szg_values.specs.declared.Color.TheVariants.{White, Black}
use Rattle.szg_values.specs.declared.Kind.TheVariants.{Dtz}
use Rattle.szg_file.specs.Contents.{Contents}
use Rattle.szg_file.specs.File.{flags_of}
use Rattle.szg_file.specs.Held.{Shown}
use Rattle.szg_game.specs.declared.Class.{Class}
use Rattle.szg_place.specs.Spots.{place_fault}
use Rattle.szg_place.specs.Tables.{numbering_of}
use Rattle.szg_place.specs.declared.Spot.{Spot}
use Rattle.szg_place.specs.declared.PlaceFault.{PlaceFault}
use Rattle.szg_place.specs.declared.PlaceFault.TheVariants.{OtherMaterial, Irregular, KingsTouch, WrongSide}
use Rattle.szg_place.proofs.MenOnSlots.Standing.{same_either}
use Rattle.szg_chess.specs.Position.{Position, IsPosition}
use Rattle.szg_chess.specs.Images.{Symmetry, Same, FlipFiles, FlipRanks, FlipDiagonal, ExchangeColors, color_image, IsImage}
use Rattle.szg_chess.proofs.Images.Counts.{same_count, same_size}
use Rattle.szg_chess.proofs.Images.Geometry.{same_colors}
use Rattle.szg_probe.specs.Images.{shares_value}
use Rattle.szg_verify.specs.Entries.{tables_of}
use Rattle.szg_verify.specs.Verified.{AreSymmetric, has_equal_sides, keeps_number}
use Rattle.szg_verify.specs.declared.Distance.{Distance}
use Rattle.szg_tables.specs.Stored.{board_of, table_for, number_by, number_in, stored_classes}
use Rattle.szg_tables.specs.Distances.{is_exact, as_stored, flags_at, distance_in, is_left_out, stored_distances}
use Rattle.szg_tables.proofs.Images.{AreNumbered, IsOneSpot, same_number, same_by_table, symmetric_classes}

-- ---- one table

module _ (t : Contents) (a b : Board) (one : IsOneSpot t a b) (k : Class) where
  no_number : (f : PlaceFault) → place_fault (numbering_of t) a ≡ Some f → unwrap_or (number_in a k t) None ≡ None
  no_number f e = ap (λ (o : Option PlaceFault). unwrap_or (number_by o a k t) None) e ∙ by_fault f
    where
      by_fault : (f : PlaceFault) → unwrap_or (number_by (Some f) a k t) None ≡ None
      by_fault WrongSide = refl
      by_fault OtherMaterial = refl
      by_fault Irregular = refl
      by_fault KingsTouch = refl

  same_distance : distance_in b k t ≡ distance_in a k t
  same_distance =
      ap (λ (n : Option (Option ℕ)). option_map (as_stored (is_exact k (flags_at b t))) (unwrap_or n None)) (same_number t a b one k)
      ∙ by_fault (place_fault (numbering_of t) a) refl
    where
      by_fault : (o : Option PlaceFault) → place_fault (numbering_of t) a ≡ o →
          option_map (as_stored (is_exact k (flags_at b t))) (unwrap_or (number_in a k t) None) ≡ option_map (as_stored (is_exact k (flags_at a t))) (unwrap_or (number_in a k t) None)
      by_fault None e = ap (λ (spot : Spot). option_map (as_stored (is_exact k (slice_index (map flags_of t.subtables) spot.part))) (unwrap_or (number_in a k t) None)) (one.spot e)
      by_fault (Some f) e =
          ap (option_map (as_stored (is_exact k (flags_at b t)))) (no_number f e) ∙ sym (ap (option_map (as_stored (is_exact k (flags_at a t)))) (no_number f e))

-- ---- the men that are left out

equal_of : (f : Symmetry) (men others : List PlacedMan) → ((sort : Man) (color : Color) → number_of sort (color_image f color) others ≡ number_of sort color men) → (sort : Man) →
    (number_of sort White others == number_of sort Black others) ≡ (number_of sort White men == number_of sort Black men)
equal_of Same men others n sort = ap (λ (x : ℕ). x == number_of sort Black others) (n sort White) ∙ ap (λ (x : ℕ). number_of sort White men == x) (n sort Black)
equal_of FlipFiles men others n sort = ap (λ (x : ℕ). x == number_of sort Black others) (n sort White) ∙ ap (λ (x : ℕ). number_of sort White men == x) (n sort Black)
equal_of FlipRanks men others n sort = ap (λ (x : ℕ). x == number_of sort Black others) (n sort White) ∙ ap (λ (x : ℕ). number_of sort White men == x) (n sort Black)
equal_of FlipDiagonal men others n sort = ap (λ (x : ℕ). x == number_of sort Black others) (n sort White) ∙ ap (λ (x : ℕ). number_of sort White men == x) (n sort Black)
equal_of ExchangeColors men others n sort =
    ap (λ (x : ℕ). x == number_of sort Black others) (n sort Black) ∙ ap (λ (x : ℕ). number_of sort Black men == x) (n sort White)
    ∙ same_either (number_of sort Black men) (number_of sort White men)

neither_passes : (x y e : Bool) → e ≡ false → (x && e) ≡ (y && e)
neither_passes true true e none = refl
neither_passes false false e none = refl
neither_passes true false e none = none
neither_passes false true e none = sym none

module _ (f : Symmetry) (p q : Position) (position : IsPosition p) (is : IsImage f p q) (keeps : keeps_number f p.placed_men ≡ true) where
  parts : (shares_value f p.placed_men ≡ true) × ((is_color White (color_image f White) || not (has_equal_sides p.placed_men)) ≡ true)
  parts = and_parts (shares_value f p.placed_men) (is_color White (color_image f White) || not (has_equal_sides p.placed_men)) keeps

  number_image : (sort : Man) (color : Color) → number_of sort (color_image f color) q.placed_men ≡ number_of sort color p.placed_men
  number_image sort color =
      let of_image : PlacedMan → Bool = λ s. is_man sort s.0 && is_color (color_image f color) s.1 in
      let test : PlacedMan → Bool = λ s. is_man sort s.0 && is_color color s.1 in
      sym (length-filter of_image q.placed_men) ∙ same_count f p q position is of_image test (λ s. ap (λ (b : Bool). is_man sort s.0 && b) (same_colors f color s.1)) ∙ length-filter test p.placed_men

  equal_image : has_equal_sides q.placed_men ≡ has_equal_sides p.placed_men
  equal_image = each name_order
    where
      each : (names : List Man) → list_all (λ man. number_of man White q.placed_men == number_of man Black q.placed_men) names ≡ list_all (λ man. number_of man White p.placed_men == number_of man Black p.placed_men) names
      each [] = refl
      each (man ∷ names) =
          ap (λ (b : Bool). b && list_all (λ man. number_of man White q.placed_men == number_of man Black q.placed_men) names) (equal_of f p.placed_men q.placed_men number_image man)
          ∙ ap (λ (b : Bool). (number_of man White p.placed_men == number_of man Black p.placed_men) && b) (each names)

  by_color : (g : Symmetry) → q.mover ≡ color_image g p.mover → (is_color White (color_image g White) || not (has_equal_sides p.placed_men)) ≡ true →
      (is_color Black q.mover && has_equal_sides p.placed_men) ≡ (is_color Black p.mover && has_equal_sides p.placed_men)
  by_color Same m k = ap (λ (c : Color). is_color Black c && has_equal_sides p.placed_men) m
  by_color FlipFiles m k = ap (λ (c : Color). is_color Black c && has_equal_sides p.placed_men) m
  by_color FlipRanks m k = ap (λ (c : Color). is_color Black c && has_equal_sides p.placed_men) m
  by_color FlipDiagonal m k = ap (λ (c : Color). is_color Black c && has_equal_sides p.placed_men) m
  by_color ExchangeColors m k = neither_passes (is_color Black q.mover) (is_color Black p.mover) (has_equal_sides p.placed_men) (not-true (has_equal_sides p.placed_men) k)

  left_image : is_left_out q.placed_men q.mover ≡ is_left_out p.placed_men p.mover
  left_image =
      ap (λ (n : ℕ). nat_lt n 3 || (is_color Black q.mover && has_equal_sides q.placed_men)) (same_size f p q position is)
      ∙ ap (λ (e : Bool). nat_lt (length p.placed_men) 3 || (is_color Black q.mover && e)) equal_image
      ∙ ap (λ (b : Bool). nat_lt (length p.placed_men) 3 || b) (by_color f is.mover parts.1)

  pub distance_image : (tables : List Shown) → AreNumbered tables → (k : Class) → stored_distances tables q.placed_men q.mover k ≡ stored_distances tables p.placed_men p.mover k
  distance_image tables numbered k =
      let here = board_of p.placed_men p.mover in let there = board_of q.placed_men q.mover in
      ap (λ (x : Bool). cond x None (option_and_then (λ (t : Shown). distance_in there k t.contents) (table_for Dtz there tables))) left_image
      ∙ ap (λ (o : Option Distance). cond (is_left_out p.placed_men p.mover) None o)
      (same_by_table tables numbered f p q position is parts.0 Dtz (λ board t. distance_in board k t.contents) (λ t i one. same_distance t.contents here there one k))

pub symmetric_tables : (tables : List Shown) → AreNumbered tables → AreSymmetric (tables_of (stored_classes tables) (stored_distances tables))
symmetric_tables tables numbered = record {
  classes = symmetric_classes tables numbered;
  distances = λ f p q k position is keeps. distance_image f p q position is keeps tables numbered k;
}
