-- Attacks and checks among the images of men.
use Rattle.std.proofs.Common.{◌≡◌, ℕ, ◌<◌, List, [], ◌∷◌, zero, suc, refl, sym, ap, ◌∙◌, Bool, true, false, arith, Contains}
use Rattle.std.specs.Prelude.{map, filter, not, ◌&&◌, ◌||◌, ◌==◌}
use Rattle.std.specs.List.{list_any}
use Rattle.std.proofs.lemmas.List.Elements.{All-contains, All-filter, All-contains_itself, filter_passes}
use Rattle.szg_values.specs.Men.{is_man, is_color, other_color}
use Rattle.szg_values.specs.Placement.{PlacedMan, AreOnBoard}
use Rattle.szg_values.specs.declared.Man.{Man}
use Rattle.szg_values.specs.declared.Man.TheVariants.{Pawn, Knight, Bishop, Rook, Queen, King}
use Rattle.szg_values.specs.declared.Color.{Color}
use Rattle.szg_chess.specs.Attacks.{is_occupied, is_between, is_clear, attacks, is_attacked, is_in_check, is_ahead, files_apart, is_straight, is_diagonal}
use Rattle.szg_chess.specs.Position.{is_on}
use Rattle.szg_chess.specs.Images.{Symmetry, square_image, color_image, man_image, keeps_pawns, fits}
use Rattle.szg_chess.proofs.Members.{any_of, some_of}
use Rattle.szg_chess.proofs.Images.Geometry.{same_test, same_square, same_straight, same_diagonal, same_king_step, same_knight_jump, same_between, same_colors, other_image, pawns_kept}

-- ---- elements

pub contains_map : {X Y : Type 0} (g : X → Y) (xs : List X) (x : X) → Contains xs x → Contains (map g xs) (g x)
contains_map g [] x held = absurd (omega (arith, held.1))
contains_map g (z ∷ xs) x (zero, h, e) = (zero, omega arith, ap g e)
contains_map g (z ∷ xs) x (suc k, h, e) = let r = contains_map g xs x (k, omega arith, e) in let r1 = r.1 in (suc r.0, omega arith, r.2)

pub map_contains : {X Y : Type 0} (g : X → Y) (xs : List X) (y : Y) → Contains (map g xs) y → (x : X) × (Contains xs x × (g x ≡ y))
map_contains g [] y held = absurd (omega (arith, held.1))
map_contains g (z ∷ xs) y (zero, h, e) = (z, ((zero, omega arith, refl), e))
map_contains g (z ∷ xs) y (suc k, h, e) =
    let r = map_contains g xs y (k, omega arith, e) in let c = r.1.0 in let c1 = c.1 in
    (r.0, ((suc c.0, omega arith, c.2), r.1.1))

pub filter_contains : {X : Type 0} (test : X → Bool) (xs : List X) (x : X) → Contains (filter test xs) x → Contains xs x × (test x ≡ true)
filter_contains test xs x held = (
  All-contains (Contains xs) (filter test xs) x (All-filter test (Contains xs) xs (All-contains_itself xs)) held,
  All-contains (λ y. test y ≡ true) (filter test xs) x (filter_passes test xs) held,
)

-- the men are the images of others, in any order
pub record AreImages (f : Symmetry) (men others : List PlacedMan) : Type 0 where
  pub there : (s : PlacedMan) → Contains men s → Contains others (man_image f s)
  pub back : (t : PlacedMan) → Contains others t → (s : PlacedMan) × (Contains men s × (man_image f s ≡ t))

-- a test of the images is the test of the men
pub any_image : (f : Symmetry) (men others : List PlacedMan) → AreImages f men others → (test of_image : PlacedMan → Bool) → ((s : PlacedMan) → Contains men s → of_image (man_image f s) ≡ test s) →
    list_any of_image others ≡ list_any test men
any_image f men others images test of_image same = same_test (list_any of_image others) (list_any test men)
    (λ e.
    let r = some_of of_image others e in let o = images.back r.0 r.1.0 in
    any_of test men o.0 o.1.0 (sym (same o.0 o.1.0) ∙ ap of_image o.1.1 ∙ r.1.1))
    (λ e.
    let r = some_of test men e in
    any_of of_image others (man_image f r.0) (images.there r.0 r.1.0) (same r.0 r.1.0 ∙ r.1.1))

-- ---- men on the board, for whom the symmetry fits

module _ (f : Symmetry) (men others : List PlacedMan) (images : AreImages f men others) (board : AreOnBoard men) (fitting : fits f men ≡ true) where
  pub inside : (s : PlacedMan) → Contains men s → s.2 < 64
  inside s held = All-contains (λ (t : PlacedMan). t.2 < 64) men s board held

  -- where there is a pawn, pawns keep their direction
  pub pawn_kept : (s : PlacedMan) → Contains men s → is_man Pawn s.0 ≡ true → keeps_pawns f ≡ true
  pawn_kept s held pawn = by_test (keeps_pawns f) (list_any (λ (t : PlacedMan). is_man Pawn t.0) men) fitting (any_of (λ (t : PlacedMan). is_man Pawn t.0) men s held pawn)
    where
      by_test : (a b : Bool) → (a || not b) ≡ true → b ≡ true → a ≡ true
      by_test true b e t = refl
      by_test false true e t = cc
      by_test false false e t = cc

  pub occupied : (x : ℕ) → x < 64 → is_occupied others (square_image f x) ≡ is_occupied men x
  occupied x h = any_image f men others images (λ s. s.2 == x) (λ s. s.2 == square_image f x) (λ s held. same_square f s.2 x (inside s held) h)

  clear : (a b : ℕ) → a < 64 → b < 64 → is_clear others (square_image f a) (square_image f b) ≡ is_clear men a b
  clear a b ha hb = ap not (any_image f men others images (λ s. is_between a b s.2) (λ s. is_between (square_image f a) (square_image f b) s.2) (λ s held. same_between f a b s.2 ha hb (inside s held)))

  by_kind : (man : Man) (color : Color) (a to : ℕ) → Contains men (man, color, a) → to < 64 → attacks others (man, color_image f color, square_image f a) (square_image f to) ≡ attacks men (man, color, a) to
  unfolding attacks
  by_kind Pawn color a to held h =
      let ha = inside (Pawn, color, a) held in
      let kept = pawns_kept f color a to (pawn_kept (Pawn, color, a) held refl) ha h in
      ap (λ (t : Bool). t && files_apart (square_image f a) (square_image f to) == 1) kept.ahead ∙ ap (λ (n : ℕ). is_ahead color a to && n == 1) kept.files
  by_kind Knight color a to held h = same_knight_jump f a to (inside (Knight, color, a) held) h
  by_kind Bishop color a to held h =
      let ha = inside (Bishop, color, a) held in
      ap (λ (t : Bool). t && is_clear others (square_image f a) (square_image f to)) (same_diagonal f a to ha h) ∙ ap (λ (t : Bool). is_diagonal a to && t) (clear a to ha h)
  by_kind Rook color a to held h =
      let ha = inside (Rook, color, a) held in
      ap (λ (t : Bool). t && is_clear others (square_image f a) (square_image f to)) (same_straight f a to ha h) ∙ ap (λ (t : Bool). is_straight a to && t) (clear a to ha h)
  by_kind Queen color a to held h =
      let ha = inside (Queen, color, a) held in
      ap (λ (t : Bool). (t || is_diagonal (square_image f a) (square_image f to)) && is_clear others (square_image f a) (square_image f to)) (same_straight f a to ha h)
      ∙ ap (λ (t : Bool). (is_straight a to || t) && is_clear others (square_image f a) (square_image f to)) (same_diagonal f a to ha h)
      ∙ ap (λ (t : Bool). (is_straight a to || is_diagonal a to) && t) (clear a to ha h)
  by_kind King color a to held h = same_king_step f a to (inside (King, color, a) held) h

  pub attacked : (s : PlacedMan) (to : ℕ) → Contains men s → to < 64 → attacks others (man_image f s) (square_image f to) ≡ attacks men s to
  attacked s to held h = by_kind s.0 s.1 s.2 to held h

  pub attacked_by : (color : Color) (x : ℕ) → x < 64 → is_attacked others (color_image f color) (square_image f x) ≡ is_attacked men color x
  attacked_by color x h = any_image f men others images (λ s. is_color color s.1 && attacks men s x) (λ s. is_color (color_image f color) s.1 && attacks others s (square_image f x))
      (λ s held. ap (λ (t : Bool). t && attacks others (man_image f s) (square_image f x)) (same_colors f color s.1) ∙ ap (λ (t : Bool). is_color color s.1 && t) (attacked s x held h))

  pub in_check : (color : Color) → is_in_check others (color_image f color) ≡ is_in_check men color
  in_check color = any_image f men others images (λ s. is_man King s.0 && is_color color s.1 && is_attacked men (other_color color) s.2)
      (λ s. is_man King s.0 && is_color (color_image f color) s.1 && is_attacked others (other_color (color_image f color)) s.2)
      (λ s held.
      ap (λ (t : Bool). is_man King s.0 && t && is_attacked others (other_color (color_image f color)) (square_image f s.2)) (same_colors f color s.1)
      ∙ ap (λ (c : Color). is_man King s.0 && is_color color s.1 && is_attacked others c (square_image f s.2)) (other_image f color)
      ∙ ap (λ (t : Bool). is_man King s.0 && is_color color s.1 && t) (attacked_by (other_color color) s.2 (inside s held)))

  pub on : (man : Man) (color : Color) (x : ℕ) → x < 64 → is_on man (color_image f color) others (square_image f x) ≡ is_on man color men x
  on man color x h = any_image f men others images (λ s. is_man man s.0 && is_color color s.1 && s.2 == x) (λ s. is_man man s.0 && is_color (color_image f color) s.1 && s.2 == square_image f x)
      (λ s held.
      ap (λ (t : Bool). is_man man s.0 && t && square_image f s.2 == square_image f x) (same_colors f color s.1)
      ∙ ap (λ (t : Bool). is_man man s.0 && is_color color s.1 && t) (same_square f s.2 x (inside s held) h))

  -- a man of the colour on the square
  pub taken : (color : Color) (x : ℕ) → x < 64 → list_any (λ s. is_color (color_image f color) s.1 && s.2 == square_image f x) others ≡ list_any (λ s. is_color color s.1 && s.2 == x) men
  taken color x h = any_image f men others images (λ s. is_color color s.1 && s.2 == x) (λ s. is_color (color_image f color) s.1 && s.2 == square_image f x)
      (λ s held. ap (λ (t : Bool). t && square_image f s.2 == square_image f x) (same_colors f color s.1) ∙ ap (λ (t : Bool). is_color color s.1 && t) (same_square f s.2 x (inside s held) h))
