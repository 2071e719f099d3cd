-- The image of a position is a position, and its image is the position.
use Rattle.std.proofs.Common.{◌≡◌, ℕ, ◌<◌, ◌≤◌, List, length, get_or, refl, sym, ap, ◌∙◌, subst, Bool, true, false, arith, inl, inr, Contains, Option, Some, None}
use Rattle.std.specs.Prelude.{map, not, ◌&&◌, ◌||◌, ◌==◌, nat_le, option_map}
use Rattle.std.specs.Option.{ForSome}
use Rattle.std.proofs.lemmas.Bool.{cases_Bool, and_parts, and_from, eqb-true, eq-eqb, le-leb}
use Rattle.std.proofs.lemmas.List.{length-map}
use Rattle.std.proofs.lemmas.List.Elements.{All-contains, All-contains_itself, All-map}
use Rattle.std.proofs.lemmas.List.Sums.{length-filter}
use Rattle.szg_values.specs.Men.{is_man, is_color, other_color, file_of, rank_of, square_at}
use Rattle.szg_values.specs.Placement.{PlacedMan, AreOnBoard, number_of, has_distinct_squares, has_pawns_on_inner_ranks}
use Rattle.szg_values.specs.declared.Man.TheVariants.{Pawn, King}
use Rattle.szg_values.specs.declared.Color.{Color}
use Rattle.szg_values.specs.declared.Color.TheVariants.{White, Black}
use Rattle.szg_chess.specs.Attacks.{is_occupied, is_in_check}
use Rattle.szg_chess.specs.Position.{Position, IsPosition, is_on, has_two_to_six, has_kings, was_passed, has_sound_en_passant}
use Rattle.szg_chess.specs.Images.{Symmetry, Same, FlipFiles, FlipRanks, FlipDiagonal, ExchangeColors, square_image, color_image, man_image, image, keeps_pawns, fits, IsImage}
use Rattle.szg_chess.proofs.Facts.{has_men, faultless, no_fault, has_men_parts, one_king}
use Rattle.szg_chess.proofs.Members.{all_of, each_of, some_of}
use Rattle.szg_chess.proofs.Images.Geometry.{image_inside, image_back, same_colors, other_image, color_back, pawns_kept}
use Rattle.szg_chess.proofs.Images.Men.{AreImages, contains_map, map_contains, any_image}
use Rattle.szg_chess.proofs.Images.Men as men_of_images
use Rattle.szg_chess.proofs.Images.Moves.{images_of, from_images}
use Rattle.szg_chess.proofs.Images.Counts.{as_many, images_map, distinct_image, counted, counted_all}

-- ---- the image of an image

back_again : (f : Symmetry) (s : PlacedMan) → s.2 < 64 → man_image f (man_image f s) ≡ s
back_again f s h = ap (λ (c : Color). (s.0, c, square_image f (square_image f s.2))) (color_back f s.1) ∙ ap (λ (x : ℕ). (s.0, s.1, x)) (image_back f s.2 h)

square_again : (f : Symmetry) (o : Option ℕ) → ForSome o (λ square. square < 64) → o ≡ option_map (square_image f) (option_map (square_image f) o)
square_again f None h = refl
square_again f (Some square) h = ap (λ (x : ℕ). Some x) (sym (image_back f square (h square refl)))

pub image_of_image : (f : Symmetry) (p q : Position) → IsPosition p → IsImage f p q → IsImage f q p
image_of_image f p q position is =
    let images = images_of f p q is in
    let inside : (s : PlacedMan) → Contains p.placed_men s → s.2 < 64 = λ s held. All-contains (λ (t : PlacedMan). t.2 < 64) p.placed_men s position.squares.men held in
    record {
      position = position;
      fitting = ap (λ (b : Bool). keeps_pawns f || not b) (any_image f p.placed_men q.placed_men images (λ s. is_man Pawn s.0) (λ s. is_man Pawn s.0) (λ s held. refl)) ∙ is.fitting;
      men = from_images f q.placed_men p.placed_men (record {
        there = λ t held. let r = images.back t held in subst (λ (s : PlacedMan). Contains p.placed_men s) (sym (back_again f r.0 (inside r.0 r.1.0)) ∙ ap (man_image f) r.1.1) r.1.0;
        back = λ s held. (man_image f s, (images.there s held, back_again f s (inside s held)));
      });
      mover = sym (color_back f p.mover) ∙ ap (color_image f) (sym is.mover);
      en_passant = square_again f p.en_passant position.squares.en_passant ∙ ap (option_map (square_image f)) (sym is.en_passant);
    }

-- ---- the men of an image

number_image : (f : Symmetry) (color : Color) (men : List PlacedMan) → number_of King (color_image f color) (map (man_image f) men) ≡ number_of King color men
number_image f color men =
    let test : PlacedMan → Bool = λ s. is_man King s.0 && is_color color s.1 in
    let of_image : PlacedMan → Bool = λ s. is_man King s.0 && is_color (color_image f color) s.1 in
    sym (length-filter of_image (map (man_image f) men)) ∙ as_many f of_image test men (λ s. ap (λ (b : Bool). is_man King s.0 && b) (same_colors f color s.1)) ∙ length-filter test men

module _ (f : Symmetry) (p : Position) (position : IsPosition p) (fitting : fits f p.placed_men ≡ true) where
  abbrev men : List PlacedMan
  men = p.placed_men

  abbrev others : List PlacedMan
  others = map (man_image f) men

  inside : (s : PlacedMan) → Contains men s → s.2 < 64
  inside s held = All-contains (λ (t : PlacedMan). t.2 < 64) men s position.squares.men held

  has_men_image : has_men others ≡ true
  has_men_image =
      let known = has_men_parts men (faultless p position.no_fault).men in
      let size = length-map men (man_image f) in
      let many = known.many in let few = known.few in
      let king : (c : Color) → number_of King c others ≡ 1 = λ c. ap (λ (d : Color). number_of King d others) (sym (color_back f c)) ∙ number_image f (color_image f c) men ∙ one_king men known (color_image f c) in
      and_from (has_two_to_six others) (has_kings others)
      (and_from (nat_le 2 (length others)) (nat_le (length others) 6) (le-leb 2 (length others) (omega (arith, size, many))) (le-leb (length others) 6 (omega (arith, size, few))))
      (and_from (number_of King White others == 1) (number_of King Black others == 1) (eq-eqb (number_of King White others) 1 (king White)) (eq-eqb (number_of King Black others) 1 (king Black)))

  abbrev is_inner : PlacedMan → Bool
  is_inner s = not (is_man Pawn s.0 && (rank_of s.2 == 0 || rank_of s.2 == 7))

  inner_image : has_pawns_on_inner_ranks others ≡ true
  inner_image = all_of is_inner others (All-map (λ t. is_inner t ≡ true) (man_image f) men (λ i d h.
      let all = each_of is_inner men (faultless p position.no_fault).inside in
      let each : (s : PlacedMan) → Contains men s → is_inner (man_image f s) ≡ true = λ s held. elim (cases_Bool (is_man Pawn s.0)) [
        | inl t ↦
            let kept = pawns_kept f s.1 s.2 s.2 (men_of_images.pawn_kept f men others (images_map f men) position.squares.men fitting s held t) (inside s held) (inside s held) in
            ap (λ (b : Bool). not (is_man Pawn s.0 && b)) kept.last ∙ All-contains (λ (u : PlacedMan). is_inner u ≡ true) men s all held
        | inr e ↦ rw e refl
      ] in
      each (get_or men i d) (All-contains_itself men i d h)))

  safe_image : is_in_check others (other_color (color_image f p.mover)) ≡ false
  safe_image = ap (is_in_check others) (other_image f p.mover) ∙ men_of_images.in_check f men others (images_map f men) position.squares.men fitting (other_color p.mover) ∙ (faultless p position.no_fault).safe

  occupied_image : (x y : ℕ) → y ≡ square_image f x → x < 64 → is_occupied others y ≡ is_occupied men x
  occupied_image x y e h = ap (is_occupied others) e ∙ men_of_images.occupied f men others (images_map f men) position.squares.men fitting x h

  on_image : (color : Color) (x y : ℕ) → y ≡ square_image f x → x < 64 → is_on Pawn (color_image f color) others y ≡ is_on Pawn color men x
  on_image color x y e h = ap (is_on Pawn (color_image f color) others) e ∙ men_of_images.on f men others (images_map f men) position.squares.men fitting Pawn color x h

  kept_on : (color : Color) (x : ℕ) → is_on Pawn color men x ≡ true → keeps_pawns f ≡ true
  kept_on color x e =
      let r = some_of (λ (s : PlacedMan). is_man Pawn s.0 && is_color color s.1 && s.2 == x) men e in let s = r.0 in
      men_of_images.pawn_kept f men others (images_map f men) position.squares.men fitting s r.1.0 (and_parts (is_man Pawn s.0) (is_color color s.1) (and_parts (is_man Pawn s.0 && is_color color s.1) (s.2 == x) r.1.1).0).0

  -- The square x was passed over by a pawn of the color, from the square on its file and rank b to that on rank t: so was
  -- its image.
  passed_by : (x r r' b b' t t' : ℕ) (color : Color) → x < 64 → b ≤ 7 → t ≤ 7 → (rank_of x ≡ r → rank_of (square_image f x) ≡ r') →
      square_at (file_of (square_image f x)) b' ≡ square_image f (square_at (file_of x) b) → square_at (file_of (square_image f x)) t' ≡ square_image f (square_at (file_of x) t) →
      (rank_of x == r && not (is_occupied men x) && not (is_occupied men (square_at (file_of x) b)) && is_on Pawn color men (square_at (file_of x) t)) ≡ true →
      (rank_of (square_image f x) == r' && not (is_occupied others (square_image f x)) && not (is_occupied others (square_at (file_of (square_image f x)) b')) && is_on Pawn (color_image f color) others (square_at (file_of (square_image f x)) t')) ≡ true
  passed_by x r r' b b' t t' color h hb ht rank from to e =
      let a1 = and_parts (rank_of x == r && not (is_occupied men x) && not (is_occupied men (square_at (file_of x) b))) (is_on Pawn color men (square_at (file_of x) t)) e in
      let a2 = and_parts (rank_of x == r && not (is_occupied men x)) (not (is_occupied men (square_at (file_of x) b))) a1.0 in
      let a3 = and_parts (rank_of x == r) (not (is_occupied men x)) a2.0 in
      let x' = square_image f x in
      and_from (rank_of x' == r' && not (is_occupied others x') && not (is_occupied others (square_at (file_of x') b'))) (is_on Pawn (color_image f color) others (square_at (file_of x') t'))
      (and_from (rank_of x' == r' && not (is_occupied others x')) (not (is_occupied others (square_at (file_of x') b')))
      (and_from (rank_of x' == r') (not (is_occupied others x')) (eq-eqb (rank_of x') r' (rank (eqb-true (rank_of x) r a3.0))) (ap not (occupied_image x x' refl h) ∙ a3.1))
      (ap not (occupied_image (square_at (file_of x) b) (square_at (file_of x') b') from (omega arith)) ∙ a2.1))
      (on_image color (square_at (file_of x) t) (square_at (file_of x') t') to (omega arith) ∙ a1.1)

passed_image : (f : Symmetry) (p : Position) (position : IsPosition p) (fitting : fits f p.placed_men ≡ true) (mover : Color) (x : ℕ) → keeps_pawns f ≡ true → x < 64 →
    was_passed p.placed_men mover x ≡ true → was_passed (map (man_image f) p.placed_men) (color_image f mover) (square_image f x) ≡ true
passed_image Same p position fitting White x k h e = passed_by Same p position fitting x 5 5 6 6 4 4 Black h (omega arith) (omega arith) (λ e. e) refl refl e
passed_image Same p position fitting Black x k h e = passed_by Same p position fitting x 2 2 1 1 3 3 White h (omega arith) (omega arith) (λ e. e) refl refl e
passed_image FlipFiles p position fitting White x k h e = passed_by FlipFiles p position fitting x 5 5 6 6 4 4 Black h (omega arith) (omega arith) (λ e. omega arith) (omega arith) (omega arith) e
passed_image FlipFiles p position fitting Black x k h e = passed_by FlipFiles p position fitting x 2 2 1 1 3 3 White h (omega arith) (omega arith) (λ e. omega arith) (omega arith) (omega arith) e
passed_image FlipRanks p position fitting mover x k h e = absurd (cc)
passed_image FlipDiagonal p position fitting mover x k h e = absurd (cc)
passed_image ExchangeColors p position fitting White x k h e = passed_by ExchangeColors p position fitting x 5 2 6 1 4 3 Black h (omega arith) (omega arith) (λ e. omega arith) (omega arith) (omega arith) e
passed_image ExchangeColors p position fitting Black x k h e = passed_by ExchangeColors p position fitting x 2 5 1 6 3 4 White h (omega arith) (omega arith) (λ e. omega arith) (omega arith) (omega arith) e

-- a pawn passed over the square
passer : (men : List PlacedMan) (mover : Color) (x : ℕ) → was_passed men mover x ≡ true → (to : ℕ) × (is_on Pawn (other_color mover) men to ≡ true)
passer men White x e = (square_at (file_of x) 4, (and_parts (rank_of x == 5 && not (is_occupied men x) && not (is_occupied men (square_at (file_of x) 6))) (is_on Pawn Black men (square_at (file_of x) 4)) e).1)
passer men Black x e = (square_at (file_of x) 3, (and_parts (rank_of x == 2 && not (is_occupied men x) && not (is_occupied men (square_at (file_of x) 1))) (is_on Pawn White men (square_at (file_of x) 3)) e).1)

module _ (f : Symmetry) (p : Position) (position : IsPosition p) (fitting : fits f p.placed_men ≡ true) where
  sound_image : (o : Option ℕ) → ForSome o (λ square. square < 64) → has_sound_en_passant p.placed_men p.mover o ≡ true →
      has_sound_en_passant (map (man_image f) p.placed_men) (color_image f p.mover) (option_map (square_image f) o) ≡ true
  sound_image None h e = refl
  sound_image (Some x) h e =
      let pawn = passer p.placed_men p.mover x e in
      passed_image f p position fitting p.mover x (kept_on f p position fitting (other_color p.mover) pawn.0 pawn.1) (h x refl) e

  square_in : (o : Option ℕ) → ForSome o (λ square. square < 64) → ForSome (option_map (square_image f) o) (λ square. square < 64)
  square_in None h = λ square same. cc
  square_in (Some x) h = λ square same. let e : square_image f x ≡ square = cc in subst (λ (y : ℕ). y < 64) e (image_inside f x (h x refl))

  pub image_is_image : IsImage f p (image f p)
  image_is_image =
      let known = faultless p position.no_fault in
      record {
        position = record {
          no_fault = no_fault (image f p) (record {
            men = has_men_image f p position fitting;
            apart = distinct_image f p.placed_men position.squares.men ∙ known.apart;
            inside = inner_image f p position fitting;
            safe = safe_image f p position fitting;
            sound = sound_image p.en_passant position.squares.en_passant known.sound;
          });
          squares = record {
            men = All-map (λ (t : PlacedMan). t.2 < 64) (man_image f) p.placed_men (λ i d h. image_inside f (get_or p.placed_men i d).2 (position.squares.men i d h));
            en_passant = square_in p.en_passant position.squares.en_passant;
          };
        };
        fitting = fitting;
        men = from_images f p.placed_men (map (man_image f) p.placed_men) (images_map f p.placed_men);
        mover = refl;
        en_passant = refl;
      }

-- ---- men in another order

module _ (men others : List PlacedMan) (board : AreOnBoard men) (images : AreImages Same men others) where
  occupied_again : (x : ℕ) → x < 64 → is_occupied others x ≡ is_occupied men x
  occupied_again x h = men_of_images.occupied Same men others images board refl x h

  on_again : (color : Color) (x : ℕ) → x < 64 → is_on Pawn color others x ≡ is_on Pawn color men x
  on_again color x h = men_of_images.on Same men others images board refl Pawn color x h

  was_again : (mover : Color) (x : ℕ) → x < 64 → was_passed others mover x ≡ was_passed men mover x
  was_again White x h =
      ap (λ (b : Bool). rank_of x == 5 && not b && not (is_occupied others (square_at (file_of x) 6)) && is_on Pawn Black others (square_at (file_of x) 4)) (occupied_again x h)
      ∙ ap (λ (b : Bool). rank_of x == 5 && not (is_occupied men x) && not b && is_on Pawn Black others (square_at (file_of x) 4)) (occupied_again (square_at (file_of x) 6) (omega arith))
      ∙ ap (λ (b : Bool). rank_of x == 5 && not (is_occupied men x) && not (is_occupied men (square_at (file_of x) 6)) && b) (on_again Black (square_at (file_of x) 4) (omega arith))
  was_again Black x h =
      ap (λ (b : Bool). rank_of x == 2 && not b && not (is_occupied others (square_at (file_of x) 1)) && is_on Pawn White others (square_at (file_of x) 3)) (occupied_again x h)
      ∙ ap (λ (b : Bool). rank_of x == 2 && not (is_occupied men x) && not b && is_on Pawn White others (square_at (file_of x) 3)) (occupied_again (square_at (file_of x) 1) (omega arith))
      ∙ ap (λ (b : Bool). rank_of x == 2 && not (is_occupied men x) && not (is_occupied men (square_at (file_of x) 1)) && b) (on_again White (square_at (file_of x) 3) (omega arith))

  sound_again : (mover : Color) (o : Option ℕ) → ForSome o (λ square. square < 64) → has_sound_en_passant others mover o ≡ has_sound_en_passant men mover o
  sound_again mover None h = refl
  sound_again mover (Some x) h = was_again mover x (h x refl)

same_option : (o : Option ℕ) → o ≡ option_map (square_image Same) o
same_option None = refl
same_option (Some x) = refl

pub reordered : (p : Position) → IsPosition p → (others : List PlacedMan) → has_distinct_squares others ≡ true → AreImages Same p.placed_men others →
    IsImage Same p (record { placed_men = others; mover = p.mover; en_passant = p.en_passant })
reordered p position others apart images =
    let men = p.placed_men in let board = position.squares.men in
    let known = faultless p position.no_fault in let parts = has_men_parts men known.men in
    let is = from_images Same men others images in
    let size = counted_all Same men others board known.apart apart is in let many = parts.many in let few = parts.few in
    let king : (c : Color) → number_of King c others ≡ 1 = λ c. (
    let test : PlacedMan → Bool = λ s. is_man King s.0 && is_color c s.1 in
    sym (length-filter test others) ∙ counted Same men others board known.apart apart is test test (λ s. refl) ∙ length-filter test men ∙ one_king men parts c) in
    let inner : PlacedMan → Bool = λ s. not (is_man Pawn s.0 && (rank_of s.2 == 0 || rank_of s.2 == 7)) in
    record {
      position = record {
        no_fault = no_fault (record { placed_men = others; mover = p.mover; en_passant = p.en_passant }) (record {
          men = and_from (has_two_to_six others) (has_kings others)
              (and_from (nat_le 2 (length others)) (nat_le (length others) 6) (le-leb 2 (length others) (omega (arith, size, many))) (le-leb (length others) 6 (omega (arith, size, few))))
              (and_from (number_of King White others == 1) (number_of King Black others == 1) (eq-eqb (number_of King White others) 1 (king White)) (eq-eqb (number_of King Black others) 1 (king Black)));
          apart = apart;
          inside = all_of inner others (λ i d h.
              let r = images.back (get_or others i d) (All-contains_itself others i d h) in
              ap inner (sym r.1.1) ∙ All-contains (λ (s : PlacedMan). inner s ≡ true) men r.0 (each_of inner men known.inside) r.1.0);
          safe = men_of_images.in_check Same men others images board refl (other_color p.mover) ∙ known.safe;
          sound = sound_again men others board images p.mover p.en_passant position.squares.en_passant ∙ known.sound;
        });
        squares = record {
          men = λ i d h.
              let r = images.back (get_or others i d) (All-contains_itself others i d h) in
              subst (λ (t : PlacedMan). t.2 < 64) r.1.1 (All-contains (λ (t : PlacedMan). t.2 < 64) men r.0 board r.1.0);
          en_passant = position.squares.en_passant;
        };
      };
      fitting = refl;
      men = is;
      mover = refl;
      en_passant = same_option p.en_passant;
    }
