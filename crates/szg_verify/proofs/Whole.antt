-- The walk over the positions of a material leaves out none but images.
use Rattle.std.proofs.Common.{◌≡◌, ℕ, zero, suc, ◌+◌, ◌*◌, ◌/◌, ◌%◌, ◌^◌, ◌<◌, ◌≤◌, ◌⊎◌, List, [], ◌∷◌, ◌++◌, length, length-append, map, refl, sym, ap, ◌∙◌, subst, Bool, true, false, arith, inl, inr, get_or, take, Contains, Option, Some, None}
use Rattle.std.specs.Prelude.{filter, not, ◌&&◌, ◌||◌, ◌==◌, nat_le, nat_lt, option_map, count_by}
use Rattle.std.specs.List.{list_any}
use Rattle.std.proofs.lemmas.Bool.{cases_Bool, and_parts, and_from, and_right, or_cases, or_left, or_right, eqb-true, leb-true, leb-false, le-leb, ltb-true, ltb-false, not-true, or_parts, both_ways, false_from_ne_true, not_from_false}
use Rattle.std.proofs.lemmas.List.Elements.{All-head, All-tail, filter-append}
use Rattle.std.proofs.lemmas.List.Sums.{length-filter}
use native.Mathlib.Nat.{pow-suc, pow-le-pow_right, zero-lt-suc}
use Rattle.std.proofs.Math.Nat.{mul-div_cancel, zero-div, mul-zero}
use Rattle.std.proofs.lemmas.List.{length-map, map-append, take_more}
use Rattle.szg_values.specs.Men.{code_of, is_man, is_color, other_color, file_of, rank_of}
use Rattle.szg_values.specs.Material.{Sides, man_codes}
use Rattle.szg_values.specs.Placement.{PlacedMan, AreOnBoard, number_of}
use Rattle.szg_values.specs.declared.Man.{Man}
use Rattle.szg_values.specs.declared.Man.TheVariants.{Pawn, Knight, Bishop, Rook, Queen, King}
use Rattle.szg_values.specs.declared.Color.{Color}
use Rattle.szg_values.specs.declared.Color.TheVariants.{White, Black}
use Rattle.szg_game.specs.declared.Class.{Class}
use Rattle.szg_game.proofs.Lists.{IsIn, some_in, contains_in, in_contains}
use Rattle.szg_chess.specs.Laws.{kinds_of}
use Rattle.szg_chess.specs.Position.{Position, IsPosition}
use Rattle.szg_chess.specs.Images.{Symmetry, Same, FlipFiles, FlipRanks, ExchangeColors, square_image, color_image, man_image, image, fits, keeps_pawns}
use Rattle.szg_chess.proofs.Facts.{faultless, has_men_parts}
use Rattle.szg_chess.proofs.Members.{any_map}
use Rattle.szg_chess.proofs.Images.Counts.{as_many}
use Rattle.szg_chess.proofs.Images.Positions.{image_is_image}
use Rattle.szg_probe.specs.Chess.{ChessClass}
use Rattle.szg_probe.specs.Images.{has_no_pawn, shares_value, has_lone_pawns as lone_men}
use Rattle.szg_probe.specs.Probing.{probed}
use Rattle.szg_verify.specs.Entries.{StoredTables}
use Rattle.szg_verify.specs.Verified.{is_checked, AreSymmetric, has_equal_sides, IsImageBy, HasCheckedImage}
use Rattle.szg_verify.specs.Materials.{has_sides, is_of, kings_alone, are_closed, covers}
use Rattle.szg_verify.specs.Walk.{colored_men, placed_by, position_by, number_count, has_lone_pawns, has_pawn, is_walked, is_king_walked, colored_man, IsRangeChecked, IsMaterialChecked, shard_start, ShardsAreWhole}
use Rattle.szg_verify.proofs.Materials.{closed_by_materials, count, one_if, filter_cons, count_cons, AreCounted, numbers, from_sides, each_kind}
use Rattle.szg_verify.proofs.TwoKings.{kings_checked}
use Rattle.szg_verify.proofs.Checked.{checked_true}
use Rattle.szg_verify.proofs.Images.{checked_by_images, number_by_kinds}
use Rattle.szg_verify.proofs.Arranged.{size_arranged, reordered, reordered_is_image, of_kind, HaveKinds, in_order}

-- ---- numbers

-- each way to put men on squares has a number
record IsNumbered (men : List PlacedMan) : Type 0 where
  pub number : ℕ
  pub within : number < number_count (kinds_of men)
  pub places : placed_by number (kinds_of men) ≡ men

numbered : (men : List PlacedMan) → AreOnBoard men → IsNumbered men
numbered [] board = record { number = 0; within = omega arith; places = refl }
numbered (s ∷ men) board =
    let P : PlacedMan → Type 0 = λ u. u.2 < 64 in
    let here : s.2 < 64 = All-head P s men board in
    let rest = numbered men (All-tail P s men board) in
    let n = rest.number in
    let more = rest.within in
    let power = pow-suc 64 (length (kinds_of men)) in
    let last : (s.2 + 64 * n) % 64 ≡ s.2 = omega arith in
    let others : (s.2 + 64 * n) / 64 ≡ n = omega arith in
    record {
      number = s.2 + 64 * n;
      within = omega (arith, more, power, here);
      places = ap (λ (x : ℕ). (s.0, s.1, x) ∷ placed_by ((s.2 + 64 * n) / 64) (kinds_of men)) last
          ∙ ap (λ (m : ℕ). s ∷ placed_by m (kinds_of men)) others
          ∙ ap (λ (us : List PlacedMan). s ∷ us) rest.places;
    }

-- ---- flips that bring the first man to a walked square

abbrev first_square : List PlacedMan → ℕ
first_square [] = 0
first_square (s ∷ men) = s.2

-- An image of the position by symmetries in turn, with the same men in the same order. Its first man's square passes the test.
record Reaches (p : Position) (test : ℕ → Bool) : Type 0 where
  pub symmetries : List Symmetry
  pub found : Position
  pub is : IsImageBy symmetries p found
  pub position : IsPosition found
  pub no_right : found.en_passant ≡ None
  pub kinds : kinds_of found.placed_men ≡ kinds_of p.placed_men
  pub passes : test (first_square found.placed_men) ≡ true

by_both : (fs gs : List Symmetry) (p q r : Position) → IsImageBy fs p q → IsImageBy gs q r → IsImageBy (fs ++ gs) p r
by_both [] gs p q r same is = subst (λ (x : Position). IsImageBy gs x r) (sym same) is
by_both (f ∷ fs) gs p q r first is = (first.0, first.1, first.2, by_both fs gs first.0 q r first.3 is)

reaches_more : (p : Position) (test next : ℕ → Bool) (r : Reaches p test) → Reaches r.found next → Reaches p next
reaches_more p test next r s = record {
  symmetries = r.symmetries ++ s.symmetries;
  found = s.found;
  is = by_both r.symmetries s.symmetries p r.found s.found r.is s.is;
  position = s.position;
  no_right = s.no_right;
  kinds = s.kinds ∙ r.kinds;
  passes = s.passes;
}

passes_too : (p : Position) (test next : ℕ → Bool) (r : Reaches p test) → next (first_square r.found.placed_men) ≡ true → Reaches p next
passes_too p test next r passes = record { symmetries = r.symmetries; found = r.found; is = r.is; position = r.position; no_right = r.no_right; kinds = r.kinds; passes = passes }

-- the symmetry keeps the colors
abbrev KeepsColors : Symmetry → Type 0
KeepsColors f = (color : Color) → color_image f color ≡ color

same_kinds : (f : Symmetry) → KeepsColors f → (men : List PlacedMan) → kinds_of (map (man_image f) men) ≡ kinds_of men
same_kinds f keeps [] = refl
same_kinds f keeps (s ∷ men) = ap (λ (c : Color). (s.0, c) ∷ kinds_of (map (man_image f) men)) (keeps s.1) ∙ ap (λ (ks : List (Man × Color)). (s.0, s.1) ∷ ks) (same_kinds f keeps men)

first_image : (f : Symmetry) (men : List PlacedMan) → 1 ≤ length men → first_square (map (man_image f) men) ≡ square_image f (first_square men)
first_image f [] h = absurd (omega (arith, h))
first_image f (s ∷ men) h = refl

first_inside : (men : List PlacedMan) → AreOnBoard men → first_square men < 64
first_inside [] board = omega arith
first_inside (s ∷ men) board = All-head (λ (u : PlacedMan). u.2 < 64) s men board

some_men : (p : Position) → IsPosition p → 1 ≤ length p.placed_men
some_men p position = let many = (has_men_parts p.placed_men (faultless p position.no_fault).men).many in omega (arith, many)

-- a position, or its flip
flipped : (f : Symmetry) → KeepsColors f → (test : ℕ → Bool) (p : Position) → IsPosition p → p.en_passant ≡ None → fits f p.placed_men ≡ true → shares_value f p.placed_men ≡ true →
    (test (first_square p.placed_men) ≡ false → test (square_image f (first_square p.placed_men)) ≡ true) → Reaches p test
flipped f keeps test p position no_right fitting shares turns = elim (cases_Bool (test (first_square p.placed_men))) [
  | inl t ↦ record { symmetries = []; found = p; is = refl; position = position; no_right = no_right; kinds = refl; passes = t }
  | inr e ↦ (
      let is = image_is_image f p position fitting in
      record {
        symmetries = f ∷ [];
        found = image f p;
        is = (image f p, is, and_from (shares_value f p.placed_men) (is_color White (color_image f White) || not (has_equal_sides p.placed_men)) shares (ap (λ (c : Color). is_color White c || not (has_equal_sides p.placed_men)) (keeps White)), refl);
        position = is.position;
        no_right = ap (option_map (square_image f)) no_right;
        kinds = same_kinds f keeps p.placed_men;
        passes = ap test (first_image f p.placed_men (some_men p position)) ∙ turns e;
      })
]

abbrev on_near_files : ℕ → Bool
on_near_files square = nat_le (file_of square) 3

abbrev in_corner : ℕ → Bool
in_corner square = nat_le (file_of square) 3 && nat_le (rank_of square) 3

file_turns : (square : ℕ) → square < 64 → on_near_files square ≡ false → on_near_files (square_image FlipFiles square) ≡ true
file_turns square h e = let far = leb-false (file_of square) 3 e in le-leb (file_of (square_image FlipFiles square)) 3 (omega (arith, far, h))

rank_turns : (square : ℕ) → square < 64 → on_near_files square ≡ true → in_corner square ≡ false → in_corner (square_image FlipRanks square) ≡ true
rank_turns square h near e =
    let file = leb-true (file_of square) 3 near in
    let far = leb-false (rank_of square) 3 (rw near at e) in
    and_from (nat_le (file_of (square_image FlipRanks square)) 3) (nat_le (rank_of (square_image FlipRanks square)) 3)
    (le-leb (file_of (square_image FlipRanks square)) 3 (omega (arith, file, h)))
    (le-leb (rank_of (square_image FlipRanks square)) 3 (omega (arith, far, h)))

-- walked squares
walked_anywhere : (lone none : Bool) (square : ℕ) → lone ≡ false → none ≡ false → is_walked lone none square ≡ true
walked_anywhere lone none square l n = and_from (nat_le (file_of square) 3 || not lone) (nat_le (rank_of square) 3 || not none)
    (or_right (nat_le (file_of square) 3) (not lone) (not_from_false lone l)) (or_right (nat_le (rank_of square) 3) (not none) (not_from_false none n))

walked_near : (lone none : Bool) (square : ℕ) → none ≡ false → on_near_files square ≡ true → is_walked lone none square ≡ true
walked_near lone none square n near = and_from (nat_le (file_of square) 3 || not lone) (nat_le (rank_of square) 3 || not none)
    (or_left (nat_le (file_of square) 3) (not lone) near) (or_right (nat_le (rank_of square) 3) (not none) (not_from_false none n))

walked_corner : (lone none : Bool) (square : ℕ) → in_corner square ≡ true → is_walked lone none square ≡ true
walked_corner lone none square corner =
    let both = and_parts (nat_le (file_of square) 3) (nat_le (rank_of square) 3) corner in
    and_from (nat_le (file_of square) 3 || not lone) (nat_le (rank_of square) 3 || not none)
    (or_left (nat_le (file_of square) 3) (not lone) both.0) (or_left (nat_le (rank_of square) 3) (not none) both.1)

-- pawns by kinds
same_pawns : (men : List PlacedMan) → has_no_pawn men ≡ not (has_pawn (kinds_of men))
same_pawns men = ap not (sym (any_map (λ (k : Man × Color). is_man Pawn k.0) (λ (s : PlacedMan). (s.0, s.1)) men))

same_lone : (men : List PlacedMan) → lone_men men ≡ has_lone_pawns (kinds_of men)
same_lone men = ap (λ (n : ℕ). nat_le n 1 && nat_le (number_of Pawn Black men) 1) (number_by_kinds Pawn White men)
    ∙ ap (λ (n : ℕ). nat_le (count_by (λ (k : Man × Color). is_man Pawn k.0 && is_color White k.1) (kinds_of men)) 1 && nat_le n 1) (number_by_kinds Pawn Black men)

-- men without pawns have no two
none_is_lone : (kinds : List (Man × Color)) → not (has_pawn kinds) ≡ true → has_lone_pawns kinds ≡ true
none_is_lone kinds e = and_from (nat_le (count_by (λ k. is_man Pawn k.0 && is_color White k.1) kinds) 1) (nat_le (count_by (λ k. is_man Pawn k.0 && is_color Black k.1) kinds) 1)
    (le-leb (count_by (λ k. is_man Pawn k.0 && is_color White k.1) kinds) 1 (few White kinds (not-true (has_pawn kinds) e)))
    (le-leb (count_by (λ k. is_man Pawn k.0 && is_color Black k.1) kinds) 1 (few Black kinds (not-true (has_pawn kinds) e)))
  where
    nobody : (color : Color) (kinds : List (Man × Color)) → has_pawn kinds ≡ false → length (filter (of_kind Pawn color) kinds) ≡ 0
    nobody color [] e = refl
    nobody color (k ∷ kinds) e =
        let parts = or_parts (is_man Pawn k.0) (has_pawn kinds) e in
        let cons = filter_cons (of_kind Pawn color) k kinds in
        let here : one_if (is_man Pawn k.0 && is_color color k.1) ≡ 0 = rw parts.0 refl in
        let rest = nobody color kinds parts.1 in
        omega (arith, cons, here, rest)

    few : (color : Color) (kinds : List (Man × Color)) → has_pawn kinds ≡ false → count_by (λ k. is_man Pawn k.0 && is_color color k.1) kinds ≤ 1
    few color kinds e = let none = nobody color kinds e in let counted = length-filter (of_kind Pawn color) kinds in omega (arith, none, counted)

fits_without_pawns : (f : Symmetry) (men : List PlacedMan) → has_pawn (kinds_of men) ≡ false → fits f men ≡ true
fits_without_pawns f men e =
    or_right (keeps_pawns f) (not (list_any (λ s. is_man Pawn s.0) men)) (not_from_false (list_any (λ s. is_man Pawn s.0) men) (sym (any_map (λ (k : Man × Color). is_man Pawn k.0) (λ (s : PlacedMan). (s.0, s.1)) men) ∙ e))

to_walked : (p : Position) → IsPosition p → p.en_passant ≡ None → Reaches p (is_king_walked (kinds_of p.placed_men))
to_walked p position no_right = elim (cases_Bool (has_lone_pawns (kinds_of p.placed_men))) [
  | inl lone ↦ (
      let near = near_of lone in
      elim (cases_Bool (not (has_pawn (kinds_of p.placed_men)))) [
        | inl none ↦ (
            let q = near.found in
            let still : has_pawn (kinds_of q.placed_men) ≡ false = ap has_pawn near.kinds ∙ not-true (has_pawn (kinds_of p.placed_men)) none in
            let shares : shares_value FlipRanks q.placed_men ≡ true = same_pawns q.placed_men ∙ not_from_false (has_pawn (kinds_of q.placed_men)) still in
            let corner = reaches_more p on_near_files in_corner near
            (flipped FlipRanks (λ c. refl) in_corner q near.position near.no_right (fits_without_pawns FlipRanks q.placed_men still) shares (rank_turns (first_square q.placed_men) (first_inside q.placed_men near.position.squares.men) near.passes)) in
            passes_too p in_corner (is_king_walked (kinds_of p.placed_men)) corner (walked_corner (has_lone_pawns (kinds_of p.placed_men)) (not (has_pawn (kinds_of p.placed_men))) (first_square corner.found.placed_men) corner.passes))
        | inr some ↦ passes_too p on_near_files (is_king_walked (kinds_of p.placed_men)) near (walked_near (has_lone_pawns (kinds_of p.placed_men)) (not (has_pawn (kinds_of p.placed_men))) (first_square near.found.placed_men) some near.passes)
      ])
  | inr two ↦ record {
    symmetries = [];
    found = p;
    is = refl;
    position = position;
    no_right = no_right;
    kinds = refl;
    passes = walked_anywhere (has_lone_pawns (kinds_of p.placed_men)) (not (has_pawn (kinds_of p.placed_men))) (first_square p.placed_men) two (some_pawn two);
  }
]
  where
    near_of : has_lone_pawns (kinds_of p.placed_men) ≡ true → Reaches p on_near_files
    near_of lone = flipped FlipFiles (λ c. refl) on_near_files p position no_right refl (same_lone p.placed_men ∙ lone) (file_turns (first_square p.placed_men) (first_inside p.placed_men position.squares.men))

    some_pawn : has_lone_pawns (kinds_of p.placed_men) ≡ false → not (has_pawn (kinds_of p.placed_men)) ≡ false
    some_pawn two = false_from_ne_true (not (has_pawn (kinds_of p.placed_men))) (λ none. both_ways (has_lone_pawns (kinds_of p.placed_men)) two (none_is_lone (kinds_of p.placed_men) none))

-- ---- the men of a material

and_true : (b : Bool) → (b && true) ≡ b
and_true true = refl
and_true false = refl

own_count : (man : Man) (a b : Color) → is_color a b ≡ true → (side : List Man) → length (filter (of_kind man a) (map (λ (m : Man). (m, b)) side)) ≡ count man side
own_count man a b e [] = refl
own_count man a b e (m ∷ side) =
    let rest = own_count man a b e side in
    let longer = filter_cons (of_kind man a) (m, b) (map (λ (m : Man). (m, b)) side) in
    let cons = count_cons man m side in
    let one : one_if (is_man man m && is_color a b) ≡ one_if (is_man man m) = rw e (ap one_if (and_true (is_man man m))) in
    omega (arith, rest, longer, cons, one)

no_count : (man : Man) (a b : Color) → is_color a b ≡ false → (side : List Man) → length (filter (of_kind man a) (map (λ (m : Man). (m, b)) side)) ≡ 0
no_count man a b e [] = refl
no_count man a b e (m ∷ side) =
    let rest = no_count man a b e side in
    let longer = filter_cons (of_kind man a) (m, b) (map (λ (m : Man). (m, b)) side) in
    let none : one_if (is_man man m && is_color a b) ≡ 0 = rw e (ap one_if (and_right (is_man man m) false refl)) in
    omega (arith, rest, longer, none)

abbrev of_side : Color → List Man → List (Man × Color)
of_side color side = map (λ (m : Man). (m, color)) side

have_kinds : (men : List PlacedMan) (sides : Sides) → AreCounted (numbers men) sides.first sides.second → HaveKinds men (colored_men sides)
have_kinds men sides counted man color = length-filter (λ (s : PlacedMan). is_man man s.0 && is_color color s.1) men ∙ by_color color
  where
    both : (color : Color) → length (filter (of_kind man color) (colored_men sides)) ≡ length (filter (of_kind man color) (of_side White sides.first)) + length (filter (of_kind man color) (of_side Black sides.second))
    both color = ap length (filter-append (of_kind man color) (of_side White sides.first) (of_side Black sides.second)) ∙ length-append (filter (of_kind man color) (of_side White sides.first)) (filter (of_kind man color) (of_side Black sides.second))

    by_color : (color : Color) → number_of man color men ≡ length (filter (of_kind man color) (colored_men sides))
    by_color White = (counted man).0 ∙ (let b = both White in let own = own_count man White White refl sides.first in let no = no_count man White Black refl sides.second in omega (arith, b, own, no))
    by_color Black = (counted man).1 ∙ (let b = both Black in let own = own_count man Black Black refl sides.second in let no = no_count man Black White refl sides.first in omega (arith, b, own, no))

-- ---- the first side as White

-- an image of the position in which White has the men of the first side
record HasFirstSide (sides : Sides) (p : Position) : Type 0 where
  pub symmetries : List Symmetry
  pub found : Position
  pub is : IsImageBy symmetries p found
  pub position : IsPosition found
  pub no_right : found.en_passant ≡ None
  pub counted : AreCounted (numbers found.placed_men) sides.first sides.second

exchanged_count : (man : Man) (color : Color) (men : List PlacedMan) → number_of man color (map (man_image ExchangeColors) men) ≡ number_of man (other_color color) men
exchanged_count man color men =
    let of_image : PlacedMan → Bool = λ s. is_man man s.0 && is_color color s.1 in
    let test : PlacedMan → Bool = λ s. is_man man s.0 && is_color (other_color color) s.1 in
    sym (length-filter of_image (map (man_image ExchangeColors) men))
    ∙ as_many ExchangeColors of_image test men (λ s. ap (λ (b : Bool). is_man man s.0 && b) (same_test color s.1))
    ∙ length-filter test men
  where
    same_test : (a b : Color) → is_color a (other_color b) ≡ is_color (other_color a) b
    same_test White White = refl
    same_test White Black = refl
    same_test Black White = refl
    same_test Black Black = refl

equal_counts : (men : List PlacedMan) → has_equal_sides men ≡ true → (man : Man) → number_of man White men ≡ number_of man Black men
equal_counts men e man = eqb-true (number_of man White men) (number_of man Black men) (each_kind (λ (m : Man). number_of m White men == number_of m Black men) e man)

first_side : (sides : Sides) (p : Position) → IsPosition p → p.en_passant ≡ None → is_of p.placed_men sides ≡ true → HasFirstSide sides p
first_side sides p position no_right e = elim (or_cases (has_sides p.placed_men sides.first sides.second) (has_sides p.placed_men sides.second sides.first) e) [
  | inl t ↦ record { symmetries = []; found = p; is = refl; position = position; no_right = no_right; counted = from_sides p.placed_men sides.first sides.second t }
  | inr t ↦ (
      let counted = from_sides p.placed_men sides.second sides.first t in
      elim (cases_Bool (has_equal_sides p.placed_men)) [
        | inl equal ↦ record {
          symmetries = [];
          found = p;
          is = refl;
          position = position;
          no_right = no_right;
          counted = λ man. (let same = equal_counts p.placed_men equal man in (same ∙ (counted man).1, sym same ∙ (counted man).0));
        }
        | inr differ ↦ (
            let is = image_is_image ExchangeColors p position refl in
            record {
              symmetries = ExchangeColors ∷ [];
              found = image ExchangeColors p;
              is = (image ExchangeColors p, is, not_from_false (has_equal_sides p.placed_men) differ, refl);
              position = is.position;
              no_right = ap (option_map (square_image ExchangeColors)) no_right;
              counted = λ man. (exchanged_count man White p.placed_men ∙ (counted man).1, exchanged_count man Black p.placed_men ∙ (counted man).0);
            })
      ])
]

-- ---- the whole

abbrev position_of : List PlacedMan → Color → Position
position_of men mover = record { placed_men = men; mover = mover; en_passant = None }

abbrev with_right : Position → Option ℕ → Position
with_right p right = record { placed_men = p.placed_men; mover = p.mover; en_passant = right }

same_first : (number : ℕ) (kinds : List (Man × Color)) (men : List PlacedMan) → 1 ≤ length men → placed_by number kinds ≡ men → number % 64 ≡ first_square men
same_first number [] men some e = let none = ap length e in absurd (omega (arith, some, none))
same_first number (k ∷ kinds) men some e = ap first_square e

pub walk_is_whole : (tables : StoredTables) (sides : Sides) → IsRangeChecked tables sides 0 (number_count (colored_men sides)) → IsMaterialChecked tables sides
walk_is_whole tables sides checked p position no_right e =
    let a = first_side sides p position no_right e in
    let b = in_order (colored_men sides) a.found.placed_men (have_kinds a.found.placed_men sides a.counted) in
    let q = reordered a.found b.order in
    let is = reordered_is_image a.found a.position a.no_right b.order b.arranged in
    let c = to_walked q is.position refl in
    let r = c.found in
    let kinds : kinds_of r.placed_men ≡ colored_men sides = c.kinds ∙ b.kinds_are in
    let n = numbered r.placed_men c.position.squares.men in
    let places : placed_by n.number (colored_men sides) ≡ r.placed_men = ap (placed_by n.number) (sym kinds) ∙ n.places in
    let first = same_first n.number (colored_men sides) r.placed_men (some_men r c.position) places in
    let same : position_by n.number (colored_men sides) r.mover ≡ r = ap (λ (men : List PlacedMan). position_of men r.mover) places ∙ ap (λ (o : Option ℕ). with_right r o) (sym c.no_right) in
    let within : n.number < number_count (colored_men sides) = subst (λ (ks : List (Man × Color)). n.number < number_count ks) kinds n.within in
    let walked : is_king_walked (colored_men sides) (n.number % 64) ≡ true =
    ap (is_king_walked (colored_men sides)) first ∙ ap (λ (ks : List (Man × Color)). is_king_walked ks (first_square r.placed_men)) (sym b.kinds_are) ∙ c.passes in
    let done = checked n.number r.mover (omega arith) within walked (subst IsPosition (sym same) c.position) in
    record {
      symmetries = a.symmetries ++ (Same ∷ c.symmetries);
      image = r;
      is = by_both a.symmetries (Same ∷ c.symmetries) p a.found r a.is (q, is, refl, c.is);
      checked = sym (ap (is_checked tables) same) ∙ done;
    }

pub ranges_join : (tables : StoredTables) (sides : Sides) (from middle to : ℕ) → IsRangeChecked tables sides from middle → IsRangeChecked tables sides middle to → IsRangeChecked tables sides from to
ranges_join tables sides from middle to first second number mover above below walked position = elim (cases_Bool (nat_lt number middle)) [
  | inl t ↦ first number mover above (ltb-true number middle t) walked position
  | inr e ↦ second number mover (ltb-false number middle e) below walked position
]

pub shards_are_whole : ShardsAreWhole
shards_are_whole tables sides shards some each = walk_is_whole tables sides (subst (IsRangeChecked tables sides 0) last (first_ones shards (omega arith)))
  where
    count : ℕ
    count = number_count (colored_men sides)

    start : ℕ → ℕ
    start before = shard_start count shards before

    none : start 0 ≡ 0
    none = ap (λ (n : ℕ). n / shards) (mul-zero count) ∙ zero-div shards

    last : start shards ≡ count
    last = mul-div_cancel count some

    first_ones : (before : ℕ) → before ≤ shards → IsRangeChecked tables sides 0 (start before)
    first_ones zero within = λ number mover above below walked position. absurd (omega (arith, none, below))
    first_ones (suc before) within =
        let next : before + 1 ≡ suc before = omega arith in
        subst (λ (n : ℕ). IsRangeChecked tables sides 0 (start n)) next
        (ranges_join tables sides 0 (start before) (start (before + 1)) (first_ones before (omega (arith, within))) (each before (omega (arith, within))))

-- ---- each probe of a closed set of materials

kings_are_two : (men : List PlacedMan) → is_of men kings_alone ≡ true → length men ≡ 2
kings_are_two men e =
    let counted : AreCounted (numbers men) kings_alone.first kings_alone.second = elim (or_cases (has_sides men kings_alone.first kings_alone.second) (has_sides men kings_alone.second kings_alone.first) e) [
      | inl t ↦ from_sides men kings_alone.first kings_alone.second t
      | inr t ↦ from_sides men kings_alone.first kings_alone.second t
    ] in
    let ordered = in_order (colored_men kings_alone) men (have_kinds men kings_alone counted) in
    sym (size_arranged ordered.arranged) ∙ sym (length-map ordered.order (λ (s : PlacedMan). (s.0, s.1))) ∙ ap length ordered.kinds_are

pub verified_is_true : (tables : StoredTables) (materials : List Sides) (p : Position) → are_closed materials ≡ true → AreSymmetric tables →
    ((sides : Sides) → Contains materials sides → IsMaterialChecked tables sides) → IsPosition p → covers materials p.placed_men ≡ true →
    (k : Class) × (probed tables.classes p ≡ Some k) × ChessClass p k
verified_is_true tables materials p closed symmetric each position covered =
    checked_true tables (covers materials) (checked_by_images tables (covers materials) (closed_by_materials materials closed) symmetric image_of) p position covered
  where
    image_of : (q : Position) → IsPosition q → q.en_passant ≡ None → covers materials q.placed_men ≡ true → HasCheckedImage tables q
    image_of q position no_right covered =
        let r = some_in (is_of q.placed_men) (kings_alone ∷ materials) covered in
        elim r.1 [
          | inl kings ↦ record {
            symmetries = [];
            image = q;
            is = refl;
            checked = kings_checked tables q position (kings_are_two q.placed_men (ap (is_of q.placed_men) kings ∙ r.2));
          }
          | inr i ↦ each r.0 (contains_in materials r.0 i) q position no_right r.2
        ]

-- ---- for the code

pub men_by_codes : (sides : Sides) → map colored_man (man_codes sides) ≡ colored_men sides
men_by_codes sides =
    map-append colored_man (map code_of sides.first) (map (λ (man : Man). 8 + code_of man) sides.second)
    ∙ ap (λ (xs : List (Man × Color)). xs ++ map colored_man (map (λ (man : Man). 8 + code_of man) sides.second)) (first_men sides.first)
    ∙ ap (λ (xs : List (Man × Color)). of_side White sides.first ++ xs) (second_men sides.second)
  where
    first_code : (man : Man) → ◌≡◌ {A = Man × Color} (colored_man (code_of man)) (man, White)
    first_code Pawn = refl
    first_code Knight = refl
    first_code Bishop = refl
    first_code Rook = refl
    first_code Queen = refl
    first_code King = refl

    second_code : (man : Man) → ◌≡◌ {A = Man × Color} (colored_man (8 + code_of man)) (man, Black)
    second_code Pawn = refl
    second_code Knight = refl
    second_code Bishop = refl
    second_code Rook = refl
    second_code Queen = refl
    second_code King = refl

    first_men : (side : List Man) → map colored_man (map code_of side) ≡ of_side White side
    first_men [] = refl
    first_men (man ∷ side) = ap (λ (k : Man × Color). k ∷ map colored_man (map code_of side)) (first_code man) ∙ ap (λ (ks : List (Man × Color)). (man, White) ∷ ks) (first_men side)

    second_men : (side : List Man) → map colored_man (map (λ (man : Man). 8 + code_of man) side) ≡ of_side Black side
    second_men [] = refl
    second_men (man ∷ side) = ap (λ (k : Man × Color). k ∷ map colored_man (map (λ (man : Man). 8 + code_of man) side)) (second_code man) ∙ ap (λ (ks : List (Man × Color)). (man, Black) ∷ ks) (second_men side)

pub few_numbers : (n : ℕ) → n ≤ 6 → 64 ^ n ≤ 68719476736
few_numbers n h = let power : 64 ^ n ≤ 64 ^ 6 = pow-le-pow_right (zero-lt-suc 63) h in power

in_last : (xs : List Sides) (x s : Sides) → IsIn (xs ++ x ∷ []) s → (x ≡ s) ⊎ IsIn xs s
in_last [] x s (inl e) = inl e
in_last [] x s (inr i) = absurd i
in_last (y ∷ xs) x s (inl e) = inr (inl e)
in_last (y ∷ xs) x s (inr i) = elim (in_last xs x s i) [ inl e ↦ inl e | inr j ↦ inr (inr j) ]

pub one_more : (xs : List Sides) (i : ℕ) (x s : Sides) → i < length xs → x ≡ get_or xs i x → Contains (take (i + 1) xs) s → (x ≡ s) ⊎ Contains (take i xs) s
one_more xs i x s less is held =
    let e : take (i + 1) xs ≡ take i xs ++ x ∷ [] = take_more xs i x less ∙ ap (λ (y : Sides). take i xs ++ y ∷ []) (sym is) in
    elim (in_last (take i xs) x s (in_contains (take i xs ++ x ∷ []) s (subst (λ (ys : List Sides). Contains ys s) e held))) [ inl same ↦ inl same | inr j ↦ inr (contains_in (take i xs) s j) ]
