-- What is probed at the image of a position.
use Rattle.std.proofs.Common.{◌≡◌, ℕ, zero, suc, ◌≤◌, ◌↔◌, ◌⊎◌, List, [], ◌∷◌, length, map, refl, sym, ap, ◌∙◌, subst, Bool, true, false, arith, inl, inr, Option, Some, None}
use Rattle.std.specs.Prelude.{filter, not, ◌&&◌, ◌||◌, ◌==◌, nat_le, is_none, option_map, if◌then◌else◌}
use Rattle.std.specs.List.{list_any, list_all}
use Rattle.std.proofs.lemmas.Bool.{cases_Bool, and_from, and_parts, ne_eqb, leb-true, le-leb}
use Rattle.std.proofs.lemmas.List.Sums.{length-filter}
use Rattle.szg_values.specs.Men.{is_man, is_color}
use Rattle.szg_values.specs.Placement.{PlacedMan, number_of}
use Rattle.szg_values.specs.declared.Man.{Man}
use Rattle.szg_values.specs.declared.Man.TheVariants.{Pawn}
use Rattle.szg_values.specs.declared.Color.{Color}
use Rattle.szg_values.specs.declared.Color.TheVariants.{White, Black}
use Rattle.szg_game.specs.Game.{Move as Step}
use Rattle.szg_game.specs.Classes.{level, negate, best_after}
use Rattle.szg_game.specs.declared.Class.{Class}
use Rattle.szg_game.specs.declared.Class.TheVariants.{Draw, Win}
use Rattle.szg_game.proofs.Graded.{level-better, level-injective}
use Rattle.szg_game.proofs.Images.{IsLike, like_class}
use Rattle.szg_game.proofs.Lists.{IsIn, some_in, any_in, each_in, all_in, in_map, map_in, contains_in, in_contains}
use Rattle.szg_chess.specs.declared.Move.{Move}
use Rattle.szg_chess.specs.Position.{Position, IsPosition}
use Rattle.szg_chess.specs.Moves.{captured_square, man_after, men_after, after, is_capture, is_en_passant, legal_moves, legal_captures, has_no_move, has_move_beside_en_passant}
use Rattle.szg_chess.specs.Images.{Symmetry, Same, FlipFiles, FlipRanks, FlipDiagonal, ExchangeColors, move_image, image, IsImage, IsMoveImage}
use Rattle.szg_chess.proofs.MoveFacts.{legal_move}
use Rattle.szg_chess.proofs.AfterMove.{after_is_position}
use Rattle.szg_chess.proofs.Captured.{captures_law}
use Rattle.szg_chess.proofs.Images.Geometry.{same_test}
use Rattle.szg_chess.proofs.Images.Moves.{same_check, move_image_of, move_again}
use Rattle.szg_chess.proofs.Images.Counts.{same_size}
use Rattle.szg_chess.proofs.Images.Positions.{image_of_image, image_is_image}
use Rattle.szg_probe.specs.Chess.{chess, step_of, ply_limit, ChessClass}
use Rattle.szg_probe.specs.Probing.{StoredClasses, stored_class, is_known_loss, all_known, best_capture, has_only_en_passant, class_from, probed_at, probed}
use Rattle.szg_probe.specs.Images.{has_no_pawn, has_lone_pawns, shares_value, AreSymmetric}
use Rattle.szg_probe.proofs.Choosing.{in_filter, filter_in}

-- ---- lists with the same elements

abbrev pub AreSame : {A : Type 0} → List A → List A → Type 0
AreSame {A} xs ys = (x : A) → IsIn xs x ↔ IsIn ys x

pub any_same : {A : Type 0} (t : A → Bool) (xs ys : List A) → AreSame xs ys → list_any t xs ≡ list_any t ys
any_same t xs ys same = same_test (list_any t xs) (list_any t ys)
    (λ e. let r = some_in t xs e in any_in t ys r.0 ((same r.0).0 r.1) r.2)
    (λ e. let r = some_in t ys e in any_in t xs r.0 ((same r.0).1 r.1) r.2)

best_bounds : (ks : List Class) (k : Class) → IsIn ks k → level (negate k) ≤ level (best_after ks)
best_bounds [] k i = absurd i
best_bounds (x ∷ ks) k (inl e) = let b = level-better (negate x) (best_after ks) in let same = ap (λ (j : Class). level (negate j)) e in omega (arith, b, same)
best_bounds (x ∷ ks) k (inr i) = let b = level-better (negate x) (best_after ks) in let more = best_bounds ks k i in omega (arith, b, more)

no_better : (ks js : List Class) → ((k : Class) → IsIn ks k → IsIn js k) → level (best_after ks) ≤ level (best_after js)
no_better [] js held = omega arith
no_better (k ∷ ks) js held =
    let b = level-better (negate k) (best_after ks) in
    let here = best_bounds js k (held k (inl refl)) in
    let more = no_better ks js (λ j i. held j (inr i)) in
    omega (arith, b, here, more)

same_best : (ks js : List Class) → AreSame ks js → best_after ks ≡ best_after js
same_best ks js same =
    let up = no_better ks js (λ k. (same k).0) in let down = no_better js ks (λ k. (same k).1) in
    level-injective (best_after ks) (best_after js) (omega (arith, up, down))

-- ---- lists whose elements are known or not

-- the elements that are known
values : {A : Type 0} → List (Option A) → List A
values [] = []
values (None ∷ xs) = values xs
values (Some x ∷ xs) = x ∷ values xs

in_values : {A : Type 0} (xs : List (Option A)) (x : A) → IsIn (values xs) x ↔ IsIn xs (Some x)
unfolding values
in_values [] x = (λ i. i, λ i. i)
in_values (None ∷ xs) x = (λ i. inr ((in_values xs x).0 i), λ i. elim i [ inl e ↦ absurd (cc) | inr j ↦ (in_values xs x).1 j ])
in_values (Some y ∷ xs) x = (
  λ i. elim i [ inl e ↦ inl (ap (λ z. Some z) e) | inr j ↦ inr ((in_values xs x).0 j) ],
  λ i. elim i [ inl e ↦ inl (let h : Some y ≡ Some x = e in cc) | inr j ↦ inr ((in_values xs x).1 j) ],
)

known_or_not : {A : Type 0} (xs : List (Option A)) → all_known xs ≡ (if list_any is_none xs then None else Some (values xs))
unfolding values
known_or_not [] = refl
known_or_not (None ∷ xs) = refl
known_or_not {A} (Some x ∷ xs) = ap (option_map (λ (ys : List A). x ∷ ys)) (known_or_not xs) ∙ by_test (list_any is_none xs)
  where
    by_test : (b : Bool) → option_map (λ (ys : List A). x ∷ ys) (if b then None else Some (values xs)) ≡ (if b then None else Some (x ∷ values xs))
    by_test true = refl
    by_test false = refl

-- what depends on the elements of a list alone, not on their order or number
abbrev pub IsOfElements : {A B : Type 0} → (List A → B) → Type 0
IsOfElements {A} g = (xs ys : List A) → AreSame xs ys → g xs ≡ g ys

pub same_known : {A B : Type 0} (g : List A → B) → IsOfElements g → (xs ys : List (Option A)) → AreSame xs ys → option_map g (all_known xs) ≡ option_map g (all_known ys)
same_known {A} {B} g of_elements xs ys same =
    let given : Bool → List A → Option B = λ b zs. option_map g (if b then None else Some zs) in
    let here : AreSame (values xs) (values ys) = λ x. (λ i. (in_values ys x).1 ((same (Some x)).0 ((in_values xs x).0 i)), λ i. (in_values xs x).1 ((same (Some x)).1 ((in_values ys x).0 i))) in
    let by_test : (b : Bool) → given b (values xs) ≡ given b (values ys) = λ b. elim b as (λ b. given b (values xs) ≡ given b (values ys)) [
      | true ↦ refl
      | false ↦ ap (λ (y : B). Some y) (of_elements (values xs) (values ys) here)
    ] in
    ap (option_map g) (known_or_not xs)
    ∙ ap (λ (b : Bool). given b (values xs)) (any_same is_none xs ys same)
    ∙ by_test (list_any is_none ys)
    ∙ ap (option_map g) (sym (known_or_not ys))

same_best_capture : (ks js : List (Option Class)) → AreSame ks js → best_capture ks ≡ best_capture js
same_best_capture ks js same =
    ap (λ (b : Bool). if b then Some Win else option_map best_after (all_known ks)) (any_same is_known_loss ks js same)
    ∙ ap (λ (o : Option Class). if list_any is_known_loss js then Some Win else o) (same_known best_after same_best ks js same)

-- ---- moves of an image

module _ (f : Symmetry) (p q : Position) (position : IsPosition p) (is : IsImage f p q) where
  pub move_there : (m : Move) → IsIn (legal_moves p) m → IsMoveImage f p q m
  move_there m i = move_image_of f p q position is m (contains_in (legal_moves p) m i)

  pub move_back : (k : Move) → IsIn (legal_moves q) k → (m : Move) × IsIn (legal_moves p) m × (move_image f m ≡ k)
  move_back k i =
      let turned = image_of_image f p q position is in
      let held = contains_in (legal_moves q) k i in
      (move_image f k, in_contains (legal_moves p) (move_image f k) (move_image_of f q p is.position turned k held).legal, move_again f q p is.position turned k held)

  -- a test of moves passes some move, if it passes some image
  pub any_moves : (t of_image : Move → Bool) → ((m : Move) → IsIn (legal_moves p) m → of_image (move_image f m) ≡ t m) → list_any of_image (legal_moves q) ≡ list_any t (legal_moves p)
  any_moves t of_image same = same_test (list_any of_image (legal_moves q)) (list_any t (legal_moves p))
      (λ e. let r = some_in of_image (legal_moves q) e in let m = move_back r.0 r.1 in any_in t (legal_moves p) m.0 m.1 (sym (same m.0 m.1) ∙ ap of_image m.2 ∙ r.2))
      (λ e. let r = some_in t (legal_moves p) e in any_in of_image (legal_moves q) (move_image f r.0) (in_contains (legal_moves q) (move_image f r.0) (move_there r.0 r.1).legal) (same r.0 r.1 ∙ r.2))

  pub all_moves : (t of_image : Move → Bool) → ((m : Move) → IsIn (legal_moves p) m → of_image (move_image f m) ≡ t m) → list_all of_image (legal_moves q) ≡ list_all t (legal_moves p)
  all_moves t of_image same = same_test (list_all of_image (legal_moves q)) (list_all t (legal_moves p))
      (λ e. all_in t (legal_moves p) (λ m i. sym (same m i) ∙ each_in of_image (legal_moves q) e (move_image f m) (in_contains (legal_moves q) (move_image f m) (move_there m i).legal)))
      (λ e. all_in of_image (legal_moves q) (λ k i. let m = move_back k i in sym (ap of_image m.2) ∙ same m.0 m.1 ∙ each_in t (legal_moves p) e m.0 m.1))

  pub same_no_move : has_no_move q ≡ has_no_move p
  same_no_move = none (legal_moves q) ∙ ap not (any_moves (λ m. true) (λ m. true) (λ m i. refl)) ∙ sym (none (legal_moves p))
    where
      none : (ms : List Move) → (length ms == 0) ≡ not (list_any (λ m. true) ms)
      none [] = refl
      none (m ∷ ms) = ne_eqb (length (m ∷ ms)) 0 (λ e. absurd (omega (arith, e)))

  same_decide : has_only_en_passant q ≡ has_only_en_passant p
  same_decide = ap (λ (b : Bool). not (b || has_move_beside_en_passant q)) same_no_move
      ∙ ap (λ (b : Bool). not (has_no_move p || b)) (any_moves (λ m. not (is_en_passant p m)) (λ m. not (is_en_passant q m)) (λ m i. ap not (move_there m i).passing))

  -- what a function gives for the moves that pass a test, it gives for their images
  pub same_given : {A : Type 0} (t of_image : Move → Bool) (g of_images : Move → A) → ((m : Move) → IsIn (legal_moves p) m → of_image (move_image f m) ≡ t m) →
      ((m : Move) → IsIn (legal_moves p) m → t m ≡ true → of_images (move_image f m) ≡ g m) → AreSame (map of_images (filter of_image (legal_moves q))) (map g (filter t (legal_moves p)))
  same_given {A} t of_image g of_images same given y = (
    λ i.
        let r = map_in of_images (filter of_image (legal_moves q)) y i in
        let passed = filter_in of_image (legal_moves q) r.0 r.1 in
        let m = move_back r.0 passed.0 in
        let passes : t m.0 ≡ true = sym (same m.0 m.1) ∙ ap of_image m.2 ∙ passed.1 in
        subst (λ (z : A). IsIn (map g (filter t (legal_moves p))) z) (sym (given m.0 m.1 passes) ∙ ap of_images m.2 ∙ r.2) (in_map g (filter t (legal_moves p)) m.0 (in_filter t (legal_moves p) m.0 m.1 passes)),
    λ i.
        let r = map_in g (filter t (legal_moves p)) y i in
        let passed = filter_in t (legal_moves p) r.0 r.1 in
        let k = move_image f r.0 in
        let listed = in_contains (legal_moves q) k (move_there r.0 passed.0).legal in
        subst (λ (z : A). IsIn (map of_images (filter of_image (legal_moves q))) z) (given r.0 passed.0 passed.1 ∙ r.2)
        (in_map of_images (filter of_image (legal_moves q)) k (in_filter of_image (legal_moves q) k listed (same r.0 passed.0 ∙ passed.1))),
  )

-- ---- images that share a value

no_pawn_after : (p : Position) → IsPosition p → has_no_pawn p.placed_men ≡ true → (m : Move) → IsIn (legal_moves p) m → has_no_pawn (after p m).placed_men ≡ true
no_pawn_after p position none m i = (move_there FlipRanks p (image FlipRanks p) position (image_is_image FlipRanks p position none) m i).leads.fitting

-- a move makes no pawns
abbrev MakesNoPawn : Move → Type 0
MakesNoPawn m = (m.promotion ≡ None) ⊎ ((piece : Man) × (m.promotion ≡ Some piece) × (is_man Pawn piece ≡ false))

makes_no_pawn : (p : Position) (m : Move) → IsIn (legal_moves p) m → MakesNoPawn m
makes_no_pawn p m i = elim (legal_move p m (contains_in (legal_moves p) m i)).0.rank [
  | inl promoted ↦ inr (promoted.piece, promoted.is, promoted.no_pawn)
  | inr remains ↦ inl remains.is
]

abbrev is_pawn_of : Color → PlacedMan → Bool
is_pawn_of color s = is_man Pawn s.0 && is_color color s.1

was_pawn : (color : Color) (m : Move) (s : PlacedMan) → MakesNoPawn m → is_pawn_of color (man_after m s) ≡ true → is_pawn_of color s ≡ true
was_pawn color m s makes e = elim (cases_Bool (s.2 == m.from)) [
  | inl t ↦ elim makes [
    | inl none ↦ let k : is_pawn_of color s ≡ true = rw (t, none) at e in k
    | inr r ↦
        let is = r.1 in let no = r.2 in
        let k : (is_man Pawn r.0 && is_color color s.1) ≡ true = rw (t, is) at e in
        absurd (clash (is_man Pawn r.0) (and_parts (is_man Pawn r.0) (is_color color s.1) k).0 no)
  ]
  | inr f ↦ let k : is_pawn_of color s ≡ true = rw f at e in k
] where
  clash : (b : Bool) → b ≡ true → b ≡ false → ⊥
  clash true e f = cc
  clash false e f = cc

fewer_moved : (color : Color) (m : Move) (men : List PlacedMan) → MakesNoPawn m → length (filter (is_pawn_of color) (map (man_after m) men)) ≤ length (filter (is_pawn_of color) men)
fewer_moved color m [] makes = omega arith
fewer_moved color m (s ∷ men) makes =
    let rest = fewer_moved color m men makes in
    elim (cases_Bool (is_pawn_of color (man_after m s))) [
      | inl t ↦ let was = was_pawn color m s makes t in rw (t, was) (omega (arith, rest))
      | inr e ↦ elim (cases_Bool (is_pawn_of color s)) [ inl u ↦ rw (e, u) (omega (arith, rest)) | inr f ↦ rw (e, f) rest ]
    ]

fewer_left : (t left : PlacedMan → Bool) (men : List PlacedMan) → length (filter t (filter left men)) ≤ length (filter t men)
fewer_left t left [] = omega arith
fewer_left t left (s ∷ men) =
    let rest = fewer_left t left men in
    elim (cases_Bool (left s)) [
      | inl a ↦ rw a (elim (cases_Bool (t s)) [ inl b ↦ rw b (omega (arith, rest)) | inr b ↦ rw b rest ])
      | inr a ↦ rw a (elim (cases_Bool (t s)) [ inl b ↦ rw b (omega (arith, rest)) | inr b ↦ rw b rest ])
    ]

fewer_pawns : (p : Position) (m : Move) → IsIn (legal_moves p) m → (color : Color) → number_of Pawn color (after p m).placed_men ≤ number_of Pawn color p.placed_men
unfolding after men_after
fewer_pawns p m i color =
    let left : PlacedMan → Bool = λ s. not (s.2 == captured_square p m) in
    let moved = fewer_moved color m (filter left p.placed_men) (makes_no_pawn p m i) in
    let stay = fewer_left (is_pawn_of color) left p.placed_men in
    let now = length-filter (is_pawn_of color) (map (man_after m) (filter left p.placed_men)) in
    let before = length-filter (is_pawn_of color) p.placed_men in
    omega (arith, moved, stay, now, before)

lone_after : (p : Position) (m : Move) → IsIn (legal_moves p) m → has_lone_pawns p.placed_men ≡ true → has_lone_pawns (after p m).placed_men ≡ true
lone_after p m i lone =
    let next = (after p m).placed_men in
    let both = and_parts (nat_le (number_of Pawn White p.placed_men) 1) (nat_le (number_of Pawn Black p.placed_men) 1) lone in
    let white = leb-true (number_of Pawn White p.placed_men) 1 both.0 in let black = leb-true (number_of Pawn Black p.placed_men) 1 both.1 in
    let whites = fewer_pawns p m i White in let blacks = fewer_pawns p m i Black in
    and_from (nat_le (number_of Pawn White next) 1) (nat_le (number_of Pawn Black next) 1)
    (le-leb (number_of Pawn White next) 1 (omega (arith, white, whites))) (le-leb (number_of Pawn Black next) 1 (omega (arith, black, blacks)))

pub shared_after : (f : Symmetry) (p : Position) → IsPosition p → shares_value f p.placed_men ≡ true → (m : Move) → IsIn (legal_moves p) m → shares_value f (after p m).placed_men ≡ true
shared_after Same p position shares m i = refl
shared_after FlipFiles p position shares m i = lone_after p m i shares
shared_after FlipRanks p position shares m i = no_pawn_after p position shares m i
shared_after FlipDiagonal p position shares m i = cc
shared_after ExchangeColors p position shares m i = refl

-- ---- probing

same_class_from : (only only' : Bool) (best best' stored stored' : Option Class) → only ≡ only' → best ≡ best' → stored ≡ stored' → class_from only best stored ≡ class_from only' best' stored'
same_class_from only only' best best' stored stored' a b c =
    ap (λ (x : Bool). class_from x best stored) a ∙ ap (λ (x : Option Class). class_from only' x stored) b ∙ ap (class_from only' best') c

module _ (tables : StoredClasses) (symmetric : AreSymmetric tables) where
  probed_from : (n : ℕ) (f : Symmetry) (p q : Position) → IsPosition p → IsImage f p q → shares_value f p.placed_men ≡ true → probed_at n tables q ≡ probed_at n tables p
  unfolding probed_at
  probed_from zero f p q position is shares = refl
  probed_from (suc n) f p q position is shares =
      let after_in : Position → Move → Option Class = λ r m. probed_at n tables (after r m) in
      let captures = same_given f p q position is (is_capture p) (is_capture q) (after_in p) (after_in q) (λ m i. (move_there f p q position is m i).capture)
      (λ m i _. probed_from n f (after p m) (after q (move_image f m)) (after_is_position p m position (contains_in (legal_moves p) m i)) (move_there f p q position is m i).leads (shared_after f p position shares m i)) in
      let best : best_capture (map (after_in q) (legal_captures q)) ≡ best_capture (map (after_in p) (legal_captures p)) =
      ap (λ (ms : List Move). best_capture (map (after_in q) ms)) (sym (captures_law q is.position))
      ∙ same_best_capture (map (after_in q) (filter (is_capture q) (legal_moves q))) (map (after_in p) (filter (is_capture p) (legal_moves p))) captures
      ∙ ap (λ (ms : List Move). best_capture (map (after_in p) ms)) (captures_law p position) in
      let stored : stored_class tables q ≡ stored_class tables p =
      ap (λ (size : ℕ). if size == 2 then Some Draw else tables q.placed_men q.mover) (same_size f p q position is)
      ∙ ap (λ (o : Option Class). if length p.placed_men == 2 then Some Draw else o) (symmetric f p q position is shares) in
      same_class_from (has_only_en_passant q) (has_only_en_passant p) (best_capture (map (after_in q) (legal_captures q))) (best_capture (map (after_in p) (legal_captures p))) (stored_class tables q) (stored_class tables p)
      (same_decide f p q position is) best stored

  pub probed_image : (f : Symmetry) (p q : Position) → IsPosition p → IsImage f p q → shares_value f p.placed_men ≡ true → probed tables q ≡ probed tables p
  probed_image f p q position is shares = ap (λ (n : ℕ). probed_at n tables q) (same_size f p q position is) ∙ probed_from (length p.placed_men) f p q position is shares

-- ---- classes in chess

abbrev AreImages : Symmetry → Position → Position → Type 0
AreImages f p q = IsPosition p × IsImage f p q

image_is_like : (f : Symmetry) → IsLike chess chess (AreImages f)
image_is_like f = record {
  there = λ p q r x i.
      let m = map_in (step_of p) (legal_moves p) x i in
      let moved = move_there f p q r.0 r.1 m.0 m.1 in
      let k = move_image f m.0 in (
        step_of q k,
        in_map (step_of q) (legal_moves q) k (in_contains (legal_moves q) k moved.legal),
        sym (ap (λ (y : Step Position). y.1) m.2) ∙ sym moved.zeroing,
        subst (λ (y : Step Position). AreImages f y.0 (after q k)) m.2 (after_is_position p m.0 r.0 (contains_in (legal_moves p) m.0 m.1), moved.leads),
      );
  back = λ p q r x i.
      let k = map_in (step_of q) (legal_moves q) x i in
      let m = move_back f p q r.0 r.1 k.0 k.1 in
      let moved = move_there f p q r.0 r.1 m.0 m.1 in
      let led : step_of q (move_image f m.0) ≡ x = ap (step_of q) m.2 ∙ k.2 in (
        step_of p m.0,
        in_map (step_of p) (legal_moves p) m.0 m.1,
        sym moved.zeroing ∙ ap (λ (y : Step Position). y.1) led,
        subst (λ (y : Step Position). AreImages f (after p m.0) y.0) led (after_is_position p m.0 r.0 (contains_in (legal_moves p) m.0 m.1), moved.leads),
      );
  check = λ p q r. sym (same_check f p q r.0 r.1);
}

pub image_class : (f : Symmetry) (p q : Position) (k : Class) → IsPosition p → IsImage f p q → ChessClass p k ↔ ChessClass q k
image_class f p q k position is = (
  like_class chess chess (AreImages f) (image_is_like f) ply_limit k p q (position, is),
  like_class chess chess (AreImages f) (image_is_like f) ply_limit k q p (is.position, image_of_image f p q position is),
)
