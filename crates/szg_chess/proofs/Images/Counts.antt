-- There are as many men in an image.
use Rattle.std.proofs.Common.{◌≡◌, ◌≢◌, ℕ, ◌+◌, ◌<◌, ◌≤◌, ◌↔◌, List, [], ◌∷◌, length, zero, suc, refl, sym, ap, ◌∙◌, Bool, true, false, arith, inl, inr, Contains}
use Rattle.std.specs.Prelude.{map, filter, not, ◌&&◌, ◌==◌}
use Rattle.std.specs.List.{list_any}
use Rattle.std.proofs.lemmas.Bool.{cases_Bool, eq-eqb, ne_eqb, not_from_false, not_from_true}
use Rattle.std.proofs.lemmas.List.Elements.{All-head, All-tail, All-contains, Contains-append_right}
use Rattle.szg_values.specs.Placement.{PlacedMan, AreOnBoard, has_distinct_squares}
use Rattle.szg_chess.specs.Position.{Position, IsPosition}
use Rattle.szg_chess.specs.Images.{Symmetry, square_image, man_image, IsImage}
use Rattle.szg_chess.proofs.Facts.{faultless}
use Rattle.szg_chess.proofs.Pushing.{length-filter-le}
use Rattle.szg_chess.proofs.Relation.{contains_filter}
use Rattle.szg_chess.proofs.Different.{KeysDiffer, square_of, keys_men, keys_filter}
use Rattle.szg_chess.proofs.Images.Geometry.{same_square}
use Rattle.szg_chess.proofs.Images.Men.{AreImages, contains_map, map_contains, filter_contains, any_image}

-- ---- lists of different elements

-- an element that fails a test is left out
fails_one : {X : Type 0} (test : X → Bool) (xs : List X) (x : X) → Contains xs x → test x ≡ false → length (filter test xs) + 1 ≤ length xs
fails_one test [] x held e = absurd (omega (arith, held.1))
fails_one test (z ∷ xs) x (zero, h, e) fails = let here : test z ≡ false = ap test e ∙ fails in let fewer = length-filter-le test xs in rw here (omega (arith, fewer))
fails_one test (z ∷ xs) x (suc k, h, e) fails =
    let more = fails_one test xs x (k, omega arith, e) fails in
    elim (cases_Bool (test z)) [ inl t ↦ rw t (omega (arith, more)) | inr n ↦ rw n (omega (arith, more)) ]

-- elements with different keys that are all in a list are not more than the list has
not_more : {X : Type 0} (key : X → ℕ) (xs ys : List X) → KeysDiffer key xs → ((x : X) → Contains xs x → Contains ys x) → length xs ≤ length ys
not_more key [] ys differ held = omega arith
not_more {X} key (x ∷ xs) ys differ held =
    let others : X → Bool = λ y. not (key y == key x) in
    let rest = not_more key xs (filter others ys) differ.1 (λ y c. contains_filter others ys y (held y (Contains-append_right (x ∷ []) xs y c))
    (not_from_false (key y == key x) (ne_eqb (key y) (key x) (λ e. All-contains (λ (z : X). key x ≢ key z) xs y differ.0 c (sym e))))) in
    let one = fails_one others ys x (held x (zero, omega arith, refl)) (not_from_true (key x == key x) (eq-eqb (key x) (key x) refl)) in
    omega (arith, rest, one)

-- ---- men

pub images_map : (f : Symmetry) (men : List PlacedMan) → AreImages f men (map (man_image f) men)
images_map f men = record { there = λ s held. contains_map (man_image f) men s held; back = λ t held. map_contains (man_image f) men t held }

pub distinct_image : (f : Symmetry) (men : List PlacedMan) → AreOnBoard men → has_distinct_squares (map (man_image f) men) ≡ has_distinct_squares men
distinct_image f [] board = refl
distinct_image f (s ∷ men) board =
    let P : PlacedMan → Type 0 = λ t. t.2 < 64 in
    let rest = All-tail P s men board in
    ap (λ (b : Bool). not b && has_distinct_squares (map (man_image f) men)) (any_image f men (map (man_image f) men) (images_map f men) (λ t. s.2 == t.2) (λ t. square_image f s.2 == t.2) (λ t held. same_square f s.2 t.2 (All-head P s men board) (All-contains P men t rest held)))
    ∙ ap (λ (b : Bool). not (list_any (λ t. s.2 == t.2) men) && b) (distinct_image f men rest)

pub as_many : (f : Symmetry) (of_image test : PlacedMan → Bool) (men : List PlacedMan) → ((s : PlacedMan) → of_image (man_image f s) ≡ test s) →
    length (filter of_image (map (man_image f) men)) ≡ length (filter test men)
as_many f of_image test [] same = refl
as_many f of_image test (s ∷ men) same = rw (same s) (elim (cases_Bool (test s)) [
  | inl t ↦ rw t (ap (λ (n : ℕ). suc n) (as_many f of_image test men same))
  | inr e ↦ rw e (as_many f of_image test men same)
])

-- a test counts as many men among images in any order
pub counted : (f : Symmetry) (men others : List PlacedMan) → AreOnBoard men → has_distinct_squares men ≡ true → has_distinct_squares others ≡ true → ((s : PlacedMan) → Contains others s ↔ Contains (map (man_image f) men) s) →
    (of_image test : PlacedMan → Bool) → ((s : PlacedMan) → of_image (man_image f s) ≡ test s) → length (filter of_image others) ≡ length (filter test men)
counted f men others board apart apart' is of_image test same =
    let mapped = map (man_image f) men in
    let passing : (xs ys : List PlacedMan) → ((s : PlacedMan) → Contains xs s → Contains ys s) → (s : PlacedMan) → Contains (filter of_image xs) s → Contains (filter of_image ys) s =
    λ xs ys held s c. (let r = filter_contains of_image xs s c in contains_filter of_image ys s (held s r.0) r.1) in
    let up = not_more square_of (filter of_image others) (filter of_image mapped) (keys_filter square_of of_image others (keys_men others apart')) (passing others mapped (λ s. (is s).0)) in
    let down = not_more square_of (filter of_image mapped) (filter of_image others) (keys_filter square_of of_image mapped (keys_men mapped (distinct_image f men board ∙ apart))) (passing mapped others (λ s. (is s).1)) in
    let both : length (filter of_image others) ≡ length (filter of_image mapped) = omega (arith, up, down) in
    both ∙ as_many f of_image test men same

pub counted_all : (f : Symmetry) (men others : List PlacedMan) → AreOnBoard men → has_distinct_squares men ≡ true → has_distinct_squares others ≡ true → ((s : PlacedMan) → Contains others s ↔ Contains (map (man_image f) men) s) →
    length others ≡ length men
counted_all f men others board apart apart' is = sym (all_pass others) ∙ counted f men others board apart apart' is (λ s. true) (λ s. true) (λ s. refl) ∙ all_pass men
  where
    all_pass : (xs : List PlacedMan) → length (filter (λ (s : PlacedMan). true) xs) ≡ length xs
    all_pass [] = refl
    all_pass (s ∷ xs) = ap (λ (n : ℕ). suc n) (all_pass xs)

-- a test counts as many men in an image
pub same_count : (f : Symmetry) (p q : Position) → IsPosition p → IsImage f p q → (of_image test : PlacedMan → Bool) → ((s : PlacedMan) → of_image (man_image f s) ≡ test s) →
    length (filter of_image q.placed_men) ≡ length (filter test p.placed_men)
same_count f p q position is of_image test same =
    counted f p.placed_men q.placed_men position.squares.men (faultless p position.no_fault).apart (faultless q is.position.no_fault).apart is.men of_image test same

pub same_size : (f : Symmetry) (p q : Position) → IsPosition p → IsImage f p q → length q.placed_men ≡ length p.placed_men
same_size f p q position is = counted_all f p.placed_men q.placed_men position.squares.men (faultless p position.no_fault).apart (faultless q is.position.no_fault).apart is.men
