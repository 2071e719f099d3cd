-- Men on different squares of the board: which squares men of given codes have, and how many.
use Rattle.std.proofs.Common.{◌≡◌, ℕ, suc, ◌+◌, ◌<◌, inl, inr, List, [], ◌∷◌, length, map, refl, sym, ap, ◌∙◌, subst, Bool, true, false, cond, arith}
use Rattle.std.specs.Prelude.{filter, ◌==◌, count_by}
use Rattle.std.specs.List.{list_any}
use Rattle.std.proofs.Math.Bool.{◌&&◌, ◌||◌}
use Rattle.std.proofs.lemmas.Bool.{cases_Bool, eqb-true, eq-eqb, and_parts, and_from, or_cases, or_left, or_right, false_from_ne_true}
use Rattle.std.proofs.lemmas.List.Sums.{sum_by-cons}
use Rattle.szg_values.specs.Material.{Sides, has_pawns, count_of}
use Rattle.szg_count.specs.Leads.{contains, squares_down, pawn_squares}
use Rattle.szg_count.specs.Laws.{IsIn, AllDiffer}
use Rattle.szg_count.proofs.Differ.{contains_it, IsIn-map}
use Rattle.szg_count.proofs.Free.{contains-IsIn}
use Rattle.szg_place.specs.Normal.{CodedMan, squares_with, moved}
pub use Rattle.szg_place.specs.Slots.{is_pawn_code}
use Rattle.szg_place.proofs.Ranks.Ranking.{AllDiffer-squares_down}
use Rattle.szg_place.proofs.Ranks.Ways.{IsIn-squares_down}
use Rattle.szg_place.proofs.Ranks.Lists.{IsIn-map_back, IsIn-filter_back, filter-same, filter-none, filter-one}

-- some man of these codes is on the square
abbrev pub is_valid : List ℕ → List CodedMan → ℕ → Bool
is_valid codes pieces square = list_any (λ p. p.square == square && contains codes p.code) pieces

pub is_valid-from : (codes : List ℕ) (pieces : List CodedMan) (square : ℕ) → is_valid codes pieces square ≡ true →
    (p : CodedMan) × IsIn p pieces × (p.square ≡ square) × IsIn p.code codes
is_valid-from codes [] square e = cc
is_valid-from codes (p ∷ pieces) square e = elim (or_cases (p.square == square && contains codes p.code) (is_valid codes pieces square) e) [
  | inl a ↦ let r = and_parts (p.square == square) (contains codes p.code) a in (p, inl refl, eqb-true p.square square r.0, contains-IsIn p.code codes r.1)
  | inr b ↦ let r = is_valid-from codes pieces square b in (r.0, inr r.1, r.2, r.3)
]

pub is_valid-true : (codes : List ℕ) (pieces : List CodedMan) (p : CodedMan) → IsIn p pieces → IsIn p.code codes → is_valid codes pieces p.square ≡ true
is_valid-true codes [] p h c = absurd h
is_valid-true codes (q ∷ pieces) p (inl e) c = or_left (q.square == p.square && contains codes q.code) (is_valid codes pieces p.square)
    (and_from (q.square == p.square) (contains codes q.code) (eq-eqb q.square p.square (ap (λ (x : CodedMan). x.square) (sym e)))
    (contains_it q.code codes (subst (λ (x : CodedMan). IsIn x.code codes) e c)))
is_valid-true codes (q ∷ pieces) p (inr h) c = or_right (q.square == p.square && contains codes q.code) (is_valid codes pieces p.square) (is_valid-true codes pieces p h c)

pub count-cons : {A : Type 0} (test : A → Bool) (x : A) (xs : List A) → count_by test (x ∷ xs) ≡ cond (test x) 1 0 + count_by test xs
count-cons test x xs = sum_by-cons (λ y. cond (test y) 1 0) x xs

pub count-same : {A : Type 0} (f g : A → Bool) (xs : List A) → ((x : A) → IsIn x xs → f x ≡ g x) → count_by f xs ≡ count_by g xs
count-same f g [] h = refl
count-same f g (x ∷ xs) h =
    count-cons f x xs ∙ ap (λ b. cond b 1 0 + count_by f xs) (h x (inl refl))
    ∙ ap (λ n. cond (g x) 1 0 + n) (count-same f g xs (λ y i. h y (inr i))) ∙ sym (count-cons g x xs)

pub count-some : {A : Type 0} (test : A → Bool) (xs : List A) (n : ℕ) → count_by test xs ≡ suc n → (x : A) × IsIn x xs × (test x ≡ true)
count-some test [] n e = absurd (let k : 0 ≡ suc n = e in omega (arith, k))
count-some test (x ∷ xs) n e = elim (cases_Bool (test x)) [
  | inl t ↦ (x, inl refl, t)
  | inr f ↦ let k : count_by test (x ∷ xs) ≡ count_by test xs = count-cons test x xs ∙ rw f (omega arith) in
      let r = count-some test xs n (sym k ∙ e) in (r.0, inr r.1, r.2)
]

pub squares_count : (codes : List ℕ) (pieces : List CodedMan) (order : List ℕ) → AllDiffer order → AllDiffer (map (λ p. p.square) pieces) →
    ((p : CodedMan) → IsIn p pieces → IsIn p.code codes → IsIn p.square order) → length (squares_with codes pieces order) ≡ count_by (λ p. contains codes p.code) pieces
squares_count codes [] order d e h = ap length (filter-none (is_valid codes []) order (λ x i. refl))
squares_count codes (p ∷ pieces) order d e h =
    let again = squares_count codes pieces order d e.1 (λ q i c. h q (inr i) c) in
    let counted = count-cons (λ (q : CodedMan). contains codes q.code) p pieces in
    elim (cases_Bool (contains codes p.code)) [
      | inl t ↦
          let free : is_valid codes pieces p.square ≡ false = false_from_ne_true (is_valid codes pieces p.square)
          (λ s. let r = is_valid-from codes pieces p.square s in e.0 (subst (λ (n : ℕ). IsIn n (map (λ q. q.square) pieces)) r.2 (IsIn-map_back (λ (q : CodedMan). q.square) pieces r.0 r.1))) in
          let test : filter (is_valid codes (p ∷ pieces)) order ≡ filter (λ s. (p.square == s) || is_valid codes pieces s) order =
          filter-same (is_valid codes (p ∷ pieces)) (λ s. (p.square == s) || is_valid codes pieces s) order
          (λ s i. ap (λ b. (p.square == s && b) || is_valid codes pieces s) t ∙ ap (λ b. b || is_valid codes pieces s) (and_true (p.square == s))) in
          let one = filter-one p.square (is_valid codes pieces) order d (h p (inl refl) (contains-IsIn p.code codes t)) free in
          let here : count_by (λ (q : CodedMan). contains codes q.code) (p ∷ pieces) ≡ 1 + count_by (λ (q : CodedMan). contains codes q.code) pieces = counted ∙ rw t refl in
          ap length test ∙ one ∙ ap suc again ∙ (let n = count_by (λ (q : CodedMan). contains codes q.code) pieces in omega (arith, here))
      | inr f ↦
          let test : filter (is_valid codes (p ∷ pieces)) order ≡ filter (is_valid codes pieces) order =
          filter-same (is_valid codes (p ∷ pieces)) (is_valid codes pieces) order
          (λ s i. ap (λ b. (p.square == s && b) || is_valid codes pieces s) f ∙ ap (λ b. b || is_valid codes pieces s) (and_false (p.square == s))) in
          let here : count_by (λ (q : CodedMan). contains codes q.code) (p ∷ pieces) ≡ 0 + count_by (λ (q : CodedMan). contains codes q.code) pieces = counted ∙ rw f refl in
          ap length test ∙ again ∙ (let n = count_by (λ (q : CodedMan). contains codes q.code) pieces in omega (arith, here))
    ]
  where
    and_true : (b : Bool) → (b && true) ≡ b
    and_true true = refl
    and_true false = refl

    and_false : (b : Bool) → (b && false) ≡ false
    and_false true = refl
    and_false false = refl

-- ---- men on the board

-- the material's number of men of each code, on different squares of the board, pawns on ranks 2 to 7
pub record IsStood (sides : Sides) (men : List ℕ) (pieces : List CodedMan) : Type 0 where
  pub differ : AllDiffer (map (λ p. p.square) pieces)
  pub inside : (p : CodedMan) → IsIn p pieces → p.square < 64
  pub counts : (code : ℕ) → count_by (λ (p : CodedMan). p.code == code) pieces ≡ count_of code men
  pub pawns : has_pawns sides ≡ true → (p : CodedMan) → IsIn p pieces → is_pawn_code p.code ≡ true → IsIn p.square pawn_squares

-- at most one man is on a square
pub same_piece : (pieces : List CodedMan) (p q : CodedMan) → AllDiffer (map (λ p. p.square) pieces) → IsIn p pieces → IsIn q pieces → p.square ≡ q.square → p ≡ q
same_piece [] p q d h i e = absurd h
same_piece (x ∷ pieces) p q d (inl a) (inl b) e = a ∙ sym b
same_piece (x ∷ pieces) p q d (inl a) (inr b) e = absurd (d.0 (subst (λ (n : ℕ). IsIn n (map (λ p. p.square) pieces)) (sym e ∙ ap (λ (y : CodedMan). y.square) a) (IsIn-map_back (λ (y : CodedMan). y.square) pieces q b)))
same_piece (x ∷ pieces) p q d (inr a) (inl b) e = absurd (d.0 (subst (λ (n : ℕ). IsIn n (map (λ p. p.square) pieces)) (e ∙ ap (λ (y : CodedMan). y.square) b) (IsIn-map_back (λ (y : CodedMan). y.square) pieces p a)))
same_piece (x ∷ pieces) p q d (inr a) (inr b) e = same_piece pieces p q d.1 a b e

pub one_item : (xs : List ℕ) (x : ℕ) → length xs ≡ 1 → IsIn x xs → xs ≡ x ∷ []
one_item [] x e h = absurd h
one_item (y ∷ []) x e (inl f) = ap (λ z. z ∷ []) (sym f)
one_item (y ∷ []) x e (inr h) = absurd h
one_item (y ∷ z ∷ ys) x e h = absurd (omega arith)

just : (c x : ℕ) → contains (c ∷ []) x ≡ (x == c)
just c x = none_more (x == c) where
  none_more : (b : Bool) → (b || false) ≡ b
  none_more true = refl
  none_more false = refl

-- the square of the only man of its code
pub only_square : (sides : Sides) (men : List ℕ) (pieces : List CodedMan) (p : CodedMan) → IsStood sides men pieces → IsIn p pieces → count_of p.code men ≡ 1 →
    squares_with (p.code ∷ []) pieces squares_down ≡ p.square ∷ []
only_square sides men pieces p stood i one =
    one_item (squares_with (p.code ∷ []) pieces squares_down) p.square
    (squares_count (p.code ∷ []) pieces squares_down AllDiffer-squares_down stood.differ (λ q j c. IsIn-squares_down q.square (stood.inside q j))
    ∙ count-same (λ (q : CodedMan). contains (p.code ∷ []) q.code) (λ q. q.code == p.code) pieces (λ q j. just p.code q.code)
    ∙ stood.counts p.code ∙ one)
    (IsIn-filter_back (is_valid (p.code ∷ []) pieces) squares_down p.square (IsIn-squares_down p.square (stood.inside p i)) (is_valid-true (p.code ∷ []) pieces p i (inl refl)))

pub some_piece : (sides : Sides) (men : List ℕ) (pieces : List CodedMan) (code : ℕ) → IsStood sides men pieces → count_of code men ≡ 1 → (p : CodedMan) × IsIn p pieces × (p.code ≡ code)
some_piece sides men pieces code stood one =
    let r = count-some (λ (p : CodedMan). p.code == code) pieces 0 (stood.counts code ∙ one) in (r.0, r.1, eqb-true r.0.code code r.2)

-- ---- moves of squares

-- a map of the board's squares that keeps them different; if there are pawns, it keeps pawn squares
pub record IsMove (sides : Sides) (move : ℕ → ℕ) : Type 0 where
  pub inside : (s : ℕ) → s < 64 → move s < 64
  pub apart : (s t : ℕ) → s < 64 → t < 64 → move s ≡ move t → s ≡ t
  pub pawns : has_pawns sides ≡ true → (s : ℕ) → IsIn s pawn_squares → IsIn (move s) pawn_squares

abbrev pub moved_piece : (ℕ → ℕ) → CodedMan → CodedMan
moved_piece move p = record { code = p.code; square = move p.square }

squares_moved : (move : ℕ → ℕ) (pieces : List CodedMan) → map (λ p. p.square) (moved move pieces) ≡ map (λ (p : CodedMan). move p.square) pieces
squares_moved move [] = refl
squares_moved move (p ∷ pieces) = ap (λ l. move p.square ∷ l) (squares_moved move pieces)

count_moved : (move : ℕ → ℕ) (code : ℕ) (pieces : List CodedMan) → count_by (λ (p : CodedMan). p.code == code) (moved move pieces) ≡ count_by (λ (p : CodedMan). p.code == code) pieces
count_moved move code [] = refl
count_moved move code (p ∷ pieces) = count-cons (λ (q : CodedMan). q.code == code) (moved_piece move p) (moved move pieces)
    ∙ ap (λ n. cond (p.code == code) 1 0 + n) (count_moved move code pieces) ∙ sym (count-cons (λ (q : CodedMan). q.code == code) p pieces)

apart_map : (move : ℕ → ℕ) (pieces : List CodedMan) → ((p q : CodedMan) → IsIn p pieces → IsIn q pieces → move p.square ≡ move q.square → p.square ≡ q.square) →
    AllDiffer (map (λ p. p.square) pieces) → AllDiffer (map (λ (p : CodedMan). move p.square) pieces)
apart_map move [] h d = tt
apart_map move (p ∷ pieces) h d = (
  λ i. let r = IsIn-map (λ (q : CodedMan). move q.square) pieces (move p.square) i in
      d.0 (subst (λ (n : ℕ). IsIn n (map (λ q. q.square) pieces)) (sym (h p r.0 (inl refl) (inr r.1) r.2)) (IsIn-map_back (λ (q : CodedMan). q.square) pieces r.0 r.1)),
  apart_map move pieces (λ q r i j e. h q r (inr i) (inr j) e) d.1,
)

pub IsStood-moved : (sides : Sides) (men : List ℕ) (pieces : List CodedMan) (move : ℕ → ℕ) → IsMove sides move → IsStood sides men pieces → IsStood sides men (moved move pieces)
IsStood-moved sides men pieces move m stood = record {
  differ = subst (λ (l : List ℕ). AllDiffer l) (sym (squares_moved move pieces))
      (apart_map move pieces (λ p q i j e. m.apart p.square q.square (stood.inside p i) (stood.inside q j) e) stood.differ);
  inside = λ p i. let r = IsIn-map (moved_piece move) pieces p i in subst (λ (q : CodedMan). q.square < 64) (sym r.2) (m.inside r.0.square (stood.inside r.0 r.1));
  counts = λ code. count_moved move code pieces ∙ stood.counts code;
  pawns = λ e p i c. let r = IsIn-map (moved_piece move) pieces p i in
      subst (λ (q : CodedMan). IsIn q.square pawn_squares) (sym r.2)
      (m.pawns e r.0.square (stood.pawns e r.0 r.1 (ap (λ (q : CodedMan). is_pawn_code q.code) (sym r.2) ∙ c)));
}
