-- Men in another order.
use Rattle.std.proofs.Common.{◌≡◌, ℕ, ◌+◌, ◌<◌, ◌≤◌, ◌⊎◌, List, [], ◌∷◌, length, refl, sym, ap, ◌∙◌, Bool, true, false, arith, inl, inr, suc, None}
use Rattle.std.specs.Prelude.{filter, not, ◌&&◌, ◌||◌, ◌==◌, nat_le, option_map}
use Rattle.std.specs.List.{list_any, list_all}
use Rattle.std.proofs.lemmas.Bool.{cases_Bool, and_parts, and_from, eq-eqb, eqb-true, le-leb}
use Rattle.std.proofs.lemmas.List.Elements.{All-head, All-tail, All-cons}
use Rattle.std.proofs.lemmas.List.Sums.{length-filter}
use Rattle.szg_values.specs.Men.{is_man, is_color, other_color, rank_of}
use Rattle.szg_values.specs.Placement.{PlacedMan, AreOnBoard, number_of, has_distinct_squares}
use Rattle.szg_values.specs.declared.Man.{Man}
use Rattle.szg_values.specs.declared.Man.TheVariants.{Pawn, King}
use Rattle.szg_values.specs.declared.Color.{Color}
use Rattle.szg_values.specs.declared.Color.TheVariants.{White, Black}
use Rattle.szg_game.proofs.Lists.{IsIn, contains_in, in_contains}
use Rattle.szg_chess.specs.Laws.{kinds_of}
use Rattle.szg_chess.specs.Position.{Position, IsPosition, has_two_to_six, has_kings}
use Rattle.szg_chess.specs.Images.{Same, IsImage, square_image}
use Rattle.szg_chess.proofs.Facts.{faultless, no_fault, has_men_parts, one_king}
use Rattle.szg_chess.proofs.Images.Geometry.{same_test}
use Rattle.szg_chess.proofs.Images.Men.{AreImages}
use Rattle.szg_chess.proofs.Images.Men as men_of_images
use Rattle.szg_chess.proofs.Images.Moves.{from_images}
use Rattle.szg_verify.proofs.Materials.{one_if, filter_cons, same_kind, itself, own_color}

-- the second list with the man x put in somewhere is the third
pub data Inserted : PlacedMan → List PlacedMan → List PlacedMan → Type 0 where
  front : {x : PlacedMan} {xs : List PlacedMan} → Inserted x xs (x ∷ xs)
  behind : {x y : PlacedMan} {xs ys : List PlacedMan} → Inserted x xs ys → Inserted x (y ∷ xs) (y ∷ ys)

-- the second list is the first in another order
pub data Arranged : List PlacedMan → List PlacedMan → Type 0 where
  none : Arranged [] []
  more : {x : PlacedMan} {xs rest men : List PlacedMan} → Inserted x rest men → Arranged xs rest → Arranged (x ∷ xs) men

-- ---- what both have

or_swap : (a b c : Bool) → (a || (b || c)) ≡ (b || (a || c))
or_swap true true c = refl
or_swap true false c = refl
or_swap false b c = refl

and_swap : (a b c : Bool) → (a && (b && c)) ≡ (b && (a && c))
and_swap true b c = refl
and_swap false true c = refl
and_swap false false c = refl

any_inserted : (t : PlacedMan → Bool) {x : PlacedMan} {xs ys : List PlacedMan} → Inserted x xs ys → list_any t ys ≡ (t x || list_any t xs)
any_inserted t front = refl
any_inserted t (behind {x} {y} {xs} {ys} i) = ap (λ (b : Bool). t y || b) (any_inserted t i) ∙ or_swap (t y) (t x) (list_any t xs)

any_arranged : (t : PlacedMan → Bool) {xs men : List PlacedMan} → Arranged xs men → list_any t xs ≡ list_any t men
any_arranged t none = refl
any_arranged t (more {x} i a) = ap (λ (b : Bool). t x || b) (any_arranged t a) ∙ sym (any_inserted t i)

all_inserted : (t : PlacedMan → Bool) {x : PlacedMan} {xs ys : List PlacedMan} → Inserted x xs ys → list_all t ys ≡ (t x && list_all t xs)
all_inserted t front = refl
all_inserted t (behind {x} {y} {xs} {ys} i) = ap (λ (b : Bool). t y && b) (all_inserted t i) ∙ and_swap (t y) (t x) (list_all t xs)

all_arranged : (t : PlacedMan → Bool) {xs men : List PlacedMan} → Arranged xs men → list_all t xs ≡ list_all t men
all_arranged t none = refl
all_arranged t (more {x} i a) = ap (λ (b : Bool). t x && b) (all_arranged t a) ∙ sym (all_inserted t i)

pub passing_inserted : (t : PlacedMan → Bool) {x : PlacedMan} {xs ys : List PlacedMan} → Inserted x xs ys → length (filter t ys) ≡ length (filter t xs) + one_if (t x)
passing_inserted t (front {x} {xs}) = filter_cons t x xs
passing_inserted t (behind {x} {y} {xs} {ys} i) = let longer = filter_cons t y ys in let shorter = filter_cons t y xs in let rest = passing_inserted t i in omega (arith, longer, shorter, rest)

passing_arranged : (t : PlacedMan → Bool) {xs men : List PlacedMan} → Arranged xs men → length (filter t xs) ≡ length (filter t men)
passing_arranged t none = refl
passing_arranged t (more {x} {xs} i a) = let longer = filter_cons t x xs in let rest = passing_arranged t a in let here = passing_inserted t i in omega (arith, longer, rest, here)

size_inserted : {x : PlacedMan} {xs ys : List PlacedMan} → Inserted x xs ys → length ys ≡ suc (length xs)
size_inserted front = refl
size_inserted (behind i) = ap (λ (n : ℕ). suc n) (size_inserted i)

pub size_arranged : {xs men : List PlacedMan} → Arranged xs men → length xs ≡ length men
size_arranged none = refl
size_arranged (more i a) = ap (λ (n : ℕ). suc n) (size_arranged a) ∙ sym (size_inserted i)

same_both_ways : (x y : ℕ) → (x == y) ≡ (y == x)
same_both_ways x y = same_test (x == y) (y == x) (λ e. eq-eqb y x (sym (eqb-true x y e))) (λ e. eq-eqb x y (sym (eqb-true y x e)))

apart_swapped : (e a b rest : Bool) → (not (e || a) && (not b && rest)) ≡ (not (e || b) && (not a && rest))
apart_swapped true a b rest = refl
apart_swapped false a b rest = and_swap (not a) (not b) rest

apart_inserted : {x : PlacedMan} {xs ys : List PlacedMan} → Inserted x xs ys → has_distinct_squares ys ≡ has_distinct_squares (x ∷ xs)
apart_inserted front = refl
apart_inserted (behind {x} {y} {xs} {ys} i) =
    ap (λ (b : Bool). not b && has_distinct_squares ys) (any_inserted (λ u. y.2 == u.2) i)
    ∙ ap (λ (b : Bool). not ((y.2 == x.2) || list_any (λ u. y.2 == u.2) xs) && b) (apart_inserted i)
    ∙ apart_swapped (y.2 == x.2) (list_any (λ u. y.2 == u.2) xs) (list_any (λ u. x.2 == u.2) xs) (has_distinct_squares xs)
    ∙ ap (λ (b : Bool). not (b || list_any (λ u. x.2 == u.2) xs) && (not (list_any (λ u. y.2 == u.2) xs) && has_distinct_squares xs)) (same_both_ways y.2 x.2)

apart_arranged : {xs men : List PlacedMan} → Arranged xs men → has_distinct_squares xs ≡ has_distinct_squares men
apart_arranged none = refl
apart_arranged (more {x} {xs} {rest} {men} i a) =
    ap (λ (b : Bool). not b && has_distinct_squares xs) (any_arranged (λ u. x.2 == u.2) a)
    ∙ ap (λ (b : Bool). not (list_any (λ u. x.2 == u.2) rest) && b) (apart_arranged a)
    ∙ sym (apart_inserted i)

in_inserted : {x : PlacedMan} {xs ys : List PlacedMan} → Inserted x xs ys → (s : PlacedMan) → IsIn ys s → (x ≡ s) ⊎ IsIn xs s
in_inserted front s i = i
in_inserted (behind i) s (inl e) = inr (inl e)
in_inserted (behind i) s (inr j) = elim (in_inserted i s j) [ inl e ↦ inl e | inr k ↦ inr (inr k) ]

inserted_in : {x : PlacedMan} {xs ys : List PlacedMan} → Inserted x xs ys → (s : PlacedMan) → (x ≡ s) ⊎ IsIn xs s → IsIn ys s
inserted_in front s i = i
inserted_in (behind i) s (inl e) = inr (inserted_in i s (inl e))
inserted_in (behind i) s (inr (inl e)) = inl e
inserted_in (behind i) s (inr (inr j)) = inr (inserted_in i s (inr j))

in_arranged : {xs men : List PlacedMan} → Arranged xs men → (s : PlacedMan) → IsIn men s → IsIn xs s
in_arranged none s i = i
in_arranged (more i a) s j = elim (in_inserted i s j) [ inl e ↦ inl e | inr k ↦ inr (in_arranged a s k) ]

arranged_in : {xs men : List PlacedMan} → Arranged xs men → (s : PlacedMan) → IsIn xs s → IsIn men s
arranged_in none s i = i
arranged_in (more i a) s (inl e) = inserted_in i s (inl e)
arranged_in (more i a) s (inr j) = inserted_in i s (inr (arranged_in a s j))

-- ---- a position in another order

same_men : {xs men : List PlacedMan} → Arranged xs men → AreImages Same men xs
same_men {xs} {men} a = record {
  there = λ s held. contains_in xs s (in_arranged a s (in_contains men s held));
  back = λ t held. (t, (contains_in men t (arranged_in a t (in_contains xs t held)), refl));
}

on_board : {x : PlacedMan} {xs ys : List PlacedMan} → Inserted x xs ys → AreOnBoard ys → AreOnBoard (x ∷ xs)
on_board front b = b
on_board (behind {x} {y} {xs} {ys} i) b =
    let P : PlacedMan → Type 0 = λ s. s.2 < 64 in
    let rest = on_board i (All-tail P y ys b) in
    All-cons P x (y ∷ xs) (All-head P x xs rest) (All-cons P y xs (All-head P y ys b) (All-tail P x xs rest))

board_arranged : {xs men : List PlacedMan} → Arranged xs men → AreOnBoard men → AreOnBoard xs
board_arranged none b = b
board_arranged (more {x} {xs} {rest} {men} i a) b =
    let P : PlacedMan → Type 0 = λ s. s.2 < 64 in
    let both = on_board i b in
    All-cons P x xs (All-head P x rest both) (board_arranged a (All-tail P x rest both))

abbrev pub reordered : Position → List PlacedMan → Position
reordered p xs = record { placed_men = xs; mover = p.mover; en_passant = None }

pub reordered_is_image : (p : Position) → IsPosition p → p.en_passant ≡ None → (xs : List PlacedMan) → Arranged xs p.placed_men → IsImage Same p (reordered p xs)
reordered_is_image p position no_right xs a =
    let men = p.placed_men in
    let known = faultless p position.no_fault in
    let parts = has_men_parts men known.men in
    let size = size_arranged a in
    let many = parts.many in let few = parts.few in
    let king : (c : Color) → number_of King c xs ≡ 1 = λ c.
    (let test : PlacedMan → Bool = λ s. is_man King s.0 && is_color c s.1 in
    sym (length-filter test xs) ∙ passing_arranged test a ∙ length-filter test men ∙ one_king men parts c) in
    record {
      position = record {
        no_fault = no_fault (reordered p xs) (record {
          men = and_from (has_two_to_six xs) (has_kings xs)
              (and_from (nat_le 2 (length xs)) (nat_le (length xs) 6) (le-leb 2 (length xs) (omega (arith, size, many))) (le-leb (length xs) 6 (omega (arith, size, few))))
              (and_from (number_of King White xs == 1) (number_of King Black xs == 1) (eq-eqb (number_of King White xs) 1 (king White)) (eq-eqb (number_of King Black xs) 1 (king Black)));
          apart = apart_arranged a ∙ known.apart;
          inside = all_arranged (λ s. not (is_man Pawn s.0 && (rank_of s.2 == 0 || rank_of s.2 == 7))) a ∙ known.inside;
          safe = men_of_images.in_check Same men xs (same_men a) position.squares.men refl (other_color p.mover) ∙ known.safe;
          sound = refl;
        });
        squares = record { men = board_arranged a position.squares.men; en_passant = λ x e. cc };
      };
      fitting = refl;
      men = from_images Same men xs (same_men a);
      mover = refl;
      en_passant = sym (ap (option_map (square_image Same)) no_right);
    }

-- ---- the order of a list of kinds

-- the men are those of the list, by kind and color
abbrev pub of_kind : Man → Color → Man × Color → Bool
of_kind man color k = is_man man k.0 && is_color color k.1

abbrev pub HaveKinds : List PlacedMan → List (Man × Color) → Type 0
HaveKinds men kinds = (man : Man) (color : Color) → length (filter (λ s. is_man man s.0 && is_color color s.1) men) ≡ length (filter (of_kind man color) kinds)

same_color : (a b : Color) → is_color a b ≡ true → b ≡ a
same_color White White e = refl
same_color White Black e = cc
same_color Black White e = cc
same_color Black Black e = refl

-- some man of this kind and color, and the others
record Pulled (men : List PlacedMan) (man : Man) (color : Color) : Type 0 where
  pub taken : PlacedMan
  pub rest : List PlacedMan
  pub put : Inserted taken rest men
  pub kind : ◌≡◌ {A = Man × Color} (taken.0, taken.1) (man, color)

pulled : (men : List PlacedMan) (man : Man) (color : Color) → 1 ≤ length (filter (λ s. is_man man s.0 && is_color color s.1) men) → Pulled men man color
pulled [] man color h = absurd (omega (arith, h))
pulled (s ∷ men) man color h = elim (cases_Bool (is_man man s.0 && is_color color s.1)) [
  | inl t ↦ (
      let both = and_parts (is_man man s.0) (is_color color s.1) t in
      record { taken = s; rest = men; put = front; kind = ap (λ (k : Man). (k, s.1)) (same_kind man s.0 both.0) ∙ ap (λ (c : Color). (man, c)) (same_color color s.1 both.1) })
  | inr e ↦ (
      let cons = filter_cons (λ (s : PlacedMan). is_man man s.0 && is_color color s.1) s men in
      let zero_here : one_if (is_man man s.0 && is_color color s.1) ≡ 0 = rw e refl in
      let r = pulled men man color (omega (arith, h, cons, zero_here)) in
      record { taken = r.taken; rest = s ∷ r.rest; put = behind r.put; kind = r.kind })
]

pub record InOrder (men : List PlacedMan) (kinds : List (Man × Color)) : Type 0 where
  pub order : List PlacedMan
  pub arranged : Arranged order men
  pub kinds_are : kinds_of order ≡ kinds

own_kind : (man : Man) (color : Color) → (is_man man man && is_color color color) ≡ true
own_kind man color = and_from (is_man man man) (is_color color color) (itself man) (own_color color)

pub in_order : (kinds : List (Man × Color)) (men : List PlacedMan) → HaveKinds men kinds → InOrder men kinds
in_order [] [] have = record { order = []; arranged = none; kinds_are = refl }
in_order [] (s ∷ men) have =
    let cons = filter_cons (λ (u : PlacedMan). is_man s.0 u.0 && is_color s.1 u.1) s men in
    let one_here : one_if (is_man s.0 s.0 && is_color s.1 s.1) ≡ 1 = rw (own_kind s.0 s.1) refl in
    let nobody = have s.0 s.1 in
    absurd (omega (arith, cons, one_here, nobody))
in_order (k ∷ kinds) men have =
    let cons = filter_cons (of_kind k.0 k.1) k kinds in
    let one_here : one_if (of_kind k.0 k.1 k) ≡ 1 = rw (own_kind k.0 k.1) refl in
    let number = have k.0 k.1 in
    let r = pulled men k.0 k.1 (omega (arith, cons, one_here, number)) in
    let left : HaveKinds r.rest kinds = λ man color.
    (let now = have man color in
    let less = passing_inserted (λ (s : PlacedMan). is_man man s.0 && is_color color s.1) r.put in
    let fewer = filter_cons (of_kind man color) k kinds in
    let same : one_if (is_man man r.taken.0 && is_color color r.taken.1) ≡ one_if (of_kind man color k) = ap (λ (j : Man × Color). one_if (of_kind man color j)) r.kind in
    omega (arith, now, less, fewer, same)) in
    let others = in_order kinds r.rest left in
    record {
      order = r.taken ∷ others.order;
      arranged = more r.put others.arranged;
      kinds_are = ap (λ (j : Man × Color). j ∷ kinds_of others.order) r.kind ∙ ap (λ (js : List (Man × Color)). k ∷ js) others.kinds_are;
    }
