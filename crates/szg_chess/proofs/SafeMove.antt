-- Whether a move leaves its king in check, without the list of the men after it.
use Rattle.std.proofs.Common.{◌≡◌, ◌≢◌, ℕ, ◌^◌, ◌<◌, List, [], ◌∷◌, map, get_or, length, zero, refl, sym, ap, ◌∙◌, Bool, true, false, arith, inl, inr, Option, Some, None}
use Rattle.std.specs.Prelude.{filter, not, ◌&&◌, ◌||◌, ◌==◌, unwrap_or}
use Rattle.std.specs.List.{All, find, list_any, Contains}
use Rattle.std.proofs.lemmas.Bool.{both_ways, cases_Bool, and_parts, and_from, and_right, or_cases, eq-eqb, ne_eqb, eqb-true, eqb-false, not-true, not_from_false}
use Rattle.std.proofs.lemmas.List.Elements.{All-head, All-tail, All-map, All-contains, All-filter, All-contains_itself, Contains-append_right}
use Rattle.std.proofs.lemmas.List.Sums.{length-filter}
use Rattle.szg_values.specs.Men.{is_man, is_color, other_color, rank_of}
use Rattle.szg_values.specs.Placement.{PlacedMan, AreOnBoard}
use Rattle.szg_values.specs.declared.Man.TheVariants.{Pawn, Knight, Bishop, Rook, Queen, King}
use Rattle.szg_values.specs.declared.Man.{Man}
use Rattle.szg_values.specs.declared.Color.{Color}
use Rattle.szg_values.specs.declared.Color.TheVariants.{White, Black}
use Rattle.szg_chess.specs.declared.Move.{Move}
use Rattle.szg_chess.specs.Attacks.{attacks, is_attacked, is_between, is_clear, is_in_check, is_occupied}
use Rattle.szg_chess.specs.Position.{Position, IsPosition}
use Rattle.szg_chess.specs.Moves.{may_enter, promotes, is_en_passant, captured_square, man_after, men_after, is_legal}
use Rattle.szg_chess.specs.Squares.{is_in, is_in_moved, squares_of, attacks_past}
use Rattle.szg_chess.proofs.Members.{All-passing, any_filter, any_of, some_of, any_map, same_man, contains_cons}
use Rattle.szg_chess.proofs.AfterMen.{is_off, moved, off_is, off_from, goes, stays, some_moved}
use Rattle.szg_chess.proofs.Sets.{from_squares, same_bool, in_set}
use Rattle.szg_chess.proofs.Reach.{reach_split, attacks_by_sets}
use Rattle.szg_chess.proofs.Facts.{IsFaultless, faultless, has_men_parts, one_king}
use Rattle.szg_chess.proofs.Captured.{enters_off}
use Rattle.szg_chess.proofs.Relation.{contains_filter}

any_fused : {X Y : Type 0} (f : Y → Bool) (g : X → Y) (h : X → Bool) (xs : List X) → list_any f (map g (filter h xs)) ≡ list_any (λ x. h x && f (g x)) xs
any_fused f g h [] = refl
any_fused f g h (x ∷ xs) = elim (cases_Bool (h x)) [
  | inl t ↦ rw t (ap (λ (b : Bool). f (g x) || b) (any_fused f g h xs))
  | inr e ↦ rw e (any_fused f g h xs)
]

pub any_alike : {X : Type 0} (P : X → Type 0) (f g : X → Bool) (xs : List X) → All P xs → ((x : X) → P x → f x ≡ g x) → list_any f xs ≡ list_any g xs
any_alike P f g [] all same = refl
any_alike P f g (x ∷ xs) all same = ap (λ (b : Bool). b || list_any f xs) (same x (All-head P x xs all)) ∙ ap (λ (b : Bool). g x || b) (any_alike P f g xs (All-tail P x xs all) same)

-- ---- the squares after a move

stood : (m : Move) (captured : ℕ) (men : List PlacedMan) (q : ℕ) → is_occupied (moved m captured men) q ≡ true → is_in_moved (is_occupied men) captured m.from m.to q ≡ true
stood m captured men q e =
    let found = some_of (λ (s : PlacedMan). is_off captured s && (man_after m s).2 == q) men (sym (any_fused (λ (s : PlacedMan). s.2 == q) (man_after m) (is_off captured) men) ∙ e) in
    let s = found.0 in
    let parts = and_parts (is_off captured s) ((man_after m s).2 == q) found.1.1 in
    let left = is_occupied men m.from && not (captured == m.from) && q == m.to in
    let right = is_occupied men q && not (q == captured) && not (q == m.from) in
    let off = off_is captured s parts.0 in let here = eqb-true (man_after m s).2 q parts.1 in
    elim (cases_Bool (s.2 == m.from)) [
      | inl t ↦
          let from = eqb-true s.2 m.from t in let to = sym (goes m s from) ∙ here in
          let one = any_of (λ (u : PlacedMan). u.2 == m.from) men s found.1.0 t in
          let two = not_from_false (captured == m.from) (ne_eqb captured m.from (λ (d : captured ≡ m.from). off (from ∙ sym d))) in
          let three = eq-eqb q m.to (sym to) in
          rw (one, two, three) refl
      | inr f ↦
          let from = eqb-false s.2 m.from f in let same = ap (λ (u : PlacedMan). u.2) (sym (stays m s from)) ∙ here in
          let one = any_of (λ (u : PlacedMan). u.2 == q) men s found.1.0 (eq-eqb s.2 q same) in
          let two = not_from_false (q == captured) (ne_eqb q captured (λ (d : q ≡ captured). off (same ∙ d))) in
          let three = not_from_false (q == m.from) (ne_eqb q m.from (λ (d : q ≡ m.from). from (same ∙ d))) in
          second left right (rw (one, two, three) refl)
    ]
  where
    second : (a b : Bool) → b ≡ true → (a || b) ≡ true
    second true b h = refl
    second false b h = h

stands : (m : Move) (captured : ℕ) (men : List PlacedMan) (q : ℕ) → is_in_moved (is_occupied men) captured m.from m.to q ≡ true → is_occupied (moved m captured men) q ≡ true
stands m captured men q e =
    let left = is_occupied men m.from && not (captured == m.from) && q == m.to in
    let right = is_occupied men q && not (q == captured) && not (q == m.from) in
    elim (or_cases left right e) [
      | inl t ↦
          let parts = and_parts (is_occupied men m.from && not (captured == m.from)) (q == m.to) t in
          let more = and_parts (is_occupied men m.from) (not (captured == m.from)) parts.0 in
          let found = some_of (λ (s : PlacedMan). s.2 == m.from) men more.0 in
          let from = eqb-true found.0.2 m.from found.1.1 in
          let off = eqb-false captured m.from (not-true (captured == m.from) more.1) in
          some_moved (λ (s : PlacedMan). s.2 == q) m captured men found.0 found.1.0 (λ (d : found.0.2 ≡ captured). off (sym d ∙ from)) (eq-eqb (man_after m found.0).2 q (goes m found.0 from ∙ sym (eqb-true q m.to parts.1)))
      | inr t ↦
          let parts = and_parts (is_occupied men q && not (q == captured)) (not (q == m.from)) t in
          let more = and_parts (is_occupied men q) (not (q == captured)) parts.0 in
          let found = some_of (λ (s : PlacedMan). s.2 == q) men more.0 in
          let here = eqb-true found.0.2 q found.1.1 in
          let off = eqb-false q captured (not-true (q == captured) more.1) in let from = eqb-false q m.from (not-true (q == m.from) parts.1) in
          some_moved (λ (s : PlacedMan). s.2 == q) m captured men found.0 found.1.0 (λ (d : found.0.2 ≡ captured). off (sym here ∙ d))
          (eq-eqb (man_after m found.0).2 q (ap (λ (u : PlacedMan). u.2) (stays m found.0 (λ (d : found.0.2 ≡ m.from). from (sym here ∙ d))) ∙ here))
    ]

-- a square has a man after the move
pub occupied_after : (m : Move) (captured : ℕ) (men : List PlacedMan) (q : ℕ) → is_occupied (moved m captured men) q ≡ is_in_moved (is_occupied men) captured m.from m.to q
occupied_after m captured men q = same_bool (is_occupied (moved m captured men) q) (is_in_moved (is_occupied men) captured m.from m.to q) (stood m captured men q) (stands m captured men q)

-- the same by the set of the squares before it
pub moved_set : (m : Move) (captured : ℕ) (men : List PlacedMan) (occupied from to : ℕ) → occupied ≡ squares_of men → from ≡ m.from → to ≡ m.to → from < 64 → (q : ℕ) → q < 64 →
    is_in_moved (is_in occupied) captured from to q ≡ is_occupied (moved m captured men) q
moved_set m captured men occupied from to set is_from is_to inside q h =
    let here : (x : ℕ) → x < 64 → is_in occupied x ≡ is_occupied men x = λ x k. ap (λ (n : ℕ). is_in n x) set ∙ in_set (is_occupied men) x k in
    ap (λ (b : Bool). (b && not (captured == from) && q == to) || (is_in occupied q && not (q == captured) && not (q == from))) (here from inside)
    ∙ ap (λ (b : Bool). (is_occupied men from && not (captured == from) && q == to) || (b && not (q == captured) && not (q == from))) (here q h)
    ∙ ap (λ (x : ℕ). is_in_moved (is_occupied men) captured x to q) is_from ∙ ap (λ (x : ℕ). is_in_moved (is_occupied men) captured m.from x q) is_to
    ∙ sym (occupied_after m captured men q)

-- ---- the king after a move

on_board_after : (m : Move) → m.to < 64 → (s : PlacedMan) → s.2 < 64 → (man_after m s).2 < 64
on_board_after m to s h = elim (cases_Bool (s.2 == m.from)) [ inl t ↦ rw t to | inr f ↦ rw f h ]

board_after : (m : Move) → m.to < 64 → (captured : ℕ) (men : List PlacedMan) → AreOnBoard men → AreOnBoard (moved m captured men)
board_after m to captured men all = All-map (λ (s : PlacedMan). s.2 < 64) (man_after m) (filter (is_off captured) men) (λ k d h. on_board_after m to (get_or (filter (is_off captured) men) k d) (All-filter (is_off captured) (λ (s : PlacedMan). s.2 < 64) men all k d h))

-- After the move m, which captures on the square `captured` and leaves men on the squares `occupied`, the man `king` is the
-- mover's king and is attacked.
abbrev is_attacked_king : Position → Move → ℕ → ℕ → PlacedMan → Bool
is_attacked_king p m captured occupied king = is_man King king.0 && is_color p.mover king.1
    && list_any (λ s. is_off captured s && (is_color (other_color p.mover) (man_after m s).1 && attacks_past occupied (man_after m s) king.2)) p.placed_men

-- the test by sets, without the list
check_after : (p : Position) (m : Move) (captured occupied : ℕ) → AreOnBoard p.placed_men → m.to < 64 → captured ≡ captured_square p m → occupied ≡ squares_of (men_after p m) →
    list_any (λ s. not (s.2 == captured) && is_attacked_king p m captured occupied (man_after m s)) p.placed_men ≡ is_in_check (men_after p m) p.mover
unfolding men_after
check_after p m captured occupied board to is_captured is_occupied_ =
    let men = moved m captured p.placed_men in
    let inside = board_after m to captured p.placed_men board in
    let other = other_color p.mover in
    let whole : men_after p m ≡ men = ap (λ (k : ℕ). moved m k p.placed_men) (sym is_captured) in
    let set : occupied ≡ squares_of men = is_occupied_ ∙ ap squares_of whole in
    let by_king : PlacedMan → Bool = λ s. is_attacked_king p m captured occupied s in
    let attacked : (s : PlacedMan) → s.2 < 64 → by_king s ≡ (is_man King s.0 && is_color p.mover s.1 && is_attacked men other s.2) = λ s h.
    ap (λ (b : Bool). is_man King s.0 && is_color p.mover s.1 && b) (
    sym (any_fused (λ (t : PlacedMan). is_color other t.1 && attacks_past occupied t s.2) (man_after m) (is_off captured) p.placed_men)
    ∙ any_alike (λ (t : PlacedMan). t.2 < 64) (λ (t : PlacedMan). is_color other t.1 && attacks_past occupied t s.2) (λ (t : PlacedMan). is_color other t.1 && attacks men t s.2) men inside
    (λ t k. ap (λ (b : Bool). is_color other t.1 && b) (ap (λ (n : ℕ). attacks_past n t s.2) set ∙ attacks_by_sets men inside t s.2 h))) in
    sym (any_fused by_king (man_after m) (is_off captured) p.placed_men)
    ∙ any_alike (λ (s : PlacedMan). s.2 < 64) by_king (λ (s : PlacedMan). is_man King s.0 && is_color p.mover s.1 && is_attacked men other s.2) men inside attacked
    ∙ ap (λ (ms : List PlacedMan). is_in_check ms p.mover) (sym whole)

-- ---- the mover has one king, and the enemy's men stay

not_other : (color : Color) → is_color (other_color color) color ≡ false
not_other White = refl
not_other Black = refl

color_is : (a b : Color) → is_color a b ≡ true → b ≡ a
color_is White White e = refl
color_is White Black e = cc
color_is Black White e = cc
color_is Black Black e = refl

single : {X : Type 0} (xs : List X) (a b : X) → length xs ≡ 1 → Contains xs a → Contains xs b → a ≡ b
single [] a b e one two = absurd (omega (arith, one.1))
single (x ∷ []) a b e one two = elim (contains_cons x [] a one) [
  | inl here ↦ elim (contains_cons x [] b two) [ inl there ↦ sym here ∙ there | inr none ↦ absurd (omega (arith, none.1)) ]
  | inr none ↦ absurd (omega (arith, none.1))
]
single (x ∷ y ∷ xs) a b e one two = absurd (omega (arith, e))

abbrev pub is_own_king : Position → PlacedMan → Bool
is_own_king p s = is_man King s.0 && is_color p.mover s.1

count_kings : (p : Position) → IsFaultless p → length (filter (is_own_king p) p.placed_men) ≡ 1
count_kings p known =
    let one = one_king p.placed_men (has_men_parts p.placed_men known.men) p.mover in
    let count = length-filter (is_own_king p) p.placed_men in
    omega (arith, one, count)

same_king : (p : Position) → IsFaultless p → (s u : PlacedMan) → Contains p.placed_men s → is_own_king p s ≡ true → Contains p.placed_men u → is_own_king p u ≡ true → s ≡ u
same_king p known s u held king held_too king_too =
    single (filter (is_own_king p) p.placed_men) s u (count_kings p known) (contains_filter (is_own_king p) p.placed_men s held king) (contains_filter (is_own_king p) p.placed_men u held_too king_too)

found_some : {X : Type 0} (test : X → Bool) (xs : List X) (x : X) → find test xs ≡ Some x → Contains xs x × (test x ≡ true)
found_some test [] x e = cc
found_some {X} test (y ∷ ys) x e = elim (cases_Bool (test y)) [
  | inl t ↦
      let here : Some y ≡ Some x = rw t at e in
      let same : y ≡ x = ap (λ (o : Option X). unwrap_or o y) here in
      ((zero, omega arith, same), ap test (sym same) ∙ t)
  | inr f ↦ let rest = found_some test ys x (rw f at e) in (Contains-append_right (y ∷ []) ys x rest.0, rest.1)
]

found_none : {X : Type 0} (test : X → Bool) (xs : List X) → find test xs ≡ None → length (filter test xs) ≡ 0
found_none test [] e = refl
found_none test (y ∷ ys) e = elim (cases_Bool (test y)) [
  | inl t ↦ let h = rw t at e in absurd cc
  | inr f ↦ rw f (found_none test ys (rw f at e))
]

-- the first king that is found is the mover's
pub king_found : (p : Position) (s : PlacedMan) → find (is_own_king p) p.placed_men ≡ Some s → Contains p.placed_men s × (is_own_king p s ≡ true)
king_found p s e = found_some (is_own_king p) p.placed_men s e

pub king_not_found : (p : Position) → IsPosition p → find (is_own_king p) p.placed_men ≢ None
king_not_found p position e =
    let none = found_none (is_own_king p) p.placed_men e in let one = count_kings p (faultless p position.no_fault) in absurd (omega (arith, none, one))

-- a man that is not promoted is what it was
king_stays : (p : Position) (m : Move) → m.promotion ≡ None → (s : PlacedMan) → is_own_king p (man_after m s) ≡ is_own_king p s
king_stays p m plain s = elim (cases_Bool (s.2 == m.from)) [ inl t ↦ rw (t, plain) refl | inr f ↦ rw f refl ]

-- the king after a move is the one before it
king_after : (p : Position) (m : Move) (king : PlacedMan) → IsFaultless p → m.promotion ≡ None → Contains p.placed_men king → is_own_king p king ≡ true → (captured : ℕ) (test : ℕ → Bool) →
    list_any (λ s. is_off captured s && (is_own_king p (man_after m s) && test (man_after m s).2)) p.placed_men ≡ (is_off captured king && test (man_after m king).2)
king_after p m king known plain stands is_king captured test =
    let men = p.placed_men in
    let f : PlacedMan → Bool = λ s. is_off captured s && (is_own_king p (man_after m s) && test (man_after m s).2) in
    let g : PlacedMan → Bool = λ s. is_off captured s && test (man_after m s).2 in
    same_bool (list_any f men) (g king)
    (λ e.
    let found = some_of f men e in let u = found.0 in
    let parts = and_parts (is_off captured u) (is_own_king p (man_after m u) && test (man_after m u).2) found.1.1 in
    let more = and_parts (is_own_king p (man_after m u)) (test (man_after m u).2) parts.1 in
    let same = same_king p known u king found.1.0 (sym (king_stays p m plain u) ∙ more.0) stands is_king in
    ap g (sym same) ∙ and_from (is_off captured u) (test (man_after m u).2) parts.0 more.1)
    (λ e.
    let parts = and_parts (is_off captured king) (test (man_after m king).2) e in
    any_of f men king stands (and_from (is_off captured king) (is_own_king p (man_after m king) && test (man_after m king).2) parts.0
    (and_from (is_own_king p (man_after m king)) (test (man_after m king).2) (king_stays p m plain king ∙ is_king) parts.1)))

-- an enemy man attacks from where it stood before
attacker_stays : (p : Position) (m : Move) (s : PlacedMan) → IsFaultless p → Contains p.placed_men s → is_color p.mover s.1 ≡ true → m.from ≡ s.2 → (captured occupied q : ℕ) (u : PlacedMan) → Contains p.placed_men u →
    (is_off captured u && (is_color (other_color p.mover) (man_after m u).1 && attacks_past occupied (man_after m u) q)) ≡ (is_color (other_color p.mover) u.1 && is_off captured u && attacks_past occupied u q)
attacker_stays p m s known stands own from captured occupied q u held = elim (cases_Bool (u.2 == m.from)) [
  | inl t ↦
      let same = same_man p.placed_men known.apart s stands u held (eqb-true u.2 m.from t ∙ from) in
      let none : is_color (other_color p.mover) u.1 ≡ false = ap (is_color (other_color p.mover)) (ap (λ (v : PlacedMan). v.1) same ∙ color_is p.mover s.1 own) ∙ not_other p.mover in
      rw (t, none) (and_right (is_off captured u) false refl)
  | inr f ↦ rw f (order (is_off captured u) (is_color (other_color p.mover) u.1) (attacks_past occupied u q))
]
  where
    order : (a b c : Bool) → (a && (b && c)) ≡ (b && a && c)
    order true true c = refl
    order true false c = refl
    order false true c = refl
    order false false c = refl

-- The test of a move that promotes nobody: the king is not captured, and attacked where it is then.
pub check_after_plain : (p : Position) (m : Move) (s king : PlacedMan) (captured occupied : ℕ) → IsPosition p → m.promotion ≡ None → Contains p.placed_men s → is_color p.mover s.1 ≡ true → m.from ≡ s.2 → m.to < 64 →
    Contains p.placed_men king → is_own_king p king ≡ true → captured ≡ captured_square p m → occupied ≡ squares_of (men_after p m) →
    (is_off captured king && list_any (λ t. is_color (other_color p.mover) t.1 && is_off captured t && attacks_past occupied t (man_after m king).2) p.placed_men) ≡ is_in_check (men_after p m) p.mover
check_after_plain p m s king captured occupied position plain stands own from to king_stands is_king is_captured is_occupied_ =
    let men = p.placed_men in let other = other_color p.mover in let known = faultless p position.no_fault in
    let before : ℕ → Bool = λ q. list_any (λ t. is_color other t.1 && is_off captured t && attacks_past occupied t q) men in
    let later : ℕ → Bool = λ q. list_any (λ t. is_off captured t && (is_color other (man_after m t).1 && attacks_past occupied (man_after m t) q)) men in
    let alike : (q : ℕ) → later q ≡ before q = λ q. any_alike (Contains men) (λ (t : PlacedMan). is_off captured t && (is_color other (man_after m t).1 && attacks_past occupied (man_after m t) q))
    (λ (t : PlacedMan). is_color other t.1 && is_off captured t && attacks_past occupied t q) men (All-contains_itself men) (attacker_stays p m s known stands own from captured occupied q) in
    ap (λ (b : Bool). is_off captured king && b) (sym (alike (man_after m king).2))
    ∙ sym (king_after p m king known plain king_stands is_king captured later)
    ∙ check_after p m captured occupied position.squares.men to is_captured is_occupied_

-- ---- a man that may go to any empty square

-- what blocks an attack without the man blocks it after the man's move
still_clear : (m : Move) (captured : ℕ) (men : List PlacedMan) (a b : ℕ) → All (λ u. u.2 ≢ captured) men → is_clear (moved m captured men) a b ≡ true → is_clear (filter (is_off m.from) men) a b ≡ true
still_clear m captured men a b off clear =
    let rest = filter (is_off m.from) men in
    let blocks : PlacedMan → Bool = λ u. is_between a b u.2 in
    elim (cases_Bool (list_any blocks rest)) [
      | inl t ↦
          let found = some_of blocks rest t in let u = found.0 in
          let from = All-contains (λ (v : PlacedMan). Contains men v × (is_off m.from v ≡ true)) rest u (All-passing (is_off m.from) men) found.1.0 in
          let here = ap blocks (stays m u (off_is m.from u from.1)) ∙ found.1.1 in
          let hit = some_moved blocks m captured men u from.0 (All-contains (λ (v : PlacedMan). v.2 ≢ captured) men u off from.0) here in
          absurd (both_ways (list_any blocks (moved m captured men)) (not-true (list_any blocks (moved m captured men)) clear) hit)
      | inr f ↦ ap not f
    ]

-- the squares of the other men
pub rest_occupied : (men : List PlacedMan) (square q : ℕ) → is_occupied (filter (is_off square) men) q ≡ (is_occupied men q && not (q == square))
rest_occupied men square q =
    let rest = filter (is_off square) men in
    let here : PlacedMan → Bool = λ u. u.2 == q in
    same_bool (is_occupied rest q) (is_occupied men q && not (q == square))
    (λ e.
    let found = some_of here rest e in let u = found.0 in
    let from = All-contains (λ (v : PlacedMan). Contains men v × (is_off square v ≡ true)) rest u (All-passing (is_off square) men) found.1.0 in
    and_from (is_occupied men q) (not (q == square)) (any_of here men u from.0 found.1.1)
    (not_from_false (q == square) (ne_eqb q square (λ (d : q ≡ square). off_is square u from.1 (eqb-true u.2 q found.1.1 ∙ d)))))
    (λ e.
    let parts = and_parts (is_occupied men q) (not (q == square)) e in
    let found = some_of here men parts.0 in let u = found.0 in
    any_filter here (is_off square) men u found.1.0 (off_from square u (λ (d : u.2 ≡ square). eqb-false q square (not-true (q == square) parts.1) (sym (eqb-true u.2 q found.1.1) ∙ d))) found.1.1)

-- If without the man its king is not attacked, each of its moves to an empty square is legal.
pub free_is_legal : (p : Position) (s king : PlacedMan) (left to : ℕ) → IsPosition p → Contains p.placed_men s → is_color p.mover s.1 ≡ true → is_man King s.0 ≡ false → Contains p.placed_men king → is_own_king p king ≡ true → left < 2 ^ 64 →
    ((q : ℕ) → q < 64 → is_in left q ≡ (is_occupied p.placed_men q && not (q == s.2))) →
    list_any (λ t. is_color (other_color p.mover) t.1 && not (t.2 == s.2) && attacks_past left t king.2) p.placed_men ≡ false →
    to < 64 → may_enter p.placed_men s to ≡ true → is_legal p (record { from = s.2; to = to; promotion = None }) ≡ true
unfolding is_legal men_after
free_is_legal p s king left to position stands own no_king king_stands is_king small set unattacked inside enters =
    let men = p.placed_men in let other = other_color p.mover in let known = faultless p position.no_fault in
    let board : AreOnBoard men = position.squares.men in
    let m : Move = record { from = s.2; to = to; promotion = None } in
    let captured = captured_square p m in
    let after = moved m captured men in let rest = filter (is_off s.2) men in
    let off = enters_off p m s known stands refl (record { may = enters; inside = inside }) in
    let rest_board : AreOnBoard rest = All-filter (is_off s.2) (λ (u : PlacedMan). u.2 < 64) men board in
    let is_rest : left ≡ squares_of rest = from_squares (is_occupied rest) left small (λ q h. set q h ∙ sym (rest_occupied men s.2 q)) in
    let king_inside : king.2 < 64 = All-contains (λ (u : PlacedMan). u.2 < 64) men king board king_stands in
    let away : king.2 ≢ s.2 = λ (d : king.2 ≡ s.2). both_ways (is_man King s.0) no_king
    (ap (λ (u : PlacedMan). is_man King u.0) (sym (same_man men known.apart s stands king king_stands d)) ∙ (and_parts (is_man King king.0) (is_color p.mover king.1) is_king).0) in
    let stays_king : man_after m king ≡ king = stays m king away in
    let hits : PlacedMan → Bool = λ t. is_color other t.1 && is_off captured t && attacks_past (squares_of after) t (man_after m king).2 in
    let whole = check_after_plain p m s king captured (squares_of after) position refl stands own refl inside king_stands is_king refl refl in
    elim (cases_Bool (list_any hits men)) [
      | inl t ↦
          let found = some_of hits men t in let u = found.0 in
          let parts = and_parts (is_color other u.1 && is_off captured u) (attacks_past (squares_of after) u (man_after m king).2) found.1.1 in
          let color = (and_parts (is_color other u.1) (is_off captured u) parts.0).0 in
          let apart : u.2 ≢ s.2 = λ (d : u.2 ≡ s.2). both_ways (is_color other s.1) (ap (is_color other) (color_is p.mover s.1 own) ∙ not_other p.mover)
          (ap (λ (v : PlacedMan). is_color other v.1) (sym (same_man men known.apart s stands u found.1.0 d)) ∙ color) in
          let attack : attacks after u king.2 ≡ true = sym (attacks_by_sets after (board_after m inside captured men board) u king.2 king_inside) ∙ ap (λ (v : PlacedMan). attacks_past (squares_of after) u v.2) (sym stays_king) ∙ parts.1 in
          let both = and_parts (attacks [] u king.2) (is_clear after u.2 king.2) (sym (reach_split after u king.2) ∙ attack) in
          let past : attacks_past left u king.2 ≡ true = ap (λ (n : ℕ). attacks_past n u king.2) is_rest ∙ attacks_by_sets rest rest_board u king.2 king_inside ∙ reach_split rest u king.2
          ∙ and_from (attacks [] u king.2) (is_clear rest u.2 king.2) both.0 (still_clear m captured men u.2 king.2 off both.1) in
          let before : PlacedMan → Bool = λ t. is_color other t.1 && not (t.2 == s.2) && attacks_past left t king.2 in
          let hit = any_of before men u found.1.0 (and_from (is_color other u.1 && not (u.2 == s.2)) (attacks_past left u king.2) (and_from (is_color other u.1) (not (u.2 == s.2)) color (off_from s.2 u apart)) past) in
          absurd (both_ways (list_any before men) unattacked hit)
      | inr f ↦
          let king_off : is_off captured king ≡ true = off_from captured king (All-contains (λ (v : PlacedMan). v.2 ≢ captured) men king off king_stands) in
          ap not (sym whole ∙ ap (λ (b : Bool). b && list_any hits men) king_off ∙ f)
    ]

-- the test of a position by sets
pub check_here : (men : List PlacedMan) (occupied : ℕ) (color : Color) → AreOnBoard men → occupied ≡ squares_of men →
    list_any (λ s. is_man King s.0 && is_color color s.1 && list_any (λ t. is_color (other_color color) t.1 && attacks_past occupied t s.2) men) men ≡ is_in_check men color
check_here men occupied color board set =
    let other = other_color color in
    any_alike (λ (s : PlacedMan). s.2 < 64) (λ (s : PlacedMan). is_man King s.0 && is_color color s.1 && list_any (λ (t : PlacedMan). is_color other t.1 && attacks_past occupied t s.2) men)
    (λ (s : PlacedMan). is_man King s.0 && is_color color s.1 && is_attacked men other s.2) men board
    (λ s h. ap (λ (b : Bool). is_man King s.0 && is_color color s.1 && b) (any_alike (λ (t : PlacedMan). t.2 < 64) (λ (t : PlacedMan). is_color other t.1 && attacks_past occupied t s.2)
    (λ (t : PlacedMan). is_color other t.1 && attacks men t s.2) men board (λ t k. ap (λ (b : Bool). is_color other t.1 && b) (ap (λ (n : ℕ). attacks_past n t s.2) set ∙ attacks_by_sets men board t s.2 h))))

-- ---- what a pawn is promoted to makes no difference to the mover's king

same_square : (m n : Move) → n.from ≡ m.from → n.to ≡ m.to → (s : PlacedMan) → (man_after m s).2 ≡ (man_after n s).2
same_square m n from to s = elim (cases_Bool (s.2 == m.from)) [
  | inl t ↦ let u : (s.2 == n.from) ≡ true = ap (λ (k : ℕ). s.2 == k) from ∙ t in rw (t, u) (sym to)
  | inr f ↦ let u : (s.2 == n.from) ≡ false = ap (λ (k : ℕ). s.2 == k) from ∙ f in rw (f, u) refl
]

clear_alike : (m n : Move) → n.from ≡ m.from → n.to ≡ m.to → (captured : ℕ) (men : List PlacedMan) (a b : ℕ) → is_clear (moved m captured men) a b ≡ is_clear (moved n captured men) a b
clear_alike m n from to captured men a b =
    let kept = filter (is_off captured) men in
    ap not (any_map (λ (s : PlacedMan). is_between a b s.2) (man_after m) kept
    ∙ any_alike (λ (s : PlacedMan). Unit {0}) (λ (s : PlacedMan). is_between a b (man_after m s).2) (λ (s : PlacedMan). is_between a b (man_after n s).2) kept (λ k d h. tt) (λ s _. ap (is_between a b) (same_square m n from to s))
    ∙ sym (any_map (λ (s : PlacedMan). is_between a b s.2) (man_after n) kept))

attacks_alike : (m n : Move) → n.from ≡ m.from → n.to ≡ m.to → (captured : ℕ) (men : List PlacedMan) (s : PlacedMan) (q : ℕ) → attacks (moved m captured men) s q ≡ attacks (moved n captured men) s q
attacks_alike m n from to captured men s q =
    reach_split (moved m captured men) s q ∙ ap (λ (b : Bool). attacks [] s q && b) (clear_alike m n from to captured men s.2 q) ∙ sym (reach_split (moved n captured men) s q)

-- a man that promotes, and where it goes
pub record Promotes (p : Position) (m : Move) (s : PlacedMan) : Type 0 where
  pub known : IsFaultless p
  pub stands : Contains p.placed_men s
  pub own : is_color p.mover s.1 ≡ true
  pub leaves : m.from ≡ s.2
  pub no_king : is_man King (unwrap_or m.promotion s.0) ≡ false

-- an enemy man stays where it is
attacker_alike : (p : Position) (m n : Move) (s : PlacedMan) → Promotes p m s → n.from ≡ m.from → n.to ≡ m.to → (captured q : ℕ) (u : PlacedMan) → Contains p.placed_men u →
    (is_off captured u && (is_color (other_color p.mover) (man_after m u).1 && attacks (moved m captured p.placed_men) (man_after m u) q))
    ≡ (is_off captured u && (is_color (other_color p.mover) (man_after n u).1 && attacks (moved n captured p.placed_men) (man_after n u) q))
attacker_alike p m n s promotes from to captured q u held = elim (cases_Bool (u.2 == m.from)) [
  | inl t ↦
      let same = same_man p.placed_men promotes.known.apart s promotes.stands u held (eqb-true u.2 m.from t ∙ promotes.leaves) in
      let e : (u.2 == n.from) ≡ true = ap (λ (k : ℕ). u.2 == k) from ∙ t in
      let none : is_color (other_color p.mover) u.1 ≡ false = ap (is_color (other_color p.mover)) (ap (λ (v : PlacedMan). v.1) same ∙ color_is p.mover s.1 promotes.own) ∙ not_other p.mover in
      rw (t, e, none) refl
  | inr f ↦
      let e : (u.2 == n.from) ≡ false = ap (λ (k : ℕ). u.2 == k) from ∙ f in
      rw (f, e) (ap (λ (b : Bool). is_off captured u && (is_color (other_color p.mover) u.1 && b)) (attacks_alike m n from to captured p.placed_men u q))
]

attacked_alike : (p : Position) (m n : Move) (s : PlacedMan) → Promotes p m s → n.from ≡ m.from → n.to ≡ m.to → (captured q : ℕ) →
    is_attacked (moved m captured p.placed_men) (other_color p.mover) q ≡ is_attacked (moved n captured p.placed_men) (other_color p.mover) q
attacked_alike p m n s promotes from to captured q =
    let men = p.placed_men in let other = other_color p.mover in
    any_fused (λ (u : PlacedMan). is_color other u.1 && attacks (moved m captured men) u q) (man_after m) (is_off captured) men
    ∙ any_alike (Contains men) (λ (u : PlacedMan). is_off captured u && (is_color other (man_after m u).1 && attacks (moved m captured men) (man_after m u) q))
    (λ (u : PlacedMan). is_off captured u && (is_color other (man_after n u).1 && attacks (moved n captured men) (man_after n u) q)) men (All-contains_itself men) (attacker_alike p m n s promotes from to captured q)
    ∙ sym (any_fused (λ (u : PlacedMan). is_color other u.1 && attacks (moved n captured men) u q) (man_after n) (is_off captured) men)

king_alike : (p : Position) (m n : Move) (s : PlacedMan) → Promotes p m s → Promotes p n s → n.to ≡ m.to → (captured : ℕ) (u : PlacedMan) → Contains p.placed_men u →
    (is_off captured u && (is_man King (man_after m u).0 && is_color p.mover (man_after m u).1 && is_attacked (moved m captured p.placed_men) (other_color p.mover) (man_after m u).2))
    ≡ (is_off captured u && (is_man King (man_after n u).0 && is_color p.mover (man_after n u).1 && is_attacked (moved n captured p.placed_men) (other_color p.mover) (man_after n u).2))
king_alike p m n s one two to captured u held =
    let from : n.from ≡ m.from = two.leaves ∙ sym one.leaves in
    elim (cases_Bool (u.2 == m.from)) [
      | inl t ↦
          let same = same_man p.placed_men one.known.apart s one.stands u held (eqb-true u.2 m.from t ∙ one.leaves) in
          let e : (u.2 == n.from) ≡ true = ap (λ (k : ℕ). u.2 == k) from ∙ t in
          let a : is_man King (unwrap_or m.promotion u.0) ≡ false = ap (λ (v : PlacedMan). is_man King (unwrap_or m.promotion v.0)) same ∙ one.no_king in
          let b : is_man King (unwrap_or n.promotion u.0) ≡ false = ap (λ (v : PlacedMan). is_man King (unwrap_or n.promotion v.0)) same ∙ two.no_king in
          rw (t, e, a, b) refl
      | inr f ↦
          let e : (u.2 == n.from) ≡ false = ap (λ (k : ℕ). u.2 == k) from ∙ f in
          rw (f, e) (ap (λ (b : Bool). is_off captured u && (is_man King u.0 && is_color p.mover u.1 && b)) (attacked_alike p m n s one from to captured u.2))
    ]

pub legal_alike : (p : Position) (m n : Move) (s : PlacedMan) → Promotes p m s → Promotes p n s → n.to ≡ m.to → captured_square p n ≡ captured_square p m → is_legal p m ≡ is_legal p n
unfolding is_legal men_after
legal_alike p m n s one two to captured =
    let men = p.placed_men in let square = captured_square p m in let other = other_color p.mover in
    ap not (any_fused (λ (u : PlacedMan). is_man King u.0 && is_color p.mover u.1 && is_attacked (moved m square men) other u.2) (man_after m) (is_off square) men
    ∙ any_alike (Contains men) (λ (u : PlacedMan). is_off square u && (is_man King (man_after m u).0 && is_color p.mover (man_after m u).1 && is_attacked (moved m square men) other (man_after m u).2))
    (λ (u : PlacedMan). is_off square u && (is_man King (man_after n u).0 && is_color p.mover (man_after n u).1 && is_attacked (moved n square men) other (man_after n u).2)) men (All-contains_itself men) (king_alike p m n s one two to square)
    ∙ sym (any_fused (λ (u : PlacedMan). is_man King u.0 && is_color p.mover u.1 && is_attacked (moved n square men) other u.2) (man_after n) (is_off square) men)
    ∙ ap (λ (k : ℕ). is_in_check (moved n k men) p.mover) (sym captured))

-- a promotion is legal if the same move without one is
pub promotion_alike : (p : Position) → IsPosition p → (s : PlacedMan) → Contains p.placed_men s → is_color p.mover s.1 ≡ true → (to : ℕ) → promotes s to ≡ true → (piece : Man) → is_man King piece ≡ false →
    is_legal p (record { from = s.2; to = to; promotion = Some piece }) ≡ is_legal p (record { from = s.2; to = to; promotion = None })
unfolding is_en_passant
promotion_alike p position s held own to pawns piece no_king =
    let known = faultless p position.no_fault in
    let m : Move = record { from = s.2; to = to; promotion = Some piece } in let n : Move = record { from = s.2; to = to; promotion = None } in
    let pawn = (and_parts (is_man Pawn s.0) (rank_of to == 0 || rank_of to == 7) pawns).0 in
    legal_alike p m n s (record { known = known; stands = held; own = own; leaves = refl; no_king = no_king }) (record { known = known; stands = held; own = own; leaves = refl; no_king = pawn_no_king s.0 pawn }) refl refl
  where
    pawn_no_king : (man : Man) → is_man Pawn man ≡ true → is_man King man ≡ false
    pawn_no_king Pawn e = refl
    pawn_no_king Knight e = cc
    pawn_no_king Bishop e = cc
    pawn_no_king Rook e = cc
    pawn_no_king Queen e = cc
    pawn_no_king King e = cc
