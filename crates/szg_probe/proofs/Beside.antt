-- The class of a position from that of the position without the right to capture en passant, and from its captures.
use Rattle.std.proofs.Common.{◌≡◌, suc, List, [], ◌∷◌, length, map, refl, sym, ap, ◌∙◌, subst, Bool, true, false, arith, inl, inr, ◌⊎◌, ◌↔◌, Some, None, Contains, get_or}
use Rattle.std.specs.Prelude.{filter, not, ◌==◌, ◌||◌, All, IsTrue}
use Rattle.std.specs.List.{list_any, list_all}
use Rattle.std.proofs.lemmas.Bool.{cases_Bool, and_parts, and_from, or_parts, or_from, or_right, not_from_true, not-false, both_ways, not_from_false, not-true, eqb-true}
use Rattle.std.proofs.lemmas.List.Elements.{All-contains_itself}
use Rattle.szg_game.specs.Game.{is_empty, goes_on, counter_after, HasClass, loses}
use Rattle.szg_game.specs.Classes.{better, best_after}
use Rattle.szg_game.specs.Laws.{AreZeroingTo}
use Rattle.szg_game.specs.declared.Class.{Class}
use Rattle.szg_game.specs.declared.Class.TheVariants.{Loss, Draw, Win}
use Rattle.szg_game.proofs.Graded.{one_class}
use Rattle.szg_game.proofs.Steps.{wins_step, loses_mate, stalemate_not_wins, stalemate_not_loses}
use Rattle.szg_game.proofs.Lists.{IsIn, contains_in, in_contains, in_map, map_in, is_empty-map, all_in, each_in, none_in}
use Rattle.szg_game.proofs.ZeroingMoves.{best_of_zeroing, better_of_both}
use Rattle.szg_chess.specs.declared.Move.{Move}
use Rattle.szg_chess.specs.Position.{Position, IsPosition}
use Rattle.szg_chess.specs.Moves.{after, is_en_passant, is_pawn_on, is_zeroing, is_capture, legal_moves, legal_captures, is_check, has_no_move, has_move_beside_en_passant}
use Rattle.szg_chess.proofs.Captured.{captures_law, takes_enemy}
use Rattle.szg_probe.specs.Chess.{step_of, chess, ply_limit, ChessClass, without_right}
use Rattle.szg_probe.specs.Probing.{HaveClasses, has_only_captures, has_only_en_passant}
use Rattle.szg_probe.proofs.Choosing.{filter_true, in_filter, filter_in, better_joins, best_by_test}
use Rattle.szg_probe.proofs.WithoutRight.{is_plain, plain_after, plain_step, legal_without, captures_without, capture_in, in_captures}

-- ---- lists

pub all_from_in : {A : Type 0} (P : A → Type 0) (xs : List A) → ((x : A) → IsIn xs x → P x) → All P xs
all_from_in P xs each = λ k d h. each (get_or xs k d) (in_contains xs (get_or xs k d) (All-contains_itself xs k d h))

pub map_same : {A B : Type 0} (f g : A → B) (xs : List A) → ((x : A) → IsIn xs x → f x ≡ g x) → map f xs ≡ map g xs
map_same f g [] each = refl
map_same {A} {B} f g (x ∷ xs) each = ap (λ (y : B). y ∷ map f xs) (each x (inl refl)) ∙ ap (λ (ys : List B). g x ∷ ys) (map_same f g xs (λ y i. each y (inr i)))

pub map_map : {A B C : Type 0} (f : A → B) (g : B → C) (xs : List A) → map g (map f xs) ≡ map (λ x. g (f x)) xs
map_map f g [] = refl
map_map {A} {B} {C} f g (x ∷ xs) = ap (λ (ys : List C). g (f x) ∷ ys) (map_map f g xs)

none_left : {A : Type 0} (xs : List A) → is_empty xs ≡ true → xs ≡ []
none_left [] e = refl
none_left (x ∷ xs) e = cc

not_empty : {A : Type 0} (xs : List A) → (length xs == 0) ≡ false → is_empty xs ≡ false
not_empty [] e = cc
not_empty (x ∷ xs) e = refl

empty_length : {A : Type 0} (xs : List A) → length xs ≡ 0 → xs ≡ []
empty_length [] e = refl
empty_length (x ∷ xs) e = absurd (omega arith)

pub none_of : {A : Type 0} (t : A → Bool) (xs : List A) → ((x : A) → IsIn xs x → t x ≡ false) → list_any t xs ≡ false
none_of t [] each = refl
none_of t (x ∷ xs) each = or_from (t x) (list_any t xs) (each x (inl refl)) (none_of t xs (λ y i. each y (inr i)))

pub none_in_any : {A : Type 0} (t : A → Bool) (xs : List A) → list_any t xs ≡ false → (x : A) → IsIn xs x → t x ≡ false
none_in_any {A} t (x ∷ xs) e y (inl same) = subst (λ (z : A). t z ≡ false) same (or_parts (t x) (list_any t xs) e).0
none_in_any t (x ∷ xs) e y (inr i) = none_in_any t xs (or_parts (t x) (list_any t xs) e).1 y i
none_in_any t [] e y i = elim i [ ]

-- ---- moves of the game

-- each capture leads to a position of the class that `class` says
abbrev pub CapturesHave : (Position → Class) → Position → Type 0
CapturesHave class p = (m : Move) → IsIn (legal_captures p) m → ChessClass (after p m) (class (after p m))

capture_zeroing : (p : Position) (m : Move) → is_capture p m ≡ true → is_zeroing p m ≡ true
capture_zeroing p m e = or_right (is_pawn_on p m.from) (is_capture p m) e

zeroing_to : (p : Position) → IsPosition p → (class : Position → Class) → CapturesHave class p → (moves : List Move) → ((m : Move) → IsIn moves m → IsIn (legal_captures p) m) →
    AreZeroingTo chess ply_limit class (map (step_of p) moves)
zeroing_to p position class have moves captures = all_from_in (λ (x : Position × Bool). IsTrue x.1 × HasClass chess ply_limit x.0 (class x.0)) (map (step_of p) moves) (λ x i.
    let r = map_in (step_of p) moves x i in
    let m = r.0 in
    let capture = captures m r.1 in
    subst (λ (y : Position × Bool). IsTrue y.1 × HasClass chess ply_limit y.0 (class y.0)) r.2 (capture_zeroing p m (capture_in p position m capture).1, have m capture))

-- a capture that leads to a loss wins
pub capture_wins : (p : Position) → IsPosition p → (m : Move) → IsIn (legal_captures p) m → ChessClass (after p m) Loss → ChessClass p Win
capture_wins p position m i lost =
    let held = capture_in p position m i in
    (suc lost.0, wins_step chess (Some ply_limit) lost.0 0 p (step_of p m) (in_map (step_of p) (legal_moves p) m held.0) (inr (zeroing_loses (is_zeroing p m) (capture_zeroing p m held.1))))
  where
    zeroing_loses : (z : Bool) → z ≡ true → (goes_on (Some ply_limit) (counter_after z 0) ≡ true) × (loses chess (Some ply_limit) lost.0 (counter_after z 0) (after p m) ≡ true)
    zeroing_loses true e = (refl, lost.1)
    zeroing_loses false e = cc

-- positions without moves, both in check or neither, have one class
ended_same : (p q : Position) (k : Class) → is_empty (chess.moves p) ≡ true → is_empty (chess.moves q) ≡ true → is_check p ≡ is_check q → ChessClass q k → ChessClass p k
ended_same p q k ends ended same c = elim (cases_Bool (is_check q)) [
  | inl e ↦ (
      let here = and_from (is_empty (chess.moves p)) (is_check p) ends (same ∙ e) in
      let there = and_from (is_empty (chess.moves q)) (is_check q) ended e in
      let is : Loss ≡ k = one_class chess ply_limit q Loss k (0, loses_mate chess (Some ply_limit) 0 0 q there) c in
      let lost : ChessClass p Loss = (0, loses_mate chess (Some ply_limit) 0 0 p here) in
      subst (ChessClass p) is lost)
  | inr e ↦ (
      let here = and_from (is_empty (chess.moves p)) (not (is_check p)) ends (not_from_false (is_check p) (same ∙ e)) in
      let there = and_from (is_empty (chess.moves q)) (not (is_check q)) ended (not_from_false (is_check q) e) in
      let is : Draw ≡ k = one_class chess ply_limit q Draw k (λ w. stalemate_not_wins chess None w.0 0 q there w.1, λ l. stalemate_not_loses chess None l.0 0 q there l.1) c in
      let drawn : ChessClass p Draw = (λ w. stalemate_not_wins chess None w.0 0 p here w.1, λ l. stalemate_not_loses chess None l.0 0 p here l.1) in
      subst (ChessClass p) is drawn)
]

-- if each move is a capture, they alone count
pub only_captures_class : (p : Position) → IsPosition p → (class : Position → Class) → CapturesHave class p → has_only_captures p ≡ true →
    ChessClass p (best_after (map (λ m. class (after p m)) (legal_captures p)))
only_captures_class p position class have only =
    let moves = legal_moves p in
    let parts = and_parts (not (has_no_move p)) (list_all (is_capture p) moves) only in
    let all : moves ≡ legal_captures p = sym (filter_true (is_capture p) moves (each_in (is_capture p) moves parts.1)) ∙ captures_law p position in
    let each = zeroing_to p position class have moves (λ m i. subst (λ (ms : List Move). IsIn ms m) all i) in
    let some = is_empty-map (step_of p) moves ∙ not_empty moves (not-true (has_no_move p) parts.0) in
    let same = map_map (step_of p) (λ (x : Position × Bool). class x.0) moves ∙ ap (map (λ (m : Move). class (after p m))) all in
    subst (λ (ks : List Class). ChessClass p (best_after ks)) same (best_of_zeroing chess ply_limit (omega arith) class p some each)

-- captures en passant alone are captures alone
pub only_en_passant : (p : Position) → has_only_en_passant p ≡ true → has_only_captures p ≡ true
only_en_passant p only =
    let parts = or_parts (has_no_move p) (has_move_beside_en_passant p) (not-true (has_no_move p || has_move_beside_en_passant p) only) in
    let none = none_in_any (λ (m : Move). not (is_en_passant p m)) (legal_moves p) parts.1 in
    and_from (not (has_no_move p)) (list_all (is_capture p) (legal_moves p)) (not_from_false (has_no_move p) parts.0)
    (all_in (is_capture p) (legal_moves p) (λ m i. or_right (takes_enemy p m) (is_en_passant p m) (not-false (is_en_passant p m) (none m i))))

-- ---- beside the moves without the right

module _ (p : Position) (position : IsPosition p) where
  -- the captures en passant, and the others
  passing : List Move
  passing = filter (is_en_passant p) (legal_captures p)

  plain_captures : List Move
  plain_captures = filter (is_plain p) (legal_captures p)

  en_passant_captures : (m : Move) → is_en_passant p m ≡ true → is_capture p m ≡ true
  en_passant_captures m e = or_right (takes_enemy p m) (is_en_passant p m) e

  -- a legal move is a capture en passant, or one without the right
  either_move : (m : Move) → IsIn (legal_moves p) m → IsIn passing m ⊎ (IsIn (legal_moves (without_right p)) m × (is_plain p m ≡ true))
  unfolding passing
  either_move m i = elim (cases_Bool (is_en_passant p m)) [
    | inl e ↦ inl (in_filter (is_en_passant p) (legal_captures p) m (in_captures p position m i (en_passant_captures m e)) e)
    | inr e ↦ (
        let plain = not_from_false (is_en_passant p m) e in
        inr (subst (λ (ms : List Move). IsIn ms m) (sym (legal_without p position)) (in_filter (is_plain p) (legal_moves p) m i plain), plain))
  ]

  plain_move : (m : Move) → IsIn (legal_moves (without_right p)) m → IsIn (legal_moves p) m × (is_plain p m ≡ true)
  plain_move m i = filter_in (is_plain p) (legal_moves p) m (subst (λ (ms : List Move). IsIn ms m) (legal_without p position) i)

  passing_capture : (m : Move) → IsIn passing m → IsIn (legal_captures p) m
  unfolding passing
  passing_capture m i = (filter_in (is_en_passant p) (legal_captures p) m i).0

  steps_same : (x : Position × Bool) → Contains (chess.moves p) x ↔ (Contains (map (step_of p) passing) x ⊎ Contains (chess.moves (without_right p)) x)
  steps_same x = (there, back)
    where
      there : Contains (chess.moves p) x → Contains (map (step_of p) passing) x ⊎ Contains (chess.moves (without_right p)) x
      there c =
          let r = map_in (step_of p) (legal_moves p) x (in_contains (chess.moves p) x c) in
          let m = r.0 in
          elim (either_move m r.1) [
            | inl i ↦ inl (contains_in (map (step_of p) passing) x (subst (IsIn (map (step_of p) passing)) r.2 (in_map (step_of p) passing m i)))
            | inr i ↦ inr (contains_in (chess.moves (without_right p)) x (subst (IsIn (chess.moves (without_right p))) (sym (plain_step p m i.1) ∙ r.2) (in_map (step_of (without_right p)) (legal_moves (without_right p)) m i.0)))
          ]

      back : Contains (map (step_of p) passing) x ⊎ Contains (chess.moves (without_right p)) x → Contains (chess.moves p) x
      back (inl c) =
          let r = map_in (step_of p) passing x (in_contains (map (step_of p) passing) x c) in
          let m = r.0 in
          contains_in (chess.moves p) x (subst (IsIn (chess.moves p)) r.2 (in_map (step_of p) (legal_moves p) m (capture_in p position m (passing_capture m r.1)).0))
      back (inr c) =
          let r = map_in (step_of (without_right p)) (legal_moves (without_right p)) x (in_contains (chess.moves (without_right p)) x c) in
          let m = r.0 in
          let held = plain_move m r.1 in
          contains_in (chess.moves p) x (subst (IsIn (chess.moves p)) (plain_step p m held.1 ∙ r.2) (in_map (step_of p) (legal_moves p) m held.0))

  module _ (class : Position → Class) (have : CapturesHave class p) where
    -- the captures without the right lead to positions of these classes
    pub have_without : HaveClasses class (without_right p)
    have_without = all_from_in (λ (m : Move). ChessClass (after (without_right p) m) (class (after (without_right p) m))) (legal_captures (without_right p)) (λ m i.
        let r = filter_in (is_plain p) (legal_captures p) m (subst (λ (ms : List Move). IsIn ms m) (captures_without p position) i) in
        subst (λ (q : Position). ChessClass q (class q)) (plain_after p m r.1) (have m r.0))

    best_without : best_after (map (λ m. class (after (without_right p) m)) (legal_captures (without_right p))) ≡ best_after (map (λ m. class (after p m)) plain_captures)
    unfolding plain_captures
    best_without = ap best_after (ap (map (λ (m : Move). class (after (without_right p) m))) (captures_without p position)
        ∙ map_same (λ (m : Move). class (after (without_right p) m)) (λ m. class (after p m)) (filter (is_plain p) (legal_captures p)) (λ m i.
        ap class (sym (plain_after p m (filter_in (is_plain p) (legal_captures p) m i).1))))

    best_of_all : (s : Class) →
        better s (best_after (map (λ m. class (after p m)) (legal_captures p)))
        ≡ better (better s (best_after (map (λ m. class (after (without_right p) m)) (legal_captures (without_right p))))) (best_after (map (λ m. class (after p m)) passing))
    unfolding passing plain_captures
    best_of_all s =
        let plain = best_after (map (λ (m : Move). class (after p m)) (filter (is_plain p) (legal_captures p))) in
        let pass = best_after (map (λ (m : Move). class (after p m)) (filter (is_en_passant p) (legal_captures p))) in
        ap (better s) (best_by_test (is_en_passant p) (λ (m : Move). class (after p m)) (legal_captures p))
        ∙ better_joins s plain pass
        ∙ ap (λ (k : Class). better (better s k) pass) (sym best_without)

    module _ (s : Class) (true_without : ChessClass (without_right p) (better s (best_after (map (λ m. class (after (without_right p) m)) (legal_captures (without_right p)))))) where
      -- with a move without the right
      with_moves : is_empty (legal_moves (without_right p)) ≡ false → ChessClass p (better s (best_after (map (λ m. class (after p m)) (legal_captures p))))
      with_moves some =
          let joined = better_of_both chess ply_limit (omega arith) class (without_right p) p (map (step_of p) passing) _ (is_empty-map (step_of (without_right p)) (legal_moves (without_right p)) ∙ some)
          steps_same (zeroing_to p position class have passing passing_capture) true_without in
          subst (ChessClass p) (ap (λ (ks : List Class). better (better s (best_after (map (λ (m : Move). class (after (without_right p) m)) (legal_captures (without_right p))))) (best_after ks)) (map_map (step_of p) (λ (x : Position × Bool). class x.0) passing) ∙ sym (best_of_all s)) joined

      -- without one there is no move at all, if there are not captures en passant alone
      no_moves : is_empty (legal_moves (without_right p)) ≡ true → has_only_en_passant p ≡ false → legal_moves p ≡ []
      unfolding passing
      no_moves none some =
          let no_other = none_of (λ (m : Move). not (is_en_passant p m)) (legal_moves p) (λ m i. elim (either_move m i) [
            | inl j ↦ not_from_true (is_en_passant p m) (filter_in (is_en_passant p) (legal_captures p) m j).1
            | inr j ↦ absurd (none_in (legal_moves (without_right p)) m none j.0)
          ]) in
          elim (cases_Bool (has_no_move p)) [
            | inl e ↦ empty_length (legal_moves p) (eqb-true (length (legal_moves p)) 0 e)
            | inr e ↦ absurd (both_ways (has_only_en_passant p) some (not_from_false (has_no_move p || has_move_beside_en_passant p) (or_from (has_no_move p) (has_move_beside_en_passant p) e no_other)))
          ]

      pub class_beside : has_only_en_passant p ≡ false → ChessClass p (better s (best_after (map (λ m. class (after p m)) (legal_captures p))))
      class_beside some = elim (cases_Bool (is_empty (legal_moves (without_right p)))) [
        | inr e ↦ with_moves e
        | inl e ↦ (
            let none = no_moves e some in
            let captures : legal_captures p ≡ [] = sym (captures_law p position) ∙ ap (filter (is_capture p)) none in
            let others : legal_captures (without_right p) ≡ [] = captures_without p position ∙ ap (filter (is_plain p)) captures in
            let best = ap (λ (ms : List Move). better s (best_after (map (λ m. class (after (without_right p) m)) ms))) others in
            let same = ap (λ (ms : List Move). better s (best_after (map (λ m. class (after p m)) ms))) captures in
            subst (ChessClass p) (sym same)
            (ended_same p (without_right p) (better s Loss) (is_empty-map (step_of p) (legal_moves p) ∙ ap is_empty none) (is_empty-map (step_of (without_right p)) (legal_moves (without_right p)) ∙ e) refl
            (subst (ChessClass (without_right p)) best true_without)))
      ]
