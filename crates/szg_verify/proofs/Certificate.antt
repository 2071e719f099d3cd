-- Tables that pass make a certificate of the game.
use Rattle.std.proofs.Common.{◌≡◌, ℕ, ◌+◌, ◌<◌, ◌≤◌, List, [], ◌∷◌, length, map, refl, sym, ap, ◌∙◌, subst, Bool, true, false, arith, inl, inr, Option, Some, None, Contains}
use Rattle.std.specs.Prelude.{◌&&◌, ◌==◌, nat_lt, unwrap_or, option_map, is_none, All, IsSome, cond}
use Rattle.std.specs.List.{list_all}
use Rattle.std.specs.Option.{ForSome}
use Rattle.std.proofs.lemmas.Bool.{cases_Bool, and_parts, and_from, ltb-true, lt-ltb, ne_eqb, le-ltb}
use Rattle.szg_values.specs.Placement.{PlacedMan}
use Rattle.szg_game.specs.Game.{Move as Step, is_empty}
use Rattle.szg_game.specs.Classes.{level, from_zeroing, with_zeroing}
use Rattle.szg_game.specs.Certified.{accepts, accepts_at, successors_of, Certified}
use Rattle.szg_game.specs.declared.Class.{Class}
use Rattle.szg_game.specs.declared.Entry.{Entry}
use Rattle.szg_game.proofs.Lists.{IsIn, contains_in, in_all, map_in, is_empty-map, all_in, each_in}
use Rattle.szg_game.proofs.AcceptedMoves.{accepted_from_zeroing}
use Rattle.szg_game.proofs.AcceptedAt.{accepted_beside}
use Rattle.szg_game.proofs.Truth.{true_class}
use Rattle.szg_chess.specs.declared.Move.{Move}
use Rattle.szg_chess.specs.Position.{Position, IsPosition, position_fault}
use Rattle.szg_chess.specs.Laws.{zeroing_left}
use Rattle.szg_chess.specs.Moves.{after, is_zeroing, is_check, legal_moves, has_no_move}
use Rattle.szg_chess.proofs.AfterMove.{after_is_position}
use Rattle.szg_chess.proofs.Zeroing.{zeroing_law, quiet_law}
use Rattle.szg_probe.specs.Chess.{step_of, chess, ply_limit, ChessClass, without_right}
use Rattle.szg_probe.specs.Probing.{probed}
use Rattle.szg_probe.proofs.WithoutRight.{position_without}
use Rattle.szg_probe.proofs.Beside.{all_from_in}
use Rattle.szg_verify.specs.Entries.{StoredTables, passing_captures, after_passing, with_passing, plain_entry, entry_as, entry_of, entry_at, missing}
use Rattle.szg_verify.specs.Verified.{IsVerified, Passes}
use Rattle.szg_verify.proofs.Classes.{plain_class}
use Rattle.szg_verify.proofs.Passing.{entry_plain, steps_same, passing_steps_zeroing, after_passing_is, all_passing}

-- ---- positions as a test

abbrev on_board : Option ℕ → Bool
on_board None = true
on_board (Some square) = nat_lt square 64

abbrev pub is_position : Position → Bool
is_position p = is_none (position_fault p) && (list_all (λ s. nat_lt s.2 64) p.placed_men && on_board p.en_passant)

none_is : {A : Type 0} (o : Option A) → is_none o ≡ true → o ≡ None
none_is None e = refl
none_is (Some x) e = cc

on_board_is : (o : Option ℕ) → on_board o ≡ true → ForSome o (λ square. square < 64)
on_board_is None e = λ x h. cc
on_board_is (Some square) e = λ x h. let same : square ≡ x = cc in let less = ltb-true square 64 e in omega arith

is_on_board : (o : Option ℕ) → ForSome o (λ square. square < 64) → on_board o ≡ true
is_on_board None h = refl
is_on_board (Some square) h = lt-ltb square 64 (h square refl)

pub position_is : (p : Position) → is_position p ≡ true → IsPosition p
position_is p e =
    let a = and_parts (is_none (position_fault p)) (list_all (λ (s : PlacedMan). nat_lt s.2 64) p.placed_men && on_board p.en_passant) e in
    let b = and_parts (list_all (λ (s : PlacedMan). nat_lt s.2 64) p.placed_men) (on_board p.en_passant) a.1 in
    record {
      no_fault = none_is (position_fault p) a.0;
      squares = record {
        men = all_from_in (λ (s : PlacedMan). s.2 < 64) p.placed_men (λ s i. ltb-true s.2 64 (each_in (λ (t : PlacedMan). nat_lt t.2 64) p.placed_men b.0 s i));
        en_passant = on_board_is p.en_passant b.1;
      };
    }

pub is_position_from : (p : Position) → IsPosition p → is_position p ≡ true
is_position_from p position =
    and_from (is_none (position_fault p)) (list_all (λ (s : PlacedMan). nat_lt s.2 64) p.placed_men && on_board p.en_passant) (ap is_none position.no_fault)
    (and_from (list_all (λ (s : PlacedMan). nat_lt s.2 64) p.placed_men) (on_board p.en_passant)
    (all_in (λ (s : PlacedMan). nat_lt s.2 64) p.placed_men (λ s i. lt-ltb s.2 64 (in_all (λ (t : PlacedMan). t.2 < 64) p.placed_men s position.squares.men i)))
    (is_on_board p.en_passant position.squares.en_passant))

-- ---- small facts

no_moves : (p : Position) → is_empty (legal_moves p) ≡ true → has_no_move p ≡ true
no_moves p e = go (legal_moves p) e
  where
    go : (ms : List Move) → is_empty ms ≡ true → (length ms == 0) ≡ true
    go [] e = refl
    go (m ∷ ms) e = cc

some_moves : (p : Position) → is_empty (legal_moves p) ≡ false → has_no_move p ≡ false
some_moves p e = go (legal_moves p) e
  where
    go : (ms : List Move) → is_empty ms ≡ false → (length ms == 0) ≡ false
    go [] e = cc
    go (m ∷ ms) e = ne_eqb (length (m ∷ ms)) 0 (λ same. absurd (omega arith))

nothing : {A : Type 0} (xs : List A) → is_empty xs ≡ true → xs ≡ []
nothing [] e = refl
nothing (x ∷ xs) e = cc

with_none : (e : Entry) → with_zeroing e [] ≡ e
with_none e = rw (le-ltb (level e.class) 0 (omega arith)) refl

pub known : {A : Type 0} (o : Option A) → IsSome o → (x : A) × (o ≡ Some x)
known None h = cc
known (Some x) h = (x, refl)

-- ---- the certificate

module _ (tables : StoredTables) (covers : List PlacedMan → Bool) (ok : IsVerified tables covers) where
  abbrev pub good : Position → Bool
  good p = is_position p && covers p.placed_men

  abbrev pub rank : Position → ℕ
  rank p = zeroing_left p.placed_men

  good_parts : (p : Position) → good p ≡ true → (is_position p ≡ true) × (covers p.placed_men ≡ true)
  good_parts p g = and_parts (is_position p) (covers p.placed_men) g

  next_good : (p : Position) → good p ≡ true → (m : Move) → IsIn (legal_moves p) m → good (after p m) ≡ true
  next_good p g m i =
      let parts = good_parts p g in
      let position = position_is p parts.0 in
      let held = contains_in (legal_moves p) m i in
      and_from (is_position (after p m)) (covers (after p m).placed_men) (is_position_from (after p m) (after_is_position p m position held)) (ok.closed p m position parts.1 held)

  closed : (p : Position) → good p ≡ true → All (λ (x : Position × Bool). good x.0 ≡ true) (chess.moves p)
  closed p g = all_from_in (λ (x : Position × Bool). good x.0 ≡ true) (chess.moves p) (λ x i.
      let r = map_in (step_of p) (legal_moves p) x i in
      subst (λ (y : Position × Bool). good y.0 ≡ true) r.2 (next_good p g r.0 r.1))

  lowers : (p : Position) (m : Move) → IsPosition p → Contains (legal_moves p) m → (b : Bool) → is_zeroing p m ≡ b → cond b (rank (after p m) + 1) (rank (after p m)) ≤ rank p
  lowers p m position held true e = let less = zeroing_law p m position held e in omega arith
  lowers p m position held false e = let same = quiet_law p m position held e in omega arith

  ranked : (p : Position) → good p ≡ true → All (λ (x : Position × Bool). cond x.1 (rank x.0 + 1) (rank x.0) ≤ rank p) (chess.moves p)
  ranked p g = all_from_in (λ (x : Position × Bool). cond x.1 (rank x.0 + 1) (rank x.0) ≤ rank p) (chess.moves p) (λ x i.
      let r = map_in (step_of p) (legal_moves p) x i in
      subst (λ (y : Position × Bool). cond y.1 (rank y.0 + 1) (rank y.0) ≤ rank p) r.2
      (lowers p r.0 (position_is p (good_parts p g).0) (contains_in (legal_moves p) r.0 r.1) (is_zeroing p r.0) refl))

  module _ (p : Position) (position : IsPosition p) (covered : covers p.placed_men ≡ true) (square : ℕ) (right : p.en_passant ≡ Some square) where
    passed : Passes tables (without_right p)
    passed = ok.passes (without_right p) (position_without p position) refl covered

    plain : Entry
    plain = entry_at tables (without_right p)

    entry_is : entry_at tables p ≡ with_passing tables p plain
    unfolding entry_of plain
    entry_is =
        let there = known (plain_entry tables (without_right p)) passed.there in
        ap (λ (o : Option ℕ). unwrap_or (entry_as tables p o) missing) right
        ∙ ap (λ (o : Option Entry). unwrap_or (option_map (with_passing tables p) o) missing) there.1
        ∙ ap (λ (o : Option Entry). with_passing tables p (unwrap_or o missing)) (sym there.1)

    beside : is_empty (legal_moves (without_right p)) ≡ false → entry_at tables p ≡ with_zeroing plain (after_passing tables p)
    unfolding with_passing
    beside some = entry_is ∙ rw (some_moves (without_right p) some) refl

    with_moves : is_empty (legal_moves (without_right p)) ≡ false → accepts_at chess ply_limit (entry_at tables) p ≡ true
    unfolding plain
    with_moves some = accepted_beside chess ply_limit (omega arith) (entry_at tables) (without_right p) p (map (step_of p) (passing_captures p))
        (is_empty-map (step_of (without_right p)) (legal_moves (without_right p)) ∙ some) (passing_steps_zeroing p position) (steps_same p position) refl
        (beside some ∙ ap (with_zeroing (entry_at tables (without_right p))) (sym (after_passing_is p position tables))) passed.accepted

    passing_alone : is_empty (legal_moves (without_right p)) ≡ true → is_empty (passing_captures p) ≡ false → accepts_at chess ply_limit (entry_at tables) p ≡ true
    unfolding with_passing
    passing_alone none some =
        let all = all_passing p position none in
        let next : successors_of chess (entry_at tables) p ≡ after_passing tables p = ap (λ (ms : List Move). map (λ (x : Position × Bool). (entry_at tables x.0, x.1)) (map (step_of p) ms)) (sym all) ∙ after_passing_is p position tables in
        let is : entry_at tables p ≡ from_zeroing (successors_of chess (entry_at tables) p) = entry_is ∙ rw (no_moves (without_right p) none, some) (ap from_zeroing (sym next)) in
        let zeroing : (x : Step Entry) → IsIn (successors_of chess (entry_at tables) p) x → x.1 ≡ true = λ x i.
        let r = map_in (λ (y : Position × Bool). (entry_at tables y.0, y.1)) (map (step_of p) (legal_moves p)) x i in
        let j = subst (λ (ms : List Move). IsIn (map (step_of p) ms) r.0) (sym all) r.1 in
        sym (ap (λ (y : Step Entry). y.1) r.2) ∙ in_all (λ (y : Position × Bool). y.1 ≡ true) (map (step_of p) (passing_captures p)) r.0 (passing_steps_zeroing p position) j in
        let filled : is_empty (successors_of chess (entry_at tables) p) ≡ false =
        is_empty-map (λ (y : Position × Bool). (entry_at tables y.0, y.1)) (map (step_of p) (legal_moves p)) ∙ (is_empty-map (step_of p) (legal_moves p) ∙ (ap is_empty (sym all) ∙ some)) in
        subst (λ (e : Entry). accepts ply_limit e (is_check p) (successors_of chess (entry_at tables) p) ≡ true) (sym is)
        (accepted_from_zeroing ply_limit (omega arith) (is_check p) (successors_of chess (entry_at tables) p) zeroing filled)

    ended : is_empty (legal_moves (without_right p)) ≡ true → is_empty (passing_captures p) ≡ true → accepts_at chess ply_limit (entry_at tables) p ≡ true
    unfolding with_passing after_passing plain
    ended none alone =
        let q = without_right p in
        let all = all_passing p position none in
        let passes : passing_captures p ≡ [] = nothing (passing_captures p) alone in
        let here : successors_of chess (entry_at tables) p ≡ [] = ap (λ (ms : List Move). map (λ (x : Position × Bool). (entry_at tables x.0, x.1)) (map (step_of p) ms)) (sym all ∙ passes) in
        let there : successors_of chess (entry_at tables) q ≡ [] = ap (λ (ms : List Move). map (λ (x : Position × Bool). (entry_at tables x.0, x.1)) (map (step_of q) ms)) (nothing (legal_moves q) none) in
        let after_is : after_passing tables p ≡ [] = ap (λ (ms : List Move). map (λ (m : Move). (unwrap_or (plain_entry tables (after p m)) missing, true)) ms) passes in
        let is : entry_at tables p ≡ plain = entry_is ∙ rw (no_moves q none, alone) (ap (with_zeroing plain) after_is ∙ with_none plain) in
        let at_q : accepts ply_limit plain (is_check q) [] ≡ true = subst (λ (ms : List (Step Entry)). accepts ply_limit plain (is_check q) ms ≡ true) there passed.accepted in
        subst (λ (ms : List (Step Entry)). accepts ply_limit (entry_at tables p) (is_check p) ms ≡ true) (sym here)
        (subst (λ (e : Entry). accepts ply_limit e (is_check p) [] ≡ true) (sym is) at_q)

    pub accepted_with_right : accepts_at chess ply_limit (entry_at tables) p ≡ true
    accepted_with_right = elim (cases_Bool (is_empty (legal_moves (without_right p)))) [
      | inr f ↦ with_moves f
      | inl t ↦ elim (cases_Bool (is_empty (passing_captures p))) [ inl e ↦ ended t e | inr e ↦ passing_alone t e ]
    ]

  accepted_as : (p : Position) → IsPosition p → covers p.placed_men ≡ true → (o : Option ℕ) → p.en_passant ≡ o → accepts_at chess ply_limit (entry_at tables) p ≡ true
  accepted_as p position covered None none = (ok.passes p position none covered).accepted
  accepted_as p position covered (Some square) right = accepted_with_right p position covered square right

  pub certified : Certified chess ply_limit good rank (entry_at tables)
  certified = record {
    closed = closed;
    ranked = ranked;
    accepted = λ p g. let parts = good_parts p g in accepted_as p (position_is p parts.0) parts.1 p.en_passant refl;
  }

  pub entry_true : (p : Position) (e : Entry) → IsPosition p → covers p.placed_men ≡ true → entry_of tables p ≡ Some e → ChessClass p e.class
  entry_true p e position covered is =
      let g = and_from (is_position p) (covers p.placed_men) (is_position_from p position) covered in
      let true_at = true_class chess ply_limit good rank (entry_at tables) certified (omega arith) p g in
      subst (λ (o : Option Entry). ChessClass p (unwrap_or o missing).class) is true_at

  pub probed_true : (p : Position) (k : Class) → IsPosition p → p.en_passant ≡ None → covers p.placed_men ≡ true → probed tables.classes p ≡ Some k → ChessClass p k
  probed_true p k position none covered is =
      let there = known (entry_of tables p) (ok.passes p position none covered).there in
      let e = there.0 in
      let same : Some e.class ≡ Some k = sym (plain_class tables p e (sym (entry_plain tables p none) ∙ there.1)) ∙ is in
      let class_is : e.class ≡ k = cc in
      subst (ChessClass p) class_is (entry_true p e position covered there.1)
