-- The class of an entry beside captures en passant is the probed one.
use Rattle.std.proofs.Common.{◌≡◌, List, [], ◌∷◌, length, map, refl, sym, ap, ◌∙◌, subst, Bool, true, false, arith, inl, inr, Option, Some, None}
use Rattle.std.specs.Prelude.{filter, not, ◌&&◌, ◌||◌, ◌==◌, unwrap_or, option_map, cond, ltb}
use Rattle.std.proofs.lemmas.Bool.{cases_Bool, and_parts, and_cases, not-false, not-true, or_cases, or_parts, or_from, or_left, or_right, both_ways, eqb-true, not_from_false, not_from_true}
use Rattle.szg_values.specs.Placement.{PlacedMan}
use Rattle.szg_game.specs.Game.{Move as Step, is_empty}
use Rattle.szg_game.specs.Classes.{level, better, best_after, best_move, with_zeroing}
use Rattle.szg_game.specs.Certified.{is_win}
use Rattle.szg_game.specs.declared.Class.{Class}
use Rattle.szg_game.specs.declared.Class.TheVariants.{Loss, BlessedLoss, Draw, CursedWin, Win}
use Rattle.szg_game.specs.declared.Entry.{Entry}
use Rattle.szg_game.proofs.Lists.{IsIn}
use Rattle.szg_chess.specs.declared.Move.{Move}
use Rattle.szg_chess.specs.Position.{Position, IsPosition}
use Rattle.szg_chess.specs.Moves.{after, is_en_passant, is_capture, legal_moves, legal_captures, has_no_move, has_move_beside_en_passant}
use Rattle.szg_chess.proofs.Captured.{captures_law}
use Rattle.szg_probe.specs.Chess.{without_right}
use Rattle.szg_probe.specs.Probing.{stored_class, has_only_en_passant, class_from, probed}
use Rattle.szg_probe.proofs.Choosing.{filter_in, better_joins, best_by_test}
use Rattle.szg_probe.proofs.WithoutRight.{is_plain, position_without, legal_without}
use Rattle.szg_probe.proofs.Beside.{map_same, map_map, none_of, none_in_any}
use Rattle.szg_probe.proofs.Search.{only_none}
use Rattle.szg_verify.specs.Entries.{StoredTables, class_at, plain_entry, passing_captures, after_passing, with_passing, missing}
use Rattle.szg_verify.specs.Verified.{IsClosed}
use Rattle.szg_verify.proofs.Classes.{plain_class}
use Rattle.szg_verify.proofs.Passing.{passing_capture, all_passing}
use Rattle.szg_verify.proofs.Probed.{ArePlainKnown, better_win, loss_better, win_is, win_level, class_parts, no_length, after_plain, best, probed_is, classes_there, best_bare}

chosen_better : (k j : Class) → cond (is_win j) j (cond (ltb (level k) (level j)) j k) ≡ better k j
chosen_better Loss Loss = refl
chosen_better Loss BlessedLoss = refl
chosen_better Loss Draw = refl
chosen_better Loss CursedWin = refl
chosen_better Loss Win = refl
chosen_better BlessedLoss Loss = refl
chosen_better BlessedLoss BlessedLoss = refl
chosen_better BlessedLoss Draw = refl
chosen_better BlessedLoss CursedWin = refl
chosen_better BlessedLoss Win = refl
chosen_better Draw Loss = refl
chosen_better Draw BlessedLoss = refl
chosen_better Draw Draw = refl
chosen_better Draw CursedWin = refl
chosen_better Draw Win = refl
chosen_better CursedWin Loss = refl
chosen_better CursedWin BlessedLoss = refl
chosen_better CursedWin Draw = refl
chosen_better CursedWin CursedWin = refl
chosen_better CursedWin Win = refl
chosen_better Win Loss = refl
chosen_better Win BlessedLoss = refl
chosen_better Win Draw = refl
chosen_better Win CursedWin = refl
chosen_better Win Win = refl

pub zeroing_class : (e : Entry) (zeroing : List (Step Entry)) → (with_zeroing e zeroing).class ≡ better e.class (best_move zeroing)
zeroing_class e zeroing = by_tests (is_win (best_move zeroing)) refl (ltb (level e.class) (level (best_move zeroing))) refl ∙ chosen_better e.class (best_move zeroing)
  where
    by_tests : (a : Bool) → is_win (best_move zeroing) ≡ a → (b : Bool) → ltb (level e.class) (level (best_move zeroing)) ≡ b →
        (with_zeroing e zeroing).class ≡ cond (is_win (best_move zeroing)) (best_move zeroing) (cond (ltb (level e.class) (level (best_move zeroing))) (best_move zeroing) e.class)
    by_tests true s b t = rw s refl
    by_tests false s true t = rw (s, t) refl
    by_tests false s false t = rw (s, t) refl

none_empty : {A : Type 0} (xs : List A) → xs ≡ [] → is_empty xs ≡ true
none_empty xs e = ap is_empty e

empty_none : {A : Type 0} (xs : List A) → is_empty xs ≡ true → xs ≡ []
empty_none [] e = refl
empty_none (x ∷ xs) e = cc

some_there : {A : Type 0} (xs : List A) → is_empty xs ≡ false → (length xs == 0) ≡ false
some_there [] e = cc
some_there (x ∷ xs) e = let h : (length (x ∷ xs) == 0) ≡ true → ⊥ = λ t. (let n = eqb-true (length (x ∷ xs)) 0 t in omega arith) in by (length (x ∷ xs) == 0) h
  where
    by : (b : Bool) → (b ≡ true → ⊥) → b ≡ false
    by true h = absurd (h refl)
    by false h = refl

some_move : (ms : List Move) → (length ms == 0) ≡ false → (m : Move) × IsIn ms m
some_move [] e = cc
some_move (m ∷ ms) e = (m, inl refl)

none_moves : {A : Type 0} (xs : List A) → (length xs == 0) ≡ true → is_empty xs ≡ true
none_moves xs e = ap is_empty (no_length xs (eqb-true (length xs) 0 e))

-- each covered position without an en passant square has an entry
abbrev pub ArePlainThere : StoredTables → (List PlacedMan → Bool) → Type 0
ArePlainThere tables covers = (q : Position) → IsPosition q → q.en_passant ≡ None → covers q.placed_men ≡ true → (e : Entry) × (plain_entry tables q ≡ Some e)

module _ (tables : StoredTables) (covers : List PlacedMan → Bool) (closed : IsClosed covers) (there : ArePlainThere tables covers) where
  pub known_there : ArePlainKnown tables covers
  known_there q position none covered =
      let r = there q position none covered in
      let is = plain_class tables q r.0 r.1 in
      is ∙ ap (λ (o : Option Class). Some (unwrap_or o Draw)) (sym is)

  pub class_there : (q : Position) (e : Entry) → plain_entry tables q ≡ Some e → e.class ≡ class_at tables.classes q
  class_there q e is = ap (λ (o : Option Class). unwrap_or o Draw) (sym (plain_class tables q e is))

  module _ (p : Position) (position : IsPosition p) (covered : covers p.placed_men ≡ true) where
    abbrev q : Position
    q = without_right p

    abbrev here : Class
    here = best tables covers closed known_there p position covered

    abbrev bare : Class
    bare = best tables covers closed known_there q (position_without p position) covered

    passing : Class
    passing = best_after (map (λ m. class_at tables.classes (after p m)) (passing_captures p))

    -- the entries after captures en passant have the probed classes
    passing_is : best_move (after_passing tables p) ≡ passing
    unfolding after_passing passing
    passing_is = ap best_after (map_map (λ (m : Move). (unwrap_or (plain_entry tables (after p m)) missing, true)) (λ (x : Step Entry). x.0.class) (passing_captures p)
        ∙ map_same (λ (m : Move). (unwrap_or (plain_entry tables (after p m)) missing).class) (λ m. class_at tables.classes (after p m)) (passing_captures p) (λ m i.
        let a = after_plain tables covers closed known_there p position covered m (passing_capture p position m i).0 in
        let r = there (after p m) a.0 a.1 a.2 in
        ap (λ (o : Option Entry). (unwrap_or o missing).class) r.1 ∙ class_there (after p m) r.0 r.1))

    both : here ≡ better bare passing
    unfolding passing passing_captures
    both = best_by_test (is_en_passant p) (λ (m : Move). class_at tables.classes (after p m)) (legal_captures p)
        ∙ ap (λ (ks : List Class). better (best_after ks) (best_after (map (λ (m : Move). class_at tables.classes (after p m)) (filter (is_en_passant p) (legal_captures p))))) (sym (classes_there tables covers closed known_there p position covered))

    probed_here : probed tables.classes p ≡ class_from (has_only_en_passant p) (Some here) (stored_class tables.classes p)
    probed_here = probed_is tables covers closed known_there p position covered

    decided : (is_win here || has_only_en_passant p) ≡ true → probed tables.classes p ≡ Some here
    decided t = probed_here ∙ rw t refl

    -- captures en passant alone
    alone : has_no_move q ≡ true → is_empty (passing_captures p) ≡ false → probed tables.classes p ≡ Some passing
    alone none some =
        let all = all_passing p position (none_moves (legal_moves q) none) in
        let filled : is_empty (legal_moves p) ≡ false = ap is_empty (sym all) ∙ some in
        let no_other = none_of (λ (m : Move). not (is_en_passant p m)) (legal_moves p) (λ m i. not_from_true (is_en_passant p m) (passing_capture p position m (subst (λ (ms : List Move). IsIn ms m) (sym all) i)).1) in
        let only : has_only_en_passant p ≡ true = not_from_false (has_no_move p || has_move_beside_en_passant p) (or_from (has_no_move p) (has_move_beside_en_passant p) (some_there (legal_moves p) filled) no_other) in
        decided (or_right (is_win here) (has_only_en_passant p) only) ∙ ap (λ (k : Class). Some k) (both ∙ (ap (λ (b : Class). better b passing) no_captures ∙ loss_better passing))
      where
        no_captures : bare ≡ Loss
        no_captures = ap (λ (ms : List Move). best_after (map (λ (m : Move). class_at tables.classes (after q m)) ms))
            (sym (captures_law q (position_without p position)) ∙ ap (filter (is_capture q)) (no_length (legal_moves q) (eqb-true (length (legal_moves q)) 0 none)))

    beside : (c : Class) → probed tables.classes q ≡ Some c → (has_no_move q && not (is_empty (passing_captures p))) ≡ false → probed tables.classes p ≡ Some (better c passing)
    beside c is some = elim (class_parts (has_only_en_passant q) bare (stored_class tables.classes p) c (sym (probed_is tables covers closed known_there q (position_without p position) covered) ∙ is)) [
      | inl r ↦ decided (decided_there r.0) ∙ ap (λ (k : Class). Some k) (both ∙ ap (λ (b : Class). better b passing) r.1)
      | inr r ↦ (
          let joined : better c passing ≡ better r.1 here = ap (λ (b : Class). better b passing) (sym r.3) ∙ (sym (better_joins r.1 bare passing) ∙ ap (better r.1) (sym both)) in
          elim (cases_Bool (is_win here || has_only_en_passant p)) [
            | inr f ↦ probed_here ∙ (rw f (ap (option_map (λ (k : Class). better k here)) r.2) ∙ ap (λ (k : Class). Some k) (sym joined))
            | inl t ↦ elim (or_cases (is_win here) (has_only_en_passant p) t) [
              | inl w ↦ decided t ∙ ap (λ (k : Class). Some k) (win_is here w ∙ (sym (better_win r.1) ∙ (ap (better r.1) (sym (win_is here w)) ∙ sym joined)))
              | inr only ↦ absurd (no_only only)
            ]
          ])
    ]
      where
        decided_there : (is_win bare || has_only_en_passant q) ≡ true → (is_win here || has_only_en_passant p) ≡ true
        decided_there t = elim (or_cases (is_win bare) (has_only_en_passant q) t) [
          | inl w ↦ or_left (is_win here) (has_only_en_passant p) (win_level bare here w (best_bare tables covers closed known_there p position covered))
          | inr o ↦ absurd (both_ways (has_only_en_passant q) (only_none q refl) o)
        ]

        no_only : has_only_en_passant p ≡ true → ⊥
        no_only only =
            let parts = or_parts (has_no_move p) (has_move_beside_en_passant p) (not-true (has_no_move p || has_move_beside_en_passant p) only) in
            elim (cases_Bool (has_no_move q)) [
              | inr f ↦ (
                  let first = some_move (legal_moves q) f in
                  let held = filter_in (is_plain p) (legal_moves p) first.0 (subst (λ (ms : List Move). IsIn ms first.0) (legal_without p position) first.1) in
                  both_ways (not (is_en_passant p first.0)) (none_in_any (λ (m : Move). not (is_en_passant p m)) (legal_moves p) parts.1 first.0 held.0) held.1)
              | inl t ↦ (
                  let empty : is_empty (passing_captures p) ≡ true = elim (and_cases (has_no_move q) (not (is_empty (passing_captures p))) some) [
                    | inl e ↦ absurd (both_ways (has_no_move q) e t)
                    | inr e ↦ not-false (is_empty (passing_captures p)) e
                  ] in
                  let none : legal_moves p ≡ [] = sym (all_passing p position (none_moves (legal_moves q) t)) ∙ empty_none (passing_captures p) empty in
                  both_ways (has_no_move p) parts.0 (ap (λ (ms : List Move). length ms == 0) none))
            ]

    -- the class with captures en passant is the probed one
    pub passing_class : (e : Entry) → plain_entry tables q ≡ Some e → probed tables.classes p ≡ Some (with_passing tables p e).class
    unfolding with_passing
    passing_class e is = elim (cases_Bool (has_no_move q && not (is_empty (passing_captures p)))) [
      | inl t ↦ (
          let parts = and_parts (has_no_move q) (not (is_empty (passing_captures p))) t in
          rw t (alone parts.0 (not-true (is_empty (passing_captures p)) parts.1) ∙ ap (λ (k : Class). Some k) (sym passing_is)))
      | inr f ↦ rw f (beside e.class (plain_class tables q e is) f ∙ ap (λ (k : Class). Some k) (sym (zeroing_class e (after_passing tables p) ∙ ap (better e.class) passing_is)))
    ]
