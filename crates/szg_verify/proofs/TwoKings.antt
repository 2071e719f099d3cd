-- Two kings alone pass, whatever the tables store.
use Rattle.std.proofs.Common.{◌≡◌, List, [], ◌∷◌, length, map, refl, sym, ap, ◌∙◌, Bool, true, false, inl, inr, Some, None}
use Rattle.std.specs.Prelude.{not, cond, option_map}
use Rattle.std.specs.List.{list_any, list_all}
use Rattle.std.proofs.lemmas.Bool.{cases_Bool, and_from, false_from_ne_true, not_from_false}
use Rattle.szg_game.specs.Game.{Move as Step, is_empty}
use Rattle.szg_game.specs.Certified.{is_lost, is_won}
use Rattle.szg_game.specs.declared.Class.TheVariants.{Draw}
use Rattle.szg_game.specs.declared.Entry.{Entry}
use Rattle.szg_game.proofs.Steps.{loses_mate}
use Rattle.szg_game.proofs.Lists.{IsIn, is_empty-map}
use Rattle.szg_chess.specs.declared.Move.{Move}
use Rattle.szg_chess.specs.Position.{Position, IsPosition}
use Rattle.szg_chess.specs.Moves.{after, is_check, is_zeroing, legal_moves}
use Rattle.szg_probe.specs.Chess.{chess, step_of}
use Rattle.szg_probe.proofs.Kings.{TwoKings, kings_after, kings_draw}
use Rattle.szg_probe.proofs.Search.{kings_known}
use Rattle.szg_verify.specs.Entries.{StoredTables, plain_entry, steps_to}
use Rattle.szg_verify.specs.Verified.{class_alone, entry_after, is_checked}
use Rattle.szg_verify.proofs.Near.{near_ended, plain_near}
use Rattle.szg_verify.proofs.Checked.{checked_with}

module _ (tables : StoredTables) where
  kings_entry : (p : Position) → TwoKings p → plain_entry tables p ≡ Some (class_alone Draw)
  kings_entry p kings = sym (plain_near tables p (class_alone Draw) (near_ended tables.classes tables.distances p Draw (kings_known tables.classes p kings) refl))

  entry_drawn : (p : Position) → TwoKings p → (m : Move) → IsIn (legal_moves p) m → entry_after tables p m ≡ Some (class_alone Draw)
  unfolding entry_after
  entry_drawn p kings m i =
      let next = (kings_after p kings m i).1 in
      elim (cases_Bool (is_zeroing p m)) [
        | inl t ↦ rw t (ap (option_map class_alone) (kings_known tables.classes (after p m) next))
        | inr f ↦ rw f (kings_entry (after p m) next)
      ]

  abbrev drawn : Position → Move → Step Entry
  drawn p m = (class_alone Draw, is_zeroing p m)

  steps_drawn : (p : Position) (ms : List Move) → ((m : Move) → IsIn ms m → entry_after tables p m ≡ Some (class_alone Draw)) → steps_to (entry_after tables p) p ms ≡ Some (map (drawn p) ms)
  unfolding steps_to
  steps_drawn p [] each = refl
  steps_drawn p (m ∷ ms) each = rw (each m (inl refl), steps_drawn p ms (λ n i. each n (inr i))) refl

  none_lost : (p : Position) (ms : List Move) → list_all (λ (m : Step Entry). not (is_lost m.0.class)) (map (drawn p) ms) ≡ true
  none_lost p [] = refl
  none_lost p (m ∷ ms) = none_lost p ms

  some_drawn : (p : Position) (check : Bool) (ms : List Move) → (is_empty ms ≡ true → check ≡ false) → cond (is_empty (map (drawn p) ms)) (not check) (list_any (λ (m : Step Entry). not (is_won m.0.class)) (map (drawn p) ms)) ≡ true
  some_drawn p check [] safe = not_from_false check (safe refl)
  some_drawn p check (m ∷ ms) safe = refl

  -- without a move no king is in check: two kings are a draw
  no_mate : (p : Position) → TwoKings p → is_empty (legal_moves p) ≡ true → is_check p ≡ false
  no_mate p kings none = false_from_ne_true (is_check p) (λ check.
      (kings_draw p kings).1 (0, loses_mate chess None 0 0 p (and_from (is_empty (chess.moves p)) (is_check p) (is_empty-map (step_of p) (legal_moves p) ∙ none) check)))

  pub kings_checked : (p : Position) → IsPosition p → length p.placed_men ≡ 2 → is_checked tables p ≡ true
  kings_checked p position two =
      let kings : TwoKings p = record { position = position; two = two } in
      let ms = legal_moves p in
      sym (checked_with tables p (class_alone Draw) (map (drawn p) ms) (kings_entry p kings) (steps_drawn p ms (entry_drawn p kings)))
      ∙ and_from (list_all (λ (m : Step Entry). not (is_lost m.0.class)) (map (drawn p) ms)) (cond (is_empty (map (drawn p) ms)) (not (is_check p)) (list_any (λ (m : Step Entry). not (is_won m.0.class)) (map (drawn p) ms)))
      (none_lost p ms) (some_drawn p (is_check p) ms (no_mate p kings))
