-- What is probed of positions of some materials rests on the classes that are stored for these materials.
use Rattle.std.proofs.Common.{◌≡◌, ◌∙◌, ℕ, zero, suc, ◌≤◌, List, length, map, refl, ap, Bool, true, arith, inl, inr, Contains, Option}
use Rattle.std.specs.Prelude.{◌==◌}
use Rattle.std.proofs.lemmas.Bool.{cases_Bool, eqb-false}
use Rattle.std.proofs.lemmas.List.Elements.{All-contains}
use Rattle.szg_values.specs.Placement.{PlacedMan}
use Rattle.szg_game.specs.declared.Class.{Class}
use Rattle.szg_game.proofs.Lists.{contains_in}
use Rattle.szg_chess.specs.declared.Move.{Move}
use Rattle.szg_chess.specs.Position.{Position, IsPosition}
use Rattle.szg_chess.specs.Moves.{after, legal_captures, legal_moves}
use Rattle.szg_chess.proofs.Captured.{captures_legal}
use Rattle.szg_probe.specs.Probing.{StoredClasses, stored_class, best_capture, has_only_en_passant, class_from, probed_at, probed}
use Rattle.szg_probe.proofs.Beside.{map_same}
use Rattle.szg_probe.proofs.Probed.{capture_fewer, men_two}

module _ (covers : List PlacedMan → Bool) (closed : (p : Position) (m : Move) → IsPosition p → covers p.placed_men ≡ true → Contains (legal_moves p) m → covers (after p m).placed_men ≡ true)
    (a b : StoredClasses) (agree : (p : Position) → IsPosition p → 3 ≤ length p.placed_men → covers p.placed_men ≡ true → a p.placed_men p.mover ≡ b p.placed_men p.mover) where
  stored_same : (p : Position) → IsPosition p → covers p.placed_men ≡ true → stored_class a p ≡ stored_class b p
  stored_same p position covered = elim (cases_Bool (length p.placed_men == 2)) [
    | inl t ↦ rw t refl
    | inr f ↦ (
        let differ = eqb-false (length p.placed_men) 2 f in
        let two = men_two p position in
        rw f (agree p position (omega arith) covered))
  ]

  at_same : (n : ℕ) (p : Position) → IsPosition p → covers p.placed_men ≡ true → probed_at n a p ≡ probed_at n b p
  unfolding probed_at
  at_same zero p position covered = refl
  at_same (suc n) p position covered =
      let captures = map_same (λ (m : Move). probed_at n a (after p m)) (λ m. probed_at n b (after p m)) (legal_captures p) (λ m i.
      at_same n (after p m) (capture_fewer p position m i).0
      (closed p m position covered (All-contains (Contains (legal_moves p)) (legal_captures p) m (captures_legal p) (contains_in (legal_captures p) m i)))) in
      ap (λ (ks : List (Option Class)). class_from (has_only_en_passant p) (best_capture ks) (stored_class a p)) captures
      ∙ ap (λ (s : Option Class). class_from (has_only_en_passant p) (best_capture (map (λ (m : Move). probed_at n b (after p m)) (legal_captures p))) s) (stored_same p position covered)

  pub probed_same : (p : Position) → IsPosition p → covers p.placed_men ≡ true → probed a p ≡ probed b p
  probed_same p position covered = at_same (length p.placed_men) p position covered
