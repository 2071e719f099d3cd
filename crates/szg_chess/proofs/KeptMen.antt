-- A move that neither captures nor promotes keeps the men.
use Rattle.std.proofs.Common.{◌≡◌, ◌≢◌, List, [], ◌∷◌, refl, ap, ◌∙◌, true, false, inl, inr, Contains, None}
use Rattle.std.specs.Prelude.{map, ◌==◌}
use Rattle.std.specs.List.{All}
use Rattle.std.proofs.lemmas.Bool.{cases_Bool, both_ways}
use Rattle.std.proofs.lemmas.List.Elements.{All-weaker}
use Rattle.szg_values.specs.Placement.{PlacedMan}
use Rattle.szg_values.specs.declared.Man.{Man}
use Rattle.szg_values.specs.declared.Color.{Color}
use Rattle.szg_chess.specs.declared.Move.{Move}
use Rattle.szg_chess.specs.Position.{Position, IsPosition}
use Rattle.szg_chess.specs.Moves.{captured_square, man_after, men_after, after, is_capture, legal_moves}
use Rattle.szg_chess.specs.Laws.{kinds_of}
use Rattle.szg_chess.proofs.Facts.{faultless}
use Rattle.szg_chess.proofs.AfterMen.{is_off, off_from}
use Rattle.szg_chess.proofs.MoveFacts.{legal_move}
use Rattle.szg_chess.proofs.AfterMove.{pass_is}
use Rattle.szg_chess.proofs.Captured.{filter_all, capture_takes, capture_passes, enters_off}

same_kinds : (m : Move) (men : List PlacedMan) → m.promotion ≡ None → kinds_of (map (man_after m) men) ≡ kinds_of men
same_kinds m [] none = refl
same_kinds m (s ∷ men) none = elim (cases_Bool (s.2 == m.from)) [
  | inl t ↦ rw (t, none) (ap (λ (ks : List (Man × Color)). (s.0, s.1) ∷ ks) (same_kinds m men none))
  | inr f ↦ rw f (ap (λ (ks : List (Man × Color)). (s.0, s.1) ∷ ks) (same_kinds m men none))
]

pub kinds_law : (p : Position) (m : Move) → IsPosition p → Contains (legal_moves p) m → is_capture p m ≡ false → m.promotion ≡ None → kinds_of (after p m).placed_men ≡ kinds_of p.placed_men
unfolding after men_after
kinds_law p m position held quiet none =
    let known = faultless p position.no_fault in
    let move = (legal_move p m held).0 in let s = move.man in let c = captured_square p m in
    let off : All (λ (u : PlacedMan). u.2 ≢ c) p.placed_men = elim move.way [
      | inl takes ↦ absurd (both_ways (is_capture p m) quiet (capture_takes p m s takes))
      | inr other ↦ elim other [
        | inl passes ↦ absurd (both_ways (is_capture p m) quiet (capture_passes p m s (pass_is p m s move.stands move.own move.from_is passes)))
        | inr enters ↦ enters_off p m s known move.stands move.from_is enters
      ]
    ] in
    let all = filter_all (is_off c) p.placed_men (All-weaker (λ (u : PlacedMan). u.2 ≢ c) (λ u. is_off c u ≡ true) (off_from c) p.placed_men off) in
    ap (λ (men : List PlacedMan). kinds_of (map (man_after m) men)) all ∙ same_kinds m p.placed_men none
