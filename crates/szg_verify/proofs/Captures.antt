-- A capture is no double step: no pawn can be captured en passant after it.
use Rattle.std.proofs.Common.{◌≡◌, ℕ, ◌+◌, refl, ap, ◌∙◌, true, arith, inl, inr, None, Contains}
use Rattle.std.specs.Prelude.{◌==◌}
use Rattle.std.proofs.lemmas.Bool.{and_parts, eqb-true, false_from_ne_true, both_ways}
use Rattle.szg_values.specs.Men.{is_man, rank_of}
use Rattle.szg_values.specs.Placement.{PlacedMan}
use Rattle.szg_values.specs.declared.Man.TheVariants.{Pawn}
use Rattle.szg_values.specs.declared.Color.{Color}
use Rattle.szg_values.specs.declared.Color.TheVariants.{White, Black}
use Rattle.szg_chess.specs.declared.Move.{Move}
use Rattle.szg_chess.specs.Attacks.{attacks, is_ahead, files_apart, ranks_apart}
use Rattle.szg_chess.specs.Position.{Position, IsPosition}
use Rattle.szg_chess.specs.Moves.{after, is_capture, is_double_step, is_pawn_on, legal_moves}
use Rattle.szg_chess.proofs.Facts.{faultless}
use Rattle.szg_chess.proofs.MoveFacts.{legal_move}
use Rattle.szg_chess.proofs.AfterMove.{pawn_attack, its_pawn}
use Rattle.szg_chess.proofs.Captured.{capture_enters}

ahead_one : (color : Color) (from to : ℕ) → is_ahead color from to ≡ true → ranks_apart from to ≡ 1
ahead_one White from to e = let h = eqb-true (rank_of to) (rank_of from + 1) e in omega (arith, h)
ahead_one Black from to e = let h = eqb-true (rank_of from) (rank_of to + 1) e in omega (arith, h)

attack_one : (p : Position) (m : Move) (s : PlacedMan) (to : ℕ) → is_man Pawn s.0 ≡ true → attacks p.placed_men s to ≡ true → m.from ≡ s.2 → m.to ≡ to → ranks_apart m.from m.to ≡ 2 → ⊥
attack_one p m s to pawn attacked from_is to_is two =
    let one = ahead_one s.1 s.2 to (and_parts (is_ahead s.1 s.2 to) (files_apart s.2 to == 1) (pawn_attack p.placed_men s to pawn attacked)).0 in
    let same = ap (λ (x : ℕ). ranks_apart x m.to) from_is ∙ ap (λ (x : ℕ). ranks_apart s.2 x) to_is in
    omega (arith, one, same, two)

no_double_step : (p : Position) (m : Move) → IsPosition p → Contains (legal_moves p) m → is_capture p m ≡ true → is_double_step p m ≡ true → ⊥
no_double_step p m position held capture step =
    let known = faultless p position.no_fault in
    let move = (legal_move p m held).0 in
    let s = move.man in
    let parts = and_parts (ranks_apart m.from m.to == 2) (is_pawn_on p m.from) step in
    let two = eqb-true (ranks_apart m.from m.to) 2 parts.0 in
    let pawn = its_pawn p s m.from known move.stands move.from_is parts.1 in
    elim move.way [
      | inl takes ↦ attack_one p m s takes.taken.2 pawn takes.attacked move.from_is takes.there two
      | inr other ↦ elim other [
        | inl passes ↦ attack_one p m s m.to pawn (and_parts (is_man Pawn s.0) (attacks p.placed_men s m.to) passes.may).1 move.from_is refl two
        | inr enters ↦ both_ways (is_capture p m) (capture_enters p m s known move.stands move.from_is enters) capture
      ]
    ]

pub capture_no_right : (p : Position) (m : Move) → IsPosition p → Contains (legal_moves p) m → is_capture p m ≡ true → (after p m).en_passant ≡ None
unfolding after
capture_no_right p m position held capture = rw (false_from_ne_true (is_double_step p m) (no_double_step p m position held capture)) refl
