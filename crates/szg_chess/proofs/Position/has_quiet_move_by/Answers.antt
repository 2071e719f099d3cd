use Rattle.std.proofs.Common.{◌≡◌, ◌∙◌, ◌≤◌, ◌+◌, ℕ, ap, sym, arith, inl, inr, Bool, List, false}
use Rattle.std.specs.Prelude.{◌==◌, nat_lt}
use Rattle.std.specs.List.{list_any}
use Rattle.std.proofs.lemmas.Bool.{cases_Bool, eqb-true, eqb-false, ltb-true, ltb-false}
use Rattle.szg_chess.specs.declared.Move.{Move}
use Rattle.szg_chess.specs.Moves.{moves_if, may_enter, is_legal}
use Rattle.szg_chess.proofs.Found.{some_square, no_square}
use Rattle.szg_chess.proofs.Position.has_quiet_move_by.Goals as goal

pub loop-to-init : goal.loop-to-init
loop-to-init c =
    let p = c.args.self.now in let s = c.args.man.now in let next = c.next_in-to.ensures in (
      next.within,
      λ to below. ap (λ b. list_any (is_legal p) (moves_if b s to)) (c.squares_ahead-squares.ensures to (omega (arith, next.within, below)) (next.first to (omega arith) below) p.placed_men),
    )

pub loop-to-preserved : goal.loop-to-preserved
loop-to-preserved c =
    let p = c.args.self.now in let s = c.args.man.now in let n = c.loop-to.to in let next = c.next_in-to-in-loop-to.ensures in
    let goes : ℕ → Bool = λ to. list_any (is_legal p) (moves_if (may_enter p.placed_men s to) s to) in
    let here : goes n ≡ false = ap goes (sym c.square_of.ensures) ∙ sym c.has_quiet_move_to.ensures ∙ c.if-has_quiet_move_to.false in (
      next.within,
      λ to below. elim (cases_Bool (nat_lt to n)) [
        | inl before ↦ c.loop-to.invariant.1 to (ltb-true to n before)
        | inr from ↦ elim (cases_Bool (to == n)) [
          | inl same ↦ ap goes (eqb-true to n same) ∙ here
          | inr other ↦
              let past : n ≤ to = ltb-false to n from in
              let after : n + 1 ≤ to = let differ = eqb-false to n other in omega (arith, past, differ) in
              ap (λ b. list_any (is_legal p) (moves_if b s to)) (c.squares_ahead-squares.ensures to (omega (arith, next.within, below)) (next.first to after below) p.placed_men)
        ]
      ],
    )

pub returns : goal.returns
returns c =
    let p = c.args.self.now in let s = c.args.man.now in
    sym (no_square (is_legal p) (λ (to : ℕ). moves_if (may_enter p.placed_men s to) s to) (λ to h. c.loop-to.invariant.1 to (omega (arith, h, c.loop-to-test.false))))

pub returns-then-has_quiet_move_to : goal.returns-then-has_quiet_move_to
returns-then-has_quiet_move_to c =
    let p = c.args.self.now in let s = c.args.man.now in
    let moves : ℕ → List Move = λ to. moves_if (may_enter p.placed_men s to) s to in
    sym (some_square (is_legal p) moves c.loop-to.to c.loop-to-test.true
    (ap (λ (to : ℕ). list_any (is_legal p) (moves to)) (sym c.square_of.ensures) ∙ sym c.has_quiet_move_to.ensures ∙ c.if-has_quiet_move_to.true))
