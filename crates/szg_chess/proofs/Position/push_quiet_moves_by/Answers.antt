use Rattle.std.proofs.lemmas.List.{append-nil}
use Rattle.std.proofs.Common.{rules, ◌≡◌, ◌+◌, ◌++◌, ◌∙◌, sym, ap, length, length-append, filter, flat_map, arith, ℕ, List}
use Rattle.szg_chess.specs.Moves.{moves_if, may_enter, is_legal}
use Rattle.szg_chess.proofs.Pushing.{pieces_more, pieces_skip}
use Rattle.szg_chess.proofs.Squares.{squares_room, all_is}
use Rattle.std.proofs.Common.{append_assoc}
use Rattle.szg_chess.specs.declared.Move.{Move}
use Rattle.std.specs.List.{range_with_len}
use Rattle.szg_chess.proofs.Position.push_quiet_moves_by.Goals as goal

pub push_if-requires : goal.push_if-requires
push_if-requires g c =
    let legal = is_legal c.args.self.now in let f = (λ (to : ℕ). moves_if (may_enter c.args.self.now.placed_men c.args.man.now to) c.args.man.now to) in let n = c.loop-number.number in let s = c.args.man.now in
    let size = ap length c.loop-number.invariant.1 ∙ length-append c.args.moves.now.items (filter legal (flat_map f (range_with_len 0 n))) in
    let more = squares_room legal f n c.loop-number-test.true in
    let piece = ap (λ b. length (moves_if b s c.square_of-to.result)) c.may_enter-may_go.ensures
    ∙ ap (λ (k : ℕ). length (f k)) c.square_of-to.ensures in
    let room_ = c.requires.room in (search rules, (c.requires.standing, (c.requires.own, ((λ free may. c.is_free-is_free.ensures free c.square_of-to.result (omega (arith, c.loop-number-test.true, c.square_of-to.ensures)) (sym c.may_enter-may_go.ensures ∙ may)), omega (arith, size, more, piece, room_)))))

pub loop-number-init : goal.loop-number-init
loop-number-init g c =
    let legal = is_legal c.args.self.now in let s = c.args.man.now in let men = c.args.self.now.placed_men in let f = (λ (to : ℕ). moves_if (may_enter men s to) s to) in
    let next = c.next_in-number.ensures in (
      next.within,
      sym (ap (λ (ys : List Move). c.args.moves.now.items ++ ys) (pieces_skip legal f 0 c.next_in-number.result (omega arith)
          (λ i from to. ap (λ b. moves_if b s i) (c.squares_ahead-squares.ensures i (omega (arith, next.within, to)) (next.first i from to) men))) ∙ append-nil c.args.moves.now.items),
    )

pub loop-number-preserved : goal.loop-number-preserved
loop-number-preserved g c =
    let legal = is_legal c.args.self.now in let s = c.args.man.now in let men = c.args.self.now.placed_men in let f = (λ (to : ℕ). moves_if (may_enter men s to) s to) in
    let n = c.loop-number.number in let to = c.square_of-to.result in let next = c.next_in-number-in-loop-number.ensures in
    let before = filter legal (flat_map f (range_with_len 0 n)) in (
      next.within,
      c.push_if.ensures
          ∙ ap (λ (ys : List Move). ys ++ filter legal (moves_if c.may_enter-may_go.result s to)) c.loop-number.invariant.1
          ∙ ap (λ b. (c.args.moves.now.items ++ before) ++ filter legal (moves_if b s to)) c.may_enter-may_go.ensures
          ∙ ap (λ (k : ℕ). (c.args.moves.now.items ++ before) ++ filter legal (f k)) c.square_of-to.ensures
          ∙ append_assoc c.args.moves.now.items before (filter legal (f n))
          ∙ ap (λ (ys : List Move). c.args.moves.now.items ++ ys) (sym (pieces_more legal f n)
          ∙ sym (pieces_skip legal f (n + 1) c.next_in-number-in-loop-number.result next.from
          (λ i from to. ap (λ b. moves_if b s i) (c.squares_ahead-squares.ensures i (omega (arith, next.within, to)) (next.first i from to) men)))),
    )

pub returns : goal.returns
returns g c =
    let legal = is_legal c.args.self.now in let f = (λ (to : ℕ). moves_if (may_enter c.args.self.now.placed_men c.args.man.now to) c.args.man.now to) in let n = c.loop-number.number in
    let end : n ≡ 64 = omega (arith, c.loop-number.invariant.0, c.loop-number-test.false) in
    c.loop-number.invariant.1 ∙ ap (λ (ys : List ℕ). c.args.moves.now.items ++ filter legal (flat_map f ys)) (sym (all_is n end))
