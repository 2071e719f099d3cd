use Rattle.std.proofs.Common.{◌≡◌, ◌∙◌, ◌+◌, ◌++◌, ◌∷◌, [], List, ℕ, ap, arith, sym, length, length-append}
use Rattle.std.specs.Prelude.{flat_map}
use Rattle.std.proofs.lemmas.Bool.{le-ltb, lt-ltb}
use Rattle.szg_chess.proofs.Squares.{all_is}
use Rattle.szg_c_positions.specs.Boards.{men_on}
use Rattle.szg_c_positions.specs.declared.men.RawMan.{RawMan}
use Rattle.szg_c_positions.proofs.MenOnBoard.{more_than, piece, skip, so_far, with_man}
use Rattle.szg_c_positions.proofs.boards.men_on.Goals as goal

pub loop-number-init : goal.loop-number-init
loop-number-init c =
    let next = c.next_in-number.ensures in let size = ap length c.new-men.ensures in record {
      within = next.within;
      found = next.found;
      few = omega (arith, size);
      men = c.new-men.ensures ∙ sym (skip c.args.board.now c.args.squares 0 c.next_in-number.result next.from next.first);
    }

pub loop-number-preserved : goal.loop-number-preserved
loop-number-preserved c =
    let board = c.args.board.now in let squares = c.args.squares in let n = c.loop-number.number in
    let next = c.next_in-number-in-loop-number.ensures in let before = c.loop-number.invariant in
    let size = ap length c.push.ensures.items ∙ length-append c.loop-number.men.items (c.man_on.result ∷ []) in record {
      within = next.within;
      found = next.found;
      few = omega (arith, size, c.len.ensures.value, c.if-len-ge-MAX_MEN.false);
      men = c.push.ensures.items
          ∙ ap (λ (men : List RawMan). men ++ c.man_on.result ∷ []) before.men
          ∙ ap (λ (man : RawMan). so_far board squares n ++ man ∷ []) c.man_on.ensures
          ∙ sym (with_man board squares n (before.found c.loop-number-test.true))
          ∙ sym (skip board squares (n + 1) c.next_in-number-in-loop-number.result next.from next.first);
    }

pub returns-then-len-ge-MAX_MEN-clause-many : goal.returns-then-len-ge-MAX_MEN-clause-many
returns-then-len-ge-MAX_MEN-clause-many c =
    let more = more_than c.args.board.now c.args.squares c.loop-number.number c.loop-number-test.true (c.loop-number.invariant.found c.loop-number-test.true) in
    let size = ap length c.loop-number.invariant.men in
    lt-ltb 6 (length (men_on c.args.board.now c.args.squares)) (omega (arith, more, size, c.len.ensures.value, c.if-len-ge-MAX_MEN.true))

pub returns-clause-men : goal.returns-clause-men
returns-clause-men c =
    let n = c.loop-number.number in
    let end : n ≡ 64 = omega (arith, c.loop-number.invariant.within, c.loop-number-test.false) in
    c.loop-number.invariant.men ∙ ap (λ (ys : List ℕ). flat_map (piece c.args.board.now c.args.squares) ys) (sym (all_is n end))

pub returns-clause-room : goal.returns-clause-room
returns-clause-room c = c.loop-number.invariant.few

pub returns-clause-few : goal.returns-clause-few
returns-clause-few c =
    let n = c.loop-number.number in
    let end : n ≡ 64 = omega (arith, c.loop-number.invariant.within, c.loop-number-test.false) in
    let all = c.loop-number.invariant.men ∙ ap (λ (ys : List ℕ). flat_map (piece c.args.board.now c.args.squares) ys) (sym (all_is n end)) in
    let size = ap length all in
    le-ltb 6 (length (men_on c.args.board.now c.args.squares)) (omega (arith, size, c.loop-number.invariant.few))
