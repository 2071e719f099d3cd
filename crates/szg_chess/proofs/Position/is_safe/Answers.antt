use Rattle.std.proofs.Common.{◌≡◌, ◌∙◌, ℕ, ap, sym, Bool, true, false}
use Rattle.std.specs.Prelude.{not, ◌&&◌, ◌==◌}
use Rattle.std.specs.List.{list_any}
use Rattle.std.proofs.lemmas.Bool.{eq-eqb, ne_eqb, not_from_true, not_from_false}
use Rattle.szg_values.specs.Men.{is_color, other_color}
use Rattle.szg_values.specs.Placement.{PlacedMan}
use Rattle.szg_chess.specs.declared.Move.{Move}
use Rattle.szg_chess.specs.Moves.{is_legal, man_after}
use Rattle.szg_chess.specs.Squares.{attacks_past}
use Rattle.szg_chess.proofs.AfterMen.{is_off}
use Rattle.szg_chess.proofs.SafeMove.{check_after_plain}
use Rattle.szg_chess.proofs.Position.is_safe.Goals as goal

pub returns-then-number-captured : goal.returns-then-number-captured
unfolding is_legal
returns-then-number-captured c =
    let p = c.args.self.now in let m = c.plain_move-m.result in let e = c.plain_move-m.ensures in let king = c.king-king.result in
    let captured = c.captured_square-captured.result in let occupied = c.squares_after-occupied.result in
    let attacked : ℕ → Bool = λ q. list_any (λ t. is_color (other_color p.mover) t.1 && is_off captured t && attacks_past occupied t q) p.placed_men in
    let off : is_off captured king ≡ false = not_from_true (king.2 == captured) (eq-eqb king.2 captured (sym c.number.ensures.same ∙ c.if-number-captured.true)) in
    let whole = check_after_plain p m c.args.man.now king captured occupied c.squares_after-occupied.ensures.position (ap (λ (n : Move). n.promotion) e) c.requires.standing c.requires.own (ap (λ (n : Move). n.from) e) c.squares_after-occupied.ensures.inside
    c.king-king.ensures.standing c.king-king.ensures.king c.captured_square-captured.ensures.square c.squares_after-occupied.ensures.squares in
    eq-eqb c.number.result captured c.if-number-captured.true ∙ ap not (ap (λ (b : Bool). b && attacked (man_after m king).2) (sym off) ∙ whole) ∙ ap (is_legal p) e

pub returns-else-number-captured : goal.returns-else-number-captured
unfolding is_legal
returns-else-number-captured c =
    let p = c.args.self.now in let m = c.plain_move-m.result in let e = c.plain_move-m.ensures in let king = c.king-king.result in
    let captured = c.captured_square-captured.result in let occupied = c.squares_after-occupied.result in
    let attacked : ℕ → Bool = λ q. list_any (λ t. is_color (other_color p.mover) t.1 && is_off captured t && attacks_past occupied t q) p.placed_men in
    let off : is_off captured king ≡ true = not_from_false (king.2 == captured) (ne_eqb king.2 captured (λ (same : king.2 ≡ captured). c.if-number-captured.false (c.number.ensures.same ∙ same))) in
    let whole = check_after_plain p m c.args.man.now king captured occupied c.squares_after-occupied.ensures.position (ap (λ (n : Move). n.promotion) e) c.requires.standing c.requires.own (ap (λ (n : Move). n.from) e) c.squares_after-occupied.ensures.inside
    c.king-king.ensures.standing c.king-king.ensures.king c.captured_square-captured.ensures.square c.squares_after-occupied.ensures.squares in
    ap not (c.is_attacked_after.ensures ∙ ap (λ (t : PlacedMan). attacked t.2) c.man_after.ensures ∙ ap (λ (b : Bool). b && attacked (man_after m king).2) (sym off) ∙ whole) ∙ ap (is_legal p) e
