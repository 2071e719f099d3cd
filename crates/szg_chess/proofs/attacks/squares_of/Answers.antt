use Rattle.std.proofs.Common.{◌≤◌, ◌∙◌, ℕ, List, length, take, sym, ap, arith, Bool}
use Rattle.std.specs.Prelude.{◌==◌, ◌||◌}
use Rattle.std.proofs.lemmas.List.{take_all}
use Rattle.std.proofs.lemmas.List.Folds.{list_any_more}
use Rattle.std.proofs.lemmas.Nat.Bits.{bit_at-zero}
use Rattle.szg_values.specs.Placement.{PlacedMan}
use Rattle.szg_chess.specs.Attacks.{is_occupied}
use Rattle.szg_chess.proofs.Sets.{from_squares, added, turned}
use Rattle.szg_chess.proofs.attacks.squares_of.Goals as goal

pub loop-man-init : goal.loop-man-init
loop-man-init c = λ q h. ap (λ (n : ℕ). n == 1) (bit_at-zero q)

pub loop-man-preserved : goal.loop-man-preserved
loop-man-preserved c = λ q h.
    let men = c.args.men.now in let i = c.loop-man.man-index in let n = c.number.result in let test : PlacedMan → Bool = λ s. s.2 == q in
    added c.loop-man.squares n q c.number.ensures.below
    ∙ ap (λ (b : Bool). b || q == n) (c.loop-man.invariant q h)
    ∙ ap (λ (b : Bool). is_occupied (take i men) q || b) (turned q n ∙ ap (λ (k : ℕ). k == q) c.number.ensures.same ∙ ap test c.man-item.is)
    ∙ sym (list_any_more test men i c.man-item.result c.loop-man-test.true)

pub returns : goal.returns
returns c =
    let men = c.args.men.now in
    let whole : length men ≤ c.loop-man.man-index = omega arith in
    from_squares (is_occupied men) c.loop-man.squares (omega arith) (λ q h. c.loop-man.invariant q h ∙ ap (λ (ms : List PlacedMan). is_occupied ms q) (take_all c.loop-man.man-index men whole))
