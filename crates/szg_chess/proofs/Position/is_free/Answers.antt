use Rattle.std.proofs.Common.{sym, ◌∙◌, ap, ℕ, Bool}
use Rattle.std.specs.Prelude.{not, ◌&&◌, ◌==◌}
use Rattle.std.specs.List.{list_any}
use Rattle.std.proofs.lemmas.Bool.{not-true}
use Rattle.szg_values.specs.Men.{is_color, other_color}
use Rattle.szg_chess.specs.Attacks.{is_occupied}
use Rattle.szg_chess.specs.Squares.{is_in, attacks_past}
use Rattle.szg_chess.proofs.Sets.{in_set}
use Rattle.szg_chess.proofs.SafeMove.{free_is_legal}
use Rattle.szg_chess.proofs.Position.is_free.Goals as goal

pub returns : goal.returns
returns c = λ free to inside enters.
    let p = c.args.self.now in let s = c.args.man.now in let king = c.king-king.result in
    let left = c.squares_without-left.result in
    let unattacked = sym (c.is_attacked_after.ensures ∙ ap (λ (k : ℕ). list_any (λ t. is_color (other_color p.mover) t.1 && not (t.2 == k) && attacks_past left t king.2) p.placed_men) c.number-2.ensures.same) ∙ not-true c.is_attacked_after.result free in
    free_is_legal p s king left to c.occupied.ensures.position c.requires.standing c.requires.own (sym c.is_man.ensures ∙ c.if-is_man.false) c.king-king.ensures.standing c.king-king.ensures.king c.squares_without-left.type_inv
    (λ q h. c.squares_without-left.ensures q h
    ∙ ap (λ (b : Bool). b && not (q == c.number.result)) (ap (λ (n : ℕ). is_in n q) c.occupied.ensures.squares ∙ in_set (is_occupied p.placed_men) q h)
    ∙ ap (λ (k : ℕ). is_occupied p.placed_men q && not (q == k)) c.number.ensures.same)
    unattacked inside enters
