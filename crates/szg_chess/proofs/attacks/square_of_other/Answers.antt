use Rattle.std.proofs.Common.{◌∙◌, ℕ, Bool, ap, sym}
use Rattle.std.specs.Prelude.{not, ◌&&◌, ◌==◌, ◌*◌, ◌%◌, ◌^◌}
use Rattle.szg_chess.specs.Squares.{is_in}
use Rattle.szg_chess.proofs.Enemies.{in_one_if, is_other}
use Rattle.szg_chess.proofs.attacks.square_of_other.Goals as goal

pub returns : goal.returns
returns c = λ q h.
    let color = c.args.color in let man = c.args.man.now in
    ap (λ (n : ℕ). is_in (n * 2 ^ c.number.result % 2 ^ 64) q) c.from.ensures
    ∙ in_one_if (not c.is_of.result) c.number.result q c.number.ensures.below
    ∙ ap (λ (n : ℕ). not c.is_of.result && n == q) c.number.ensures.same
    ∙ ap (λ (b : Bool). b && man.2 == q) (ap not c.is_of.ensures ∙ sym (is_other color man.1))
