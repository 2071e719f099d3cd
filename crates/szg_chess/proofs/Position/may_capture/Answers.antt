use Rattle.std.proofs.Common.{◌≡◌, ◌∙◌, sym, ap, Bool, false, arith}
use Rattle.std.specs.Prelude.{◌||◌, is_some}
use Rattle.std.proofs.lemmas.Grind.{common_steps}
use Rattle.szg_chess.specs.Attacks.{reaches_other}
use Rattle.szg_chess.proofs.Enemies.{nothing_captured}
use Rattle.szg_chess.proofs.Position.may_capture.Goals as goal

pub returns-else-is_some-clause-found : goal.returns-else-is_some-clause-found
returns-else-is_some-clause-found c =
    let p = c.args.self.now in
    let square : is_some p.en_passant ≡ false = grind (arith, common_steps) in
    c.reaches.ensures ∙ ap (λ (b : Bool). b || reaches_other p.placed_men p.mover) (sym square)

pub returns-else-is_some-clause-none : goal.returns-else-is_some-clause-none
returns-else-is_some-clause-none c = λ no. nothing_captured c.args.self.now (sym (returns-else-is_some-clause-found c) ∙ no)
