use Rattle.std.proofs.Common.{ℕ, ◌==◌, sym, ap, ◌∙◌, arith}
use Rattle.std.proofs.lemmas.Bool.{or_parts}
use Rattle.szg_values.proofs.Barred.{closed_told, is_other, set_same, set_other}
use Rattle.szg_values.proofs.placements.with_man.Goals as goal

pub returns-then-closed-clause-refused : goal.returns-then-closed-clause-refused
returns-then-closed-clause-refused c =
    let told = closed_told c.args.taken c.args.square c.number-number.result c.number-number.ensures.same (omega arith) c.args.man _ (c.from.ensures ∙ c.code.ensures) in
    λ _. sym told ∙ ap (λ (n : ℕ). n == 1) c.if-closed.true

pub returns-clause-free : goal.returns-clause-free
returns-clause-free c =
    let told = closed_told c.args.taken c.args.square c.number-number.result c.number-number.ensures.same (omega arith) c.args.man _ (c.from.ensures ∙ c.code.ensures) in
    (or_parts _ _ (sym told ∙ is_other _ c.if-closed.false)).0

pub returns-clause-inside : goal.returns-clause-inside
returns-clause-inside c =
    let told = closed_told c.args.taken c.args.square c.number-number.result c.number-number.ensures.same (omega arith) c.args.man _ (c.from.ensures ∙ c.code.ensures) in
    (or_parts _ _ (sym told ∙ is_other _ c.if-closed.false)).1

pub returns-clause-same : goal.returns-clause-same
returns-clause-same c = set_same c.args.taken c.args.square c.number-number.result c.number-number.ensures.same (omega arith)

pub returns-clause-others : goal.returns-clause-others
returns-clause-others c = set_other c.args.taken c.args.square c.number-number.result c.number-number.ensures.same (omega arith)
