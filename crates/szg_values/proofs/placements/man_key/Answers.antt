use Rattle.std.proofs.Common.{◌^◌, ◌<◌, ℕ, ap, sym, ◌∙◌, subst}
use Rattle.std.specs.Prelude.{slice_index}
use Rattle.szg_values.specs.declared.placements.TheConstants.{KEYS}
use Rattle.szg_values.proofs.MenKeys.{key_at, key_small}
use Rattle.szg_values.proofs.placements.man_key.Goals as goal

pub returns-clause-key : goal.returns-clause-key
returns-clause-key c = ap (λ (n : ℕ). slice_index KEYS n) (c.from.ensures ∙ c.colored_code.ensures.same) ∙ key_at c.args.man c.args.color

pub returns-clause-small : goal.returns-clause-small
returns-clause-small c =
    let e = ap (λ (n : ℕ). slice_index KEYS n) (c.from.ensures ∙ c.colored_code.ensures.same) ∙ key_at c.args.man c.args.color in
    subst (λ (n : ℕ). n < 2 ^ 60) (sym e) (key_small c.args.man c.args.color)
