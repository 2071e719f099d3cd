use Rattle.std.proofs.Common.{sym, ap, ◌∙◌, Bool}
use Rattle.std.specs.Prelude.{◌||◌}
use Rattle.std.specs.List.{list_any}
use Rattle.szg_verify.specs.Materials.{is_same_material}
use Rattle.szg_verify.proofs.Changes.{pair}
use Rattle.szg_verify.proofs.closed.is_listed.Goals as goal

pub returns-else-is_same_pair : goal.returns-else-is_same_pair
returns-else-is_same_pair c =
    c.is_among.ensures
    ∙ ap (λ (b : Bool). b || list_any (is_same_material (pair c.args.first.now c.args.second.now)) c.args.materials.now) (sym c.if-is_same_pair.false ∙ c.is_same_pair.ensures)
