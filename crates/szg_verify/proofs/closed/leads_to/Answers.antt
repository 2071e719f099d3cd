use Rattle.std.proofs.Common.{ap, ◌∙◌}
use Rattle.std.specs.Prelude.{not}
use Rattle.szg_values.specs.Material.{Sides}
use Rattle.szg_verify.specs.Materials.{changes, is_same_material}
use Rattle.szg_verify.proofs.Changes.{not_all}
use Rattle.szg_verify.proofs.closed.leads_to.Goals as goal

pub returns : goal.returns
returns c = ap not c.do_changes_pass.ensures ∙ not_all (λ (changed : Sides). is_same_material changed c.args.other.now) (changes c.args.material.now)
