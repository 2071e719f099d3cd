use Rattle.std.proofs.Common.{subst}
use Rattle.szg_values.specs.Material.{IsMaterial}
use Rattle.szg_file.specs.Index.{Index}
use Rattle.szg_place.proofs.Indexes.Accepted.{accepted_numbering}
use Rattle.szg_place.proofs.laws.table_numbering.Goals as goal

pub returns : goal.returns
returns c = accepted_numbering c.args.table.now.contents c.args.table.now.filled
    (subst (λ (x : Index). IsMaterial x.material) c.index.ensures.index c.material_info.ensures.named) c.index.ensures.accepted
