use Rattle.std.proofs.Common.{◌^◌, ◌<◌, length, subst}
use Rattle.szg_values.specs.Material.{Sides, IsMaterial}
use Rattle.szg_file.specs.Held.{Shown, file_bytes}
use Rattle.szg_file.proofs.Writers.FileLengths.{short_file}
use Rattle.szg_file.proofs.writing.bounded.Goals as goal

pub returns-clause-short : goal.returns-clause-short
returns-clause-short c =
    subst (λ (t : Shown). length (file_bytes t) < 2 ^ 60) c.table.view_is
    (short_file _ _ (subst (λ (m : Sides). IsMaterial m) c.material.ensures c.men-men.ensures.material) c.table.invariant.0)
