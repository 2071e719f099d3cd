use Rattle.std.proofs.Common.{◌∙◌}
use Rattle.szg_verified.proofs.Reading.{next_read}
use Rattle.szg_verified.proofs.folder.tables_in.Goals as goal

pub materials-preserved : goal.materials-preserved
materials-preserved g c =
    let first = c.materials.invariant.content in
    let second = c.add_table.ensures.content ∙ first in
    record {
      content = c.add_table-in-materials.ensures.content ∙ second;
      read = next_read (g.S.FileSystem.content c.args.system.now) _ _ c.args.folder.now c.args.materials.now c.materials.material-index c.material-item.result _ _ _ c.materials-test.true c.material-item.is
          first second c.materials.invariant.read c.in_ok-add_table.ensures.added c.in_ok-add_table-2.ensures.added;
    }
