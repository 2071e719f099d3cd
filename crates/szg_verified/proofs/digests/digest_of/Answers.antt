use Rattle.szg_values.specs.declared.Kind.TheVariants.{Wdl}
use Rattle.szg_verified.specs.Digests.{file_for}
use Rattle.szg_verified.proofs.Hashed.{one_more_file}
use Rattle.szg_verified.proofs.digests.digest_of.Goals as goal

pub materials-preserved : goal.materials-preserved
materials-preserved c =
    one_more_file (file_for c.args.tables.now Wdl) c.deref-other-items.result.now c.materials.other-index c.other-item.result c.materials.hashing.taken.bytes c.add.new.hashing.taken.bytes
    c.materials-test.true c.other-item.is c.materials.invariant c.add.ensures
