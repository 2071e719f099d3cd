use Rattle.std.proofs.Common.{◌≡◌, take}
use Rattle.std.specs.Prelude.{flat_map}
use Rattle.szg_values.specs.declared.Kind.TheVariants.{Wdl}
use Rattle.szg_verified.specs.Digests.{file_for}
use Rattle.szg_verified.proofs.digests.digest_of.Given as goal

-- the files of the materials so far were written
abbrev pub invariant-materials : goal.invariant-materials
invariant-materials l = l.hashing.taken.bytes ≡ flat_map (file_for l.tables Wdl) (take l.other-index l.other-items)
