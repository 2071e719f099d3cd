use Rattle.std.proofs.Common.{◌≡◌, take}
use Rattle.std.specs.Prelude.{flat_map}
use Rattle.szg_archive.proofs.records.joined.Given as goal

abbrev pub invariant-parts : goal.invariant-parts
invariant-parts l = l.text.items ≡ flat_map (λ part. part.now) (take l.part-index l.parts)
