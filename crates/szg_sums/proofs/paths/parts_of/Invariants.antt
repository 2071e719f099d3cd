use Rattle.std.proofs.Common.{◌≡◌, [], drop, map}
use Rattle.szg_sums.specs.Names.{parts_of}
use Rattle.szg_sums.proofs.Naming.{parts_with}
use Rattle.szg_sums.proofs.paths.parts_of.Given as goal

-- the parts so far, and those of the bytes that are left, are those of the path
abbrev pub invariant-bytes : goal.invariant-bytes
invariant-bytes l = parts_with (map (λ part. part.items) l.parts.items) l.begun.items (drop l.byte-index l.path) ≡ parts_of l.path
