use Rattle.std.proofs.Common.{◌≡◌, ◌∷◌, flat_map, map, take}
use Rattle.szg_sums.proofs.paths.normal.Given as goal

abbrev pub invariant-parts : goal.invariant-parts
invariant-parts l = l.normal.items ≡ flat_map (λ part. 47 ∷ part) (map (λ part. part.items) (take l.part-index l.part-items))
