use Rattle.std.proofs.Common.{◌≡◌, drop}
use Rattle.std.specs.Prelude.{find}
use Rattle.szg_verify.specs.Materials.{leads_to}
use Rattle.szg_verified.specs.Verified.{materials_in}
use Rattle.szg_verified.proofs.verifying.first_unverified.Given as goal

-- the material leads to none of those so far
abbrev pub invariant-unverified : goal.invariant-unverified
invariant-unverified l = find (leads_to l.material) (materials_in l.unverified) ≡ find (leads_to l.material) (materials_in (drop l.other-index l.unverified))
