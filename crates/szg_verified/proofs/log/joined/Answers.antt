use Rattle.std.proofs.Common.{ℕ, ◌≡◌, subst, arith, inl, inr}
use Rattle.std.proofs.lemmas.Bool.{cases_lt}
use Rattle.szg_verified.specs.Logs.{IsRecordedIn}
use Rattle.szg_verified.proofs.log.joined.Goals as goal

pub shards-preserved : goal.shards-preserved
shards-preserved c n less = elim (cases_lt n c.shards.before) [
  | inl below ↦ c.shards.invariant n below
  | inr above ↦ (
      let is : c.shards.before ≡ n = omega (arith, less, above) in
      subst (λ (m : ℕ). IsRecordedIn c.args.log.now c.args.name.now c.args.digest.now m c.args.shards) is c.in_ok-found.ensures)
]
