use Rattle.std.proofs.Common.{◌≡◌, ℕ, [], ◌+◌, min, subst}
use Rattle.std.specs.Prelude.{IfErr, IfOk}
use Rattle.szg_verify.specs.Walk.{colored_men, number_count, position_count, shard_start}
use Rattle.szg_verified.specs.Verified.{IsCause}
use Rattle.szg_verified.proofs.verifying.verify_shard.Goals as goal

pub returns-clause-cause : goal.returns-clause-cause
returns-clause-cause g c =
    let tables = c.args.tables.now in let sides = c.args.material.now in let shard = c.args.shard in
    let positions = c.in_ok-positions.positions in
    subst (λ (from : ℕ). IfErr positions (λ cause. IsCause tables [] sides from (shard_start (number_count (colored_men sides)) shard.shards (shard.before + 1)) cause)) c.shard_start-from.ensures
    (subst (λ (to : ℕ). IfErr positions (λ cause. IsCause tables [] sides c.shard_start-from.result to cause)) c.shard_start-to.ensures (c.in_ok-positions.ensures.cause []))

pub returns-clause-counted : goal.returns-clause-counted
returns-clause-counted g c =
    let sides = c.args.material.now in let shard = c.args.shard in let positions = c.in_ok-positions.positions in
    subst (λ (from : ℕ). IfOk positions (λ n. n ≡ min (position_count (colored_men sides) from (shard_start (number_count (colored_men sides)) shard.shards (shard.before + 1))) 18446744073709551615)) c.shard_start-from.ensures
    (subst (λ (to : ℕ). IfOk positions (λ n. n ≡ min (position_count (colored_men sides) c.shard_start-from.result to) 18446744073709551615)) c.shard_start-to.ensures c.in_ok-positions.ensures.counted)
