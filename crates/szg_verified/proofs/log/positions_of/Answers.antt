use Rattle.std.proofs.Common.{sym, ℕ, subst}
use Rattle.std.proofs.lemmas.Iterator.Splits.{YieldsList-from_lines}
use Rattle.std.proofs.lemmas.Iterator.Consumers.{YieldsList-turn}
use Rattle.szg_verified.specs.Logs.{IsRecord}
use Rattle.szg_verified.proofs.log.positions_of.Goals as goal

pub returns-then-record-shard-2 : goal.returns-then-record-shard-2
returns-then-record-shard-2 c =
    let t = YieldsList-turn (YieldsList-from_lines c.args.log.now cc) c.each.yielded _ c.each.yielded_by _ _ c.in-Some.line c.in-Some.is c.next.ensures.steps in (
      c.in-Some.line.now,
      (_, t.0, sym t.1),
      subst (λ (n : ℕ). IsRecord c.args.name.now c.args.digest.now n c.args.shard.shards c.in-Some.line.now) c.if-record-shard.true
          (subst (λ (n : ℕ). IsRecord c.args.name.now c.args.digest.now c.in-Some-record_in.record.shard.before n c.in-Some.line.now) c.if-record-shard-2.true c.in-Some-record_in.ensures.record),
    )
