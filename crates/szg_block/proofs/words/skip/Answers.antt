use Rattle.std.proofs.Common.{sym, subst, arith}
use Rattle.szg_code.specs.Cursor.{EndlessCursor}
use Rattle.szg_block.specs.Reached.{IsAhead}
use Rattle.szg_block.proofs.words.skip.Goals as goal

pub loop-preserved : goal.loop-preserved
loop-preserved g c =
    let at = c.loop.invariant in
    record {
      at_most = omega (arith, at.at_most);
      stays = λ all i is.
          let before = subst (λ (k : EndlessCursor). IsAhead c.args.code.now c.args.dict.now all i k c.loop.ahead) (sym c.copied-next.ensures) (at.stays all i is) in
          c.in-Some.ensures all i c.loop.ahead before (omega (arith, c.if-ahead-count.false));
    }

pub returns-then-not-refill-clause-ahead : goal.returns-then-not-refill-clause-ahead
returns-then-not-refill-clause-ahead g c all i is = subst (λ (k : EndlessCursor). IsAhead c.args.code.now c.args.dict.now all i k c.windows.ahead) (sym c.refill.ensures.same) (c.windows.invariant.stays all i is)
