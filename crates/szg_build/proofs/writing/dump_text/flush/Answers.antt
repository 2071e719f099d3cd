use Rattle.std.proofs.Common.{arith}
use Rattle.szg_build.proofs.Writers.WritingLaws.{writes_held_stopped}
use Rattle.szg_build.proofs.writing.dump_text.flush.Goals as goal

pub returns-in-Err-clause-none : goal.returns-in-Err-clause-none
returns-in-Err-clause-none g c =
    writes_held_stopped c.args.text.now _ c.as_slice-chunk.result.now c.in-Err.n _ c.as_slice-chunk.ensures.value c.in-Err.ensures.short (omega (arith, c.saturating_add.ensures)) c.in-Err.ensures.err c.in-Err.ensures.failed
