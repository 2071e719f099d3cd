use Rattle.std.proofs.Common.{[], ◌∷◌}
use Rattle.std.specs.Prelude.{codes}
use Rattle.std.proofs.lemmas.Result.{err_from_is_err_and}
use Rattle.szg_build.specs.Grammar.{fixed, value}
use Rattle.szg_build.proofs.Readers.SayingLaws.{flags_front}
use Rattle.szg_build.proofs.Readers.RestLaws.{flags_read}
use Rattle.szg_build.proofs.Readers.ReadingLaws.{passed_on}
use Rattle.szg_build.proofs.reading.subreading.read_flags.Goals as goal

pub returns-in_err-flags-in-Dtz-clause-lines : goal.returns-in_err-flags-in-Dtz-clause-lines
returns-in_err-flags-in-Dtz-clause-lines g c =
    let p = err_from_is_err_and c.from_residual.result c.from_residual.ensures.1 in
    rw (p.1, p.2) (flags_read c.args.kind c.in-Dtz.is (c.in_err-flags-in-Dtz.ensures.lines (fixed (codes "flags") ∷ value ∷ []) flags_front))

pub returns-in_ok-flags-in-Dtz-clause-lines : goal.returns-in_ok-flags-in-Dtz-clause-lines
returns-in_ok-flags-in-Dtz-clause-lines g c = flags_read c.args.kind c.in-Dtz.is (c.in_ok-flags-in-Dtz.ensures.lines (fixed (codes "flags") ∷ value ∷ []) flags_front)

pub returns-in_err-flags-in-Dtz-clause-memory : goal.returns-in_err-flags-in-Dtz-clause-memory
returns-in_err-flags-in-Dtz-clause-memory g c = passed_on c.from_residual.ensures.1 c.in_err-flags-in-Dtz.ensures.memory
