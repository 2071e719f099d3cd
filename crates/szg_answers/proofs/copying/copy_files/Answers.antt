use Rattle.std.proofs.Common.{false, refl, arith}
use Rattle.szg_archive.proofs.Reporting.{counts_once}
use Rattle.szg_answers.proofs.copying.copy_files.Goals as goal

pub paths-init : goal.paths-init
paths-init g c = record { all = refl }

pub paths-preserved : goal.paths-preserved
paths-preserved g c =
    let once = counts_once false c.in_ok-copied.copied.verdict in
    record { all = omega (arith, once, c.paths.invariant.all, c.with-counts.ensures.good, c.with-counts.ensures.refused, c.with-counts.ensures.unread, c.with-counts.ensures.kept, c.with-counts.ensures.skipped) }
