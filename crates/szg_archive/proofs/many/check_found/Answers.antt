use Rattle.std.proofs.Common.{map}
use Rattle.szg_archive.proofs.Reporting.{found_report}
use Rattle.szg_archive.proofs.many.check_found.Goals as goal

pub returns-clause-found : goal.returns-clause-found
returns-clause-found g c =
    found_report g.S.FileSystem.content g.S.FileSystem.failures g.S.File.Input g.W.Output (map (λ path. path.now) c.args.paths.now) c.args.system.now _ c.args.writer.now _ c.args.options c.in_ok-entries.entries.items
    c.in_ok-more.more.items _ c.in_ok-chosen.chosen.items c.check_entries.result c.in_ok-entries.ensures c.in_ok-more.ensures c.in_ok-append.ensures.items c.in_ok-chosen.ensures (rw c.deref-2.ensures.value at c.check_entries.ensures.report)
