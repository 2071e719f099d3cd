use Rattle.std.proofs.Common.{map}
use Rattle.szg_archive.proofs.Reporting.{files_report}
use Rattle.szg_archive.proofs.many.check_files.Goals as goal

pub returns-clause-found : goal.returns-clause-found
returns-clause-found g c =
    files_report g.S.FileSystem.content g.S.FileSystem.failures g.S.File.Input g.W.Output (map (λ path. path.now) c.args.paths.now) c.args.system.now _ c.args.writer.now _ c.in_ok-entries.entries.items c.check_entries.result
    c.in_ok-entries.ensures (rw (c.plain.ensures, c.deref.ensures.value) at c.check_entries.ensures.report)
