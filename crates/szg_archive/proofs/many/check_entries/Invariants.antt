use Rattle.std.proofs.Common.{◌≡◌, ℕ, ◌+◌, List, map, take}
use Rattle.szg_io.specs.Moved.{Gives}
use Rattle.szg_archive.specs.Verdicts.{Counts, Reports, listed_of, manifest_of}
use Rattle.szg_archive.specs.declared.one.CheckedFile.{CheckedFile}
use Rattle.szg_archive.proofs.many.check_entries.Given as goal

-- each entry so far has its line, and nothing has failed
abbrev pub invariant-entries : goal.invariant-entries
invariant-entries g l = record {
  quiet : g.W.Output.failures l.writer ≡ g.W.Output.failures l.initial.writer;
  found : List CheckedFile;
  text : List ℕ;
  reports : Reports g.S.FileSystem.content g.S.FileSystem.failures g.S.File.Input l.options (map listed_of (take l.entry-index l.entries)) found l.initial.system l.system text;
  given : Gives g.W.Output l.initial.writer l.writer text 0;
  counts : Counts l.options.allow_trailing found l.tally;
  all : l.tally.good + l.tally.refused + l.tally.unread + l.tally.kept + l.tally.skipped ≡ l.entry-index;
  lists : l.manifest.items ≡ manifest_of l.options.allow_trailing (map listed_of (take l.entry-index l.entries)) found;
}
