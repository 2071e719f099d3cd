use Rattle.std.proofs.Common.{◌≡◌, ◌+◌}
use Rattle.szg_answers.proofs.copying.copy_files.Given as goal

-- each file so far is counted once
abbrev pub invariant-paths : goal.invariant-paths
invariant-paths g l = record {
  all : l.counts.good + l.counts.refused + l.counts.unread + l.counts.kept + l.counts.skipped ≡ l.path-index;
}
