use Rattle.std.proofs.Common.{refl, rules}
use Rattle.szg_file.proofs.Readers.ReadingLaws.{reads_nothing}
use Rattle.szg_file.proofs.reading.index.read_index.Goals.{in-Pairs+in_ok-sparse, in_default}
use Rattle.szg_file.proofs.reading.index.read_index.Goals as goal

pub returns-clause-index : goal.returns-clause-index
returns-clause-index g c = elim c.match-sub.branch [
  | in-Pairs+in_ok-sparse w ↦ rw (w.input-is, w.state-is, w.index-is, w.sub-is, ← c.begun.view_is, w.in-Pairs.is) (search rules)
  | in_default w ↦ rw (w.input-is, w.state-is, w.index-is, w.sub-is, ← c.begun.view_is, w.in_default.is) (reads_nothing _ _ _ refl)
]
