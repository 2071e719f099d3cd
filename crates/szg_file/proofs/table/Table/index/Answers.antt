use Rattle.std.proofs.Common.{◌∙◌, ap}
use Rattle.szg_file.specs.Held.{Shown}
use Rattle.szg_file.specs.Index.{index_of}
use Rattle.szg_file.proofs.table.Table.index.Goals as goal

pub returns-clause-index : goal.returns-clause-index
returns-clause-index c = c.self.invariant.1 ∙ ap (λ (t : Shown). index_of t.contents) c.self.view_is
