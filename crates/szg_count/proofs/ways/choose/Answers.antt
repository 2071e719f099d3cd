use Rattle.std.proofs.Common.{sym, ◌∙◌, arith}
use Rattle.szg_count.proofs.Counting.{subset_count}
use Rattle.szg_count.proofs.Binomials.{choose-entry}
use Rattle.szg_count.proofs.ways.choose.Goals as goal

pub returns-clause-count : goal.returns-clause-count
returns-clause-count c = c.from.ensures ∙ choose-entry c.args.k c.args.n (let h = c.requires.chosen in omega (arith, h)) (let h = c.requires.things in omega (arith, h))

pub returns-clause-sets : goal.returns-clause-sets
returns-clause-sets c = c.from.ensures ∙ choose-entry c.args.k c.args.n (let h = c.requires.chosen in omega (arith, h)) (let h = c.requires.things in omega (arith, h)) ∙ sym (subset_count c.args.n c.args.k)
