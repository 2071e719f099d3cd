use Rattle.std.proofs.Common.{arith, refl, sym}
use Rattle.std.proofs.lemmas.Bool.Decides.{nat_tests}
use Rattle.szg_pairs.specs.Entry.{names_symbols_below}
use Rattle.szg_pairs.proofs.entry.names_symbols_below.Goals as goal

pub returns-then-is_leaf : goal.returns-then-is_leaf
unfolding names_symbols_below
returns-then-is_leaf c = rw (c.if-is_leaf.true, sym c.is_leaf.ensures, c.if-is_leaf.true) refl

pub returns-then-left-symbols : goal.returns-then-left-symbols
unfolding names_symbols_below
returns-then-left-symbols c = rw (sym c.is_leaf.ensures, c.if-is_leaf.false, sym c.right.ensures, sym c.left.ensures) (grind (arith, nat_tests))

pub returns-else-left-symbols : goal.returns-else-left-symbols
unfolding names_symbols_below
returns-else-left-symbols c = rw (sym c.is_leaf.ensures, c.if-is_leaf.false, sym c.left.ensures) (grind (arith, nat_tests))
