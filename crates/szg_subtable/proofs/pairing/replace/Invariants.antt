use Rattle.std.proofs.Common.{◌≡◌, ◌-◌, ◌≤◌, ◌++◌, length, take, drop}
use Rattle.szg_subtable.specs.Pairing.{replaced}
use Rattle.szg_subtable.proofs.pairing.replace.Given as goal

-- the symbols written so far, and the rest of the list with its pairs replaced, make up the whole list with its pairs
-- replaced
abbrev pub invariant-symbols : goal.invariant-symbols
invariant-symbols l = record {
  order : l.write ≤ l.read;
  inside : l.read ≤ l.count;
  whole : length l.symbols.items ≡ l.count;
  rest : drop l.read l.symbols.items ≡ drop l.read l.fn.symbols.items;
  all : take l.write l.symbols.items ++ replaced l.left l.right l.new (drop l.read l.fn.symbols.items) ≡ replaced l.left l.right l.new l.fn.symbols.items;
}

abbrev pub decreases-symbols : goal.decreases-symbols
decreases-symbols l = l.count - l.read
