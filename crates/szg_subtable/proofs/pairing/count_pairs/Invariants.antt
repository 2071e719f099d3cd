use Rattle.std.proofs.Common.{◌<◌, take}
use Rattle.szg_subtable.proofs.Pairs.LastCount.{IsCounted}
use Rattle.szg_subtable.proofs.pairing.count_pairs.Given as goal

-- the table has the tallies of the symbols so far
abbrev pub invariant-symbols : goal.invariant-symbols
invariant-symbols l = record {
  counted : IsCounted l.n 255 l.counts (take l.item-index l.symbols) l.begun l.last l.free;
  below : l.last < l.n;
}
