use Rattle.std.proofs.Common.{length}
use Rattle.szg_pairs.specs.Expansion.{expansion_of}
use Rattle.szg_block.proofs.words.+write_symbol.Given as goal

abbrev pub decreases-write_symbol : goal.decreases-write_symbol
decreases-write_symbol l = length (expansion_of l.dict.now l.symbol)
