use Rattle.szg_subtable.proofs.Builders.WordBits.{held_none}
use Rattle.szg_subtable.proofs.building.bitbuf.WordBits.new.Goals as goal

pub returns : goal.returns
returns c = held_none c.new.result.items 0 c.new.ensures.items
