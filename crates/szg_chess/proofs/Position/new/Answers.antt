use Rattle.std.proofs.Common.{◌∙◌, sym}
use Rattle.szg_chess.proofs.Facts.{few_men_of}
use Rattle.szg_chess.proofs.Position.new.Goals as goal

pub key_of-requires : goal.key_of-requires
key_of-requires c = few_men_of c.args.men.now (sym c.men_fault.ensures.fault ∙ c.in-None.is)
