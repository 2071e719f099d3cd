use Rattle.std.proofs.Common.{◌-◌, length, arith}
use Rattle.std.proofs.Math.Seq.{take-append-add}
use Rattle.std.proofs.lemmas.Grind.{common_steps}
use Rattle.szg_pairs.specs.Expansion.{expansion_of}
use Rattle.szg_block.proofs.words.+write_symbol.Goals as goal

pub returns : goal.returns
returns t c =
    let dict = c.args.dict.now in
    grind (arith, common_steps, take-append-add (expansion_of dict c.in-Some.left) (expansion_of dict c.in-Some.right) (length c.args.values.now - c.len-length.result))
