use Rattle.std.proofs.Common.{refl}
use Rattle.szg_verify.specs.declared.memory.Cell.{Cell}
use Rattle.szg_verify.proofs.Kept.{kept_is_right}
use Rattle.szg_verify.proofs.memory.keep.Goals as goal

pub returns : goal.returns
returns c = λ tables right found.
    let cell : Cell = record { tag = c.in-Some.spot.tag; lower = c.args.entry.lower; code = c.code_of.result } in
    kept_is_right tables c.args.cells.now c.args.position.now c.in-Some.spot.place cell c.args.entry c.args.near c.spot_of.ensures.position c.in-Some.ensures.inside c.in-Some.ensures.spot
    refl c.code_of.ensures (c.if-not-is_narrow.ensures refl) right found
