use Rattle.std.proofs.Common.{ap, ◌∙◌}
use Rattle.szg_values.specs.Men.{other_color}
use Rattle.szg_verify.proofs.Kept.{quiet_spots}
use Rattle.szg_verify.proofs.memory.spot_after.Goals as goal

pub returns-clause-spot : goal.returns-clause-spot
returns-clause-spot c = quiet_spots (λ s. s.tag) (λ s. s.place) c.args.len c.args.position.now c.args.m.now c.other_color.result c.args.numbered.now.pawn c.digits_after-digits.result
    c.men.ensures.position c.requires.legal c.requires.quiet (c.other_color.ensures ∙ ap other_color c.mover.ensures) c.requires.numbered.holds c.digits_after-digits.ensures.digits c.spot_by.result c.spot_by.ensures.from c.spot_by.ensures.to c.spot_by.ensures.number
