use Rattle.std.proofs.Common.{arith, ◌≡◌, length, ap}
use Rattle.szg_probe.proofs.Probed.{men_two}
use Rattle.szg_probe.proofs.probes.stored_class.Goals as goal

pub class-requires : goal.class-requires
class-requires g c =
    let two = men_two c.args.position.now c.men.ensures.position in
    let same : length c.men.result.now ≡ length c.args.position.now.placed_men = ap length c.men.ensures.men in
    omega arith

pub known_class-requires : goal.known_class-requires
known_class-requires g c =
    let two = men_two c.args.position.now c.men.ensures.position in
    let same : length c.men.result.now ≡ length c.args.position.now.placed_men = ap length c.men.ensures.men in
    omega arith
