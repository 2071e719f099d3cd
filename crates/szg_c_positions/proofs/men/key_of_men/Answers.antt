use Rattle.std.proofs.Common.{arith}
use Rattle.std.specs.Prelude.{nat_lt}
use Rattle.std.specs.List.{list_all}
use Rattle.std.proofs.lemmas.Bool.{and_parts, lt-ltb}
use Rattle.szg_c_positions.specs.Men.{is_coded_man}
use Rattle.szg_c_positions.proofs.NotStanding.{no_side, too_many}
use Rattle.szg_c_positions.proofs.SoundMen.{put_all}
use Rattle.szg_c_positions.proofs.men.key_of_men.Goals as goal

pub returns-clause-put : goal.returns-clause-put
returns-clause-put c = put_all c.args.men.now c.args.mover c.put_men.new.placed_men.items c.put_men.result (lt-ltb c.args.mover 2 c.if-mover-ge2.false) c.put_men.ensures.reported c.put_men.ensures.placed c.put_men.ensures.standing c.put_men.ensures.key

pub returns-then-mover-ge2-clause-fault : goal.returns-then-mover-ge2-clause-fault
returns-then-mover-ge2-clause-fault c = λ none. no_side c.args.men.now c.args.mover c.if-mover-ge2.true

pub returns-then-men-gt-MAX_MEN-clause-fault : goal.returns-then-men-gt-MAX_MEN-clause-fault
returns-then-men-gt-MAX_MEN-clause-fault c = λ none. let many = c.if-men-gt-MAX_MEN.true in too_many c.args.men.now c.args.mover (omega (arith, many))

pub returns-clause-fault : goal.returns-clause-fault
returns-clause-fault c = λ none stated. c.put_men.ensures.fault none (and_parts (nat_lt c.args.mover 2) (list_all is_coded_man c.args.men.now) stated).1
