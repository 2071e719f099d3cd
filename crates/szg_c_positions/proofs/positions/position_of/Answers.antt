use Rattle.std.proofs.Common.{List, ◌∙◌, ap, sym, subst}
use Rattle.std.specs.Prelude.{Err, Ok}
use Rattle.szg_values.specs.Placement.{AreStanding, PlacedMan, men_key}
use Rattle.szg_c_positions.proofs.PutPositions.{position_is, square_is, status_of}
use Rattle.szg_c_positions.proofs.positions.position_of.Goals as goal

pub of_standing-requires-clause-standing : goal.of_standing-requires-clause-standing
of_standing-requires-clause-standing c = subst (λ (l : List PlacedMan). AreStanding l) (sym c.as_slice.ensures.value) c.in-Some.ensures.put.standing

pub of_standing-requires-clause-key : goal.of_standing-requires-clause-key
of_standing-requires-clause-key c = c.in-Some.ensures.put.key_is ∙ ap men_key (sym c.as_slice.ensures.value)

pub returns-in-Ok : goal.returns-in-Ok
returns-in-Ok c =
    let put = c.in-Some.ensures.put in
    ap Ok c.position.ensures ∙ sym (ap status_of c.in-Ok.is)
    ∙ position_is c.args.men.now c.args.mover c.args.en_passant c.as_slice.result.now c.color_of.result c.new.result c.of_standing.result put.mover_stated put.reported (c.as_slice.ensures.value ∙ put.placed) c.color_of.ensures
    (square_is c.args.en_passant c.new.result c.new.ensures.below c.new.ensures.beyond) c.of_standing.ensures.accepted c.of_standing.ensures.refused

pub returns-in-Err : goal.returns-in-Err
returns-in-Err c =
    let put = c.in-Some.ensures.put in
    ap Err c.position_status.ensures ∙ sym (ap status_of c.in-Err.is)
    ∙ position_is c.args.men.now c.args.mover c.args.en_passant c.as_slice.result.now c.color_of.result c.new.result c.of_standing.result put.mover_stated put.reported (c.as_slice.ensures.value ∙ put.placed) c.color_of.ensures
    (square_is c.args.en_passant c.new.result c.new.ensures.below c.new.ensures.beyond) c.of_standing.ensures.accepted c.of_standing.ensures.refused
