use Rattle.std.proofs.Common.{◌∙◌, List, ap, subst, sym}
use Rattle.szg_values.specs.Placement.{AreStanding, PlacedMan}
use Rattle.szg_chess.specs.Position.{Position, position_fault}
use Rattle.szg_chess.proofs.Facts.{standing}
use Rattle.szg_c_positions.proofs.PutPositions.{made_of}
use Rattle.szg_c_positions.proofs.TooManyMen.{refused_position}
use Rattle.szg_c_positions.proofs.positions.status_of_men.Goals as goal

pub returns-in-Err : goal.returns-in-Err
returns-in-Err c = sym (refused_position c.args.men.now c.args.mover c.args.en_passant c.in-Err.status c.in-Err.ensures.fault)

pub unreachable-requires : goal.unreachable-requires
unreachable-requires c =
    let p : Position = record { placed_men = c.as_slice.result.now; mover = c.color_of.result; en_passant = c.new.result } in
    let made = made_of (position_fault p) p c.in-Ok-new.position c.new-2.result c.new-2.ensures.accepted c.new-2.ensures.refused c.in-Ok-new.is in
    let placed = c.in-Ok.ensures.placed in
    c.requires placed.0 (subst (λ (l : List PlacedMan). AreStanding l) (ap (λ (q : Position). q.placed_men) made ∙ c.as_slice.ensures.value ∙ placed.1) (standing c.in-Ok-new.position c.men.ensures.position))
