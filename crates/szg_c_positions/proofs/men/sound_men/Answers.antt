use Rattle.std.proofs.Common.{List, sym, ap, ◌∙◌, subst}
use Rattle.szg_values.specs.Placement.{AreStanding, Board, PlacedMan, men_key}
use Rattle.szg_c_positions.specs.Men.{ArePut}
use Rattle.szg_c_positions.proofs.SoundMen.{sound_board}
use Rattle.szg_c_positions.proofs.men.sound_men.Goals as goal

pub of_standing-requires-clause-standing : goal.of_standing-requires-clause-standing
of_standing-requires-clause-standing c = subst (λ (l : List PlacedMan). AreStanding l) (sym c.as_slice.ensures.value) c.requires.standing

pub of_standing-requires-clause-key : goal.of_standing-requires-clause-key
of_standing-requires-clause-key c = c.requires.key_is ∙ ap men_key (sym c.as_slice.ensures.value)

pub returns : goal.returns
returns c =
    let men = c.args.men.now in let placed = c.as_slice.result.now in
    let put = subst (λ (l : List PlacedMan). ArePut men c.args.mover l c.args.key) (sym c.as_slice.ensures.value) c.requires in
    let board : Board = record { placed_men = placed; mover = c.color_of.result } in
    sound_board men c.args.mover placed c.args.key board c.of_standing.result put
    (ap (λ m. let b : Board = record { placed_men = placed; mover = m } in b) c.color_of.ensures) c.of_standing.ensures.accepted c.of_standing.ensures.refused
