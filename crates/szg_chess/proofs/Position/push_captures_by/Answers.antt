use Rattle.std.proofs.Common.{rules, ◌∙◌, ap, length, length-append, filter, flat_map, arith}
use Rattle.szg_values.specs.Men.{other_color}
use Rattle.szg_values.specs.Placement.{PlacedMan}
use Rattle.szg_chess.specs.Attacks.{attacks}
use Rattle.szg_chess.specs.Moves.{moves_if, is_legal, men_of, en_passant_moves}
use Rattle.szg_chess.proofs.Pushing.{length-filter-le}
use Rattle.szg_chess.proofs.Position.push_captures_by.Goals as goal

pub push_en_passant-requires : goal.push_en_passant-requires
push_en_passant-requires g c =
    let men = c.args.self.now.placed_men in let s = c.args.man.now in
    let first = flat_map (λ (t : PlacedMan). moves_if (attacks men s t.2) s t.2) (men_of (other_color c.args.self.now.mover) men) in
    let few = length-filter-le (is_legal c.args.self.now) first in
    let size = ap length c.push_captures_of_men.ensures ∙ length-append c.args.moves.now.items (filter (is_legal c.args.self.now) first) in
    let both = length-append first (en_passant_moves men c.args.self.now.en_passant s) in
    let room_ = c.requires.room in (search rules, (c.requires.standing, (c.requires.own, omega (arith, few, size, both, room_))))
