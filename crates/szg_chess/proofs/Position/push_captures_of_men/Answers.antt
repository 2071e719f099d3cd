use Rattle.std.proofs.Common.{rules, ◌≡◌, ◌∙◌, sym, ap, length, length-append, take, filter, flat_map, arith, List}
use Rattle.szg_values.specs.Men.{is_color, other_color}
use Rattle.szg_values.specs.Placement.{PlacedMan}
use Rattle.szg_chess.specs.Attacks.{attacks}
use Rattle.szg_chess.specs.Moves.{moves_if, is_legal}
use Rattle.szg_chess.proofs.Pushing.{passed, room}
use Rattle.szg_chess.proofs.Position.push_captures_of_men.Goals as goal

pub push_if-requires : goal.push_if-requires
push_if-requires g c =
    let xs = c.men-men.result.now in let x = c.other-item.result in
    let size = ap length c.loop-other.invariant ∙ length-append c.args.moves.now.items (passed (is_legal c.args.self.now) (λ (t : PlacedMan). moves_if (attacks c.args.self.now.placed_men c.args.man.now t.2) c.args.man.now t.2) (λ (t : PlacedMan). is_color (other_color c.args.self.now.mover) t.1) (take c.loop-other.other-index xs)) in
    let more = room (is_legal c.args.self.now) (λ (t : PlacedMan). moves_if (attacks c.args.self.now.placed_men c.args.man.now t.2) c.args.man.now t.2) (λ (t : PlacedMan). is_color (other_color c.args.self.now.mover) t.1) xs c.loop-other.other-index x c.loop-other-test.true c.other-item.is (sym c.is_enemy.ensures ∙ c.if-is_enemy.true) in
    let same : length (flat_map (λ (t : PlacedMan). moves_if (attacks c.args.self.now.placed_men c.args.man.now t.2) c.args.man.now t.2) (filter (λ (t : PlacedMan). is_color (other_color c.args.self.now.mover) t.1) xs)) ≡ length (flat_map (λ (t : PlacedMan). moves_if (attacks c.args.self.now.placed_men c.args.man.now t.2) c.args.man.now t.2) (filter (λ (t : PlacedMan). is_color (other_color c.args.self.now.mover) t.1) c.args.self.now.placed_men)) = ap (λ (ys : List PlacedMan). length (flat_map (λ (t : PlacedMan). moves_if (attacks c.args.self.now.placed_men c.args.man.now t.2) c.args.man.now t.2) (filter (λ (t : PlacedMan). is_color (other_color c.args.self.now.mover) t.1) ys))) c.men-men.ensures.men in
    let piece = ap (λ b. length (moves_if b c.args.man.now x.2)) c.attacks-may_go.ensures in
    let room_ = c.requires.room in (search rules, (c.requires.standing, (c.requires.own, ((λ e. absurd cc), omega (arith, size, more, same, piece, room_)))))
