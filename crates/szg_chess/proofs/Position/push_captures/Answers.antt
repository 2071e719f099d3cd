use Rattle.std.proofs.Common.{rules, ◌≡◌, ◌∙◌, sym, ap, subst, length, length-append, take, filter, flat_map, arith, List}
use Rattle.std.specs.Prelude.{Contains}
use Rattle.std.proofs.lemmas.List.Elements.{All-same, All-contains_itself}
use Rattle.szg_values.specs.Men.{is_color}
use Rattle.szg_values.specs.Placement.{PlacedMan}
use Rattle.szg_chess.specs.Moves.{is_legal, captures_by, captures_of}
use Rattle.szg_chess.proofs.Pushing.{passed, room}
use Rattle.szg_chess.proofs.Position.push_captures.Goals as goal

pub push_captures_by-requires : goal.push_captures_by-requires
unfolding captures_of
push_captures_by-requires g c =
    let xs = c.men-man-items.result.now in
    let size = ap length c.loop-man.invariant ∙ length-append c.args.moves.now.items (passed (is_legal c.args.self.now) (captures_by c.args.self.now) (λ (s : PlacedMan). is_color c.args.self.now.mover s.1) (take c.loop-man.man-index xs)) in
    let more = room (is_legal c.args.self.now) (captures_by c.args.self.now) (λ (s : PlacedMan). is_color c.args.self.now.mover s.1) xs c.loop-man.man-index c.man-item.result c.loop-man-test.true c.man-item.is (sym c.is_own.ensures ∙ c.if-is_own.true) in
    let same : length (flat_map (captures_by c.args.self.now) (filter (λ (s : PlacedMan). is_color c.args.self.now.mover s.1) xs)) ≡ length (flat_map (captures_by c.args.self.now) (filter (λ (s : PlacedMan). is_color c.args.self.now.mover s.1) c.args.self.now.placed_men)) = ap (λ (ys : List PlacedMan). length (flat_map (captures_by c.args.self.now) (filter (λ (s : PlacedMan). is_color c.args.self.now.mover s.1) ys))) c.men-man-items.ensures.men in
    let room_ = c.requires in (search rules, (subst (λ (s : PlacedMan). Contains c.args.self.now.placed_men s) (sym c.man-item.is) (All-same (Contains c.args.self.now.placed_men) xs c.args.self.now.placed_men c.men-man-items.ensures.men (All-contains_itself c.args.self.now.placed_men) c.loop-man.man-index c.man-item.result c.loop-man-test.true), (sym c.is_own.ensures ∙ c.if-is_own.true, omega (arith, size, more, same, room_))))
