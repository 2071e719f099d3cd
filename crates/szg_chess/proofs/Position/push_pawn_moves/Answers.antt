use Rattle.std.proofs.Common.{rules, ◌≡◌, ◌∙◌, Bool, true, sym, ap, subst, length, length-append, take, filter, flat_map, arith, List}
use Rattle.std.specs.Prelude.{Contains, ◌&&◌}
use Rattle.std.proofs.lemmas.Bool.{and_parts}
use Rattle.std.proofs.lemmas.List.Elements.{All-same, All-contains_itself}
use Rattle.szg_values.specs.Men.{is_man, is_color}
use Rattle.szg_values.specs.Placement.{PlacedMan}
use Rattle.szg_values.specs.declared.Man.TheVariants.{Pawn}
use Rattle.szg_chess.specs.Moves.{is_legal, pawn_moves_of, quiet_moves_by}
use Rattle.szg_chess.proofs.Pushing.{passed, room}
use Rattle.szg_chess.proofs.Position.push_pawn_moves.Goals as goal

pub push_quiet_moves_by-requires : goal.push_quiet_moves_by-requires
unfolding pawn_moves_of
push_quiet_moves_by-requires g c =
    let p = c.args.self.now in let man = c.man-item.result in
    let xs = c.men-man-items.result.now in
    let own : PlacedMan → Bool = λ s. is_color p.mover s.1 && is_man Pawn s.0 in
    let is : own man ≡ true = sym c.is_own_pawn.ensures ∙ c.if-is_own_pawn.true in
    let size = ap length c.loop-man.invariant ∙ length-append c.args.moves.now.items (passed (is_legal p) (quiet_moves_by p.placed_men) own (take c.loop-man.man-index xs)) in
    let more = room (is_legal p) (quiet_moves_by p.placed_men) own xs c.loop-man.man-index man c.loop-man-test.true c.man-item.is is in
    let same : length (flat_map (quiet_moves_by p.placed_men) (filter own xs)) ≡ length (flat_map (quiet_moves_by p.placed_men) (filter own p.placed_men)) = ap (λ (ys : List PlacedMan). length (flat_map (quiet_moves_by p.placed_men) (filter own ys))) c.men-man-items.ensures.men in
    let room_ = c.requires in (search rules, (subst (λ (s : PlacedMan). Contains p.placed_men s) (sym c.man-item.is) (All-same (Contains p.placed_men) xs p.placed_men c.men-man-items.ensures.men (All-contains_itself p.placed_men) c.loop-man.man-index man c.loop-man-test.true), ((and_parts (is_color p.mover man.1) (is_man Pawn man.0) is).0, omega (arith, size, more, same, room_))))
