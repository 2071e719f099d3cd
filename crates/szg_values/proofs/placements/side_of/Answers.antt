use Rattle.std.proofs.Common.{◌≡◌, ◌∙◌, sym, ap, length, arith, get_or, ◌++◌, replicate}
use Rattle.szg_values.specs.Men.{name_order}
use Rattle.szg_values.specs.declared.Man.TheVariants.{Pawn}
use Rattle.szg_values.proofs.SideOf.{side_fits, side_more, side_so_far}
use Rattle.szg_values.proofs.placements.side_of.Goals as goal

pub push_men-requires : goal.push_men-requires
push_men-requires c =
    let fits = side_fits c.args.color c.args.men.now c.loop-kind.kind-index Pawn (omega arith) in
    let so_far : length c.loop-kind.side.items ≡ length (side_so_far c.args.color c.args.men.now c.loop-kind.kind-index) = ap length c.loop-kind.invariant in
    let next = c.number_of.ensures in
    omega arith

pub loop-kind-preserved : goal.loop-kind-preserved
loop-kind-preserved c =
    let kind = get_or name_order c.loop-kind.kind-index Pawn in
    c.push_men.ensures ∙ ap (λ side. side ++ replicate c.number_of.result kind) c.loop-kind.invariant
    ∙ ap (λ n. side_so_far c.args.color c.args.men.now c.loop-kind.kind-index ++ replicate n kind) c.number_of.ensures
    ∙ sym (side_more c.args.color c.args.men.now c.loop-kind.kind-index Pawn (omega arith))
