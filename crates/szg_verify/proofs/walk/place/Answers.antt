use Rattle.std.proofs.Common.{List, ap, arith, sym, ◌++◌, ◌∙◌}
use Rattle.std.proofs.lemmas.List.{append-nil, drop_all}
use Rattle.szg_values.specs.declared.Color.{Color}
use Rattle.szg_values.specs.declared.Man.{Man}
use Rattle.szg_chess.specs.Laws.{kinds_of}
use Rattle.szg_verify.specs.Walk.{placed_by}
use Rattle.szg_verify.proofs.Kept.{placed_kinds}
use Rattle.szg_verify.proofs.walk.place.Goals as goal

pub returns-clause-kinds : goal.returns-clause-kinds
returns-clause-kinds c =
    let items = c.loop-man.placed.items in
    let left = drop_all c.loop-man.man-index c.args.men.now (omega arith) in
    ap kinds_of (sym (ap (λ (men : List (Man × Color)). items ++ placed_by c.loop-man.rest men) left ∙ append-nil items) ∙ c.loop-man.invariant.so_far) ∙ placed_kinds c.args.number c.args.men.now
