use Rattle.std.proofs.Common.{◌≡◌, ◌++◌, [], ◌∷◌, length, true, false, cond, sym, ap, ◌∙◌, lit<, arith}
use Rattle.std.specs.Prelude.{is_some, option_to_list}
use Rattle.std.proofs.Math.Bool.{not}
use Rattle.std.proofs.lemmas.List.{append-nil}
use Rattle.szg_count.specs.Leads.{contains}
use Rattle.szg_count.specs.Steps.{positions_from}
use Rattle.szg_count.proofs.Positions.{length-positions_from, positions_from-more, positions_from-room}
use Rattle.szg_count.proofs.placing.positions_of.Goals as goal
use Rattle.szg_count.proofs.placing.positions_of.Goals.{then-not-is_assigned, else-not-is_assigned}

pub push-requires : goal.push-requires
push-requires c =
    let left : contains (c.args.lead ∷ option_to_list c.args.other) c.loop-position.position ≡ false = cc in
    let all = length-positions_from (is_some c.args.other) c.args.lead c.args.other c.args.count c.requires.valid in
    let room = positions_from-room c.args.lead c.args.other c.loop-position.position c.args.count left (omega arith) in
    let now = ap length c.loop-position.invariant in
    (lit< tt, omega arith)

pub loop-position-preserved : goal.loop-position-preserved
loop-position-preserved c =
    let more = positions_from-more c.args.lead c.args.other c.loop-position.position in
    elim c.if-not-is_assigned.branch [
      | then-not-is_assigned w ↦
          let left : contains (c.args.lead ∷ option_to_list c.args.other) c.loop-position.position ≡ false = cc in
          let items : c.if-not-is_assigned.positions.items ≡ c.loop-position.positions.items ++ c.loop-position.position ∷ [] = cc in
          items ∙ ap (λ l. l ++ c.loop-position.position ∷ []) c.loop-position.invariant
          ∙ ap (λ b. positions_from c.args.lead c.args.other c.loop-position.position ++ cond (not b) (c.loop-position.position ∷ []) []) (sym left)
          ∙ sym more
      | else-not-is_assigned w ↦
          let is_fixed : contains (c.args.lead ∷ option_to_list c.args.other) c.loop-position.position ≡ true = cc in
          let items : c.if-not-is_assigned.positions.items ≡ c.loop-position.positions.items = cc in
          items ∙ c.loop-position.invariant
          ∙ sym (more ∙ ap (λ b. positions_from c.args.lead c.args.other c.loop-position.position ++ cond (not b) (c.loop-position.position ∷ []) []) is_fixed
          ∙ append-nil (positions_from c.args.lead c.args.other c.loop-position.position))
    ]
