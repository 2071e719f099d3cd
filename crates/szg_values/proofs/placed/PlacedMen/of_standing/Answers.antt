use Rattle.std.proofs.Common.{◌≡◌, rules, ◌∙◌, sym, length, false}
use Rattle.szg_values.specs.Material.{is_count}
use Rattle.szg_values.proofs.Complete.{complete_fault, incomplete_fault}
use Rattle.szg_values.proofs.placed.PlacedMen.of_standing.Goals as goal
use Rattle.szg_values.proofs.placed.PlacedMen.of_standing.Goals.{else-is_count-via-then-is_count+else-has_kings, else-is_count-via-else-is_count}

pub invariant_of-result : goal.invariant_of-result
invariant_of-result c =
    let none = complete_fault c.args.men.now c.args.key c.requires.standing c.requires.key (sym c.is_count.ensures ∙ c.if-is_count.true) (sym c.has_kings.ensures ∙ c.if-has_kings.true) in
    record { placed = record { no_fault = rw none (search rules); on_board = c.requires.standing.on_board }; key_is = c.requires.key }

pub returns-then-has_kings-clause-refused : goal.returns-then-has_kings-clause-refused
returns-then-has_kings-clause-refused c =
    let none = complete_fault c.args.men.now c.args.key c.requires.standing c.requires.key (sym c.is_count.ensures ∙ c.if-is_count.true) (sym c.has_kings.ensures ∙ c.if-has_kings.true) in
    λ some. let h = rw none at some in cc

pub returns-else-is_count-clause-accepted : goal.returns-else-is_count-clause-accepted
returns-else-is_count-clause-accepted c = elim c.else-is_count.branch [
  | else-is_count-via-then-is_count+else-has_kings w ↦
      let some = incomplete_fault c.args.men.now c.args.key c.requires.standing c.requires.key (λ _. sym w.has_kings.ensures ∙ w.if-has_kings.false) in
      λ none. let h = rw some at none in cc
  | else-is_count-via-else-is_count w ↦
      let few : is_count (length c.args.men.now) ≡ false = sym c.is_count.ensures ∙ w.if-is_count.false in
      let some = incomplete_fault c.args.men.now c.args.key c.requires.standing c.requires.key (λ count. cc) in
      λ none. let h = rw some at none in cc
]
