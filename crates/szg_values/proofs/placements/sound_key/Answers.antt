use Rattle.std.proofs.Common.{◌≡◌, ℕ, ◌≤◌, ◌/◌, ◌%◌, ◌∙◌, length, ap, sym, arith, true}
use Rattle.std.specs.Prelude.{◌&&◌, ◌==◌, nat_le}
use Rattle.std.proofs.lemmas.Bool.{leb-true, and_parts}
use Rattle.szg_values.specs.Placement.{PlacedMan}
use Rattle.szg_values.proofs.Sound.{no_fault_found}
use Rattle.szg_values.proofs.MenKeys.{kings_told}
use Rattle.szg_values.proofs.Stood.{stood_none, stood_more, stood_all}
use Rattle.szg_values.proofs.placements.sound_key.Goals as goal

count_few : (n : ℕ) → (nat_le 3 n && nat_le n 6) ≡ true → n ≤ 6
count_few n e = leb-true n 6 (and_parts (nat_le 3 n) (nat_le n 6) e).1

pub loop-man-init : goal.loop-man-init
loop-man-init c = stood_none c.args.men.now

pub overflow_add-key : goal.overflow_add-key
overflow_add-key c =
    let few = count_few (length c.args.men.now) (sym c.is_count.ensures ∙ c.if-not-is_count.false) in
    let small = c.loop-man.invariant.small in let one = c.man_key-key.ensures.small in omega (arith, few, small, one)

pub loop-man-preserved : goal.loop-man-preserved
loop-man-preserved c =
    let man : PlacedMan = c.man-item.result in let taken = c.in_ok-taken in
    stood_more taken.taken c.man_key-key.result man c.loop-man.invariant (omega arith) c.man-item.is taken.ensures.on_board
    taken.ensures.free taken.ensures.inside taken.ensures.same taken.ensures.others c.man_key-key.ensures.key

pub returns-then-has_kings-clause-no_fault : goal.returns-then-has_kings-clause-no_fault
returns-then-has_kings-clause-no_fault c =
    let men = c.args.men.now in
    let known = stood_all c.loop-man.invariant (omega arith) in
    let count = sym c.is_count.ensures ∙ c.if-not-is_count.false in
    let kings = kings_told men (count_few (length men) count) (sym (ap (λ (n : ℕ). n / 262144 % 8 == 1 && n / 4398046511104 == 1) known.key) ∙ sym c.has_kings.ensures ∙ c.if-has_kings.true) in
    no_fault_found men count kings.0 kings.1 known.apart known.inside

pub returns-then-has_kings-clause-on_board : goal.returns-then-has_kings-clause-on_board
returns-then-has_kings-clause-on_board c = (stood_all c.loop-man.invariant (omega arith)).on_board

pub returns-then-has_kings-clause-key : goal.returns-then-has_kings-clause-key
returns-then-has_kings-clause-key c = (stood_all c.loop-man.invariant (omega arith)).key
