use Rattle.std.proofs.Common.{rules, ◌≡◌, ◌<◌, length, map, true, false, Bool, Some, None, refl, sym, ◌∙◌, arith}
use Rattle.std.specs.Prelude.{IsTrue, IsFalse}
use Rattle.std.proofs.lemmas.Grind.{common_steps}
use Rattle.std.proofs.lemmas.List.{get_or-map, length-map}
use Rattle.szg_values.specs.Placement.{PlacedMan}
use Rattle.szg_values.proofs.Stood.{stood_more, stood_none}
use Rattle.szg_c_positions.proofs.NotStanding.{no_room, taken_more, taken_none, uncoded}
use Rattle.szg_c_positions.specs.declared.men.RawMan.{RawMan}
use Rattle.szg_c_positions.specs.Men.{placed_man_of}
use Rattle.szg_c_positions.proofs.men.put_men.Goals as goal

placed_is : (b : Bool) (p q : PlacedMan) → (IsTrue b → Some p ≡ Some q) → (IsFalse b → Some p ≡ None) → p ≡ q
placed_is true p q reported unstated = let h = reported (search rules) in cc
placed_is false p q reported unstated = let h = unstated (search rules) in cc

pub loop-man-init : goal.loop-man-init
loop-man-init c = let men = map placed_man_of c.args.men.now in record { reported = refl; placed = c.requires.empty; taken = taken_none men; stood = stood_none men }

pub loop-man-preserved : goal.loop-man-preserved
loop-man-preserved c =
    let men = c.args.men.now in let i = c.loop-man.man-index in let man = c.in_ok-placed_man in let taken = c.in_ok-taken in
    let none : RawMan = record { kind = 0; color = 0; square = 0 } in
    let within : i < length men = c.loop-man-test.true in let long = length-map men placed_man_of in
    let here = placed_is _ _ _ man.ensures.reported man.ensures.unstated ∙ sym (get_or-map placed_man_of men i none man.placed_man within) in record {
      reported = grind (arith, common_steps);
      placed = grind (arith, common_steps);
      taken = taken_more (map placed_man_of men) i c.loop-man.taken taken.taken man.placed_man (omega (arith, within, long)) here c.loop-man.invariant.taken taken.ensures.others;
      stood =
          stood_more taken.taken c.man_key-key.result man.placed_man c.loop-man.invariant.stood (omega (arith, within, long)) here taken.ensures.on_board
          taken.ensures.free taken.ensures.inside taken.ensures.same taken.ensures.others c.man_key-key.ensures.key;
    }

pub returns-in_err-placed_man-clause-fault : goal.returns-in_err-placed_man-clause-fault
returns-in_err-placed_man-clause-fault c = λ none all standing.
    let first : RawMan = record { kind = 0; color = 0; square = 0 } in
    uncoded c.args.men.now c.loop-man.man-index first c.loop-man-test.true (λ t. let e = c.in_err-placed_man.ensures.reported t in absurd (cc e)) all

pub returns-in_err-taken-clause-fault : goal.returns-in_err-taken-clause-fault
returns-in_err-taken-clause-fault c = λ none all standing.
    let men = c.args.men.now in let i = c.loop-man.man-index in let man = c.in_ok-placed_man in
    let none : RawMan = record { kind = 0; color = 0; square = 0 } in
    let within : i < length men = c.loop-man-test.true in let long = length-map men placed_man_of in
    let here = placed_is _ _ _ man.ensures.reported man.ensures.unstated ∙ sym (get_or-map placed_man_of men i none man.placed_man within) in
    no_room (map placed_man_of men) i c.loop-man.taken man.placed_man (omega (arith, within, long)) here c.loop-man.invariant.taken (c.in_err-taken.ensures.refused (search rules)) standing
