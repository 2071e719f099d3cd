use Rattle.std.proofs.Common.{◌≡◌, ℕ, Some, Err, rules, SFits, subst, w64}
use Rattle.std.specs.Prelude.{ℤ, Ok}
use Rattle.std.specs.declared.convert.Infallible.{Infallible}
use Rattle.std.proofs.lemmas.Int.{to_z-of_z}
use mir.Syntax.{w8}
use Rattle.szg_file.specs.Index.{index_of}
use Rattle.szg_place.specs.Tables.{value_at}
use Rattle.szg_place.specs.declared.Spot.{Spot}
use Rattle.szg_c_positions.specs.Men.{board_of}
use Rattle.szg_c.specs.Outcomes.{IsOutcomeOfMen}
use Rattle.szg_c.specs.Places.{outcome_result}
use Rattle.szg_c.specs.declared.places.Unfound.{Unfound}
use Rattle.szg_c.specs.declared.places.Unfound.TheVariants.{Status}
use Rattle.szg_c.proofs.TableProbes.{outcome_told, refused, written}
use Rattle.szg_c.proofs.places.write_outcome.Goals as goal

pub returns-in-Ok : goal.returns-in-Ok
returns-in-Ok c =
    let t = c.args.table.now in let men = board_of c.args.men.now c.args.mover in
    let Found : ℤ → Type 0 = λ z. IsOutcomeOfMen (index_of t.contents) (λ (spot : Spot) (v : ℕ). value_at t.contents spot ≡ Some v) (λ (spot : Spot) (never : Infallible). ⊥) z men (Ok c.in-Ok.number) in
    let found : Found c.args.class = subst Found (to_z-of_z w8 c.args.class c.ranges.class) c.in-Ok.ensures in
    let told = outcome_told t.contents t.filled c.table_fits.ensures c.args.class men (Ok c.in-Ok.number) found in
    let fits : SFits w64 c.in-Ok.number = search rules in
    rw (to_z-of_z w64 c.in-Ok.number fits) (written (outcome_result t.contents c.args.class men) c.in-Ok.number c.args.outcome.now told)

pub returns-in-Err-Status : goal.returns-in-Err-Status
returns-in-Err-Status c =
    let t = c.args.table.now in let men = board_of c.args.men.now c.args.mover in let why = c.in-Err-Status in
    let Found : ℤ → Unfound Infallible → Type 0 = λ z f. IsOutcomeOfMen (index_of t.contents) (λ (spot : Spot) (v : ℕ). value_at t.contents spot ≡ Some v) (λ (spot : Spot) (never : Infallible). ⊥) z men (Err f) in
    let found : Found c.args.class why.field-0 = subst (λ (z : ℤ). Found z why.field-0) (to_z-of_z w8 c.args.class c.ranges.class) why.ensures in
    refused (outcome_result t.contents c.args.class men) why.status c.args.outcome.now
    (outcome_told t.contents t.filled c.table_fits.ensures c.args.class men (Err (Status why.status)) (subst (Found c.args.class) why.field-0-is found))
