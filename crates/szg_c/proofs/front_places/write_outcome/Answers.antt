use Rattle.std.proofs.Common.{ℕ, Err, rules, refl, SFits, subst, w64}
use Rattle.std.specs.Prelude.{ℤ, List, Result, Ok}
use Rattle.std.proofs.lemmas.Int.{to_z-of_z}
use mir.Syntax.{w8}
use Rattle.szg_file.specs.FrontTable.{FrontKept, IsFrontOf}
use Rattle.szg_file.specs.declared.opened.fetching.FetchFault.{FetchFault}
use Rattle.szg_place.specs.Probes.{IsBadAt, IsValueAt}
use Rattle.szg_place.specs.declared.Spot.{Spot}
use Rattle.szg_values.specs.Placement.{Board}
use Rattle.szg_c_positions.specs.Men.{board_of}
use Rattle.szg_c.specs.Outcomes.{IsOutcomeOfMen}
use Rattle.szg_c.specs.declared.places.Unfound.{Unfound}
use Rattle.szg_c.specs.declared.places.Unfound.TheVariants.{Status, Fetch}
use Rattle.szg_c.proofs.FrontsStated.{bad_stays, fetch_written}
use Rattle.szg_c.proofs.front_places.write_outcome.Goals as goal

abbrev Found : FrontKept → List ℕ → Result Board ℕ → ℤ → Result ℤ (Unfound FetchFault) → Type 0
Found kept bytes men class r = IsOutcomeOfMen kept.index (λ (spot : Spot) (v : ℕ). IsFrontOf kept bytes → IsValueAt kept bytes spot v) (λ (spot : Spot) (fault : FetchFault). IsFrontOf kept bytes → IsBadAt kept bytes spot fault) class men r

pub returns-in-Ok-clause-reported : goal.returns-in-Ok-clause-reported
returns-in-Ok-clause-reported c =
    let found = subst (λ (z : ℤ). Found c.args.table.now c.args.bytes.now (board_of c.args.men.now c.args.mover) z (Ok c.in-Ok.number)) (to_z-of_z w8 c.args.class c.ranges.class) c.in-Ok.ensures in
    let fits : SFits w64 c.in-Ok.number = search rules in
    (Ok c.in-Ok.number, found, (refl, to_z-of_z w64 c.in-Ok.number fits))

pub returns-in-Err-Status-clause-reported : goal.returns-in-Err-Status-clause-reported
returns-in-Err-Status-clause-reported c =
    let why = c.in-Err-Status in let men = board_of c.args.men.now c.args.mover in
    let found = subst (λ (z : ℤ). Found c.args.table.now c.args.bytes.now men z (Err why.field-0)) (to_z-of_z w8 c.args.class c.ranges.class) why.ensures in
    (Err (Status why.status), subst (λ (f : Unfound FetchFault). Found c.args.table.now c.args.bytes.now men c.args.class (Err f)) why.field-0-is found, refl)

pub returns-in-Err-Fetch-clause-reported : goal.returns-in-Err-Fetch-clause-reported
returns-in-Err-Fetch-clause-reported c =
    let why = c.in-Err-Fetch in let men = board_of c.args.men.now c.args.mover in
    let found = subst (λ (z : ℤ). Found c.args.table.now c.args.bytes.now men z (Err why.field-0)) (to_z-of_z w8 c.args.class c.ranges.class) why.ensures in
    (Err (Fetch why.fault), subst (λ (f : Unfound FetchFault). Found c.args.table.now c.args.bytes.now men c.args.class (Err f)) why.field-0-is found, fetch_written why.fault _ _ _ _ c.fetch_status.ensures)

pub returns-in-Err-Fetch-clause-bad_stays : goal.returns-in-Err-Fetch-clause-bad_stays
returns-in-Err-Fetch-clause-bad_stays c = bad_stays c.in-Err-Fetch.fault _ _ _ c.fetch_status.ensures
