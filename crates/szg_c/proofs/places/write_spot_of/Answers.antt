use Rattle.std.proofs.Common.{◌≡◌, ℕ, refl, subst, rules}
use Rattle.std.specs.Prelude.{Option, Some, None, IsNone, IfSome, MatchResult, Result, Ok, Err}
use Rattle.szg_place.specs.declared.Spot.{Spot}
use Rattle.szg_place.specs.declared.PlaceFault.{PlaceFault}
use Rattle.szg_place.specs.Spots.{place_fault, spot_of}
use Rattle.szg_place.specs.Tables.{numbering_in}
use Rattle.szg_c.specs.declared.places.FoundSpot.{FoundSpot}
use Rattle.szg_c.specs.Places.{IsSpot, spot_unless}
use Rattle.szg_c.proofs.places.write_spot_of.Goals as goal

written_is : (fault : Option PlaceFault) (spot found : Spot) (written before : FoundSpot) → IfSome fault (λ f. ◌≡◌ {A = Result Spot PlaceFault} (Ok found) (Err f)) →
    (IsNone fault → ◌≡◌ {A = Result Spot PlaceFault} (Ok found) (Ok spot)) → IsSpot written found →
    MatchResult (spot_unless fault spot) (λ s. (◌≡◌ {A = ℕ} 0 0) × IsSpot written s) (λ status. (0 ≡ status) × (written ≡ before))
written_is None spot found written before r s is = let e : found ≡ spot = let t = s (search rules) in cc in (refl, subst (λ (x : Spot). IsSpot written x) e is)
written_is (Some f) spot found written before r s is = cc

pub returns-in-Ok : goal.returns-in-Ok
returns-in-Ok c =
    let l = numbering_in c.args.index.now in let board = c.args.placement.now in let f = c.in-Ok.found in
    written_is (place_fault l board) (spot_of l board) f (record { part = f.part; side = f.side; index = f.index }) c.args.spot.now c.in-Ok.ensures.refused c.in-Ok.ensures.spot (refl, refl, refl)
