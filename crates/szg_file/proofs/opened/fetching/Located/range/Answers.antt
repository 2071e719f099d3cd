use Rattle.std.proofs.Common.{subst}
use Rattle.szg_file.specs.Located.{Location, IsLocated}
use Rattle.szg_file.proofs.Openings.FrontFinds.{spot_inside, spot_none, spot_some, wanted_none, wanted_spot}
use Rattle.szg_file.proofs.Openings.KeptFronts.{whole_wanted}
use Rattle.szg_file.proofs.opened.fetching.Located.range.Goals as goal

pub returns-in_default-clause-wanted : goal.returns-in_default-clause-wanted
returns-in_default-clause-wanted c = λ content h.
    let s = c.self.inside in
    let own = subst (λ (l : Location). IsLocated l s.slot s.placed.now s.spot) c.self.view_is c.self.invariant in
    let at = own.front content h in
    rw (at.is, ← whole_wanted s.slot at.whole c.args.self.now.index own.below h.all _ at.kept_is) (wanted_none content s.placed.now.sub s.placed.now.first c.args.self.now.index (spot_none s.spot _ _ c.in_default.is own.spot_is))

pub returns-clause-wanted : goal.returns-clause-wanted
returns-clause-wanted c = λ content h.
    let s = c.self.inside in
    let own = subst (λ (l : Location). IsLocated l s.slot s.placed.now s.spot) c.self.view_is c.self.invariant in
    let at = own.front content h in
    rw (at.is, ← whole_wanted s.slot at.whole c.args.self.now.index own.below h.all _ at.kept_is) (wanted_spot content s.placed.now.sub s.placed.now.first c.args.self.now.index c.in-Some.spot (spot_some s.spot c.in-Some.spot _ _ c.in-Some.is own.spot_is))

pub returns-clause-inside : goal.returns-clause-inside
returns-clause-inside c =
    let s = c.self.inside in
    let own = subst (λ (l : Location). IsLocated l s.slot s.placed.now s.spot) c.self.view_is c.self.invariant in
    spot_inside s.placed.now.sub s.placed.now.first c.args.self.now.index c.args.self.now.kept.length c.in-Some.spot (spot_some s.spot c.in-Some.spot _ _ c.in-Some.is own.spot_is) own.inside
