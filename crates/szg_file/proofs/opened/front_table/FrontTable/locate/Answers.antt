use Rattle.std.proofs.Common.{◌<◌, length, ap, refl, subst, arith, Option}
use Rattle.std.specs.Prelude.{IsSomeAnd}
use Rattle.std.proofs.lemmas.Option.{slice_get_read}
use Rattle.szg_file.specs.Contents.{Slot}
use Rattle.szg_file.specs.FrontTable.{FrontKept, IsFrontOf}
use Rattle.szg_file.specs.Index.{slots_in}
use Rattle.szg_file.proofs.Openings.FrontFinds.{many_slots, no_front_slot}
use Rattle.szg_file.proofs.Openings.LocatedLaws.{slot_known, spot_found}
use Rattle.szg_file.proofs.Tables.IndexLaws.{at_position}
use Rattle.szg_file.proofs.opened.front_table.FrontTable.locate.Goals as goal

pub unreachable-requires : goal.unreachable-requires
unreachable-requires c =
    let placed = ap (λ (k : FrontKept). slots_in k.index) c.self.view_is in
    let subs = ap (λ (k : FrontKept). k.subs) c.self.view_is in
    subst (λ (o : Option Slot). IsSomeAnd o (λ slot. c.args.i < slot.size)) (no_front_slot c.args.self.now (slots_in c.self.inside.index) c.self.inside.subs.items c.args.part c.args.side placed subs c.in_default.ensures) c.requires

pub index-placed-requires : goal.index-placed-requires
index-placed-requires c =
    let own : IsFrontOf c.args.self.now c.self.invariant.0 = subst (λ (k : FrontKept). IsFrontOf k c.self.invariant.0) c.self.view_is c.self.invariant.1 in
    let placed = ap (λ (k : FrontKept). slots_in k.index) c.self.view_is in
    let subs = ap (λ (k : FrontKept). k.subs) c.self.view_is in
    let lt = at_position c.args.part c.args.side _ c.in-Some.found.number c.in-Some.ensures.number_is in
    let many = many_slots c.args.self.now (slots_in c.self.inside.index) c.self.inside.subs.items c.args.part c.args.side placed subs c.self.invariant.0 own in
    omega (arith, lt, many)

pub spot_of-spot-requires : goal.spot_of-spot-requires
spot_of-spot-requires c =
    let own : IsFrontOf c.args.self.now c.self.invariant.0 = subst (λ (k : FrontKept). IsFrontOf k c.self.invariant.0) c.self.view_is c.self.invariant.1 in
    let placed = ap (λ (k : FrontKept). slots_in k.index) c.self.view_is in
    let subs = ap (λ (k : FrontKept). k.subs) c.self.view_is in
    let n = c.in-Some.found.number in
    let list = c.self.inside.subs.items in
    let lt = at_position c.args.part c.args.side _ n c.in-Some.ensures.number_is in
    let many = many_slots c.args.self.now (slots_in c.self.inside.index) list c.args.part c.args.side placed subs c.self.invariant.0 own in
    let held = slice_get_read list (length list) n c.index-placed.result.now refl (omega (arith, lt, many)) c.index-placed.ensures in
    let known = slot_known c.args.self.now c.self.invariant.0 own (slots_in c.self.inside.index) list c.args.part c.args.side c.args.i placed subs c.in-Some.found.slot c.index-placed.result.now (n, c.in-Some.ensures.number_is, c.in-Some.ensures.slot_is, held) c.requires in
    record { head = known.head; index = known.index; inside = omega (arith, known.inside, known.short); below = known.below }

pub invariant_of-result : goal.invariant_of-result
invariant_of-result c =
    let own : IsFrontOf c.args.self.now c.self.invariant.0 = subst (λ (k : FrontKept). IsFrontOf k c.self.invariant.0) c.self.view_is c.self.invariant.1 in
    let placed = ap (λ (k : FrontKept). slots_in k.index) c.self.view_is in
    let subs = ap (λ (k : FrontKept). k.subs) c.self.view_is in
    let n = c.in-Some.found.number in
    let list = c.self.inside.subs.items in
    let lt = at_position c.args.part c.args.side _ n c.in-Some.ensures.number_is in
    let many = many_slots c.args.self.now (slots_in c.self.inside.index) list c.args.part c.args.side placed subs c.self.invariant.0 own in
    let held = slice_get_read list (length list) n c.index-placed.result.now refl (omega (arith, lt, many)) c.index-placed.ensures in
    let known = slot_known c.args.self.now c.self.invariant.0 own (slots_in c.self.inside.index) list c.args.part c.args.side c.args.i placed subs c.in-Some.found.slot c.index-placed.result.now (n, c.in-Some.ensures.number_is, c.in-Some.ensures.slot_is, held) c.requires in
    record {
      below = known.below;
      head = known.head;
      index = known.index;
      inside = known.inside;
      short = known.short;
      front = known.front;
      spot_is = spot_found c.spot_of-spot.result _ _ c.spot_of-spot.ensures.none c.spot_of-spot.ensures.spot;
    }
