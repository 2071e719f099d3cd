use Rattle.std.proofs.Common.{◌≡◌, ◌<◌, ap, arith, length, refl, subst, None}
use Rattle.szg_block.specs.Subtable.{IsShaped, IsSoundOver, packed_of}
use Rattle.szg_file.specs.Contents.{Slot}
use Rattle.szg_file.specs.Held.{Shown, subtable_of}
use Rattle.szg_file.specs.Lookup.{IsFound}
use Rattle.szg_file.specs.Values.{subtable_at}
use Rattle.szg_file.specs.contracts.table.Table.{the_view}
use Rattle.szg_file.proofs.Tables.IndexLaws.{at_position}
use Rattle.szg_file.proofs.Tables.TableFinds.{as_many, absent, present}
use Rattle.szg_file.proofs.table.Table.find.Goals as goal

pub returns-in_err-number-clause-found : goal.returns-in_err-number-clause-found
returns-in_err-number-clause-found c =
    rw c.from_residual.ensures
    (subst (λ (t : Shown). subtable_at t.contents c.args.part c.args.side ≡ None) c.self.view_is (absent (the_view c.self.inside).contents c.args.part c.args.side c.in_err-number.ensures))

pub index-requires : goal.index-requires
index-requires c =
    let lt = at_position c.args.part c.args.side _ c.in_ok-number.field-0.number c.in_ok-number.ensures.number_is in
    let many = as_many (the_view c.self.inside).contents c.self.inside.filled.items c.self.inside.subs.items c.self.invariant.0 refl in
    omega (arith, lt, many)

found_here : (c : goal.After-slot) → IsFound (subtable_at c.args.self.now.contents c.args.part c.args.side) c.slot.inside.size (subtable_of c.index.result.now)
    × (IsShaped c.index.result.now c.slot.inside.size × IsSoundOver c.index.result.now (packed_of c.index.result.now) c.slot.inside.size)
found_here c =
    let n = c.in_ok-number.field-0.number in
    let lt = at_position c.args.part c.args.side _ n c.in_ok-number.ensures.number_is in
    let many = as_many (the_view c.self.inside).contents c.self.inside.filled.items c.self.inside.subs.items c.self.invariant.0 refl in
    let below : n < length c.self.inside.subs.items = omega (arith, lt, many) in
    subst (λ (t : Shown). IsFound (subtable_at t.contents c.args.part c.args.side) c.slot.inside.size (subtable_of c.index.result.now)
    × (IsShaped c.index.result.now c.slot.inside.size × IsSoundOver c.index.result.now (packed_of c.index.result.now) c.slot.inside.size)) c.self.view_is
    (present (the_view c.self.inside).contents c.self.inside.filled.items c.self.inside.subs.items c.args.part c.args.side n c.slot.inside.size c.in_ok-number.field-0.slot c.index.result.now
    c.self.invariant.0 refl c.in_ok-number.ensures.number_is c.in_ok-number.ensures.slot_is below c.index.ensures (ap (λ (s : Slot). s.size) c.slot.view_is))

pub returns-clause-found : goal.returns-clause-found
returns-clause-found c = (found_here c).0

pub returns-clause-accepted : goal.returns-clause-accepted
returns-clause-accepted c = (found_here c).1
