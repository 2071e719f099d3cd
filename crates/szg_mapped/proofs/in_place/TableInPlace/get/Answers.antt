use Rattle.std.proofs.Common.{◌≡◌, ℕ, ◌+◌, ◌-◌, ◌<◌, ◌≤◌, List, length, take, drop, Option, false, true, refl, sym, ap, subst, ◌∙◌, arith, get_or}
use Rattle.std.specs.Prelude.{IsSomeAnd}
use Rattle.szg_values.specs.declared.Kind.{Kind}
use Rattle.szg_block.specs.BlocksTrait.{bytes_at}
use Rattle.szg_file.specs.Contents.{Slot}
use Rattle.szg_file.specs.Index.{slots_in}
use Rattle.szg_mapped.specs.InPlace.{InPlace, IsInPlace}
use Rattle.szg_file.specs.Lookup.{byte_of}
use Rattle.szg_file.specs.Values.{constant_value}
use Rattle.szg_mapped.proofs.InPlaceValues.{no_slot, sub_below, value_below, sub_found, is_known, within_bytes, bits_here, symbols_here, constant_held, constant_here, counted_here, spelled_here, value_here, fault_here, passed_here}
use Rattle.szg_mapped.proofs.in_place.TableInPlace.get.Goals as goal

-- the bytes that were sliced
part_is : (offset count : ℕ) (bytes content : List ℕ) → bytes ≡ content → take (offset + count - offset) (drop offset bytes) ≡ bytes_at content offset count
part_is offset count bytes content e =
    let k : offset + count - offset ≡ count = omega arith in
    ap (λ (n : ℕ). take n (drop offset bytes)) k ∙ ap (λ (z : List ℕ). bytes_at z offset count) e

pub unreachable-requires : goal.unreachable-requires
unreachable-requires c =
    let t = c.args.self.now in
    let subs = c.self.inside.subs.items in
    let own : IsInPlace t.index t.content subs = subst (λ (t : InPlace). IsInPlace t.index t.content subs) c.self.view_is c.self.invariant in
    let same = c.slots-slots.ensures.slots ∙ ap (λ (t : InPlace). slots_in t.index) c.self.view_is in
    subst (λ (o : Option Slot). IsSomeAnd o (λ slot. c.args.i < slot.size)) (no_slot t.index t.content subs own c.slots-slots.result.now same c.args.part c.args.side (sym c.in_default.ensures)) c.requires.below

pub index-sub-requires : goal.index-sub-requires
index-sub-requires c =
    let t = c.args.self.now in
    let subs = c.self.inside.subs.items in
    let own : IsInPlace t.index t.content subs = subst (λ (t : InPlace). IsInPlace t.index t.content subs) c.self.view_is c.self.invariant in
    let same = c.slots-slots.ensures.slots ∙ ap (λ (t : InPlace). slots_in t.index) c.self.view_is in
    let below = sub_below t.index t.content subs own c.slots-slots.result.now same c.args.part c.args.side c.in-Some.n (sym c.in-Some.ensures) in
    omega (arith, below)

pub returns-then-is_constant-clause-value : goal.returns-then-is_constant-clause-value
returns-then-is_constant-clause-value c =
    let t = c.args.self.now in
    let subs = c.self.inside.subs.items in
    let own : IsInPlace t.index t.content subs = subst (λ (t : InPlace). IsInPlace t.index t.content subs) c.self.view_is c.self.invariant in
    let same = c.slots-slots.ensures.slots ∙ ap (λ (t : InPlace). slots_in t.index) c.self.view_is in
    let slot : Slot = c.index-slots-n.result in
    let read = c.index-slots-n.is in
    let sub = c.index-sub.result.now in
    let found = sub_found t.index t.content subs own c.slots-slots.result.now same c.args.part c.args.side c.in-Some.n (sym c.in-Some.ensures) slot read sub c.index-sub.ensures in
    let is = c.constant_value.ensures ∙ ap (λ (k : Kind). constant_value k (byte_of sub.placed.sub)) (c.kind.ensures ∙ ap (λ (t : InPlace). t.index.kind) c.self.view_is) in
    constant_here t.index t.content c.args.part c.args.side slot sub found c.args.i _ (c.if-is_constant.ensures.0 refl) is

pub block_for-requires-clause-below : goal.block_for-requires-clause-below
block_for-requires-clause-below c =
    let t = c.args.self.now in
    let subs = c.self.inside.subs.items in
    let own : IsInPlace t.index t.content subs = subst (λ (t : InPlace). IsInPlace t.index t.content subs) c.self.view_is c.self.invariant in
    let same = c.slots-slots.ensures.slots ∙ ap (λ (t : InPlace). slots_in t.index) c.self.view_is in
    let slot : Slot = record { part = c.slot.inside.part; side = c.slot.inside.side; size = c.slot.inside.size } in
    let read : slot ≡ get_or c.slots-slots.result.now c.in-Some.n slot = subst (λ (s : Slot). s ≡ get_or c.slots-slots.result.now c.in-Some.n s) (sym c.slot.view_is) c.index-slots-n.is in
    value_below t.index t.content subs own c.slots-slots.result.now same c.args.part c.args.side c.in-Some.n (sym c.in-Some.ensures) slot read c.args.i c.requires.below

pub block_for-requires-clause-inside : goal.block_for-requires-clause-inside
block_for-requires-clause-inside c =
    let t = c.args.self.now in
    let subs = c.self.inside.subs.items in
    let own : IsInPlace t.index t.content subs = subst (λ (t : InPlace). IsInPlace t.index t.content subs) c.self.view_is c.self.invariant in
    let same = c.slots-slots.ensures.slots ∙ ap (λ (t : InPlace). slots_in t.index) c.self.view_is in
    let slot : Slot = record { part = c.slot.inside.part; side = c.slot.inside.side; size = c.slot.inside.size } in
    let read : slot ≡ get_or c.slots-slots.result.now c.in-Some.n slot = subst (λ (s : Slot). s ≡ get_or c.slots-slots.result.now c.in-Some.n s) (sym c.slot.view_is) c.index-slots-n.is in
    let sub = c.index-sub.result.now in
    let found = sub_found t.index t.content subs own c.slots-slots.result.now same c.args.part c.args.side c.in-Some.n (sym c.in-Some.ensures) slot read sub c.index-sub.ensures in
    let within = within_bytes t.index t.content c.args.part c.args.side slot sub found in
    omega (arith, within, found.short)

pub block_for-requires-clause-bits : goal.block_for-requires-clause-bits
block_for-requires-clause-bits c =
    let t = c.args.self.now in
    let subs = c.self.inside.subs.items in
    let own : IsInPlace t.index t.content subs = subst (λ (t : InPlace). IsInPlace t.index t.content subs) c.self.view_is c.self.invariant in
    let same = c.slots-slots.ensures.slots ∙ ap (λ (t : InPlace). slots_in t.index) c.self.view_is in
    let slot : Slot = record { part = c.slot.inside.part; side = c.slot.inside.side; size = c.slot.inside.size } in
    let read : slot ≡ get_or c.slots-slots.result.now c.in-Some.n slot = subst (λ (s : Slot). s ≡ get_or c.slots-slots.result.now c.in-Some.n s) (sym c.slot.view_is) c.index-slots-n.is in
    let sub = c.index-sub.result.now in
    let found = sub_found t.index t.content subs own c.slots-slots.result.now same c.args.part c.args.side c.in-Some.n (sym c.in-Some.ensures) slot read sub c.index-sub.ensures in
    bits_here t.index t.content c.args.part c.args.side slot sub found

-- the bytes that were checked lead to a block
pub returns-in_default-block_for-clause-fault : goal.returns-in_default-block_for-clause-fault
returns-in_default-block_for-clause-fault c =
    let t = c.args.self.now in
    let subs = c.self.inside.subs.items in
    let own : IsInPlace t.index t.content subs = subst (λ (t : InPlace). IsInPlace t.index t.content subs) c.self.view_is c.self.invariant in
    let same = c.slots-slots.ensures.slots ∙ ap (λ (t : InPlace). slots_in t.index) c.self.view_is in
    let slot : Slot = record { part = c.slot.inside.part; side = c.slot.inside.side; size = c.slot.inside.size } in
    let read : slot ≡ get_or c.slots-slots.result.now c.in-Some.n slot = subst (λ (s : Slot). s ≡ get_or c.slots-slots.result.now c.in-Some.n s) (sym c.slot.view_is) c.index-slots-n.is in
    let sub = c.index-sub.result.now in
    let found = sub_found t.index t.content subs own c.slots-slots.result.now same c.args.part c.args.side c.in-Some.n (sym c.in-Some.ensures) slot read sub c.index-sub.ensures in
    let known = is_known t.index t.content c.args.part c.args.side slot sub found in
    let none = c.in_default-block_for.ensures.found found.placed found.stands known.0 known.1 in
    let no : false ≡ true = c.if-is_constant.ensures.1 (constant_held found.placed.sub sub.placed.sub found.stands.head none) in
    absurd (cc no)

pub overflow_add-block : goal.overflow_add-block
overflow_add-block c =
    let t = c.args.self.now in
    let subs = c.self.inside.subs.items in
    let own : IsInPlace t.index t.content subs = subst (λ (t : InPlace). IsInPlace t.index t.content subs) c.self.view_is c.self.invariant in
    let same = c.slots-slots.ensures.slots ∙ ap (λ (t : InPlace). slots_in t.index) c.self.view_is in
    let slot : Slot = record { part = c.slot.inside.part; side = c.slot.inside.side; size = c.slot.inside.size } in
    let read : slot ≡ get_or c.slots-slots.result.now c.in-Some.n slot = subst (λ (s : Slot). s ≡ get_or c.slots-slots.result.now c.in-Some.n s) (sym c.slot.view_is) c.index-slots-n.is in
    let sub = c.index-sub.result.now in
    let found = sub_found t.index t.content subs own c.slots-slots.result.now same c.args.part c.args.side c.in-Some.n (sym c.in-Some.ensures) slot read sub c.index-sub.ensures in
    let within = within_bytes t.index t.content c.args.part c.args.side slot sub found in
    omega (arith, within, found.short, c.in-Some-block_for.ensures.there)

pub slice_bounds-block-end : goal.slice_bounds-block-end
slice_bounds-block-end c =
    let t = c.args.self.now in
    let subs = c.self.inside.subs.items in
    let own : IsInPlace t.index t.content subs = subst (λ (t : InPlace). IsInPlace t.index t.content subs) c.self.view_is c.self.invariant in
    let same = c.slots-slots.ensures.slots ∙ ap (λ (t : InPlace). slots_in t.index) c.self.view_is in
    let slot : Slot = record { part = c.slot.inside.part; side = c.slot.inside.side; size = c.slot.inside.size } in
    let read : slot ≡ get_or c.slots-slots.result.now c.in-Some.n slot = subst (λ (s : Slot). s ≡ get_or c.slots-slots.result.now c.in-Some.n s) (sym c.slot.view_is) c.index-slots-n.is in
    let sub = c.index-sub.result.now in
    let found = sub_found t.index t.content subs own c.slots-slots.result.now same c.args.part c.args.side c.in-Some.n (sym c.in-Some.ensures) slot read sub c.index-sub.ensures in
    let within = within_bytes t.index t.content c.args.part c.args.side slot sub found in
    let long : length c.self.inside.bytes.now ≡ length t.content = ap (λ (t : InPlace). length t.content) c.self.view_is in
    let inside : c.in-Some-block_for.found.spot.offset + c.in-Some-block_for.found.spot.count ≤ length c.self.inside.bytes.now = omega (arith, within, long, c.in-Some-block_for.ensures.there) in
    inside

pub value_in_block-requires-clause-pairs : goal.value_in_block-requires-clause-pairs
value_in_block-requires-clause-pairs c =
    let t = c.args.self.now in
    let subs = c.self.inside.subs.items in
    let own : IsInPlace t.index t.content subs = subst (λ (t : InPlace). IsInPlace t.index t.content subs) c.self.view_is c.self.invariant in
    let same = c.slots-slots.ensures.slots ∙ ap (λ (t : InPlace). slots_in t.index) c.self.view_is in
    let slot : Slot = record { part = c.slot.inside.part; side = c.slot.inside.side; size = c.slot.inside.size } in
    let read : slot ≡ get_or c.slots-slots.result.now c.in-Some.n slot = subst (λ (s : Slot). s ≡ get_or c.slots-slots.result.now c.in-Some.n s) (sym c.slot.view_is) c.index-slots-n.is in
    let sub = c.index-sub.result.now in
    let found = sub_found t.index t.content subs own c.slots-slots.result.now same c.args.part c.args.side c.in-Some.n (sym c.in-Some.ensures) slot read sub c.index-sub.ensures in
    symbols_here t.index t.content c.args.part c.args.side slot sub found (λ none. let no : false ≡ true = c.if-is_constant.ensures.1 none in absurd (cc no))

pub note-requires : goal.note-requires
note-requires c =
    let t = c.args.self.now in
    let subs = c.self.inside.subs.items in
    let own : IsInPlace t.index t.content subs = subst (λ (t : InPlace). IsInPlace t.index t.content subs) c.self.view_is c.self.invariant in
    let same = c.slots-slots.ensures.slots ∙ ap (λ (t : InPlace). slots_in t.index) c.self.view_is in
    let slot : Slot = record { part = c.slot.inside.part; side = c.slot.inside.side; size = c.slot.inside.size } in
    let read : slot ≡ get_or c.slots-slots.result.now c.in-Some.n slot = subst (λ (s : Slot). s ≡ get_or c.slots-slots.result.now c.in-Some.n s) (sym c.slot.view_is) c.index-slots-n.is in
    let sub = c.index-sub.result.now in
    let found = sub_found t.index t.content subs own c.slots-slots.result.now same c.args.part c.args.side c.in-Some.n (sym c.in-Some.ensures) slot read sub c.index-sub.ensures in
    let known = is_known t.index t.content c.args.part c.args.side slot sub found in
    let needs = c.in-Some-block_for.ensures.found found.placed found.stands known.0 known.1 in
    counted_here t.index t.content c.args.part c.args.side slot sub found c.args.i c.in-Some-block_for.found needs c.block_count.result c.block_count.ensures.blocks

pub returns-then-not-is_noted-clause-value : goal.returns-then-not-is_noted-clause-value
returns-then-not-is_noted-clause-value c =
    let t = c.args.self.now in
    let subs = c.self.inside.subs.items in
    let own : IsInPlace t.index t.content subs = subst (λ (t : InPlace). IsInPlace t.index t.content subs) c.self.view_is c.self.invariant in
    let same = c.slots-slots.ensures.slots ∙ ap (λ (t : InPlace). slots_in t.index) c.self.view_is in
    let slot : Slot = record { part = c.slot.inside.part; side = c.slot.inside.side; size = c.slot.inside.size } in
    let read : slot ≡ get_or c.slots-slots.result.now c.in-Some.n slot = subst (λ (s : Slot). s ≡ get_or c.slots-slots.result.now c.in-Some.n s) (sym c.slot.view_is) c.index-slots-n.is in
    let sub = c.index-sub.result.now in
    let found = sub_found t.index t.content subs own c.slots-slots.result.now same c.args.part c.args.side c.in-Some.n (sym c.in-Some.ensures) slot read sub c.index-sub.ensures in
    let known = is_known t.index t.content c.args.part c.args.side slot sub found in
    let needs = c.in-Some-block_for.ensures.found found.placed found.stands known.0 known.1 in
    let at = c.in-Some-block_for.found in
    let bytes = part_is at.spot.offset at.spot.count c.self.inside.bytes.now t.content (ap (λ (t : InPlace). t.content) c.self.view_is) in
    let spelled = spelled_here t.index t.content c.args.part c.args.side slot sub found c.args.i at needs _ bytes c.has-is_noted.result c.args.passed.now c.has-is_noted.ensures c.requires.passed c.in-Ok.ensures.verified in
    value_here t.index t.content c.args.part c.args.side slot sub found c.args.i at needs _ bytes c.in-Ok.value_found spelled c.in-Ok.ensures.value

pub returns-then-not-is_noted-clause-passed : goal.returns-then-not-is_noted-clause-passed
returns-then-not-is_noted-clause-passed c =
    let t = c.args.self.now in
    let subs = c.self.inside.subs.items in
    let own : IsInPlace t.index t.content subs = subst (λ (t : InPlace). IsInPlace t.index t.content subs) c.self.view_is c.self.invariant in
    let same = c.slots-slots.ensures.slots ∙ ap (λ (t : InPlace). slots_in t.index) c.self.view_is in
    let slot : Slot = record { part = c.slot.inside.part; side = c.slot.inside.side; size = c.slot.inside.size } in
    let read : slot ≡ get_or c.slots-slots.result.now c.in-Some.n slot = subst (λ (s : Slot). s ≡ get_or c.slots-slots.result.now c.in-Some.n s) (sym c.slot.view_is) c.index-slots-n.is in
    let sub = c.index-sub.result.now in
    let found = sub_found t.index t.content subs own c.slots-slots.result.now same c.args.part c.args.side c.in-Some.n (sym c.in-Some.ensures) slot read sub c.index-sub.ensures in
    let known = is_known t.index t.content c.args.part c.args.side slot sub found in
    let needs = c.in-Some-block_for.ensures.found found.placed found.stands known.0 known.1 in
    let at = c.in-Some-block_for.found in
    let bytes = part_is at.spot.offset at.spot.count c.self.inside.bytes.now t.content (ap (λ (t : InPlace). t.content) c.self.view_is) in
    let spelled = spelled_here t.index t.content c.args.part c.args.side slot sub found c.args.i at needs _ bytes c.has-is_noted.result c.args.passed.now c.has-is_noted.ensures c.requires.passed c.in-Ok.ensures.verified in
    passed_here t.index t.content c.args.part c.args.side slot sub found c.args.i at needs _ bytes c.args.passed.now c.note.new.self spelled c.requires.passed c.note.ensures

pub returns-else-not-is_noted-clause-value : goal.returns-else-not-is_noted-clause-value
returns-else-not-is_noted-clause-value c =
    let t = c.args.self.now in
    let subs = c.self.inside.subs.items in
    let own : IsInPlace t.index t.content subs = subst (λ (t : InPlace). IsInPlace t.index t.content subs) c.self.view_is c.self.invariant in
    let same = c.slots-slots.ensures.slots ∙ ap (λ (t : InPlace). slots_in t.index) c.self.view_is in
    let slot : Slot = record { part = c.slot.inside.part; side = c.slot.inside.side; size = c.slot.inside.size } in
    let read : slot ≡ get_or c.slots-slots.result.now c.in-Some.n slot = subst (λ (s : Slot). s ≡ get_or c.slots-slots.result.now c.in-Some.n s) (sym c.slot.view_is) c.index-slots-n.is in
    let sub = c.index-sub.result.now in
    let found = sub_found t.index t.content subs own c.slots-slots.result.now same c.args.part c.args.side c.in-Some.n (sym c.in-Some.ensures) slot read sub c.index-sub.ensures in
    let known = is_known t.index t.content c.args.part c.args.side slot sub found in
    let needs = c.in-Some-block_for.ensures.found found.placed found.stands known.0 known.1 in
    let at = c.in-Some-block_for.found in
    let bytes = part_is at.spot.offset at.spot.count c.self.inside.bytes.now t.content (ap (λ (t : InPlace). t.content) c.self.view_is) in
    let spelled = spelled_here t.index t.content c.args.part c.args.side slot sub found c.args.i at needs _ bytes c.has-is_noted.result c.args.passed.now c.has-is_noted.ensures c.requires.passed c.in-Ok.ensures.verified in
    value_here t.index t.content c.args.part c.args.side slot sub found c.args.i at needs _ bytes c.in-Ok.value_found spelled c.in-Ok.ensures.value

pub returns-in-Err-clause-fault : goal.returns-in-Err-clause-fault
returns-in-Err-clause-fault c =
    let t = c.args.self.now in
    let subs = c.self.inside.subs.items in
    let own : IsInPlace t.index t.content subs = subst (λ (t : InPlace). IsInPlace t.index t.content subs) c.self.view_is c.self.invariant in
    let same = c.slots-slots.ensures.slots ∙ ap (λ (t : InPlace). slots_in t.index) c.self.view_is in
    let slot : Slot = record { part = c.slot.inside.part; side = c.slot.inside.side; size = c.slot.inside.size } in
    let read : slot ≡ get_or c.slots-slots.result.now c.in-Some.n slot = subst (λ (s : Slot). s ≡ get_or c.slots-slots.result.now c.in-Some.n s) (sym c.slot.view_is) c.index-slots-n.is in
    let sub = c.index-sub.result.now in
    let found = sub_found t.index t.content subs own c.slots-slots.result.now same c.args.part c.args.side c.in-Some.n (sym c.in-Some.ensures) slot read sub c.index-sub.ensures in
    let known = is_known t.index t.content c.args.part c.args.side slot sub found in
    let needs = c.in-Some-block_for.ensures.found found.placed found.stands known.0 known.1 in
    let at = c.in-Some-block_for.found in
    let bytes = part_is at.spot.offset at.spot.count c.self.inside.bytes.now t.content (ap (λ (t : InPlace). t.content) c.self.view_is) in
    fault_here t.index t.content c.args.part c.args.side slot sub found c.args.i at needs _ bytes c.in-Err.ensures.few
