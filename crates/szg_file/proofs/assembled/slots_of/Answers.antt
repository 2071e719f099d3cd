use Rattle.std.proofs.Common.{◌≡◌, ◌+◌, ◌++◌, ◌∷◌, [], ℕ, List, length, map, take, ap, sym, subst, ◌∙◌, arith, rules}
use Rattle.std.specs.List.{AllByRecursion}
use Rattle.std.proofs.lemmas.List.{length-append, length-map, length-take, take_all}
use Rattle.std.proofs.lemmas.List.FromFn.{length-range_with_len}
use Rattle.szg_values.specs.Material.{Sides}
use Rattle.szg_file.specs.Accepted.{IsPart}
use Rattle.szg_file.specs.Contents.{Part, Slot, slots_from, part_slots, part_numbers, side_numbers}
use Rattle.szg_file.specs.Held.{part_of}
use Rattle.szg_file.specs.Parts.{part_with}
use Rattle.szg_file.specs.declared.table.PartBytes.{PartBytes}
use Rattle.szg_file.proofs.Tables.AssembledLaws.{map_next, all_next, all_at, sides_of_all, all_of_sides, orders_are_valid, orders_fail}
use Rattle.szg_file.proofs.Readers.PartLaws.{slots-more, slots_few}
use Rattle.szg_file.proofs.Tables.TableFinds.{side_lengths}
use Rattle.szg_file.proofs.assembled.slots_of.Goals as goal

-- the bytes of a part, borrowed as slices
lent_part : (order men : List ℕ) (part : PartBytes) → order ≡ part.order.items → men ≡ part.men.items → part_with order men ≡ part_of part
lent_part order men part e e' = ap (λ (z : List ℕ). part_with z men) e ∙ ap (λ (z : List ℕ). part_with part.order.items z) e'

pub returns-then-parts-part_count-clause-none : goal.returns-then-parts-part_count-clause-none
returns-then-parts-part_count-clause-none c = λ h.
    let same = side_lengths (λ (_ : ℕ). IsPart c.args.material.now c.args.kind) (part_numbers c.args.material.now) (map part_of c.args.parts.now) h in
    c.if-parts-part_count.true (omega (arith, same, ap length c.part_count.ensures.numbers, length-range_with_len 0 c.part_count.result, length-map c.args.parts.now part_of))

pub returns-then-order-order_count-clause-none : goal.returns-then-order-order_count-clause-none
returns-then-order-order_count-clause-none c =
    let is_valid : Part → Type 0 = IsPart c.args.material.now c.args.kind in
    let same : part_with c.as_slice-order.result.now c.as_slice-men.result.now ≡ part_of c.index-parts-n.result = lent_part _ _ c.index-parts-n.result c.as_slice-order.ensures.value c.as_slice-men.ensures.value in
    λ h. let is : IsPart c.args.material.now c.args.kind (part_with c.as_slice-order.result.now c.as_slice-men.result.now) = subst is_valid (sym same) (all_at is_valid part_of c.args.parts.now c.parts.n c.index-parts-n.result c.parts-test.true c.index-parts-n.is
    (all_of_sides is_valid (part_numbers c.args.material.now) (map part_of c.args.parts.now) h)) in
    search (rules, is.order.0, is.men.0)

pub returns-in_default-clause-none : goal.returns-in_default-clause-none
returns-in_default-clause-none c =
    let is_valid : Part → Type 0 = IsPart c.args.material.now c.args.kind in
    let same : part_with c.as_slice-order.result.now c.as_slice-men.result.now ≡ part_of c.index-parts-n.result = lent_part _ _ c.index-parts-n.result c.as_slice-order.ensures.value c.as_slice-men.ensures.value in
    λ h. orders_fail c.args.material.now c.args.kind 0 _ _ (part_with c.as_slice-order.result.now c.as_slice-men.result.now) c.in_default.ensures.refuses
    (subst is_valid (sym same) (all_at is_valid part_of c.args.parts.now c.parts.n c.index-parts-n.result c.parts-test.true c.index-parts-n.is
    (all_of_sides is_valid (part_numbers c.args.material.now) (map part_of c.args.parts.now) h))).sides

pub parts-preserved : goal.parts-preserved
parts-preserved c =
    let m : Sides = c.args.material.now in
    let sides : List ℕ = side_numbers m c.args.kind in
    let n : ℕ = c.parts.n in
    let done : List Part = map part_of (take n c.args.parts.now) in
    let one : Part = part_of c.index-parts-n.result in
    let longer : map part_of (take (n + 1) c.args.parts.now) ≡ done ++ one ∷ [] = map_next part_of c.args.parts.now n c.index-parts-n.result c.parts-test.true c.index-parts-n.is in
    let same : part_with c.as_slice-order.result.now c.as_slice-men.result.now ≡ one = lent_part _ _ c.index-parts-n.result c.as_slice-order.ensures.value c.as_slice-men.ensures.value in
    let is_part : IsPart m c.args.kind (part_with c.as_slice-order.result.now c.as_slice-men.result.now) = record {
      order = (c.if-order-order_count.false ∙ c.order_count.ensures.number, c.bytes_fit.ensures);
      men = (omega (arith, c.if-men-len.false, c.len.ensures, ap length c.men.ensures.codes), c.bytes_fit-in-parts.ensures);
      sides = orders_are_valid m c.args.kind 0 (part_with c.as_slice-order.result.now c.as_slice-men.result.now) c.in-Ok.ensures.passes;
    } in
    let pushed : c.push_slots.new.slots.items ≡ c.parts.list.items ++ part_slots m sides n one = c.in-Ok.ensures.slots ∙ ap (λ (z : Part). c.parts.list.items ++ part_slots m sides n z) same in
    let count : 0 + length done ≡ n = omega (arith, length-map (take n c.args.parts.now) part_of, length-take n c.args.parts.now, c.parts-test.true) in
    record {
      slots = pushed
          ∙ ap (λ (z : List Slot). z ++ part_slots m sides n one) c.parts.invariant.slots
          ∙ ap (λ (k : ℕ). slots_from m sides 0 done ++ part_slots m sides k one) (sym count)
          ∙ sym (slots-more m sides 0 done one)
          ∙ ap (λ (z : List Part). slots_from m sides 0 z) (sym longer);
      pass = all_next (IsPart m c.args.kind) part_of c.args.parts.now n c.index-parts-n.result c.parts-test.true c.index-parts-n.is c.parts.invariant.pass (subst (IsPart m c.args.kind) same is_part);
      few = omega (
        arith,
        ap length pushed,
        length-append c.parts.list.items (part_slots m sides n one),
        slots_few m c.args.kind n one,
        c.parts.invariant.few,
      );
    }

pub returns-clause-parts : goal.returns-clause-parts
returns-clause-parts c =
    let whole = take_all c.parts.n c.args.parts.now (omega arith) in
    let count : length (part_numbers c.args.material.now) ≡ length (map part_of c.args.parts.now) = omega (arith, ap length c.part_count.ensures.numbers, length-range_with_len 0 c.part_count.result, length-map c.args.parts.now part_of, c.if-parts-part_count.false) in
    sides_of_all (IsPart c.args.material.now c.args.kind) (part_numbers c.args.material.now) (map part_of c.args.parts.now) count
    (subst (λ z. AllByRecursion (IsPart c.args.material.now c.args.kind) (map part_of z)) whole c.parts.invariant.pass)
