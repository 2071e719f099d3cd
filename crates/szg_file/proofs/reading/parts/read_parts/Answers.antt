use Rattle.std.proofs.Common.{◌≡◌, ◌+◌, ◌-◌, ◌<◌, ◌++◌, ◌∷◌, [], length, map, List, ℕ, suc, arith, refl, ap, sym, ◌∙◌, Ok, Err}
use Rattle.std.specs.Prelude.{Result}
use Rattle.std.specs.List.{range_with_len}
use Rattle.std.proofs.lemmas.Result.{err_from_is_err_and}
use Rattle.std.proofs.lemmas.List.{length-append, length-map, map-append}
use Rattle.szg_values.specs.Material.{Sides}
use Rattle.szg_file.specs.Contents.{Part, Slot, slots_from, part_slots, side_numbers}
use Rattle.szg_file.specs.Format.{Format, means}
use Rattle.szg_file.specs.File.{each, part_field}
use Rattle.szg_file.specs.Held.{part_of}
use Rattle.szg_file.specs.declared.table.PartBytes.{PartBytes}
use Rattle.szg_file.specs.declared.fault.ReadFault.{ReadFault}
use Rattle.szg_file.specs.declared.fault.ReadFault.TheVariants.{Memory}
use Rattle.szg_file.proofs.Readers.ReadingLaws.{reads_nothing, reads_more, reads_more_stopped}
use Rattle.szg_file.proofs.Readers.LoopReads.{reads_lacking}
use Rattle.szg_file.proofs.Readers.Taken.{reads_as, reads_equal}
use Rattle.szg_file.proofs.Readers.PartLaws.{slots_few, slots-more, numbers-more, numbers-split}
use Rattle.szg_file.specs.Grown.{part_length}
use Rattle.szg_file.proofs.Readers.Grown.{none_yet, one_more}
use Rattle.szg_file.proofs.reading.parts.read_parts.Goals as goal

-- all numbers below `end`: those before `part`, `part`, those after it
numbers_at : (numbers : List ℕ) (end part : ℕ) → numbers ≡ range_with_len 0 end → part < end →
    numbers ≡ range_with_len 0 part ++ part ∷ range_with_len (part + 1) (end - part - 1)
numbers_at numbers end part e h =
    let there : end ≡ part + suc (end - part - 1) = omega (arith, h) in
    let here : 0 + part ≡ part = omega arith in
    e ∙ ap (range_with_len 0) there ∙ numbers-split 0 part (end - part - 1)
    ∙ ap (λ (k : ℕ). range_with_len 0 part ++ k ∷ range_with_len (k + 1) (end - part - 1)) here

-- the bytes of a part
abbrev bytes_of_part : PartBytes → ℕ
bytes_of_part part = part_length (part_of part)

fault_of : Result (Unit {0}) ReadFault → ReadFault
fault_of (Ok x) = Memory
fault_of (Err fault) = fault

fault_inside : (fault : ReadFault) → (let answer : Result (Unit {0}) ReadFault = Err fault in answer ≡ Err Memory) → fault ≡ Memory
unfolding fault_of
fault_inside fault e = ap fault_of e

pub parts-init : goal.parts-init
parts-init g c =
    let none = c.new.ensures.items in (
      reads_nothing (means []) _ tt (ap means (sym (ap (map part_of) none))),
      c.new-2.ensures ∙ sym (ap (λ (z : List PartBytes). slots_from c.args.material.now (side_numbers c.args.material.now c.args.kind) 0 (map part_of z)) none),
      ap length none,
      omega (arith, ap length c.new-2.ensures),
      omega arith,
      omega arith,
      omega (arith, none_yet bytes_of_part c.new.result.items none),
    )

pub read_part-requires-clause-part : goal.read_part-requires-clause-part
read_part-requires-clause-part g c = c.part_count-part-end.ensures.parts c.parts.part c.parts-test.true

pub returns-in_err-bytes-clause-parts : goal.returns-in_err-bytes-clause-parts
returns-in_err-bytes-clause-parts g c =
    let p = err_from_is_err_and c.from_residual.result c.from_residual.ensures.1 in
    let one : ℕ → Format Part = λ _. part_field c.args.material.now c.args.kind in
    let e = numbers_at _ c.part_count-part-end.result c.parts.part c.part_count-part-end.ensures.numbers c.parts-test.true in
    let stopped = reads_more_stopped one (range_with_len 0 c.parts.part) c.parts.part (range_with_len (c.parts.part + 1) (c.part_count-part-end.result - c.parts.part - 1))
    _ _ (λ parts. map part_of parts.bytes.items) tt c.in_err-bytes.field-0.0 c.parts.invariant.0 c.in_err-bytes.ensures.part in
    rw (p.1, p.2) (reads_equal _ _ _ (Err c.in_err-bytes.field-0.0) (ap (each one) (sym e)) stopped)

pub returns-in_err-append-clause-parts : goal.returns-in_err-append-clause-parts
returns-in_err-append-clause-parts g c =
    let p = err_from_is_err_and c.from_residual-in_err-append.result c.from_residual-in_err-append.ensures.1 in
    let one : ℕ → Format Part = λ _. part_field c.args.material.now c.args.kind in
    let e = numbers_at _ c.part_count-part-end.result c.parts.part c.part_count-part-end.ensures.numbers c.parts-test.true in
    let stopped = reads_more_stopped one (range_with_len 0 c.parts.part) c.parts.part (range_with_len (c.parts.part + 1) (c.part_count-part-end.result - c.parts.part - 1))
    _ _ (λ parts. map part_of parts.bytes.items) tt Memory c.parts.invariant.0
    (reads_lacking (one c.parts.part) part_of part_of c.in_ok-bytes.bytes c.in_ok-bytes.ensures.part) in
    let fault : c.in_err-append.field-0.0 ≡ Memory = fault_inside c.in_err-append.field-0.0 c.in_err-append.ensures.memory in
    rw (p.1, p.2, fault) (reads_equal _ _ _ (Err Memory) (ap (each one) (sym e)) stopped)

pub parts-preserved : goal.parts-preserved
parts-preserved g c =
    let one : ℕ → Format Part = λ _. part_field c.args.material.now c.args.kind in
    let m : Sides = c.args.material.now in
    let sides : List ℕ = side_numbers m c.args.kind in
    let i : ℕ = c.parts.part in
    let pushed : map part_of c.append.new.list.items ≡ map part_of c.parts.parts.bytes.items ++ part_of c.in_ok-bytes.bytes ∷ [] =
    ap (map part_of) c.in_ok-append.ensures.items ∙ map-append part_of c.parts.parts.bytes.items (c.in_ok-bytes.bytes ∷ []) in
    let read = reads_more one (range_with_len 0 i) i _ part_of
    (λ (_ : Unit {0}). map part_of c.append.new.list.items) tt c.in_ok-bytes.bytes tt pushed
    c.parts.invariant.0
    (reads_as (one i) (one i) part_of part_of c.in_ok-bytes.bytes c.in_ok-bytes.bytes refl refl c.in_ok-append.ensures.place c.in_ok-append.ensures.fill c.in_ok-bytes.ensures.part) in
    let count : length (map part_of c.parts.parts.bytes.items) ≡ i = length-map c.parts.parts.bytes.items part_of ∙ c.parts.invariant.2 in
    let place : 0 + length (map part_of c.parts.parts.bytes.items) ≡ i = omega (arith, count) in
    let one_slots : List Slot = part_slots m sides i (part_of c.in_ok-bytes.bytes) in
    let slots : c.read_part.new.slots.items ≡ slots_from m sides 0 (map part_of c.append.new.list.items) =
    c.in_ok-bytes.ensures.slots
    ∙ ap (λ (z : List Slot). z ++ one_slots) c.parts.invariant.1
    ∙ ap (λ (k : ℕ). slots_from m sides 0 (map part_of c.parts.parts.bytes.items) ++ part_slots m sides k (part_of c.in_ok-bytes.bytes)) (sym place)
    ∙ sym (slots-more m sides 0 (map part_of c.parts.parts.bytes.items) (part_of c.in_ok-bytes.bytes))
    ∙ ap (λ (z : List Part). slots_from m sides 0 z) (sym pushed) in (
      reads_equal _ (each one (range_with_len 0 (i + 1))) _ (Ok tt) (ap (each one) (sym (numbers-more i))) read,
      slots,
      ap length c.in_ok-append.ensures.items ∙ length-append c.parts.parts.bytes.items (c.in_ok-bytes.bytes ∷ []) ∙ ap (λ (n : ℕ). n + 1) c.parts.invariant.2,
      omega (
        arith,
        ap length c.in_ok-bytes.ensures.slots,
        length-append c.parts.parts.slots.items one_slots,
        slots_few m c.args.kind i (part_of c.in_ok-bytes.bytes),
        c.parts.invariant.3,
      ),
      omega (arith, c.parts.invariant.4, c.in_ok-bytes.ensures.place, c.in_ok-append.ensures.place),
      omega (arith, c.parts.invariant.5, c.in_ok-bytes.ensures.growth, c.in_ok-append.ensures.growth, c.in_ok-append.ensures.place, c.in_ok-bytes.ensures.part.answer.0.place),
      omega (
        arith,
        one_more bytes_of_part c.parts.parts.bytes.items c.append.new.list.items c.in_ok-bytes.bytes c.in_ok-append.ensures.items,
        c.parts.invariant.6,
        c.in_ok-bytes.ensures.grown,
        c.in_ok-append.ensures.growth,
        ap length c.in_ok-append.ensures.fill,
      ),
    )
