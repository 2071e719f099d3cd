use Rattle.std.proofs.Common.{◌+◌, ◌-◌, ◌++◌, List, [], ◌∷◌, map, refl, ap, ◌∙◌, arith, rules}
use Rattle.std.specs.List.{range_with_len}
use Rattle.std.proofs.lemmas.List.{map-append}
use Rattle.std.proofs.lemmas.Result.{err_from_is_err_and}
use Rattle.szg_file.specs.Contents.{Part}
use Rattle.szg_file.specs.Held.{part_of}
use Rattle.szg_build.specs.Fronts.{lines_after}
use Rattle.szg_build.specs.Grammar.{each, part_line}
use Rattle.szg_build.proofs.Readers.GoingLaws.{each_begun, each_more, each_stopped, each_ended, goes_unheld, same_part}
use Rattle.szg_build.proofs.Readers.LackLaws.{lacks_left, asks_range}
use Rattle.szg_build.proofs.Readers.LeastLaws.{asks_part}
use Rattle.szg_build.proofs.Readers.LineParses.{known_reads}
use Rattle.szg_build.proofs.Readers.ReadingLaws.{passed_on}
use Rattle.szg_build.proofs.reading.read_parts.Goals as goal

pub parts-init : goal.parts-init
parts-init g c = (
  each_begun part_line (map part_of c.new-parts.result.items) c.part_count-count.result (c.part_count-count.result - 0) (ap (map part_of) c.new-parts.ensures.items) (omega arith),
  omega (arith, c.requires.held, c.part_count-count.ensures.some),
)

pub returns-in_err-order-clause-lines : goal.returns-in_err-order-clause-lines
returns-in_err-order-clause-lines g c =
    let p = err_from_is_err_and c.from_residual.result c.from_residual.ensures.1 in
    let n = c.part_count-count.result in
    let i = c.parts.number-counter in
    let items = map part_of c.parts.parts.items in
    rw (p.1, p.2, c.part_count-count.ensures.numbers) (each_stopped part_line items i (n - i) (n - (i + 1)) (λ part. record { order = part.0.items; men = part.1.items }) (λ parts. map part_of parts.items) c.in_err-order.field-0.0 (omega (arith, c.parts-test.true)) c.parts.invariant.0
    (known_reads (lines_after (part_line i)) (λ part. record { order = part.0.items; men = part.1.items }) (λ text stated gave. search rules) c.in_err-order.ensures.lines))

pub returns-in_err-order-2-clause-lines : goal.returns-in_err-order-2-clause-lines
returns-in_err-order-2-clause-lines g c =
    let p = err_from_is_err_and c.from_residual-in_err-order-2.result c.from_residual-in_err-order-2.ensures.1 in
    let n = c.part_count-count.result in
    let i = c.parts.number-counter in
    let items = map part_of c.parts.parts.items in
    let here : Part = record { order = c.in_ok-order.order.items; men = c.in_ok-order.men.items } in
    let more : List Part = items ++ here ∷ [] in
    rw (p.1, p.2, c.part_count-count.ensures.numbers) (goes_unheld (λ parts. map part_of parts.items)
    (each_more part_line items more i (i + 1) (n - i) (n - (i + 1)) (λ part. record { order = part.0.items; men = part.1.items }) (c.in_ok-order.order, c.in_ok-order.men) (omega arith) (omega (arith, c.parts-test.true)) refl c.parts.invariant.0
    (known_reads (lines_after (part_line i)) (λ part. record { order = part.0.items; men = part.1.items }) (λ text stated gave. search rules) c.in_ok-order.ensures.lines)))

pub returns-in_err-men-clause-lines : goal.returns-in_err-men-clause-lines
returns-in_err-men-clause-lines g c =
    let p = err_from_is_err_and c.from_residual-in_err-men.result c.from_residual-in_err-men.ensures.1 in
    let n = c.part_count-count.result in
    let i = c.parts.number-counter in
    let items = map part_of c.parts.parts.items in
    let here : Part = record { order = c.in_ok-order.order.items; men = c.in_ok-order.men.items } in
    let more : List Part = items ++ here ∷ [] in
    rw (p.1, p.2, c.part_count-count.ensures.numbers) (goes_unheld (λ parts. map part_of parts.items)
    (each_more part_line items more i (i + 1) (n - i) (n - (i + 1)) (λ part. record { order = part.0.items; men = part.1.items }) (c.in_ok-order.order, c.in_ok-order.men) (omega arith) (omega (arith, c.parts-test.true)) refl c.parts.invariant.0
    (known_reads (lines_after (part_line i)) (λ part. record { order = part.0.items; men = part.1.items }) (λ text stated gave. search rules) c.in_ok-order.ensures.lines)))

pub returns-in_err-push-clause-lines : goal.returns-in_err-push-clause-lines
returns-in_err-push-clause-lines g c =
    let p = err_from_is_err_and c.from_residual-in_err-push.result c.from_residual-in_err-push.ensures.1 in
    let n = c.part_count-count.result in
    let i = c.parts.number-counter in
    let items = map part_of c.parts.parts.items in
    let here : Part = record { order = c.in_ok-order.order.items; men = c.in_ok-order.men.items } in
    let more : List Part = items ++ here ∷ [] in
    rw (p.1, p.2, c.part_count-count.ensures.numbers) (goes_unheld (λ parts. map part_of parts.items)
    (each_more part_line items more i (i + 1) (n - i) (n - (i + 1)) (λ part. record { order = part.0.items; men = part.1.items }) (c.in_ok-order.order, c.in_ok-order.men) (omega arith) (omega (arith, c.parts-test.true)) refl c.parts.invariant.0
    (known_reads (lines_after (part_line i)) (λ part. record { order = part.0.items; men = part.1.items }) (λ text stated gave. search rules) c.in_ok-order.ensures.lines)))

pub parts-preserved : goal.parts-preserved
parts-preserved g c =
    let n = c.part_count-count.result in
    let i = c.parts.number-counter in
    let items = map part_of c.parts.parts.items in
    let made = same_part c.in_ok-order-2.order.items c.in_ok-order.order.items c.in_ok-men.men.items c.in_ok-order.men.items (c.in_ok-order-2.ensures.items ∙ c.as_slice.ensures.value) (c.in_ok-men.ensures.items ∙ c.as_slice-in-parts.ensures.value) in (
      each_more part_line items (map part_of c.push.new.self.items) i (i + 1) (n - i) (n - (i + 1)) (λ part. record { order = part.0.items; men = part.1.items }) (c.in_ok-order.order, c.in_ok-order.men) (omega arith) (omega (arith, c.parts-test.true)) (ap (map part_of) c.in_ok-push.ensures.items ∙ map-append part_of c.parts.parts.items _ ∙ ap (λ (z : Part). items ++ z ∷ []) made) c.parts.invariant.0
          (known_reads (lines_after (part_line i)) (λ part. record { order = part.0.items; men = part.1.items }) (λ text stated gave. search rules) c.in_ok-order.ensures.lines),
      omega (arith, c.in_ok-order.ensures.following, c.from-left.ensures, c.parts-test.true),
    )

pub returns-clause-lines : goal.returns-clause-lines
returns-clause-lines g c =
    let n = c.part_count-count.result in
    let i = c.parts.number-counter in
    rw c.part_count-count.ensures.numbers (each_ended part_line (map part_of c.parts.parts.items) i (n - i) (λ parts. map part_of parts.items) c.parts.parts (omega (arith, c.parts-test.false)) refl c.parts.invariant.0)

pub returns-in_err-order-clause-memory : goal.returns-in_err-order-clause-memory
returns-in_err-order-clause-memory g c = passed_on c.from_residual.ensures.1 c.in_err-order.ensures.memory

pub returns-in_err-order-2-clause-memory : goal.returns-in_err-order-2-clause-memory
returns-in_err-order-2-clause-memory g c =
    let p = err_from_is_err_and c.from_residual-in_err-order-2.result c.from_residual-in_err-order-2.ensures.1 in
    let n = c.part_count-count.result in
    let i = c.parts.number-counter in
    let items = map part_of c.parts.parts.items in
    let here : Part = record { order = c.in_ok-order.order.items; men = c.in_ok-order.men.items } in
    let more : List Part = items ++ here ∷ [] in
    rw (p.1, p.2, c.part_count-count.ensures.numbers) (λ e. lacks_left (λ ys. more ++ ys) (each part_line (range_with_len (i + 1) (n - (i + 1)))) c.args.following (n - (i + 1))
    (each_more part_line items more i (i + 1) (n - i) (n - (i + 1)) (λ part. record { order = part.0.items; men = part.1.items }) (c.in_ok-order.order, c.in_ok-order.men) (omega arith) (omega (arith, c.parts-test.true)) refl c.parts.invariant.0
    (known_reads (lines_after (part_line i)) (λ part. record { order = part.0.items; men = part.1.items }) (λ text stated gave. search rules) c.in_ok-order.ensures.lines))
    (asks_range part_line (i + 1) (n - (i + 1)) asks_part) (omega (arith, c.in_ok-order.ensures.following, c.from-left.ensures, c.parts-test.true)))

pub returns-in_err-men-clause-memory : goal.returns-in_err-men-clause-memory
returns-in_err-men-clause-memory g c =
    let p = err_from_is_err_and c.from_residual-in_err-men.result c.from_residual-in_err-men.ensures.1 in
    let n = c.part_count-count.result in
    let i = c.parts.number-counter in
    let items = map part_of c.parts.parts.items in
    let here : Part = record { order = c.in_ok-order.order.items; men = c.in_ok-order.men.items } in
    let more : List Part = items ++ here ∷ [] in
    rw (p.1, p.2, c.part_count-count.ensures.numbers) (λ e. lacks_left (λ ys. more ++ ys) (each part_line (range_with_len (i + 1) (n - (i + 1)))) c.args.following (n - (i + 1))
    (each_more part_line items more i (i + 1) (n - i) (n - (i + 1)) (λ part. record { order = part.0.items; men = part.1.items }) (c.in_ok-order.order, c.in_ok-order.men) (omega arith) (omega (arith, c.parts-test.true)) refl c.parts.invariant.0
    (known_reads (lines_after (part_line i)) (λ part. record { order = part.0.items; men = part.1.items }) (λ text stated gave. search rules) c.in_ok-order.ensures.lines))
    (asks_range part_line (i + 1) (n - (i + 1)) asks_part) (omega (arith, c.in_ok-order.ensures.following, c.from-left.ensures, c.parts-test.true)))

pub returns-in_err-push-clause-memory : goal.returns-in_err-push-clause-memory
returns-in_err-push-clause-memory g c =
    let p = err_from_is_err_and c.from_residual-in_err-push.result c.from_residual-in_err-push.ensures.1 in
    let n = c.part_count-count.result in
    let i = c.parts.number-counter in
    let items = map part_of c.parts.parts.items in
    let here : Part = record { order = c.in_ok-order.order.items; men = c.in_ok-order.men.items } in
    let more : List Part = items ++ here ∷ [] in
    rw (p.1, p.2, c.part_count-count.ensures.numbers) (λ e. lacks_left (λ ys. more ++ ys) (each part_line (range_with_len (i + 1) (n - (i + 1)))) c.args.following (n - (i + 1))
    (each_more part_line items more i (i + 1) (n - i) (n - (i + 1)) (λ part. record { order = part.0.items; men = part.1.items }) (c.in_ok-order.order, c.in_ok-order.men) (omega arith) (omega (arith, c.parts-test.true)) refl c.parts.invariant.0
    (known_reads (lines_after (part_line i)) (λ part. record { order = part.0.items; men = part.1.items }) (λ text stated gave. search rules) c.in_ok-order.ensures.lines))
    (asks_range part_line (i + 1) (n - (i + 1)) asks_part) (omega (arith, c.in_ok-order.ensures.following, c.from-left.ensures, c.parts-test.true)))
