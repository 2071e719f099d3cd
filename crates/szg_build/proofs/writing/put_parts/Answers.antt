use Rattle.std.proofs.Common.{map, arith}
use Rattle.std.proofs.lemmas.List.{length-map}
use Rattle.std.proofs.lemmas.Result.{err_from_is_err_and}
use Rattle.szg_file.specs.Contents.{part_numbers}
use Rattle.szg_file.specs.Held.{part_of}
use Rattle.szg_build.specs.Text.{part_lines}
use Rattle.szg_build.proofs.Writers.WritingLaws.{writes_beside, writes_beside_stopped, writes_beside_all, writes_as, parse_part, number_count}
use Rattle.szg_build.proofs.writing.put_parts.Goals as goal

pub parts-preserved : goal.parts-preserved
parts-preserved g c =
    let parts = c.args.parts.now in
    let numbers = part_numbers c.args.material.now in
    let x = c.index-parts-number.result in
    let stated = parse_part part_of parts numbers c.part_count.result c.parts.number x c.part_count.ensures.numbers
    (omega (arith, c.parts-test.true, c.min-number-end.ensures, c.from.ensures)) (omega (arith, c.parts-test.true, c.min-number-end.ensures)) c.index-parts-number.is in
    writes_beside part_lines numbers (map part_of parts) c.parts.number 0 (part_of x) c.in_ok-put_part.field-0 stated.0 stated.1 c.parts.invariant (writes_as stated.2 c.in_ok-put_part.ensures)

pub returns-in_err-put_part : goal.returns-in_err-put_part
returns-in_err-put_part g c =
    let p = err_from_is_err_and c.from_residual.result c.from_residual.ensures.1 in
    let parts = c.args.parts.now in
    let numbers = part_numbers c.args.material.now in
    let x = c.index-parts-number.result in
    let stated = parse_part part_of parts numbers c.part_count.result c.parts.number x c.part_count.ensures.numbers
    (omega (arith, c.parts-test.true, c.min-number-end.ensures, c.from.ensures)) (omega (arith, c.parts-test.true, c.min-number-end.ensures)) c.index-parts-number.is in
    rw (p.1, p.2) (writes_beside_stopped part_lines numbers (map part_of parts) c.parts.number 0 (part_of x) c.in_err-put_part.field-0.0 stated.0 stated.1 c.parts.invariant (writes_as stated.2 c.in_err-put_part.ensures))

pub returns : goal.returns
returns g c =
    let parts = c.args.parts.now in
    let numbers = part_numbers c.args.material.now in
    writes_beside_all part_lines numbers (map part_of parts) c.parts.number
    (omega (arith, c.parts-test.false, c.min-number-end.ensures, c.from.ensures, length-map parts part_of, number_count numbers c.part_count.result c.part_count.ensures.numbers)) c.parts.invariant
