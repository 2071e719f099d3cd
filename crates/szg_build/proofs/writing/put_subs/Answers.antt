use Rattle.std.proofs.Common.{length, ap, arith}
use Rattle.std.proofs.lemmas.Result.{err_from_is_err_and}
use Rattle.szg_build.specs.Dump.{subtable_ids_of}
use Rattle.szg_build.specs.Text.{sub_lines}
use Rattle.szg_build.specs.Shown.{form_of, sub_in, subs_seen}
use Rattle.szg_build.proofs.Writers.WritingLaws.{writes_beside, writes_beside_stopped, writes_beside_all, writes_as, subtable_shown, seen_counted}
use Rattle.szg_build.proofs.writing.put_subs.Goals as goal

pub subs-preserved : goal.subs-preserved
subs-preserved g c =
    let dump = c.args.dump.now in
    let stated = subtable_shown (form_of c.args.form) dump c.places-places.result.now c.subs.s c.places-places.ensures.places (omega (arith, c.subs-test.true, c.min-s-end.ensures)) (omega (arith, c.subs-test.true, c.min-s-end.ensures, c.count_subs.ensures)) in
    writes_beside (sub_lines (form_of c.args.form) dump.kind) (subtable_ids_of dump.material dump.kind) (subs_seen dump) c.subs.s (0, 0) (sub_in dump c.subs.s) c.in_ok-put_sub.field-0 stated.0 stated.1 c.subs.invariant
    (writes_as stated.2 c.in_ok-put_sub.ensures)

pub returns-in_err-put_sub : goal.returns-in_err-put_sub
returns-in_err-put_sub g c =
    let p = err_from_is_err_and c.from_residual.result c.from_residual.ensures.1 in
    let dump = c.args.dump.now in
    let stated = subtable_shown (form_of c.args.form) dump c.places-places.result.now c.subs.s c.places-places.ensures.places (omega (arith, c.subs-test.true, c.min-s-end.ensures)) (omega (arith, c.subs-test.true, c.min-s-end.ensures, c.count_subs.ensures)) in
    rw (p.1, p.2) (writes_beside_stopped (sub_lines (form_of c.args.form) dump.kind) (subtable_ids_of dump.material dump.kind) (subs_seen dump) c.subs.s (0, 0) (sub_in dump c.subs.s) c.in_err-put_sub.field-0.0 stated.0 stated.1 c.subs.invariant
    (writes_as stated.2 c.in_err-put_sub.ensures))

pub returns : goal.returns
returns g c =
    let dump = c.args.dump.now in
    let same = c.places-places.ensures.places in
    writes_beside_all (sub_lines (form_of c.args.form) dump.kind) (subtable_ids_of dump.material dump.kind) (subs_seen dump) c.subs.s
    (omega (arith, c.subs-test.false, c.min-s-end.ensures, c.count_subs.ensures, ap length same, seen_counted dump)) c.subs.invariant
