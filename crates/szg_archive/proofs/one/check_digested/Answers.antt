use Rattle.std.proofs.Common.{◌≡◌, ℕ, List, Some, true, false, refl, rules, inl, inr, sym, ap, ◌∙◌}
use Rattle.szg_archive.specs.Verdicts.{found_as, is_table}
use Rattle.szg_archive.proofs.Hashing.{digested, undigested, on_err, on_ok}
use Rattle.szg_archive.proofs.one.check_digested.Goals as goal

pub returns-then-not-is_table : goal.returns-then-not-is_table
returns-then-not-is_table g c =
    let none : is_table c.in_ok-hashed.field-0.verdict ≡ false = search rules in
    rw c.undigested.ensures (undigested g.F.Input c.args.due c.args.material.now c.args.kind c.args.file c.new-fresh.result c.in_ok-hashed.field-0.input c.in_ok-hashed.field-0.verdict c.new-fresh.ensures c.in_ok-hashed.ensures none)

pub returns-then-is_err : goal.returns-then-is_err
returns-then-is_err g c =
    let table : is_table c.in_ok-hashed.field-0.verdict ≡ true = search rules in
    let failed = on_err c.read_on.result (sym c.is_err.ensures.value ∙ c.if-is_err.true) c.read_on.ensures.failed in
    rw c.undigested-then-is_err.ensures
    (
    digested g.F.Input c.args.due c.args.material.now c.args.kind c.args.file c.new-fresh.result c.in_ok-hashed.field-0.input c.read_on.new.input c.in_ok-hashed.field-0.verdict _ c.new-fresh.ensures c.in_ok-hashed.ensures table
    (inr (c.reason.result, refl, failed))
    )

pub returns : goal.returns
returns g c =
    let table : is_table c.in_ok-hashed.field-0.verdict ≡ true = search rules in
    let end = on_ok c.read_on.result (sym c.is_err.ensures.value ∙ c.if-is_err.false) c.read_on.ensures.end in
    digested g.F.Input c.args.due c.args.material.now c.args.kind c.args.file c.new-fresh.result c.in_ok-hashed.field-0.input c.read_on.new.input c.in_ok-hashed.field-0.verdict _ c.new-fresh.ensures c.in_ok-hashed.ensures table
    (inl (end, (c.read_on.ensures.rest.0, c.read_on.ensures.rest.1), ap (λ (digest : List ℕ). found_as c.in_ok-hashed.field-0.verdict (Some digest)) c.digest.ensures))
