use Rattle.std.proofs.Common.{◌≡◌, Bool, true, false, refl, rules, inl, inr, sym, ap, ◌∙◌, if◌then◌else◌}
use Rattle.std.specs.Str.{bytes_eq}
use Rattle.szg_archive.specs.Verdicts.{is_table}
use Rattle.szg_archive.specs.declared.file_verdict.FileVerdict.TheVariants.{Differs}
use Rattle.szg_archive.proofs.Hashing.{compared, on_err, on_ok}
use Rattle.szg_archive.proofs.one.check_hashed.Goals as goal
use Rattle.szg_archive.proofs.one.check_hashed.Goals.{then-is_met, else-is_met}

pub returns-then-is_err : goal.returns-then-is_err
returns-then-is_err g c =
    let table : is_table c.in_ok-found.found ≡ true = search rules in
    let failed = on_err c.read_on.result (sym c.is_err.ensures.value ∙ c.if-is_err.true) c.read_on.ensures.failed in
    compared g.F.Input (λ m. bytes_eq (g.H.Hasher.sum_of m) c.args.due.now) c.args.material.now c.args.kind c.args.file _ c.new-hashed.result c.check_opened.new.file c.read_on.new.input c.in_ok-found.found _ c.new-hashed.ensures (search rules)
    c.in_ok-found.ensures table (inr (c.reason.result, refl, failed))

pub returns : goal.returns
returns g c =
    let table : is_table c.in_ok-found.found ≡ true = search rules in
    let end = on_ok c.read_on.result (sym c.is_err.ensures.value ∙ c.if-is_err.false) c.read_on.ensures.end in
    let met : c.if-is_met.verdict ≡ (if c.compared-input.result.1 then c.in_ok-found.found else Differs) =
    elim c.if-is_met.branch [ then-is_met w ↦ rw (w.if-is_met.true) w.verdict-is | else-is_met w ↦ rw (w.if-is_met.false) w.verdict-is ] in
    compared g.F.Input (λ m. bytes_eq (g.H.Hasher.sum_of m) c.args.due.now) c.args.material.now c.args.kind c.args.file _ c.new-hashed.result c.check_opened.new.file c.read_on.new.input c.in_ok-found.found _ c.new-hashed.ensures (search rules)
    c.in_ok-found.ensures table
    (inl (end, (c.read_on.ensures.rest.0, c.read_on.ensures.rest.1), met ∙ ap (λ (b : Bool). if b then c.in_ok-found.found else Differs) c.compared-input.ensures.met))
