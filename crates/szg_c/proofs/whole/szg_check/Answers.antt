use Rattle.std.proofs.Common.{◌≡◌, List, ℕ, Some, true, false, ap, subst}
use Rattle.std.specs.Prelude.{Err, Ok}
use Rattle.szg_values.specs.declared.Kind.{Kind}
use Rattle.szg_file.specs.Format.{verdict}
use Rattle.szg_file.specs.File.{file}
use Rattle.szg_file.specs.WholeRead.{FollowsVerdict}
use Rattle.szg_file.specs.declared.fault.ReadFault.{ReadFault}
use Rattle.szg_file.proofs.Readers.ReadAnswers.{in_memory}
use Rattle.szg_c.specs.Reported.{Finds}
use Rattle.szg_c.proofs.Stopped.{of_verdict, reports, stops}
use Rattle.szg_c.proofs.whole.szg_check.Goals as goal

pub returns-in-Ok : goal.returns-in-Ok
returns-in-Ok c =
    let h = c.in-Ok.ensures.scanned in let t = h.table in
    let of = subst (λ (z : List ℕ). FollowsVerdict (verdict (file c.in-Some.material c.kind_of.result) 0 z) (Ok t) (Some c.scan.new.input.left.now)) c.new-input.ensures.left h.read.follows in
    (t, (c.in-Some.material, c.in-Some.ensures, subst (λ (k : Kind). Finds (verdict (file c.in-Some.material k) 0 c.args.bytes.now) t) c.kind_of.ensures (of.0, of.1)), h.length_is)

pub fault_status-requires : goal.fault_status-requires
fault_status-requires c = λ e. let never : false ≡ true = c.in-Err.ensures.may_fail (ap Err e) in absurd (cc never)

pub returns-in-Err : goal.returns-in-Err
returns-in-Err c =
    let m = c.in-Some.material in let bytes = c.args.bytes.now in let v = verdict (file m c.kind_of.result) 0 bytes in let left = Some c.scan.new.input.left.now in
    let follows = subst (λ (z : List ℕ). FollowsVerdict (verdict (file m c.kind_of.result) 0 z) (Err c.in-Err.fault) left) c.new-input.ensures.left c.in-Err.ensures.scanned.follows in
    let fault = of_verdict v c.in-Err.fault (in_memory v (Err c.in-Err.fault) left follows (λ e. let never : false ≡ true = c.in-Err.ensures.may_fail (ap (λ (f : ReadFault). Err f) (cc e)) in absurd (cc never))) in
    reports c.args.name.now c.args.dtz bytes _ _ _ _ _ (stops file c.args.name.now c.args.dtz bytes m c.kind_of.result c.in-Some.ensures c.kind_of.ensures c.in-Err.fault _ _ _ fault c.fault_status.ensures)
