use Rattle.std.proofs.Common.{◌≡◌, ◌∙◌, List, ℕ, Err, true, false, ap, length, subst, sym}
use Rattle.std.specs.Prelude.{Result}
use Rattle.szg_file.specs.Format.{verdict}
use Rattle.szg_file.specs.FrontInput.{IsFrontFault, IsFrontVerdict}
use Rattle.szg_file.specs.FrontTable.{FrontKept, IsFrontOf}
use Rattle.szg_file.specs.Unread.{unread_file}
use Rattle.szg_file.specs.declared.fault.ReadFault.{ReadFault}
use Rattle.szg_file.proofs.Openings.FrontInputs.{front_fault}
use Rattle.szg_c.specs.Fronts.{IsFront}
use Rattle.szg_c.proofs.FrontsStated.{front_states, front_stops, is_front}
use Rattle.szg_c.proofs.Stopped.{stops}
use Rattle.szg_c.proofs.fronts.szg_open_front.Goals as goal

pub returns-in-Ok-new-clause-says : goal.returns-in-Ok-new-clause-says
returns-in-Ok-new-clause-says c =
    let t = c.in-Ok.table in
    let e = c.in-Ok.ensures in
    let long : length c.new.result.left.now ≡ length c.args.bytes.now = ap (λ (z : List ℕ). length z) c.new.ensures.left in
    let opened : IsFront c.args.name.now c.args.dtz c.args.bytes.now t = is_front c.args.name.now c.args.dtz c.args.bytes.now c.in-Some.material t c.in-Some.ensures e.read.stated.0 (e.read.stated.1 ∙ c.kind_of.ensures)
    (subst (λ (bs : List ℕ). IsFrontOf t bs) c.new.ensures.left (e.verdict long)) in
    let is : IsFront c.args.name.now c.args.dtz c.args.bytes.now c.in-Ok-new.shared = subst (IsFront c.args.name.now c.args.dtz c.args.bytes.now) (sym c.in-Ok-new.ensures) opened in
    front_states c.args.name.now c.args.dtz c.args.bytes.now c.in-Ok-new.shared c.hold.new.handle.value c.hold.result c.args.answer.now.place c.args.answer.now.reason is
    c.hold.ensures.done c.hold.ensures.statuses

pub fault_status-requires : goal.fault_status-requires
fault_status-requires c = λ e. let never : false ≡ true = c.in-Err.ensures.may_fail (ap (λ (f : ReadFault). let r : Result (FrontKept × ℕ) ReadFault = Err f in r) e) in absurd (cc never)

pub returns-in-Err-clause-says : goal.returns-in-Err-clause-says
returns-in-Err-clause-says c =
    let long : length c.new.result.left.now ≡ length c.args.bytes.now = ap (λ (z : List ℕ). length z) c.new.ensures.left in
    let fault : IsFrontFault (verdict (unread_file c.in-Some.material c.kind_of.result) 0 c.args.bytes.now) c.in-Err.fault =
    front_fault c.in-Some.material c.kind_of.result c.args.bytes.now c.in-Err.fault (subst (λ (bs : List ℕ). IsFrontVerdict c.in-Some.material c.kind_of.result bs (Err c.in-Err.fault)) c.new.ensures.left (c.in-Err.ensures.verdict long))
    (λ e. let never : false ≡ true = c.in-Err.ensures.may_fail (ap (λ (f : ReadFault). let r : Result (FrontKept × ℕ) ReadFault = Err f in r) e) in absurd (cc never)) in
    front_stops c.args.name.now c.args.dtz c.args.bytes.now _ _ _ _
    (stops unread_file c.args.name.now c.args.dtz c.args.bytes.now c.in-Some.material c.kind_of.result c.in-Some.ensures c.kind_of.ensures c.in-Err.fault _ _ _ fault c.fault_status.ensures)
