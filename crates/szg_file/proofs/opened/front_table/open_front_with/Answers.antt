use Rattle.std.proofs.Common.{◌≡◌, Bool, subst, arith, Ok, Err}
use Rattle.std.proofs.lemmas.Result.{err_from_is_err_and}
use Rattle.szg_file.specs.FrontRead.{front_read}
use Rattle.szg_file.specs.FrontTable.{IsWholeFront}
use Rattle.szg_file.specs.Kept.{kept_front, BeginsWithKept, ReadingOf}
use Rattle.szg_file.specs.Unread.{FrontRead, front_field}
use Rattle.szg_file.specs.declared.fault.Reason.TheVariants.{Truncated}
use Rattle.szg_file.specs.declared.fault.ReadFault.TheVariants.{Refused}
use Rattle.szg_file.proofs.Openings.FrontInputs.{coming_front, front_content, front_late, front_longer, front_opened, front_stopped, front_verdict}
use Rattle.szg_file.proofs.Readers.KeptReads.{fault_seen, whole_reading}
use Rattle.szg_file.proofs.opened.front_table.open_front_with.Goals as goal

-- ---- the front is not read to its end

pub returns-in_err-read-clause-verdict : goal.returns-in_err-read-clause-verdict
returns-in_err-read-clause-verdict g c =
    let p = err_from_is_err_and c.from_residual.result c.from_residual.ensures.1 in
    rw (p.1, p.2) (front_verdict c.args.material c.args.kind g.R.Input c.args.size c.args.input.now c.read_front.new.input (Err c.in_err-read.field-0.0)
    (front_stopped c.args.material c.args.kind g.R.Input c.in_err-read.field-0.0 c.args.size c.new-state.result c.read_front.new.state c.args.input.now c.read_front.new.input c.new-state.ensures.place (fault_seen (front_field c.args.material c.args.kind) (λ (f : FrontRead). f) front_read c.in_err-read.field-0.0 c.in_err-read.ensures.front)))

pub returns-in_err-read-clause-read : goal.returns-in_err-read-clause-read
returns-in_err-read-clause-read g c =
    let p = err_from_is_err_and c.from_residual.result c.from_residual.ensures.1 in
    rw (p.1, p.2) (front_stopped c.args.material c.args.kind g.R.Input c.in_err-read.field-0.0 c.args.size c.new-state.result c.read_front.new.state c.args.input.now c.read_front.new.input c.new-state.ensures.place (fault_seen (front_field c.args.material c.args.kind) (λ (f : FrontRead). f) front_read c.in_err-read.field-0.0 c.in_err-read.ensures.front))

-- ---- it is longer than the file

pub returns-then-size-place-clause-verdict : goal.returns-then-size-place-clause-verdict
returns-then-size-place-clause-verdict g c =
    front_verdict c.args.material c.args.kind g.R.Input c.args.size c.args.input.now c.read_front.new.input (Err (Refused c.args.size Truncated))
    (front_longer c.args.material c.args.kind g.R.Input c.args.all c.in_ok-read.read c.args.size c.new-state.result c.read_front.new.state c.args.input.now c.read_front.new.input c.new-state.ensures.place c.in_ok-read.ensures.front (omega arith))

-- ---- the file is long enough for it

pub front_table-requires-clause-known : goal.front_table-requires-clause-known
front_table-requires-clause-known g c =
    let known = front_content c.args.material c.args.kind g.R.Input c.args.all c.in_ok-read.read c.args.size c.new-state.result c.read_front.new.state c.args.input.now c.read_front.new.input c.new-state.ensures.place c.in_ok-read.ensures.front (omega arith) in
    (c.args.all, known.0, known.1, known.2)

pub returns-in_err-table-clause-verdict : goal.returns-in_err-table-clause-verdict
returns-in_err-table-clause-verdict g c =
    let p = err_from_is_err_and c.from_residual-in_err-table.result c.from_residual-in_err-table.ensures.1 in
    rw (p.1, p.2) (front_verdict c.args.material c.args.kind g.R.Input c.args.size c.args.input.now c.read_front.new.input (Err c.in_err-table.field-0.0)
    (front_late c.args.material c.args.kind g.R.Input c.args.all c.in_ok-read.read c.args.size c.new-state.result c.read_front.new.state c.args.input.now c.read_front.new.input c.new-state.ensures.place c.in_ok-read.ensures.front c.in_err-table.field-0.0 (omega arith) c.in_err-table.ensures.refused))

pub returns-in_err-table-clause-read : goal.returns-in_err-table-clause-read
returns-in_err-table-clause-read g c =
    let p = err_from_is_err_and c.from_residual-in_err-table.result c.from_residual-in_err-table.ensures.1 in
    rw (p.1, p.2) (front_late c.args.material c.args.kind g.R.Input c.args.all c.in_ok-read.read c.args.size c.new-state.result c.read_front.new.state c.args.input.now c.read_front.new.input c.new-state.ensures.place c.in_ok-read.ensures.front c.in_err-table.field-0.0 (omega arith) c.in_err-table.ensures.refused)

pub returns-clause-verdict : goal.returns-clause-verdict
returns-clause-verdict g c =
    front_verdict c.args.material c.args.kind g.R.Input c.args.size c.args.input.now c.read_front.new.input (Ok (c.in_ok-table.table, c.read_front.new.state.place))
    (front_opened c.args.material c.args.kind g.R.Input c.args.all c.in_ok-read.read c.args.size c.new-state.result c.read_front.new.state c.args.input.now c.read_front.new.input c.new-state.ensures.place c.in_ok-read.ensures.front c.in_ok-table.table (omega arith) c.in_ok-table.ensures.material c.in_ok-table.ensures.kind c.in_ok-table.ensures.table)

pub returns-clause-read : goal.returns-clause-read
returns-clause-read g c =
    front_opened c.args.material c.args.kind g.R.Input c.args.all c.in_ok-read.read c.args.size c.new-state.result c.read_front.new.state c.args.input.now c.read_front.new.input c.new-state.ensures.place c.in_ok-read.ensures.front c.in_ok-table.table (omega arith) c.in_ok-table.ensures.material c.in_ok-table.ensures.kind c.in_ok-table.ensures.table

pub returns-clause-whole : goal.returns-clause-whole
returns-clause-whole g c = λ all.
    let seen = subst (λ (kept : Bool). ReadingOf (front_field c.args.material c.args.kind) (λ whole r. front_read r ≡ kept_front kept whole) c.new-state.result c.read_front.new.state g.R.Input c.args.input.now c.read_front.new.input (Ok c.in_ok-read.read)) all c.in_ok-read.ensures.front in
    coming_front (λ content. IsWholeFront c.in_ok-table.table c.read_front.new.state.place content) c.args.material c.args.kind g.R.Input c.in_ok-read.read c.args.size c.new-state.result c.read_front.new.state c.args.input.now c.read_front.new.input
    c.new-state.ensures.place (whole_reading (front_field c.args.material c.args.kind) front_read c.in_ok-read.read seen) c.in_ok-table.ensures.whole

pub returns-clause-lengths : goal.returns-clause-lengths
returns-clause-lengths g c = λ fewer.
    let known = front_content c.args.material c.args.kind g.R.Input c.args.all c.in_ok-read.read c.args.size c.new-state.result c.read_front.new.state c.args.input.now c.read_front.new.input c.new-state.ensures.place c.in_ok-read.ensures.front (omega arith) in
    c.in_ok-table.ensures.lengths known.0 known.1 (subst (λ (all : Bool). BeginsWithKept all c.args.material c.args.kind (front_read c.in_ok-read.read) c.read_front.new.state.place known.0) fewer known.2)
