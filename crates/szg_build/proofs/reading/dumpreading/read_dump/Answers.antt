use Rattle.std.proofs.Common.{◌≡◌, ℕ, List, ◌++◌, sym, ap, subst, arith, Ok, Err}
use Rattle.std.specs.Prelude.{Result, IsErrAnd, IsOk, length}
use Rattle.std.proofs.lemmas.Result.{err_from_is_err_and}
use Rattle.szg_io.specs.declared.device.Input.{Ghosts}
use Rattle.szg_build.specs.declared.dump.Dump.{Dump}
use Rattle.szg_build.specs.declared.dump.DumpReadFault.{DumpReadFault}
use Rattle.szg_build.specs.declared.dump.DumpReadFault.TheVariants.{Memory}
use Rattle.szg_build.specs.declared.reading.gathering.Gathered.{Gathered}
use Rattle.szg_build.specs.declared.reading.incoming.Incoming.{Incoming}
use Rattle.szg_build.specs.Grammar.{dump_format}
use Rattle.szg_build.specs.Lacks.{StopsShort}
use Rattle.szg_build.specs.Lines.{verdict}
use Rattle.szg_build.specs.Packed.{gathered_dump}
use Rattle.szg_build.specs.Reading.{ReadsLines}
use Rattle.szg_build.specs.Shown.{dump_seen, FollowsLines}
use Rattle.szg_build.proofs.Readers.GoingLaws.{goes_unheld, goes_whole, reads_fault, reads_other}
use Rattle.szg_build.proofs.Readers.LackLaws.{lacks_whole}
use Rattle.szg_build.proofs.Readers.ReadingLaws.{known_reads, reads_taken, reads_device, same_error}
use Rattle.szg_build.proofs.Readers.WholeLaws.{where_parsed}
use Rattle.szg_build.proofs.reading.dumpreading.read_dump.Goals as goal

-- the text was not read whole: the fault of reading it is returned
fault_read : {R : Type 0} {o n : Incoming} {dev : Ghosts R} {i k : R} (result : Result Dump DumpReadFault) (fault : DumpReadFault) (new : Incoming) → IsErrAnd result (λ z. z ≡ fault) →
    ReadsLines dump_format gathered_dump o n dev i k (Err fault) → ReadsLines dump_format dump_seen o new dev i k result
fault_read result fault new same read = let p = err_from_is_err_and result same in rw (p.1, p.2) (reads_fault fault read)

-- the text was read whole, and memory for its values is refused
unlisted_read : {R : Type 0} {o n : Incoming} {dev : Ghosts R} {i k : R} (result : Result Dump DumpReadFault) (gathered : Gathered) (new : Incoming) → IsErrAnd result (λ z. z ≡ Memory) →
    ReadsLines dump_format gathered_dump o n dev i k (Ok gathered) → ReadsLines dump_format dump_seen o new dev i k result
unlisted_read result gathered new same read =
    let p = err_from_is_err_and result same in
    rw (p.1, p.2) (goes_unheld dump_seen (goes_whole dump_format gathered_dump gathered read))

-- an error is no dump
no_dump : {P : Type 0} (result : Result Dump DumpReadFault) (fault : DumpReadFault) → IsErrAnd result (λ z. z ≡ fault) → IsOk result → P
no_dump result fault same e =
    let p = err_from_is_err_and result same in
    let none = subst (λ (z : Result Dump DumpReadFault). IsOk z) p.1 e in
    absurd cc

pub returns-in_err-gathered-clause-verdict : goal.returns-in_err-gathered-clause-verdict
returns-in_err-gathered-clause-verdict g c =
    let read = fault_read c.from_residual.result c.in_err-gathered.field-0.0 c.read_gathered.new.incoming c.from_residual.ensures.1 c.in_err-gathered.ensures.lines in
    where_parsed (g.R.Input.coming c.args.input.now) (λ bytes. FollowsLines dump_seen (verdict dump_format 0 bytes) c.from_residual.result (g.R.Input.coming c.read_gathered.new.input))
    (λ all e. known_reads dump_seen dump_format read c.new-incoming.ensures.line c.new-incoming.ensures.held (no_dump c.from_residual.result c.in_err-gathered.field-0.0 c.from_residual.ensures.1) all e)

pub returns-in_err-gathered-clause-taken : goal.returns-in_err-gathered-clause-taken
returns-in_err-gathered-clause-taken g c =
    let read = fault_read c.from_residual.result c.in_err-gathered.field-0.0 c.read_gathered.new.incoming c.from_residual.ensures.1 c.in_err-gathered.ensures.lines in
    reads_taken dump_seen dump_format read c.new-incoming.ensures.line c.new-incoming.ensures.held (no_dump c.from_residual.result c.in_err-gathered.field-0.0 c.from_residual.ensures.1)

pub returns-in_err-gathered-clause-device : goal.returns-in_err-gathered-clause-device
returns-in_err-gathered-clause-device g c =
    let read = fault_read c.from_residual.result c.in_err-gathered.field-0.0 c.read_gathered.new.incoming c.from_residual.ensures.1 c.in_err-gathered.ensures.lines in
    (reads_device dump_seen dump_format read c.new-incoming.ensures.line).0

pub returns-in_err-gathered-clause-quiet : goal.returns-in_err-gathered-clause-quiet
returns-in_err-gathered-clause-quiet g c =
    let read = fault_read c.from_residual.result c.in_err-gathered.field-0.0 c.read_gathered.new.incoming c.from_residual.ensures.1 c.in_err-gathered.ensures.lines in
    (reads_device dump_seen dump_format read c.new-incoming.ensures.line).1

pub returns-in_err-dump-clause-verdict : goal.returns-in_err-dump-clause-verdict
returns-in_err-dump-clause-verdict g c =
    let read = unlisted_read c.from_residual-in_err-dump.result c.in_ok-gathered.gathered c.read_gathered.new.incoming c.from_residual-in_err-dump.ensures.1 c.in_ok-gathered.ensures.lines in
    where_parsed (g.R.Input.coming c.args.input.now) (λ bytes. FollowsLines dump_seen (verdict dump_format 0 bytes) c.from_residual-in_err-dump.result (g.R.Input.coming c.read_gathered.new.input))
    (λ all e. known_reads dump_seen dump_format read c.new-incoming.ensures.line c.new-incoming.ensures.held (no_dump c.from_residual-in_err-dump.result Memory c.from_residual-in_err-dump.ensures.1) all e)

pub returns-in_err-dump-clause-taken : goal.returns-in_err-dump-clause-taken
returns-in_err-dump-clause-taken g c =
    let read = unlisted_read c.from_residual-in_err-dump.result c.in_ok-gathered.gathered c.read_gathered.new.incoming c.from_residual-in_err-dump.ensures.1 c.in_ok-gathered.ensures.lines in
    reads_taken dump_seen dump_format read c.new-incoming.ensures.line c.new-incoming.ensures.held (no_dump c.from_residual-in_err-dump.result Memory c.from_residual-in_err-dump.ensures.1)

pub returns-in_err-dump-clause-device : goal.returns-in_err-dump-clause-device
returns-in_err-dump-clause-device g c =
    let read = unlisted_read c.from_residual-in_err-dump.result c.in_ok-gathered.gathered c.read_gathered.new.incoming c.from_residual-in_err-dump.ensures.1 c.in_ok-gathered.ensures.lines in
    (reads_device dump_seen dump_format read c.new-incoming.ensures.line).0

pub returns-in_err-dump-clause-quiet : goal.returns-in_err-dump-clause-quiet
returns-in_err-dump-clause-quiet g c =
    let read = unlisted_read c.from_residual-in_err-dump.result c.in_ok-gathered.gathered c.read_gathered.new.incoming c.from_residual-in_err-dump.ensures.1 c.in_ok-gathered.ensures.lines in
    (reads_device dump_seen dump_format read c.new-incoming.ensures.line).1

pub returns-clause-verdict : goal.returns-clause-verdict
returns-clause-verdict g c =
    let read = reads_other dump_format gathered_dump dump_seen c.in_ok-gathered.gathered c.in_ok-dump.dump c.in_ok-dump.ensures c.in_ok-gathered.ensures.lines in
    where_parsed (g.R.Input.coming c.args.input.now) (λ bytes. FollowsLines dump_seen (verdict dump_format 0 bytes) (Ok c.in_ok-dump.dump) (g.R.Input.coming c.read_gathered.new.input))
    (λ all e. known_reads dump_seen dump_format read c.new-incoming.ensures.line c.new-incoming.ensures.held (λ _. c.in_ok-gathered.ensures.held) all e)

pub returns-clause-taken : goal.returns-clause-taken
returns-clause-taken g c =
    let read = reads_other dump_format gathered_dump dump_seen c.in_ok-gathered.gathered c.in_ok-dump.dump c.in_ok-dump.ensures c.in_ok-gathered.ensures.lines in
    reads_taken dump_seen dump_format read c.new-incoming.ensures.line c.new-incoming.ensures.held (λ _. c.in_ok-gathered.ensures.held)

pub returns-clause-quiet : goal.returns-clause-quiet
returns-clause-quiet g c = λ _. (reads_device gathered_dump dump_format c.in_ok-gathered.ensures.lines c.new-incoming.ensures.line).1 (λ e. absurd cc)

pub returns-in_err-gathered-clause-memory : goal.returns-in_err-gathered-clause-memory
returns-in_err-gathered-clause-memory g c =
    let p = err_from_is_err_and c.from_residual.result c.from_residual.ensures.1 in
    rw (p.1, p.2) (λ e.
    let l = c.in_err-gathered.ensures.memory (same_error e) in
    (l.bytes, l.taken, subst (λ (z : List ℕ). StopsShort dump_format 0 0 (z ++ l.bytes)) c.new-incoming.ensures.held (l.short 0 (sym c.new-incoming.ensures.line))))

pub returns-in_err-dump-clause-memory : goal.returns-in_err-dump-clause-memory
returns-in_err-dump-clause-memory g c = λ _.
    let l = lacks_whole dump_format 0 gathered_dump c.in_ok-gathered.gathered c.in_ok-gathered.ensures.lines (omega (arith, ap length c.in_ok-gathered.ensures.held)) in
    (l.bytes, l.taken, subst (λ (z : List ℕ). StopsShort dump_format 0 0 (z ++ l.bytes)) c.new-incoming.ensures.held (l.short 0 (sym c.new-incoming.ensures.line)))
