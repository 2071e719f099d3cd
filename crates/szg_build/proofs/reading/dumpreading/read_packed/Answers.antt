use Rattle.std.proofs.Common.{ℕ, List, ◌++◌, sym, subst, refl, Ok, Err}
use Rattle.std.specs.Prelude.{Result, IsOk}
use Rattle.szg_build.specs.declared.dump.DumpReadFault.{DumpReadFault}
use Rattle.szg_build.specs.Chosen.{ToBuild}
use Rattle.szg_build.specs.Grammar.{dump_format}
use Rattle.szg_build.specs.Lacks.{StopsShort}
use Rattle.szg_build.specs.Lines.{verdict}
use Rattle.szg_build.specs.Packed.{gathered_dump}
use Rattle.szg_build.specs.Shown.{FollowsLines}
use Rattle.szg_build.proofs.Readers.GoingLaws.{reads_fault, reads_other}
use Rattle.szg_build.proofs.Readers.ReadingLaws.{known_reads, reads_taken, reads_device, same_error}
use Rattle.szg_build.proofs.Readers.WholeLaws.{where_parsed}
use Rattle.szg_build.proofs.reading.dumpreading.read_packed.Goals as goal

no_ok : (X : Type 0) {P : Type 0} (fault : DumpReadFault) → let r : Result X DumpReadFault = Err fault in IsOk r → P
no_ok X fault e = absurd cc

pub returns-in-Ok-clause-verdict : goal.returns-in-Ok-clause-verdict
returns-in-Ok-clause-verdict g c =
    let packed : ToBuild = record { dump = gathered_dump c.in-Ok.gathered; choice = c.args.choice } in
    let read = reads_other dump_format gathered_dump (λ (z : ToBuild). z.dump) c.in-Ok.gathered packed refl c.in-Ok.ensures.lines in
    where_parsed (g.R.Input.coming c.args.input.now) (λ bytes. FollowsLines (λ (z : ToBuild). z.dump) (verdict dump_format 0 bytes) (Ok packed) (g.R.Input.coming c.read_gathered.new.input))
    (λ all e. known_reads (λ (z : ToBuild). z.dump) dump_format read c.new-incoming.ensures.line c.new-incoming.ensures.held (λ _. c.in-Ok.ensures.held) all e)

pub returns-in-Ok-clause-taken : goal.returns-in-Ok-clause-taken
returns-in-Ok-clause-taken g c =
    let packed : ToBuild = record { dump = gathered_dump c.in-Ok.gathered; choice = c.args.choice } in
    let read = reads_other dump_format gathered_dump (λ (z : ToBuild). z.dump) c.in-Ok.gathered packed refl c.in-Ok.ensures.lines in
    reads_taken (λ (z : ToBuild). z.dump) dump_format read c.new-incoming.ensures.line c.new-incoming.ensures.held (λ _. c.in-Ok.ensures.held)

pub returns-in-Err-clause-verdict : goal.returns-in-Err-clause-verdict
returns-in-Err-clause-verdict g c =
    let read = reads_fault {view' = λ (z : ToBuild). z.dump} {n' = c.read_gathered.new.incoming} c.in-Err.fault c.in-Err.ensures.lines in
    where_parsed (g.R.Input.coming c.args.input.now) (λ bytes. FollowsLines (λ (z : ToBuild). z.dump) (verdict dump_format 0 bytes) (Err c.in-Err.fault) (g.R.Input.coming c.read_gathered.new.input))
    (λ all e. known_reads (λ (z : ToBuild). z.dump) dump_format read c.new-incoming.ensures.line c.new-incoming.ensures.held (no_ok ToBuild c.in-Err.fault) all e)

pub returns-in-Err-clause-taken : goal.returns-in-Err-clause-taken
returns-in-Err-clause-taken g c =
    let read = reads_fault {view' = λ (z : ToBuild). z.dump} {n' = c.read_gathered.new.incoming} c.in-Err.fault c.in-Err.ensures.lines in
    reads_taken (λ (z : ToBuild). z.dump) dump_format read c.new-incoming.ensures.line c.new-incoming.ensures.held (no_ok ToBuild c.in-Err.fault)

pub returns-in-Err-clause-device : goal.returns-in-Err-clause-device
returns-in-Err-clause-device g c =
    let read = reads_fault {view' = λ (z : ToBuild). z.dump} {n' = c.read_gathered.new.incoming} c.in-Err.fault c.in-Err.ensures.lines in
    (reads_device (λ (z : ToBuild). z.dump) dump_format read c.new-incoming.ensures.line).0

pub returns-in-Err-clause-quiet : goal.returns-in-Err-clause-quiet
returns-in-Err-clause-quiet g c =
    let read = reads_fault {view' = λ (z : ToBuild). z.dump} {n' = c.read_gathered.new.incoming} c.in-Err.fault c.in-Err.ensures.lines in
    (reads_device (λ (z : ToBuild). z.dump) dump_format read c.new-incoming.ensures.line).1

pub returns-in-Ok-clause-quiet : goal.returns-in-Ok-clause-quiet
returns-in-Ok-clause-quiet g c = λ _. (reads_device gathered_dump dump_format c.in-Ok.ensures.lines c.new-incoming.ensures.line).1 (λ e. absurd cc)

pub returns-in-Err-clause-memory : goal.returns-in-Err-clause-memory
returns-in-Err-clause-memory g c = λ e.
    let l = c.in-Err.ensures.memory (same_error e) in
    (l.bytes, l.taken, subst (λ (z : List ℕ). StopsShort dump_format 0 0 (z ++ l.bytes)) c.new-incoming.ensures.held (l.short 0 (sym c.new-incoming.ensures.line)))
