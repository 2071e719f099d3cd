use Rattle.std.proofs.Common.{List, ℕ, [], ◌∷◌, sym, ap, ◌∙◌}
use Rattle.std.proofs.lemmas.Result.{err_from_is_err_and}
use Rattle.szg_file.specs.Contents.{bytes_of}
use Rattle.szg_file.specs.FileOf.{Section, written}
use Rattle.szg_file.proofs.Writers.WritingLaws.{writes_as, writes_then, writes_stopped, writes_same, Same-joined, four_bytes_of}
use Rattle.szg_file.proofs.writing.outgoing.put_entry.Goals as goal

-- the bytes of a number, as a section
abbrev field : List ℕ → List Section
field bytes = written bytes ∷ []

pub returns-in_err-put : goal.returns-in_err-put
returns-in_err-put g c =
    let p = err_from_is_err_and c.from_residual.result c.from_residual.ensures.1 in
    let e = c.args.entry.now in
    let block = c.to_le_bytes.ensures ∙ four_bytes_of e.block in
    rw (p.1, p.2) (writes_same (Same-joined (bytes_of 4 e.block) (bytes_of 2 e.offset))
    (writes_stopped (field (bytes_of 4 e.block)) (field (bytes_of 2 e.offset)) c.in_err-put.field-0.0 (writes_as (ap field (sym block)) c.in_err-put.ensures)))

pub returns : goal.returns
returns g c =
    let e = c.args.entry.now in
    let block = c.to_le_bytes.ensures ∙ four_bytes_of e.block in
    writes_same (Same-joined (bytes_of 4 e.block) (bytes_of 2 e.offset))
    (writes_then (field (bytes_of 4 e.block)) (field (bytes_of 2 e.offset)) c.in_ok-put.field-0
    (writes_as (ap field (sym block)) c.in_ok-put.ensures) (writes_as (ap field (sym c.to_le_bytes-2.ensures)) c.put-2.ensures))
