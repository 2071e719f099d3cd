use Rattle.std.proofs.Common.{◌%◌, refl}
use Rattle.std.proofs.lemmas.Result.{err_from_is_err_and}
use Rattle.szg_file.specs.File.{number_field}
use Rattle.szg_file.specs.Format.{means}
use Rattle.szg_file.specs.HeadPieces.{entries_field}
use Rattle.szg_file.specs.Held.{spare_field}
use Rattle.szg_file.proofs.Readers.HeadReads.{entries_read, entries_stated, entries_stopped, entries_unread}
use Rattle.szg_file.proofs.Readers.ReadingLaws.{reads_then, reads_stopped, reads_nothing}
use Rattle.szg_file.proofs.Readers.PackedReads.{after_count, after_entries}
use Rattle.szg_file.proofs.reading.heads.read_dictionary.Goals as goal

pub returns-in_err-entries-clause-dictionary : goal.returns-in_err-entries-clause-dictionary
returns-in_err-entries-clause-dictionary g c =
    let count = c.in_ok-count.count in
    let p = err_from_is_err_and c.from_residual-in_err-entries.result c.from_residual-in_err-entries.ensures.1 in
    rw (p.1, p.2)
    (reads_then (number_field 2) after_count (λ n. n) (λ d. d) count c.in_ok-count.ensures.number
    (reads_stopped (entries_field count) (after_entries count) (λ d. d) (λ d. d) c.in_err-entries.field-0.0
    (entries_unread count (λ list. list.items) (λ d. d) c.in_err-entries.field-0.0 (rw c.from.ensures at c.in_err-entries.ensures.rows))))

pub returns-in-Err-clause-dictionary : goal.returns-in-Err-clause-dictionary
returns-in-Err-clause-dictionary g c =
    let count = c.in_ok-count.count in
    let entries = c.in_ok-entries.entries in
    let fault = c.entries_refusal.result in
    let stated = entries_stated c.read_number.new.state.place entries.items c.in-Err.fault fault c.in-Err.ensures.refused c.entries_refusal.ensures.refused c.entries_refusal.ensures.memory in
    reads_then (number_field 2) after_count (λ n. n) (λ d. d) count c.in_ok-count.ensures.number
    (reads_stopped (entries_field count) (after_entries count) (λ d. d) (λ d. d) fault
    (entries_stopped count (λ list. list.items) (λ d. d) entries fault stated (rw c.from.ensures at c.in_ok-entries.ensures.rows)))

pub returns-in_err-take_spare-clause-dictionary : goal.returns-in_err-take_spare-clause-dictionary
returns-in_err-take_spare-clause-dictionary g c =
    let count = c.in_ok-count.count in
    let dict = c.in-Ok.dict in
    let p = err_from_is_err_and c.from_residual-in_err-take_spare.result c.from_residual-in_err-take_spare.ensures.1 in
    rw (p.1, p.2)
    (reads_then (number_field 2) after_count (λ n. n) (λ d. d) count c.in_ok-count.ensures.number
    (reads_then (entries_field count) (after_entries count) (λ d. d) (λ d. d) dict
    (entries_read count (λ list. list.items) (λ d. d) c.in_ok-entries.entries dict c.in-Ok.ensures.accepted.0 c.in-Ok.ensures.accepted.1 (rw c.from.ensures at c.in_ok-entries.ensures.rows))
    (reads_stopped (spare_field (count % 2)) (λ _. means dict) (λ _. tt) (λ d. d) c.in_err-take_spare.field-0.0 c.in_err-take_spare.ensures.fill)))

pub returns-clause-dictionary : goal.returns-clause-dictionary
returns-clause-dictionary g c =
    let count = c.in_ok-count.count in
    let dict = c.in-Ok.dict in
    reads_then (number_field 2) after_count (λ n. n) (λ d. d) count c.in_ok-count.ensures.number
    (reads_then (entries_field count) (after_entries count) (λ d. d) (λ d. d) dict
    (entries_read count (λ list. list.items) (λ d. d) c.in_ok-entries.entries dict c.in-Ok.ensures.accepted.0 c.in-Ok.ensures.accepted.1 (rw c.from.ensures at c.in_ok-entries.ensures.rows))
    (reads_then (spare_field (count % 2)) (λ _. means dict) (λ _. tt) (λ d. d) tt c.in_ok-take_spare.ensures.fill
    (reads_nothing (means dict) (λ d. d) dict refl)))
