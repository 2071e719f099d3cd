use Rattle.std.proofs.Common.{sym}
use Rattle.szg_file.specs.File.{number_field}
use Rattle.szg_file.proofs.Readers.ReadingLaws.{reads_then}
use Rattle.szg_file.proofs.Readers.MapReads.{list_following, reads_bytes}
use Rattle.szg_file.proofs.reading.maps.read_bytes.Goals as goal

pub returns-clause-list : goal.returns-clause-list
returns-clause-list g c =
    reads_then (number_field 1) (list_following 1) (λ n. n) (λ list. list.items) c.in_ok-count.count c.in_ok-count.ensures.byte
    (rw (sym c.from.ensures) (reads_bytes c.from.result (λ list. list.items) c.take_bytes.result c.take_bytes.ensures.field))
