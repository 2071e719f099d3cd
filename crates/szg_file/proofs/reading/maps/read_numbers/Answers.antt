use Rattle.std.proofs.Common.{sym}
use Rattle.szg_file.specs.File.{number_field}
use Rattle.szg_file.proofs.Readers.ReadingLaws.{reads_then}
use Rattle.szg_file.proofs.Readers.MapReads.{list_following}
use Rattle.szg_file.proofs.reading.maps.read_numbers.Goals as goal

pub returns-clause-list : goal.returns-clause-list
returns-clause-list g c =
    reads_then (number_field 2) (list_following 2) (λ n. n) (λ list. list.items) c.in_ok-count.count c.in_ok-count.ensures.number
    (rw (sym c.from.ensures) c.take_numbers.ensures.rows)
