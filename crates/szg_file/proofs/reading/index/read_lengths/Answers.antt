use Rattle.std.proofs.Common.{◌≡◌, List, length, rules}
use Rattle.std.proofs.lemmas.Result.{err_from_is_err_and}
use Rattle.szg_file.specs.File.{Begun, each, sparse_field, lengths_field}
use Rattle.szg_file.specs.Grown.{begun_lengths}
use Rattle.szg_file.specs.Kept.{kept_field, kept_measured}
use Rattle.szg_file.specs.WholeRead.{sub_lengths}
use Rattle.szg_file.proofs.Grammar.KeptLaws.{kept_fields}
use Rattle.szg_file.proofs.Readers.Counted.{lists_counted}
use Rattle.szg_file.proofs.Readers.KeptReads.{mapped_of, then_of}
use Rattle.szg_file.proofs.Readers.ReadingLaws.{reads_stopped}
use Rattle.szg_file.proofs.Readers.StreamedTables.{indexed_slots, kept_slots_read}
use Rattle.szg_file.proofs.Readers.Taken.{reads_equal}
use Rattle.szg_file.proofs.reading.index.read_lengths.Goals as goal

pub returns-in_err-indexed-clause-lengths : goal.returns-in_err-indexed-clause-lengths
returns-in_err-indexed-clause-lengths g c =
    let p = err_from_is_err_and c.from_residual.result c.from_residual.ensures.1 in
    let read = (c.in_err-indexed.ensures.each sparse_field (λ begun. sub_lengths begun.subtable) (λ begun. sub_lengths begun.subtable) (λ alloc item input left state rest result said. (said.1.0, said.1.1.1.1))).0 in
    rw (p.1, p.2) (reads_stopped (each sparse_field c.args.list.items) (each lengths_field) (λ indexed. indexed.items) (λ (l : List Begun). l) c.in_err-indexed.field-0.0 read)

pub returns-clause-lengths : goal.returns-clause-lengths
returns-clause-lengths g c =
    let first = (c.in_ok-indexed.ensures.each sparse_field (λ begun. sub_lengths begun.subtable) (λ begun. sub_lengths begun.subtable) (λ alloc item input left state rest result said. (said.1.0, said.1.1.1.1))).0 in
    let second = (c.take_each-2.ensures.each (kept_field c.args.all) (λ begun. sub_lengths begun.subtable) (λ begun. sub_lengths begun.subtable) (λ alloc item input left state rest result said. search (rules, said))).0 in
    then_of (each sparse_field c.args.list.items) (each lengths_field) (λ whole kept. kept.items ≡ kept_measured c.args.all whole) (λ indexed. indexed.items) c.in_ok-indexed.indexed _ _ _ first
    (mapped_of (each lengths_field c.in_ok-indexed.indexed.items) (kept_measured c.args.all) (λ measured. measured.items) _ _ _
    (reads_equal (each (kept_field c.args.all) c.in_ok-indexed.indexed.items) _ (λ measured. measured.items) _ (kept_fields c.args.all c.in_ok-indexed.indexed.items) second))

pub returns-clause-slots : goal.returns-clause-slots
returns-clause-slots g c =
    let first = (c.in_ok-indexed.ensures.each sparse_field (λ begun. sub_lengths begun.subtable) (λ begun. sub_lengths begun.subtable) (λ alloc item input left state rest result said. (said.1.0, said.1.1.1.1))).0 in
    let second = (c.take_each-2.ensures.each (kept_field c.args.all) (λ begun. sub_lengths begun.subtable) (λ begun. sub_lengths begun.subtable) (λ alloc item input left state rest result said. search (rules, said))).0 in
    kept_slots_read c.args.all c.in_ok-indexed.indexed.items _ (indexed_slots c.args.list.items (λ indexed. indexed.items) c.in_ok-indexed.indexed first) c.take_each-2.result _ _ _ _ _
    (mapped_of (each lengths_field c.in_ok-indexed.indexed.items) (kept_measured c.args.all) (λ measured. measured.items) _ _ _
    (reads_equal (each (kept_field c.args.all) c.in_ok-indexed.indexed.items) _ (λ measured. measured.items) _ (kept_fields c.args.all c.in_ok-indexed.indexed.items) second))

pub returns-clause-grown : goal.returns-clause-grown
returns-clause-grown g c =
    let first = (c.in_ok-indexed.ensures.each sparse_field (λ begun. sub_lengths begun.subtable) (λ begun. sub_lengths begun.subtable) (λ alloc item input left state rest result said. (said.1.0, said.1.1.1.1))).1 in
    let second = (c.take_each-2.ensures.each (kept_field c.args.all) (λ begun. sub_lengths begun.subtable) (λ begun. sub_lengths begun.subtable) (λ alloc item input left state rest result said. search (rules, said))).1 in
    lists_counted c.take_each-2.result c.args.state.now c.take_each.new.state c.take_each-2.new.state (begun_lengths c.args.list.items) (begun_lengths c.in_ok-indexed.indexed.items) (length c.in_ok-indexed.indexed.items) first second c.take_each-2.ensures.count
