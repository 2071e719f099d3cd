use Rattle.std.proofs.Common.{map, sym, ap, refl, Some, None, option_map}
use Rattle.std.proofs.lemmas.Result.{err_from_is_err_and}
use Rattle.szg_file.specs.Contents.{has_bit, narrow, wide}
use Rattle.szg_file.specs.Held.{map_of}
use Rattle.szg_build.proofs.Writers.ItemLaws.{own_numbers}
use Rattle.szg_build.proofs.Readers.MapReads.{map_absent, wide_read, narrow_read, wide_stopped, narrow_stopped, wide_lacks, narrow_lacks}
use Rattle.szg_build.proofs.Readers.ReadingLaws.{same_error}
use Rattle.szg_build.proofs.reading.read_map.Goals as goal

pub returns-then-not-has_bit-clause-lines : goal.returns-then-not-has_bit-clause-lines
returns-then-not-has_bit-clause-lines g c = map_absent (has_bit 1 c.args.flags) (has_bit 4 c.args.flags) (option_map map_of) None (sym c.if-not-has_bit.ensures) refl

pub returns-in_err-wide-clause-lines : goal.returns-in_err-wide-clause-lines
returns-in_err-wide-clause-lines g c =
    let p = err_from_is_err_and c.from_residual.result c.from_residual.ensures.1 in
    rw (p.1, p.2) (wide_stopped (has_bit 1 c.args.flags) (has_bit 4 c.args.flags) (λ lists. map (λ list. map (λ n. n) list.items) lists) (option_map map_of) c.in_err-wide.field-0.0 (sym c.if-not-has_bit.ensures) (sym c.if-has_bit.ensures) c.in_err-wide.ensures.lines)

pub returns-then-has_bit-clause-lines : goal.returns-then-has_bit-clause-lines
returns-then-has_bit-clause-lines g c = wide_read (has_bit 1 c.args.flags) (has_bit 4 c.args.flags) (λ lists. map (λ list. map (λ n. n) list.items) lists) (option_map map_of) c.in_ok-wide.wide _ (sym c.if-not-has_bit.ensures) (sym c.if-has_bit.ensures) (ap (λ z. Some (wide z)) (own_numbers (λ list. list.items) c.in_ok-wide.wide)) c.in_ok-wide.ensures.lines

pub returns-in_err-narrow-clause-lines : goal.returns-in_err-narrow-clause-lines
returns-in_err-narrow-clause-lines g c =
    let p = err_from_is_err_and c.from_residual-in_err-narrow.result c.from_residual-in_err-narrow.ensures.1 in
    rw (p.1, p.2) (narrow_stopped (has_bit 1 c.args.flags) (has_bit 4 c.args.flags) (λ lists. map (λ list. map (λ n. n) list.items) lists) (option_map map_of) c.in_err-narrow.field-0.0 (sym c.if-not-has_bit.ensures) (sym c.if-has_bit.ensures) c.in_err-narrow.ensures.lines)

pub returns-clause-lines : goal.returns-clause-lines
returns-clause-lines g c = narrow_read (has_bit 1 c.args.flags) (has_bit 4 c.args.flags) (λ lists. map (λ list. map (λ n. n) list.items) lists) (option_map map_of) c.in_ok-narrow.narrow _ (sym c.if-not-has_bit.ensures) (sym c.if-has_bit.ensures) (ap (λ z. Some (narrow z)) (own_numbers (λ list. list.items) c.in_ok-narrow.narrow)) c.in_ok-narrow.ensures.lines

pub returns-in_err-wide-clause-memory : goal.returns-in_err-wide-clause-memory
returns-in_err-wide-clause-memory g c =
    let p = err_from_is_err_and c.from_residual.result c.from_residual.ensures.1 in
    rw (p.1, p.2) (λ e. wide_lacks (has_bit 1 c.args.flags) (has_bit 4 c.args.flags) c.args.following (sym c.if-not-has_bit.ensures) (sym c.if-has_bit.ensures) (c.in_err-wide.ensures.memory (same_error e)))

pub returns-in_err-narrow-clause-memory : goal.returns-in_err-narrow-clause-memory
returns-in_err-narrow-clause-memory g c =
    let p = err_from_is_err_and c.from_residual-in_err-narrow.result c.from_residual-in_err-narrow.ensures.1 in
    rw (p.1, p.2) (λ e. narrow_lacks (has_bit 1 c.args.flags) (has_bit 4 c.args.flags) c.args.following (sym c.if-not-has_bit.ensures) (sym c.if-has_bit.ensures) (c.in_err-narrow.ensures.memory (same_error e)))
