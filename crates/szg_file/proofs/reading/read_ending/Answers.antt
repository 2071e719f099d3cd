use Rattle.std.proofs.Common.{◌≡◌, List, ℕ, length, rules, arith, ap, refl}
use Rattle.std.proofs.lemmas.Result.{err_from_is_err_and}
use Rattle.szg_file.specs.File.{filled_to}
use Rattle.szg_file.specs.Format.{Format, field, means}
use Rattle.szg_file.proofs.Readers.ReadingLaws.{reads_then}
use Rattle.szg_file.proofs.Readers.LackingReads.{lacks_more, last_needed, memory_stated, memory_states}
use Rattle.szg_file.proofs.Readers.Taken.{reads_as}
use Rattle.szg_file.proofs.Readers.WholeReads.{reads_stopped_as}
use Rattle.szg_file.proofs.reading.read_ending.Goals as goal

abbrev of_size : ℕ → Format (List ℕ)
of_size n = field n means

pub returns-in_err-take_fill-clause-memory : goal.returns-in_err-take_fill-clause-memory
returns-in_err-take_fill-clause-memory g c =
    let p = err_from_is_err_and c.from_residual.result c.from_residual.ensures.1 in
    rw (p.1, p.2)
    (λ e. lacks_more (filled_to 64) (λ _. of_size 16) (λ _. tt) c.in_err-take_fill.field-0.0 (λ _ at. last_needed at) c.in_err-take_fill.ensures.fill (memory_stated c.in_err-take_fill.field-0.0 e))

pub returns-in_err-take_field : goal.returns-in_err-take_field
returns-in_err-take_field g c =
    let p = err_from_is_err_and c.from_residual-in_err-take_field.result c.from_residual-in_err-take_field.ensures.1 in
    let sized : length c.take_field.new.chunk ≡ 16 = search rules in
    rw (p.1, p.2)
    (record {
      ending = reads_then (filled_to 64) (λ _. of_size 16) (λ _. tt) (λ last. last) c.in_ok-take_fill.field-0 c.in_ok-take_fill.ensures.fill
          (reads_stopped_as (of_size (length c.take_field.new.chunk)) (of_size 16) (λ _. c.take_field.new.chunk) (λ last. last) c.in_err-take_field.field-0.0 (ap of_size sized)
          c.in_err-take_field.ensures.field);
      place = tt;
      grown = tt;
      memory = λ e. absurd (c.in_err-take_field.ensures.memory (memory_states c.in_err-take_field.field-0.0 (memory_stated c.in_err-take_field.field-0.0 e)));
    })

pub returns : goal.returns
returns g c =
    let sized : length c.take_field.new.chunk ≡ 16 = search rules in
    record {
      ending = reads_then (filled_to 64) (λ _. of_size 16) (λ _. tt) (λ last. last) c.in_ok-take_fill.field-0 c.in_ok-take_fill.ensures.fill
          (reads_as (of_size (length c.take_field.new.chunk)) (of_size 16) (λ _. c.take_field.new.chunk) (λ last. last) c.in_ok-take_field.field-0 c.take_field.new.chunk
          (ap of_size sized) refl refl refl c.in_ok-take_field.ensures.field);
      place = omega (arith, sized, c.in_ok-take_fill.ensures.place, c.in_ok-take_field.ensures.place);
      grown = omega (arith, c.in_ok-take_fill.ensures.grown, c.in_ok-take_field.ensures.grown);
      memory = λ e. cc;
    }
