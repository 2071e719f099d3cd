use Rattle.std.proofs.Common.{◌≡◌, length, arith, refl}
use Rattle.szg_file.proofs.Tables.Bytes.{are_bytes}
use Rattle.szg_file.proofs.Readers.Taken.{field_taken}
use Rattle.szg_file.proofs.reading.taking.take_field.Goals as goal

pub returns-clause-field : goal.returns-clause-field
returns-clause-field g c =
    let small = are_bytes c.take_whole.new.chunk c.type_inv.chunk in
    let full : c.in-Ok.got ≡ length c.take_whole.new.chunk = omega (arith, c.in-Ok.ensures.within, c.if-got-chunk.false) in
    field_taken _ _ c.take_whole.new.chunk small (c.in-Ok.ensures.ok full) (omega (arith, full)) refl c.in-Ok.ensures.quiet
