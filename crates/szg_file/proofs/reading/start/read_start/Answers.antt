use Rattle.std.proofs.Common.{◌≡◌, ℕ, List, length, bytes_eq, true, refl, rules}
use Rattle.std.proofs.lemmas.Result.{err_from_is_err_and}
use Rattle.szg_values.specs.Material.{Sides, has_pawns}
use Rattle.szg_values.specs.declared.Kind.{Kind}
use Rattle.szg_file.specs.declared.fault.Reason.TheVariants as reason
use Rattle.szg_file.specs.Contents.{has_bit}
use Rattle.szg_file.specs.File.{agrees, byte4_field, demand, magic_of, number_field, split_agrees}
use Rattle.szg_file.specs.Format.{Format, field, means, ◌>>◌}
use Rattle.szg_file.proofs.Readers.ReadingLaws.{reads_then, reads_stopped, reads_nothing}
use Rattle.szg_file.proofs.reading.start.read_start.Goals as goal

-- the format after the first four bytes
abbrev after_magic : Sides → Kind → List ℕ → Format ℕ
after_magic m k bytes = demand (bytes_eq bytes (magic_of k)) 0 reason.Magic >> byte4_field m k

-- the format after byte 4
abbrev after_byte4 : Sides → Kind → ℕ → Format ℕ
after_byte4 m k byte = demand (split_agrees m k byte) 4 reason.SplitBit >> (demand (agrees (has_bit 1 byte) (has_pawns m)) 4 reason.PawnBit >> means byte)

pub returns-in_err-byte-clause-start : goal.returns-in_err-byte-clause-start
returns-in_err-byte-clause-start g c =
    let m : Sides = c.args.material.now in
    let k : Kind = c.args.kind in
    let chunk : List ℕ = c.take_field.new.chunk in
    let sized : length chunk ≡ 4 = search rules in
    let passes : bytes_eq chunk (magic_of k) ≡ true = search rules in
    let p = err_from_is_err_and c.from_residual-in_err-byte.result c.from_residual-in_err-byte.ensures.1 in
    rw (p.1, p.2)
    (reads_then (field 4 means) (after_magic m k) (λ _. chunk) (λ byte. byte) c.in_ok-take_field.field-0 (rw sized at c.in_ok-take_field.ensures.field)
    (rw passes (reads_stopped (number_field 1) (after_byte4 m k) (λ byte. byte) (λ byte. byte) c.in_err-byte.field-0.0 c.in_err-byte.ensures.byte)))

pub returns-clause-start : goal.returns-clause-start
returns-clause-start g c =
    let m : Sides = c.args.material.now in
    let k : Kind = c.args.kind in
    let chunk : List ℕ = c.take_field.new.chunk in
    let byte : ℕ = c.in_ok-byte.byte in
    let sized : length chunk ≡ 4 = search rules in
    let passes : bytes_eq chunk (magic_of k) ≡ true = search rules in
    let split : split_agrees m k byte ≡ true = search rules in
    let pawns : agrees (has_bit 1 byte) (has_pawns m) ≡ true = search rules in
    reads_then (field 4 means) (after_magic m k) (λ _. chunk) (λ byte. byte) c.in_ok-take_field.field-0 (rw sized at c.in_ok-take_field.ensures.field)
    (rw passes
    (reads_then (number_field 1) (after_byte4 m k) (λ byte. byte) (λ byte. byte) byte c.in_ok-byte.ensures.byte
    (rw (split, pawns) (reads_nothing (means byte) (λ byte. byte) byte refl))))
