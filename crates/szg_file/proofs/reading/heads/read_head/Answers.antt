use Rattle.std.proofs.Common.{◌≡◌, refl, sym, ◌∙◌, true, false}
use Rattle.std.proofs.lemmas.Result.{err_from_is_err_and}
use Rattle.szg_file.specs.Format.{means}
use Rattle.szg_file.specs.Contents.{Subtable, constant, has_bit}
use Rattle.szg_file.specs.File.{Begun, number_field, packed_head}
use Rattle.szg_file.specs.Held.{subtable_of}
use Rattle.szg_file.proofs.Readers.HeadReads.{reads_failed}
use Rattle.szg_file.proofs.Readers.ReadingLaws.{reads_then, reads_stopped, reads_nothing}
use Rattle.szg_file.proofs.Readers.Taken.{reads_as}
use Rattle.szg_file.proofs.Readers.PackedReads.{after_flags, constant_after, packed_after}
use Rattle.szg_file.proofs.reading.heads.read_head.Goals as goal

pub returns-in_err-byte-clause-head : goal.returns-in_err-byte-clause-head
returns-in_err-byte-clause-head g c =
    let flags = c.in_ok-flags.flags in
    let set : has_bit 7 flags ≡ true = sym c.has_bit.ensures ∙ c.if-has_bit.true in
    let p = err_from_is_err_and c.from_residual-in_err-byte.result c.from_residual-in_err-byte.ensures.1 in
    rw (p.1, p.2)
    (reads_then (number_field 1) after_flags (λ b. b) (λ (begun : Begun). begun.subtable) flags c.in_ok-flags.ensures.byte
    (rw (constant_after flags set)
    (reads_stopped (number_field 1) (λ byte. means (constant flags byte)) (λ b. b) (λ (begun : Begun). begun.subtable) c.in_err-byte.field-0.0 c.in_err-byte.ensures.byte)))

pub returns-then-has_bit-clause-head : goal.returns-then-has_bit-clause-head
returns-then-has_bit-clause-head g c =
    let flags = c.in_ok-flags.flags in
    let set : has_bit 7 flags ≡ true = sym c.has_bit.ensures ∙ c.if-has_bit.true in
    reads_then (number_field 1) after_flags (λ b. b) (λ (begun : Begun). begun.subtable) flags c.in_ok-flags.ensures.byte
    (rw (constant_after flags set)
    (reads_then (number_field 1) (λ byte. means (constant flags byte)) (λ b. b) (λ (begun : Begun). begun.subtable) c.in_ok-byte.byte c.in_ok-byte.ensures.byte
    (reads_as (means (constant flags c.in_ok-byte.byte)) (means (constant flags c.in_ok-byte.byte)) (λ (s : Subtable). s) (λ (begun : Begun). begun.subtable) (constant flags c.in_ok-byte.byte) _ refl refl refl refl
    (reads_nothing (means (constant flags c.in_ok-byte.byte)) (λ (s : Subtable). s) (constant flags c.in_ok-byte.byte) refl))))

pub returns-in_err-sub-clause-head : goal.returns-in_err-sub-clause-head
returns-in_err-sub-clause-head g c =
    let flags = c.in_ok-flags.flags in
    let clear : has_bit 7 flags ≡ false = sym c.has_bit.ensures ∙ c.if-has_bit.false in
    let p = err_from_is_err_and c.from_residual-in_err-sub.result c.from_residual-in_err-sub.ensures.1 in
    rw (p.1, p.2)
    (reads_then (number_field 1) after_flags (λ b. b) (λ (begun : Begun). begun.subtable) flags c.in_ok-flags.ensures.byte
    (rw (packed_after flags clear) (reads_failed (packed_head flags) subtable_of (λ (begun : Begun). begun.subtable) c.in_err-sub.field-0.0 c.in_err-sub.ensures.head)))

pub returns-clause-head : goal.returns-clause-head
returns-clause-head g c =
    let flags = c.in_ok-flags.flags in
    let clear : has_bit 7 flags ≡ false = sym c.has_bit.ensures ∙ c.if-has_bit.false in
    reads_then (number_field 1) after_flags (λ b. b) (λ (begun : Begun). begun.subtable) flags c.in_ok-flags.ensures.byte
    (rw (packed_after flags clear)
    (reads_as (packed_head flags) (packed_head flags) subtable_of (λ (begun : Begun). begun.subtable) c.in_ok-sub.sub _ refl refl refl refl c.in_ok-sub.ensures.head))
