-- Blocks that are read and dropped are the bytes moved since.
use Rattle.std.proofs.Common.{◌≡◌, ℕ, ◌+◌, ◌^◌, List, [], ◌++◌, length, take, drop, sym, ap, subst, inl, inr, ◌∙◌, append_assoc, append-nil, arith, Option, Ok}
use Rattle.std.specs.Prelude.{IfSome, IsSomeAnd}
use Rattle.std.proofs.Math.Seq.{drop-append_seam}
use Rattle.std.proofs.lemmas.Bool.{cases_lt}
use Rattle.std.proofs.lemmas.List.{drop_all, length-append, take-append-drop}
use Rattle.szg_code.specs.Acceptance.{IsCode}
use Rattle.szg_block.specs.Layout.{Layout}
use Rattle.szg_block.specs.Sound.{SpellsNeeded}
use Rattle.szg_file.specs.declared.reading.state.ReaderState.{ReaderState}
use Rattle.szg_file.specs.Format.{Format, field, means, good, truncated, verdict}
use Rattle.szg_file.specs.File.{block_field}
use Rattle.szg_file.specs.Placed.{since}
use Rattle.szg_file.specs.Reading.{Reading}
use Rattle.szg_file.proofs.Readers.BlockReads.{reads_block}
use Rattle.szg_file.proofs.Grammar.FormatLaws.{field-whole, field-short}
use Rattle.szg_io.specs.declared.device.Input.{Ghosts}

-- ---- the bytes that were moved

pub since_is : (old new bytes : List ℕ) → new ≡ old ++ bytes → since old new ≡ bytes
since_is old new bytes e = ap (λ (z : List ℕ). drop (length old) z) e ∙ drop-append_seam old bytes

pub since_none : (old : List ℕ) → since old old ≡ []
since_none old = drop_all (length old) old (omega arith)

pub since_then : (a b c x y : List ℕ) → b ≡ a ++ x → c ≡ b ++ y → since a c ≡ since a b ++ since b c
since_then a b c x y p q =
    let whole : c ≡ a ++ (x ++ y) = q ∙ ap (λ (z : List ℕ). z ++ y) p ∙ append_assoc a x y in
    since_is a c (x ++ y) whole ∙ ap (λ (z : List ℕ). z ++ y) (sym (since_is a b x p)) ∙ ap (λ (z : List ℕ). since a b ++ z) (sym (since_is b c y q))

-- the bytes of two readings in sequence
pub since_on : {A B X Y R : Type 0} (f : Format A) (g : Format B) (view : X → A) (view' : Y → B) {o m n : ReaderState}
    {dev : Ghosts R} {i j k : R} (v : X) (w : Y) →
    Reading f view o m dev i j (Ok v) →
    Reading g view' m n dev j k (Ok w) →
    since (dev.moved i) (dev.moved k) ≡ since (dev.moved i) (dev.moved j) ++ since (dev.moved j) (dev.moved k)
since_on f g view view' {dev = dev} {i = i} {j = j} {k = k} v w first second =
    since_then (dev.moved i) (dev.moved j) (dev.moved k) first.bytes second.bytes first.taken.bytes_moved second.taken.bytes_moved

-- the offset of the reader state is the number of bytes moved
pub valid_at : {A X R : Type 0} (f : Format A) (view : X → A) {o n : ReaderState}
    {dev : Ghosts R} {i k : R} (v : X) → o.place ≡ length (dev.moved i) →
    Reading f view o n dev i k (Ok v) → n.place ≡ length (dev.moved k)
valid_at f view {dev = dev} {i = i} {k = k} v at h =
    let longer : length (dev.moved k) ≡ length (dev.moved i) + length h.bytes = ap (λ (z : List ℕ). length z) h.taken.bytes_moved ∙ length-append (dev.moved i) h.bytes in
    let place = h.answer.0.place in
    omega (arith, longer, place, at)

-- ---- one block

-- the bytes of a field that was read are its meaning
pub field_is : (n place : ℕ) (bytes chunk filled : List ℕ) → verdict (field n means) place bytes ≡ good chunk filled [] → bytes ≡ chunk
field_is n place bytes chunk filled e =
    elim (cases_lt (length bytes) n) [
      | inl short ↦
          let no : truncated (place + length bytes) ≡ good chunk filled [] = sym (field-short n means place bytes short) ∙ e in
          absurd (cc no)
      | inr long ↦
          let is : good (take n bytes) [] (drop n bytes) ≡ good chunk filled [] = sym (field-whole n means place bytes long) ∙ e in
          let front : take n bytes ≡ chunk = cc is in
          let none : drop n bytes ≡ [] = cc is in
          sym (take-append-drop n bytes) ∙ ap (λ (z : List ℕ). take n bytes ++ z) none ∙ append-nil (take n bytes) ∙ front
    ]

-- a field has no padding bytes
pub field_unfilled : (n place : ℕ) (bytes chunk filled : List ℕ) → verdict (field n means) place bytes ≡ good chunk filled [] → filled ≡ []
field_unfilled n place bytes chunk filled e =
    elim (cases_lt (length bytes) n) [
      | inl short ↦
          let no : truncated (place + length bytes) ≡ good chunk filled [] = sym (field-short n means place bytes short) ∙ e in
          absurd (cc no)
      | inr long ↦
          let is : good (take n bytes) [] (drop n bytes) ≡ good chunk filled [] = sym (field-whole n means place bytes long) ∙ e in
          let none : [] ≡ filled = cc is in
          sym none
    ]

-- the bytes of a field that was read
pub moved_chunk : {R : Type 0} (n : ℕ) (chunk : List ℕ) {f m : ReaderState}
    {dev : Ghosts R} {i k : R} →
    Reading (field n means) (λ (_ : Unit {0}). chunk) f m dev i k (Ok tt) → since (dev.moved i) (dev.moved k) ≡ chunk
moved_chunk n chunk {f = f} {dev = dev} {i = i} {k = k} h =
    since_is (dev.moved i) (dev.moved k) h.bytes h.taken.bytes_moved ∙ field_is n f.place h.bytes chunk h.answer.0.filled h.answer.0.whole

-- a block that spells the values that it needs
pub passes_block : {R : Type 0} (o : Option Layout) (size n bytes : ℕ) (chunk : List ℕ) {f m : ReaderState}
    {dev : Ghosts R} {i k : R} →
    IfSome o (λ layout. IsCode layout.code) → IfSome o (λ layout. bytes ≡ 2 ^ layout.block_bits) → IsSomeAnd o (λ layout. SpellsNeeded layout size n chunk) →
    Reading (field bytes means) (λ (_ : Unit {0}). chunk) f m dev i k (Ok tt) →
    IfSome o (λ layout. Reading (block_field layout size n) (λ (_ : Unit {0}). since (dev.moved i) (dev.moved k)) f m dev i k (Ok tt))
passes_block o size n bytes chunk {f = f} {m = m} {dev = dev} {i = i} {k = k} code long spells taken =
    subst (λ (z : List ℕ). IfSome o (λ layout. Reading (block_field layout size n) (λ (_ : Unit {0}). z) f m dev i k (Ok tt))) (sym (moved_chunk bytes chunk taken))
    (reads_block o size n bytes chunk code long spells taken)
