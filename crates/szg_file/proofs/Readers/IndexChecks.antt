-- The result of `check_kept_index` as checks of the format, and the number of rows of a field of rows.
use Rattle.std.proofs.Common.{◌≡◌, ℕ, zero, suc, ◌+◌, ◌-◌, ◌*◌, ◌^◌, ◌<◌, Bool, true, List, [], length, map, take, drop, refl, sym, ap, ◌∙◌, inl, inr, Option, Some, None, Ok, Err, arith}
use Rattle.std.specs.Prelude.{IfSome, Result}
use Rattle.std.proofs.Math.Nat.{div-le_self}
use Rattle.std.proofs.lemmas.Nat.{pow_pos}
use Rattle.std.proofs.lemmas.Bool.{cases_lt, false_from_ne_true}
use Rattle.std.proofs.lemmas.List.{length-map}
use Rattle.szg_pairs.specs.Dictionary.{FailsFirst}
use Rattle.szg_pairs.proofs.Accepting.{FailsFirst-unique}
use Rattle.szg_block.specs.Layout.{Layout, SparseEntry}
use Rattle.szg_block.specs.Sound.{entry_count, HasTotal, HasGoodEntry}
use Rattle.szg_block.specs.FirstFault.{has_total, first_bad_entry}
use Rattle.szg_block.specs.Subtable.{IsFaultOf}
use Rattle.szg_block.specs.declared.SubFault.TheVariants.{ShortTotal, SparseEntry as BadEntry}
use Rattle.szg_block.proofs.Deciding.{has_total-true, has_total-of, first_bad_entry-None, first_bad_entry-Some}
use Rattle.szg_file.specs.declared.reading.state.ReaderState.{ReaderState}
use Rattle.szg_file.specs.declared.fault.Reason.{Reason}
use Rattle.szg_file.specs.declared.fault.Reason.TheVariants as reason
use Rattle.szg_file.specs.declared.fault.ReadFault.{ReadFault}
use Rattle.szg_file.specs.declared.fault.ReadFault.TheVariants.{Refused}
use Rattle.szg_file.specs.Format.{Format, means, good, truncated, verdict, ◌>>=◌, ◌>>◌}
use Rattle.szg_file.specs.Contents.{Slot, Head, pairs, layout_of, items, number_of}
use Rattle.szg_file.specs.File.{Begun, rows_field, demand, none_fails, index_check, lengths_of}
use Rattle.szg_file.specs.Held.{numbers_field}
use Rattle.szg_file.specs.Reading.{Reading, Checks}
use Rattle.szg_io.specs.declared.device.Input.{Ghosts}
use Rattle.szg_file.proofs.Grammar.FormatLaws.{field-short, field-whole}
use Rattle.szg_file.proofs.Readers.ReadingLaws.{reads_then, reads_nothing, reads_refused}
use Rattle.szg_file.proofs.Readers.Taken.{reads_like}

-- ---- the two checks

no_item : (o : Option ℕ) → ((k : ℕ) → o ≡ Some k → ⊥) → o ≡ None
no_item None h = refl
no_item (Some k) h = absurd (h k refl)

-- the checks by their results
abbrev checks_at : ℕ → ℕ → Bool → Option ℕ → Format (Unit {0})
checks_at place index total bad = demand total place reason.ShortTotal >>= λ _. none_fails bad (λ item. index + 6 * item) reason.SparseEntry

first_is : (layout : Layout) (k : ℕ) → FailsFirst (HasGoodEntry layout) k → (o : Option ℕ) → first_bad_entry layout ≡ o → o ≡ Some k
first_is layout k first None e = absurd (first.here (first_bad_entry-None layout e k))
first_is layout k first (Some j) e = ap (λ (n : ℕ). Some n) (FailsFirst-unique (HasGoodEntry layout) j k (first_bad_entry-Some layout j e) first)

pub index_passes : (place index size : ℕ) (o : Option Layout) → IfSome o (λ layout. HasTotal layout size × ((j : ℕ) → HasGoodEntry layout j)) →
    IfSome o (λ layout. Checks (index_check place index layout size) None)
index_passes place index size None h = tt
index_passes place index size (Some layout) h =
    ap (λ (b : Bool). checks_at place index b (first_bad_entry layout)) (has_total-of layout size h.0)
    ∙ ap (checks_at place index true) (no_item (first_bad_entry layout) (λ k e. (first_bad_entry-Some layout k e).here (h.1 k)))

pub index_short : (place index size : ℕ) (packed : List ℕ) (o : Option Layout) → IsFaultOf o packed size ShortTotal →
    IfSome o (λ layout. Checks (index_check place index layout size) (Some (place, reason.ShortTotal)))
index_short place index size packed None h = absurd h
index_short place index size packed (Some layout) h =
    ap (λ (b : Bool). checks_at place index b (first_bad_entry layout)) (false_from_ne_true (has_total layout size) (λ e. h (has_total-true layout size e)))

pub index_bad : (place index size : ℕ) (packed : List ℕ) (k : ℕ) (o : Option Layout) → IsFaultOf o packed size (BadEntry k) →
    IfSome o (λ layout. Checks (index_check place index layout size) (Some (index + 6 * k, reason.SparseEntry)))
index_bad place index size packed k None h = absurd h
index_bad place index size packed k (Some layout) h =
    ap (λ (b : Bool). checks_at place index b (first_bad_entry layout)) (has_total-of layout size h.0)
    ∙ ap (checks_at place index true) (first_is layout k h.1 (first_bad_entry layout) refl)

-- the number of entries of a sparse index is less than the number of positions plus a span
pub entry_count-most : (span_bits size : ℕ) → entry_count span_bits size < size + 2 ^ span_bits
unfolding entry_count
entry_count-most span_bits size =
    let some = pow_pos span_bits in
    omega (arith, div-le_self (size + 2 ^ span_bits - 1) (2 ^ span_bits), some)

-- ---- rows

items-count : (size count : ℕ) (bytes : List ℕ) → length (items size count bytes) ≡ count
items-count size zero bytes = refl
items-count size (suc count) bytes = ap suc (items-count size count (drop size bytes))

counted : {B : Type 0} (f : List ℕ → B) (size count place : ℕ) (bytes : List ℕ) (a : List B) (filled rest : List ℕ) →
    verdict (rows_field size count >>= λ rows. means (map f rows)) place bytes ≡ good a filled rest → length a ≡ count
counted {B = B} f size count place bytes a filled rest e =
    let next : List ℕ → Format (List B) = λ b. means (map f (items size count b)) in
    elim (cases_lt (length bytes) (size * count)) [
      | inl short ↦
          let no : truncated (place + length bytes) ≡ good a filled rest = sym (field-short (size * count) next place bytes short) ∙ e in
          absurd cc
      | inr whole ↦
          let rows : List (List ℕ) = items size count (take (size * count) bytes) in
          let is : good (map f rows) [] (drop (size * count) bytes) ≡ good a filled rest = sym (field-whole (size * count) next place bytes whole) ∙ e in
          let same : map f rows ≡ a = cc in
          sym (ap length same) ∙ length-map rows f ∙ items-count size count (take (size * count) bytes)
    ]

-- so many numbers were read
pub numbers_many : {X R : Type 0} (count : ℕ) (view : X → List ℕ) (v : X) {o n : ReaderState} {dev : Ghosts R} {i k : R} → Reading (numbers_field count) view o n dev i k (Ok v) → length (view v) ≡ count
numbers_many count view v {o = o} h = counted number_of 2 count o.place h.bytes (view v) h.answer.0.filled [] h.answer.0.whole

-- ---- block lengths and the checks after them

-- the subtable with its block lengths, or the refusal by a check
abbrev pub measured_or : Option (ℕ × Reason) → Begun → Result Begun ReadFault
measured_or None found = Ok found
measured_or (Some refusal) found = Err (Refused refusal.0 refusal.1)

-- the checks after block lengths that begin at offset `place`
abbrev pub following_lengths : Slot → ℕ → Head → List SparseEntry → List ℕ → ℕ → List ℕ → Format Begun
following_lengths slot index head sparse packed place numbers =
    index_check place index (layout_of head sparse numbers) slot.size >> means (record { slot = slot; subtable = pairs head sparse numbers packed; index = index })

-- block lengths that were read, and the results of the checks after them
pub lengths_checked : {X R : Type 0} (slot : Slot) (index size : ℕ) (head : Head) (sparse : List SparseEntry) (old packed : List ℕ) (view : X → List ℕ) (v : X) (refusal : Option (ℕ × Reason)) {o n : ReaderState}
    {dev : Ghosts R} {i k : R} → size ≡ slot.size →
    Reading (numbers_field (head.blocks + head.extra)) view o n dev i k (Ok v) →
    Checks (index_check o.place index (layout_of head sparse (view v)) size) refusal →
    Reading (lengths_of slot index (pairs head sparse old packed)) (λ begun. begun) o n dev i k
    (measured_or refusal (record { slot = slot; subtable = pairs head sparse (view v) packed; index = index }))
lengths_checked slot index size head sparse old packed view v None {o = o} sized first checks =
    let found : Begun = record { slot = slot; subtable = pairs head sparse (view v) packed; index = index } in
    let passes = rw sized at checks in
    reads_like (numbers_field (head.blocks + head.extra) >>= following_lengths slot index head sparse packed o.place) (lengths_of slot index (pairs head sparse old packed)) (λ begun. begun) (Ok found) (λ bytes. refl)
    (reads_then (numbers_field (head.blocks + head.extra)) (following_lengths slot index head sparse packed o.place) view (λ begun. begun) v first
    (reads_nothing _ (λ begun. begun) found (ap (λ (f : Format (Unit {0})). f >> means found) passes)))
lengths_checked slot index size head sparse old packed view v (Some refusal) {o = o} sized first checks =
    let found : Begun = record { slot = slot; subtable = pairs head sparse (view v) packed; index = index } in
    let stops = rw sized at checks in
    reads_like (numbers_field (head.blocks + head.extra) >>= following_lengths slot index head sparse packed o.place) (lengths_of slot index (pairs head sparse old packed)) (λ begun. begun) (Err (Refused refusal.0 refusal.1)) (λ bytes. refl)
    (reads_then (numbers_field (head.blocks + head.extra)) (following_lengths slot index head sparse packed o.place) view (λ begun. begun) v first
    (reads_refused _ (λ begun. begun) refusal.0 refusal.1 (ap (λ (f : Format (Unit {0})). f >> means found) stops)))
