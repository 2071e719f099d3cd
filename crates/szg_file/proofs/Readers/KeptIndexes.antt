-- Block lengths of which some are kept, and the checks after them.
use Rattle.std.proofs.Common.{◌≡◌, ℕ, Bool, true, false, inl, inr, suc, ◌+◌, ◌*◌, ◌^◌, ◌<◌, ◌≤◌, arith, List, [], length, map, refl, sym, ap, ◌∙◌, Option, Some, None, Ok, Err, option_map}
use Rattle.std.proofs.Math.Pow.{pow_mono}
use Rattle.std.specs.Prelude.{IfSome, IsSomeAnd, IsTrue, slice_get}
use Rattle.std.proofs.lemmas.List.{length-map}
use Rattle.std.proofs.lemmas.Option.{slice_get-map}
use Rattle.szg_io.specs.declared.device.Input.{Ghosts}
use Rattle.szg_block.specs.Block.{start}
use Rattle.szg_block.specs.Kept.{kept_if, kept_lengths, with_lengths, IsKeptOf}
use Rattle.szg_block.specs.Layout.{Layout, SparseEntry}
use Rattle.szg_block.specs.Sound.{entry_count, HasGoodEntry, HasTotal}
use Rattle.szg_block.specs.Subtable.{IsLayoutFault}
use Rattle.szg_block.specs.declared.Entry.{Entry}
use Rattle.szg_block.specs.declared.SubFault.TheVariants.{ShortTotal, SparseEntry as BadEntry}
use Rattle.szg_block.proofs.Kept.{kept_enough}
use Rattle.szg_block.proofs.Values.{start-le-total}
use Rattle.szg_file.specs.declared.fault.Reason.{Reason}
use Rattle.szg_file.specs.declared.fault.Reason.TheVariants as reason
use Rattle.szg_file.specs.declared.fault.ReadFault.{ReadFault}
use Rattle.szg_file.specs.declared.fault.ReadFault.TheVariants.{Refused}
use Rattle.szg_file.specs.declared.reading.state.ReaderState.{ReaderState}
use Rattle.szg_file.specs.declared.begun.KeptLengths.{KeptLengths}
use Rattle.szg_file.specs.Contents.{Slot, Head, Subtable, constant, pairs, layout_of}
use Rattle.szg_file.specs.File.{Begun, index_check, lengths_of}
use Rattle.szg_file.specs.Format.{means, ◌>>=◌}
use Rattle.szg_file.specs.Held.{numbers_field, sparse_of}
use Rattle.szg_file.specs.Kept.{kept_begun, kept_field, kept_sub, IsKept}
use Rattle.szg_file.specs.Reading.{Reading, Checks}
use Rattle.szg_file.proofs.Readers.IndexChecks.{entry_count-most, following_lengths, index_bad, index_passes, index_short, lengths_checked, measured_or}
use Rattle.szg_file.proofs.Readers.ReadingLaws.{reads_then, reads_nothing, reads_stopped}
use Rattle.szg_file.proofs.Readers.Taken.{reads_like}

-- block lengths that were read and kept, and the results of the checks after them
kept_pairs : (all : Bool) (size : ℕ) (head : Head) (sparse : List SparseEntry) (list packed : List ℕ) → kept_sub all size (pairs head sparse list packed) ≡ pairs head sparse (kept_if all size list) packed
kept_pairs true size head sparse list packed = refl
kept_pairs false size head sparse list packed = refl

pub kept_checked : {X R : Type 0} (all : Bool) (slot : Slot) (index size : ℕ) (head : Head) (sparse : List SparseEntry) (old packed list kept : List ℕ) (v : X) (refusal : Option (ℕ × Reason)) {o n : ReaderState}
    {dev : Ghosts R} {i k : R} → size ≡ slot.size → kept ≡ kept_if all size list →
    Reading (numbers_field (head.blocks + head.extra)) (λ (_ : X). list) o n dev i k (Ok v) →
    Checks (index_check o.place index (layout_of head sparse list) size) refusal →
    Reading (kept_field all (record { slot = slot; subtable = pairs head sparse old packed; index = index })) (λ begun. begun) o n dev i k
    (measured_or refusal (record { slot = slot; subtable = pairs head sparse kept packed; index = index }))
kept_checked all slot index size head sparse old packed list kept v None sized is first checks =
    let found : Begun = record { slot = slot; subtable = pairs head sparse list packed; index = index } in
    let mine : Begun = record { slot = slot; subtable = pairs head sparse kept packed; index = index } in
    let same : kept_begun all found ≡ mine =
    ap (λ (s : Subtable). let b : Begun = record { slot = slot; subtable = s; index = index } in b)
    (kept_pairs all slot.size head sparse list packed ∙ ap (λ (l : List ℕ). pairs head sparse l packed) (sym (is ∙ ap (λ (n : ℕ). kept_if all n list) sized))) in
    reads_then (lengths_of slot index (pairs head sparse old packed)) (λ m. means (kept_begun all m)) (λ begun. begun) (λ begun. begun) found
    (lengths_checked slot index size head sparse old packed (λ _. list) v None sized first checks)
    (reads_nothing (means (kept_begun all found)) (λ begun. begun) mine (ap means same))
kept_checked all slot index size head sparse old packed list kept v (Some refusal) sized is first checks =
    reads_stopped (lengths_of slot index (pairs head sparse old packed)) (λ m. means (kept_begun all m)) (λ begun. begun) (λ begun. begun) (Refused refusal.0 refusal.1)
    (lengths_checked slot index size head sparse old packed (λ _. list) v (Some refusal) sized first checks)

-- a constant subtable has no block lengths
pub kept_constant : (all : Bool) (slot : Slot) (flags byte index : ℕ) →
    means (kept_begun all (record { slot = slot; subtable = constant flags byte; index = index })) ≡ means (record { slot = slot; subtable = constant flags byte; index = index })
kept_constant true slot flags byte index = refl
kept_constant false slot flags byte index = refl

-- block lengths that were not all read
pub kept_stopped : {X R : Type 0} (all : Bool) (slot : Slot) (index : ℕ) (head : Head) (sparse : List SparseEntry) (old packed : List ℕ) (view : X → List ℕ) (fault : ReadFault) {o n : ReaderState}
    {dev : Ghosts R} {i k : R} → Reading (numbers_field (head.blocks + head.extra)) view o n dev i k (Err fault) →
    Reading (kept_field all (record { slot = slot; subtable = pairs head sparse old packed; index = index })) (λ begun. begun) o n dev i k (Err fault)
kept_stopped all slot index head sparse old packed view fault {o = o} first =
    reads_stopped (lengths_of slot index (pairs head sparse old packed)) (λ m. means (kept_begun all m)) (λ begun. begun) (λ begun. begun) fault
    (reads_like (numbers_field (head.blocks + head.extra) >>= following_lengths slot index head sparse packed o.place) (lengths_of slot index (pairs head sparse old packed)) (λ begun. begun) (Err fault) (λ bytes. refl)
    (reads_stopped (numbers_field (head.blocks + head.extra)) (following_lengths slot index head sparse packed o.place) view (λ begun. begun) fault first))

-- the state after all lengths
entry_block : (before : ℕ) (whole : List ℕ) (last : ℕ) (o : Option Entry) → IfSome o (λ entry. last ≡ entry.block) → before ≡ start whole last → IfSome (option_map sparse_of o) (λ entry. before ≡ start whole entry.block)
entry_block before whole last None h e = tt
entry_block before whole last (Some entry) h e = e ∙ ap (start whole) h

-- up to a limit that is above all values all lengths are kept
pub kept_up_to : (all : Bool) (size limit last : ℕ) (list : List ℕ) (kept : KeptLengths) → IsKept limit last list kept → (IsTrue all → kept.values < limit) → (all ≡ false → limit ≡ size) →
    kept.lengths.items ≡ kept_if all size list
kept_up_to true size limit last list kept h above sized =
    let below = above refl in
    elim (kept_enough limit list) [
      | inl same ↦ h.lengths ∙ same
      | inr full ↦ absurd (omega (arith, below, full, h.values, start-le-total (kept_lengths limit list) (length (kept_lengths limit list))))
    ]
kept_up_to false size limit last list kept h above sized = h.lengths ∙ ap (λ (n : ℕ). kept_lengths n list) (sized refl)

pub is_kept_of : (all : Bool) (layout : Layout) (sparse : List Entry) (size limit last : ℕ) (list : List ℕ) (kept : KeptLengths) → IsKept limit last list kept → layout.lengths ≡ kept_if all size list → layout.sparse ≡ map sparse_of sparse →
    length list ≡ layout.blocks + layout.extra → ((j : ℕ) → suc j ≡ length sparse → IfSome (slice_get sparse j) (λ entry. last ≡ entry.block)) → IsKeptOf all layout size kept.before_last list
is_kept_of all layout sparse size limit last list kept h lengths same many ends = record {
  lengths = lengths;
  many = many;
  before = λ j is.
      let here = ends j (is ∙ ap (λ (l : List SparseEntry). length l) same ∙ length-map sparse sparse_of) in
      rw (same, slice_get-map sparse_of sparse j) (entry_block kept.before_last list last (slice_get sparse j) here h.before);
}

-- ---- the result of the check, as checks of the format

pub kept_passes : (place index size before_last : ℕ) (o : Option Layout) →
    IfSome o (λ layout. (all : Bool) (whole : List ℕ) → IsKeptOf all layout size before_last whole → HasTotal (with_lengths whole layout) size × ((j : ℕ) → HasGoodEntry (with_lengths whole layout) j)) →
    IfSome o (λ layout. (all : Bool) (whole : List ℕ) → IsKeptOf all layout size before_last whole → Checks (index_check place index (with_lengths whole layout) size) None)
kept_passes place index size before_last None h = tt
kept_passes place index size before_last (Some layout) h = λ all whole kept. index_passes place index size (Some (with_lengths whole layout)) (h all whole kept)

pub kept_short : (place index size before_last : ℕ) (o : Option Layout) → IsSomeAnd o (λ layout. (all : Bool) (whole packed : List ℕ) → IsKeptOf all layout size before_last whole → IsLayoutFault (with_lengths whole layout) packed size ShortTotal) →
    IfSome o (λ layout. (all : Bool) (whole : List ℕ) → IsKeptOf all layout size before_last whole → Checks (index_check place index (with_lengths whole layout) size) (Some (place, reason.ShortTotal)))
kept_short place index size before_last None h = tt
kept_short place index size before_last (Some layout) h = λ all whole kept. index_short place index size [] (Some (with_lengths whole layout)) (h all whole [] kept)

pub kept_entry_fails : (place index size before_last k : ℕ) (o : Option Layout) → IsSomeAnd o (λ layout. (all : Bool) (whole packed : List ℕ) → IsKeptOf all layout size before_last whole → IsLayoutFault (with_lengths whole layout) packed size (BadEntry k)) →
    IfSome o (λ layout. (all : Bool) (whole : List ℕ) → IsKeptOf all layout size before_last whole → Checks (index_check place index (with_lengths whole layout) size) (Some (index + 6 * k, reason.SparseEntry)))
kept_entry_fails place index size before_last k None h = tt
kept_entry_fails place index size before_last k (Some layout) h = λ all whole kept. index_bad place index size [] k (Some (with_lengths whole layout)) (h all whole [] kept)

-- an entry of the sparse index has a number below this bound
pub entry_below : (size k : ℕ) (fault : Layout → Type 0) (o : Option Layout) → IfSome o (λ layout. (layout.block_bits ≤ 18) × (1 ≤ layout.span_bits) × (layout.span_bits ≤ 31) × (layout.code.symbols ≡ length layout.entries)) →
    IfSome o (λ layout. length layout.sparse ≡ entry_count layout.span_bits size) → IfSome o (λ layout. k < length layout.sparse) → IsSomeAnd o fault → k < size + 2 ^ 31
entry_below size k fault None headed count within h = absurd h
entry_below size k fault (Some layout) headed count within h =
    let most = entry_count-most layout.span_bits size in
    let span : 2 ^ layout.span_bits ≤ 2 ^ 31 = pow_mono headed.2 in
    omega (arith, within, count, most, span)
