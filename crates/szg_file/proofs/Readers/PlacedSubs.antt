-- Subtables whose blocks are among the bytes that were moved.
use Rattle.std.proofs.Common.{◌≡◌, ℕ, ◌+◌, ◌*◌, ◌^◌, ◌≤◌, List, [], ◌∷◌, ◌++◌, length, map, take, drop, refl, sym, ap, subst, ◌∙◌, arith, None, Ok, Err}
use Rattle.std.specs.Prelude.{IfSome}
use Rattle.std.specs.List.{AllByRecursion}
use Rattle.std.proofs.Math.Seq.{take-length}
use Rattle.std.proofs.lemmas.List.{length-append, length-drop, length-take, drop-append-le, take-append-le}
use Rattle.szg_block.specs.Layout.{SparseEntry}
use Rattle.szg_block.specs.BlocksTrait.{bytes_at}
use Rattle.szg_block.specs.Subtable.{layout_of}
use Rattle.szg_block.specs.declared.Sub.{Sub}
use Rattle.szg_block.specs.declared.Sub.TheVariants.{Constant, Pairs}
use Rattle.szg_file.specs.declared.reading.state.ReaderState.{ReaderState}
use Rattle.szg_file.specs.declared.fault.ReadFault.{ReadFault}
use Rattle.szg_file.specs.declared.fault.ReadFault.TheVariants.{Refused, Device, Memory}
use Rattle.szg_file.specs.declared.reading.dropping.PlacedSub.{PlacedSub}
use Rattle.szg_file.specs.Blocks.{with_blocks}
use Rattle.szg_file.specs.Contents.{Slot, Subtable, Head, pairs, layout_of as held_layout}
use Rattle.szg_file.specs.File.{filled_to, blocks_from, blocks_of}
use Rattle.szg_file.specs.Format.{Format, means, ◌>>=◌}
use Rattle.szg_file.specs.Held.{subtable_of, sparse_of}
use Rattle.szg_file.specs.Placed.{since, blocks_size, whole_sub, Fits}
use Rattle.szg_file.specs.Reading.{Reading}
use Rattle.szg_file.proofs.Readers.BlockReads.{constant_blocks, reads_fill_stopped}
use Rattle.szg_file.proofs.Grammar.CutLaws.{stops-nil}
use Rattle.szg_file.proofs.Readers.PassedBlocks.{valid_at}
use Rattle.szg_file.proofs.Readers.ReadingLaws.{reads_then, reads_stopped, reads_nothing}
use Rattle.szg_file.proofs.Readers.Taken.{reads_equal}
use Rattle.szg_io.specs.declared.device.Input.{Ghosts}
use Rattle.szg_io.proofs.DeviceLaws.{Takes-none}

-- an allocation is refused before any byte is read
pub lacks_first : {A X R : Type 0} (f : Format A) (view : X → A) {o n : ReaderState}
    {dev : Ghosts R} {i : R} → Reading f view o n dev i i (Err Memory)
lacks_first f view {o = o} {dev = dev} {i = i} = record { bytes = []; taken = Takes-none dev i 1; answer = (stops-nil f o.place, refl) }

-- a fault is independent of the view
stopped_as : {A X Y R : Type 0} (f : Format A) (view : X → A) (view' : Y → A) {o n : ReaderState}
    {dev : Ghosts R} {i k : R} (fault : ReadFault) → Reading f view o n dev i k (Err fault) → Reading f view' o n dev i k (Err fault)
stopped_as f view view' (Refused place reason) h = record { bytes = h.bytes; taken = h.taken; answer = h.answer }
stopped_as f view view' Device h = record { bytes = h.bytes; taken = h.taken; answer = h.answer }
stopped_as f view view' Memory h = record { bytes = h.bytes; taken = h.taken; answer = h.answer }

-- the padding before the blocks is not whole
pub reads_unfilled : {R : Type 0} (slot : Slot) (sub : Sub) (view : PlacedSub → Subtable) (fault : ReadFault) {f h : ReaderState}
    {dev : Ghosts R} {i k : R} → (layout_of sub ≡ None → ⊥) →
    Reading (filled_to 64) (λ (_ : Unit {0}). tt) f h dev i k (Err fault) →
    Reading (blocks_of slot (subtable_of sub)) view f h dev i k (Err fault)
reads_unfilled slot sub view fault some filled =
    stopped_as (blocks_of slot (subtable_of sub)) subtable_of view fault (reads_fill_stopped slot sub fault some filled)

-- ---- one subtable

abbrev pub placed_at : Sub → ℕ → PlacedSub
placed_at sub first = record { sub = sub; first = first }

pub constant_whole : (bytes : List ℕ) (sub : Sub) (first : ℕ) → layout_of sub ≡ None → whole_sub bytes (placed_at sub first) ≡ subtable_of sub
constant_whole bytes (Constant flags byte) first e = refl
constant_whole bytes (Pairs flags block_bits span_bits extra blocks code dict sparse lengths packed) first e = absurd cc

-- a constant one has no blocks
pub reads_constant : {R : Type 0} (slot : Slot) (sub : Sub) (first : ℕ) {f : ReaderState}
    {dev : Ghosts R} {i : R} → layout_of sub ≡ None →
    Reading (blocks_of slot (subtable_of sub)) (whole_sub (dev.moved i)) f f dev i i (Ok (placed_at sub first))
reads_constant slot sub first {dev = dev} {i = i} none =
    reads_nothing (blocks_of slot (subtable_of sub)) (whole_sub (dev.moved i)) (placed_at sub first)
    (constant_blocks slot sub none ∙ ap (λ (s : Subtable). means s) (sym (constant_whole (dev.moved i) sub first none)))

pub constant_fits : (count room : ℕ) (sub : Sub) → layout_of sub ≡ None → Fits count room (placed_at sub 0)
constant_fits count room (Constant flags byte) e = record { inside = omega arith; roomy = tt }
constant_fits count room (Pairs flags block_bits span_bits extra blocks code dict sparse lengths packed) e = absurd cc

pub placed_fits : (count room first : ℕ) (sub : Sub) → (layout_of sub ≡ None → ⊥) → IfSome (layout_of sub) (λ layout. count ≡ first + layout.blocks * 2 ^ layout.block_bits) →
    IfSome (layout_of sub) (λ layout. 2 ^ layout.block_bits ≤ room) → Fits count room (placed_at sub first)
placed_fits count room first (Constant flags byte) some ends roomy = absurd (some refl)
placed_fits count room first (Pairs flags block_bits span_bits extra blocks code dict sparse lengths packed) some ends roomy =
    record { inside = omega (arith, ends); roomy = roomy }

-- the last `count` bytes
pub last_bytes : (bytes : List ℕ) (first count : ℕ) → length bytes ≡ first + count → drop first bytes ≡ bytes_at bytes first count
last_bytes bytes first count e =
    let left : length (drop first bytes) ≡ count = omega (arith, length-drop first bytes, e) in
    sym (take-length (drop first bytes)) ∙ ap (λ (n : ℕ). take n (drop first bytes)) left

-- the blocks after their padding
pub reads_placed : {R : Type 0} (slot : Slot) (size : ℕ) (sub : Sub) {f m h : ReaderState}
    {dev : Ghosts R} {i j k : R} →
    size ≡ slot.size → (layout_of sub ≡ None → ⊥) → m.place ≡ length (dev.moved j) →
    IfSome (layout_of sub) (λ layout. length (dev.moved k) ≡ m.place + layout.blocks * 2 ^ layout.block_bits) →
    Reading (filled_to 64) (λ (_ : Unit {0}). tt) f m dev i j (Ok tt) →
    IfSome (layout_of sub) (λ layout. Reading (blocks_from layout size 0 layout.blocks) (λ (_ : Unit {0}). since (dev.moved j) (dev.moved k)) m h dev j k (Ok tt)) →
    Reading (blocks_of slot (subtable_of sub)) (whole_sub (dev.moved k)) f h dev i k (Ok (placed_at sub m.place))
reads_placed slot size (Constant flags byte) sized some at ends filled read = absurd (some refl)
reads_placed slot size (Pairs flags block_bits span_bits extra blocks code dict sparse lengths old) {m = m} {dev = dev} {j = j} {k = k} sized some at ends filled read =
    let sub : Sub = Pairs flags block_bits span_bits extra blocks code dict sparse lengths old in
    let head : Head = record { flags = flags; block_bits = block_bits; span_bits = span_bits; extra = extra; blocks = blocks; code = code; entries = dict } in
    let entries : List SparseEntry = map sparse_of sparse.items in
    let all : Format (List ℕ) = blocks_from (held_layout head entries lengths.items) slot.size 0 blocks in
    let same_size : blocks_from (held_layout head entries lengths.items) size 0 blocks ≡ all = ap (λ (n : ℕ). blocks_from (held_layout head entries lengths.items) n 0 blocks) sized in
    let found : List ℕ → Subtable = λ p. pairs head entries lengths.items p in
    let bytes : List ℕ = since (dev.moved j) (dev.moved k) in
    let here : bytes ≡ bytes_at (dev.moved k) m.place (blocks * 2 ^ block_bits) =
    ap (λ (n : ℕ). drop n (dev.moved k)) (sym at) ∙ last_bytes (dev.moved k) m.place (blocks * 2 ^ block_bits) ends in
    reads_then (filled_to 64) (λ _. all >>= λ p. means (found p)) (λ (_ : Unit {0}). tt) (whole_sub (dev.moved k)) tt filled
    (reads_then all (λ p. means (found p)) (λ (_ : Unit {0}). bytes) (whole_sub (dev.moved k)) tt (reads_equal _ all (λ (_ : Unit {0}). bytes) (Ok tt) same_size read)
    (reads_nothing (means (found bytes)) (whole_sub (dev.moved k)) (placed_at sub m.place) (ap (λ (p : List ℕ). means (found p)) here)))

pub reads_placed_stopped : {R : Type 0} (slot : Slot) (size : ℕ) (sub : Sub) (fault : ReadFault) (view : PlacedSub → Subtable) (seen : List ℕ) {f m h : ReaderState}
    {dev : Ghosts R} {i j k : R} →
    size ≡ slot.size → (layout_of sub ≡ None → ⊥) →
    Reading (filled_to 64) (λ (_ : Unit {0}). tt) f m dev i j (Ok tt) →
    IfSome (layout_of sub) (λ layout. Reading (blocks_from layout size 0 layout.blocks) (λ (_ : Unit {0}). seen) m h dev j k (Err fault)) →
    Reading (blocks_of slot (subtable_of sub)) view f h dev i k (Err fault)
reads_placed_stopped slot size (Constant flags byte) fault view seen sized some filled read = absurd (some refl)
reads_placed_stopped slot size (Pairs flags block_bits span_bits extra blocks code dict sparse lengths old) fault view seen sized some filled read =
    let head : Head = record { flags = flags; block_bits = block_bits; span_bits = span_bits; extra = extra; blocks = blocks; code = code; entries = dict } in
    let entries : List SparseEntry = map sparse_of sparse.items in
    let all : Format (List ℕ) = blocks_from (held_layout head entries lengths.items) slot.size 0 blocks in
    let same_size : blocks_from (held_layout head entries lengths.items) size 0 blocks ≡ all = ap (λ (n : ℕ). blocks_from (held_layout head entries lengths.items) n 0 blocks) sized in
    let found : List ℕ → Subtable = λ p. pairs head entries lengths.items p in
    reads_then (filled_to 64) (λ _. all >>= λ p. means (found p)) (λ (_ : Unit {0}). tt) view tt filled
    (reads_stopped all (λ p. means (found p)) (λ (_ : Unit {0}). seen) view fault (reads_equal _ all (λ (_ : Unit {0}). seen) (Err fault) same_size read))

-- the number of bytes that were moved
pub ends_at : {R : Type 0} (size : ℕ) (sub : Sub) (m h : ReaderState) (dev : Ghosts R) (j k : R) → m.place ≡ length (dev.moved j) →
    IfSome (layout_of sub) (λ layout. h.place ≡ m.place + layout.blocks * 2 ^ layout.block_bits) →
    IfSome (layout_of sub) (λ layout. Reading (blocks_from layout size 0 layout.blocks) (λ (_ : Unit {0}). since (dev.moved j) (dev.moved k)) m h dev j k (Ok tt)) →
    IfSome (layout_of sub) (λ layout. length (dev.moved k) ≡ m.place + layout.blocks * 2 ^ layout.block_bits)
ends_at size (Constant flags byte) m h dev j k at count read = tt
ends_at size (Pairs flags block_bits span_bits extra blocks code dict sparse lengths old) m h dev j k at count read = sym (valid_at _ _ tt at read) ∙ count

-- ---- the buffer

pub room_is : (sub : Sub) (size n : ℕ) → IfSome (layout_of sub) (λ layout. size ≡ 2 ^ layout.block_bits) → n ≡ size → IfSome (layout_of sub) (λ layout. n ≡ 2 ^ layout.block_bits)
room_is sub size n h e = subst (λ (k : ℕ). IfSome (layout_of sub) (λ layout. k ≡ 2 ^ layout.block_bits)) (sym e) h

pub roomy_for : (sub : Sub) (size room : ℕ) → IfSome (layout_of sub) (λ layout. size ≡ 2 ^ layout.block_bits) → size ≤ room → IfSome (layout_of sub) (λ layout. 2 ^ layout.block_bits ≤ room)
roomy_for (Constant flags byte) size room h e = tt
roomy_for (Pairs flags block_bits span_bits extra blocks code dict sparse lengths packed) size room h e = omega (arith, h, e)

-- overwriting the front of a list does not change its length
pub still_long : (len : ℕ) (given items : List ℕ) → length items ≡ len → length items ≤ length (take len (given ++ drop (length given) items))
still_long len given items e =
    omega (arith, e, length-take len (given ++ drop (length given) items), length-append given (drop (length given) items), length-drop (length given) items)

-- ---- more bytes

within : (bytes more : List ℕ) (first count : ℕ) → first + count ≤ length bytes → bytes_at (bytes ++ more) first count ≡ bytes_at bytes first count
within bytes more first count h =
    let fits : count ≤ length (drop first bytes) = omega (arith, length-drop first bytes, h) in
    ap (λ (z : List ℕ). take count z) (drop-append-le first bytes more (omega arith)) ∙ take-append-le count (drop first bytes) more fits

pub kept_whole : (bytes more : List ℕ) (room : ℕ) (subs : List PlacedSub) → AllByRecursion (Fits (length bytes) room) subs →
    map (whole_sub (bytes ++ more)) subs ≡ map (whole_sub bytes) subs
kept_whole bytes more room [] h = refl
kept_whole bytes more room (sub ∷ subs) h =
    let here : whole_sub (bytes ++ more) sub ≡ whole_sub bytes sub =
    ap (λ (z : List ℕ). with_blocks (subtable_of sub.sub) z) (within bytes more sub.first (blocks_size sub.sub) h.0.inside) in
    ap (λ (s : Subtable). s ∷ map (whole_sub (bytes ++ more)) subs) here ∙ ap (λ (l : List Subtable). whole_sub bytes sub ∷ l) (kept_whole bytes more room subs h.1)

roomier : (room room' : ℕ) (sub : Sub) → room ≤ room' → IfSome (layout_of sub) (λ layout. 2 ^ layout.block_bits ≤ room) → IfSome (layout_of sub) (λ layout. 2 ^ layout.block_bits ≤ room')
roomier room room' (Constant flags byte) h r = tt
roomier room room' (Pairs flags block_bits span_bits extra blocks code dict sparse lengths packed) h r = omega (arith, h, r)

pub still_fit : (count count' room room' : ℕ) (subs : List PlacedSub) → count ≤ count' → room ≤ room' →
    AllByRecursion (Fits count room) subs → AllByRecursion (Fits count' room') subs
still_fit count count' room room' [] longer larger h = tt
still_fit count count' room room' (sub ∷ subs) longer larger h =
    let inside = h.0.inside in (
      record { inside = omega (arith, inside, longer); roomy = roomier room room' sub.sub larger h.0.roomy },
      still_fit count count' room room' subs longer larger h.1,
    )

pub all_fit : (P : PlacedSub → Type 0) (subs : List PlacedSub) (sub : PlacedSub) → AllByRecursion P subs → P sub → AllByRecursion P (subs ++ sub ∷ [])
all_fit P [] sub h p = (p, tt)
all_fit P (s ∷ subs) sub h p = (h.0, all_fit P subs sub h.1 p)
