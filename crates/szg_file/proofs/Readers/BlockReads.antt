-- Blocks that are read in order, and the subtables that contain them.
use Rattle.std.proofs.Common.{◌≡◌, ℕ, zero, suc, ◌+◌, ◌-◌, ◌^◌, ◌<◌, Bool, List, [], ◌++◌, refl, sym, ap, ◌∙◌, append_assoc, append-nil, arith, length, map, take, drop, Option, Some, None, Ok, Err}
use Rattle.std.specs.Prelude.{IfSome, IsSomeAnd}
use Rattle.std.proofs.Common.{Vec, Global}
use Rattle.std.proofs.Math.Seq.{take-length}
use Rattle.std.proofs.lemmas.Bool.{false_from_ne_true}
use Rattle.std.proofs.lemmas.List.{length-drop}
use Rattle.szg_code.specs.Acceptance.{IsCode}
use Rattle.szg_block.specs.Layout.{Layout, SparseEntry}
use Rattle.szg_block.specs.Sound.{SpellsNeeded}
use Rattle.szg_block.specs.FirstFault.{spells_needed}
use Rattle.szg_block.specs.Subtable.{layout_of}
use Rattle.szg_block.specs.declared.Sub.{Sub}
use Rattle.szg_block.specs.declared.Sub.TheVariants.{Constant, Pairs}
use Rattle.szg_block.proofs.Deciding.{spells_needed-true, spells_needed-of}
use Rattle.szg_file.specs.declared.reading.state.ReaderState.{ReaderState}
use Rattle.szg_file.specs.declared.fault.Reason.TheVariants.{Word}
use Rattle.szg_file.specs.declared.fault.ReadFault.{ReadFault}
use Rattle.szg_file.specs.declared.fault.ReadFault.TheVariants.{Refused}
use Rattle.szg_file.specs.Format.{Format, field, means, refuses, ◌>>=◌}
use Rattle.szg_file.specs.Contents.{Slot, Subtable, Head, pairs, layout_of as held_layout}
use Rattle.szg_file.specs.File.{demand, filled_to, block_field, blocks_from, blocks_of}
use Rattle.szg_file.specs.Blocks.{with_blocks}
use Rattle.szg_file.specs.Held.{subtable_of, sparse_of}
use Rattle.szg_file.specs.Reading.{Reading}
use Rattle.szg_file.proofs.Grammar.EachLaws.{then-then, then-means}
use Rattle.szg_file.proofs.Readers.ReadingLaws.{reads_then, reads_stopped, reads_nothing, reads_refused}
use Rattle.szg_io.specs.declared.device.Input.{Ghosts}
use Rattle.szg_file.proofs.Readers.Taken.{reads_like, reads_equal}

-- ---- one block

-- the check that follows a block's bytes
abbrev then_checked : Layout → ℕ → ℕ → ℕ → List ℕ → Format (List ℕ)
then_checked layout size n place bytes = demand (spells_needed layout size n bytes) place Word >>= λ _. means bytes

-- a block that spells the values that it needs
pub reads_block : {R : Type 0} (o : Option Layout) (size n bytes : ℕ) (chunk : List ℕ) {f m : ReaderState}
    {dev : Ghosts R} {i k : R} →
    IfSome o (λ layout. IsCode layout.code) → IfSome o (λ layout. bytes ≡ 2 ^ layout.block_bits) → IsSomeAnd o (λ layout. SpellsNeeded layout size n chunk) →
    Reading (field bytes means) (λ (_ : Unit {0}). chunk) f m dev i k (Ok tt) →
    IfSome o (λ layout. Reading (block_field layout size n) (λ (_ : Unit {0}). chunk) f m dev i k (Ok tt))
reads_block None size n bytes chunk code long spells taken = tt
reads_block (Some layout) size n bytes chunk {f = f} code long spells taken =
    let next : List ℕ → Format (List ℕ) = then_checked layout size n f.place in
    let passes : next chunk ≡ means chunk = ap (λ (b : Bool). demand b f.place Word >>= λ _. means chunk) (spells_needed-of layout code size n chunk spells) in
    reads_like (field (2 ^ layout.block_bits) means >>= next) (block_field layout size n) (λ (_ : Unit {0}). chunk) (Ok tt) (λ text. refl)
    (reads_then (field (2 ^ layout.block_bits) means) next (λ (_ : Unit {0}). chunk) (λ (_ : Unit {0}). chunk) tt
    (reads_equal (field bytes means) (field (2 ^ layout.block_bits) means) (λ (_ : Unit {0}). chunk) (Ok tt) (ap (λ (z : ℕ). field z means) long) taken)
    (reads_nothing (next chunk) (λ (_ : Unit {0}). chunk) tt passes))

-- a block that was not read whole
pub reads_block_stopped : {R : Type 0} (o : Option Layout) (size n bytes : ℕ) (view view' : Unit {0} → List ℕ) (fault : ReadFault) {f m : ReaderState}
    {dev : Ghosts R} {i k : R} →
    IfSome o (λ layout. bytes ≡ 2 ^ layout.block_bits) → Reading (field bytes means) view f m dev i k (Err fault) →
    IfSome o (λ layout. Reading (block_field layout size n) view' f m dev i k (Err fault))
reads_block_stopped None size n bytes view view' fault long taken = tt
reads_block_stopped (Some layout) size n bytes view view' fault {f = f} long taken =
    let next : List ℕ → Format (List ℕ) = then_checked layout size n f.place in
    reads_like (field (2 ^ layout.block_bits) means >>= next) (block_field layout size n) view' (Err fault) (λ text. refl)
    (reads_stopped (field (2 ^ layout.block_bits) means) next view view' fault
    (reads_equal (field bytes means) (field (2 ^ layout.block_bits) means) view (Err fault) (ap (λ (z : ℕ). field z means) long) taken))

-- any other block is refused at its first byte
pub reads_block_refused : {R : Type 0} (o : Option Layout) (size n bytes : ℕ) (chunk : List ℕ) (view : Unit {0} → List ℕ) {f m : ReaderState}
    {dev : Ghosts R} {i k : R} →
    IfSome o (λ layout. bytes ≡ 2 ^ layout.block_bits) → IsSomeAnd o (λ layout. ¬ SpellsNeeded layout size n chunk) →
    Reading (field bytes means) (λ (_ : Unit {0}). chunk) f m dev i k (Ok tt) →
    IfSome o (λ layout. Reading (block_field layout size n) view f m dev i k (Err (Refused f.place Word)))
reads_block_refused None size n bytes chunk view long lacks taken = tt
reads_block_refused (Some layout) size n bytes chunk view {f = f} long lacks taken =
    let next : List ℕ → Format (List ℕ) = then_checked layout size n f.place in
    let stops : next chunk ≡ refuses f.place Word =
    ap (λ (b : Bool). demand b f.place Word >>= λ _. means chunk) (false_from_ne_true (spells_needed layout size n chunk) (λ e. lacks (spells_needed-true layout size n chunk e))) in
    reads_like (field (2 ^ layout.block_bits) means >>= next) (block_field layout size n) view (Err (Refused f.place Word)) (λ text. refl)
    (reads_then (field (2 ^ layout.block_bits) means) next (λ (_ : Unit {0}). chunk) view tt
    (reads_equal (field bytes means) (field (2 ^ layout.block_bits) means) (λ (_ : Unit {0}). chunk) (Ok tt) (ap (λ (z : ℕ). field z means) long) taken)
    (reads_refused (next chunk) view f.place Word stops))

-- ---- blocks

-- `a` blocks followed by `b` blocks
pub blocks-append : (layout : Layout) (size n a b : ℕ) →
    blocks_from layout size n (a + b) ≡ blocks_from layout size n a >>= (λ xs. blocks_from layout size (n + a) b >>= λ ys. means (xs ++ ys))
blocks-append layout size n zero b =
    let none : 0 + b ≡ b = omega arith in
    let here : n ≡ n + 0 = omega arith in
    ap (blocks_from layout size n) none
    ∙ sym (then-means (blocks_from layout size n b))
    ∙ ap (λ (m : ℕ). blocks_from layout size m b >>= λ ys. means ys) here
blocks-append layout size n (suc a) b =
    let first : Format (List ℕ) = block_field layout size n in
    let some : Format (List ℕ) = blocks_from layout size (n + 1) a in
    let at : ℕ = n + suc a in
    let last : List ℕ → Format (List ℕ) = λ xs. blocks_from layout size at b >>= λ ys. means (xs ++ ys) in
    let one_more : suc a + b ≡ suc (a + b) = omega arith in
    let same : (n + 1) + a ≡ at = omega arith in
    let following : blocks_from layout size (n + 1) (a + b) ≡ some >>= last =
    blocks-append layout size (n + 1) a b ∙ ap (λ (m : ℕ). some >>= (λ xs. blocks_from layout size m b >>= λ ys. means (xs ++ ys))) same in
    ap (blocks_from layout size n) one_more
    ∙ ap (λ (h : Format (List ℕ)). first >>= λ x. h >>= λ zs. means (x ++ zs)) following
    ∙ ap (λ (k : List ℕ → Format (List ℕ)). first >>= k)
    (λ i x. (then-then some last (λ zs. means (x ++ zs))
    ∙ ap (λ (k : List ℕ → Format (List ℕ)). some >>= k) (λ j us. then-then (blocks_from layout size at b) (λ ys. means (us ++ ys)) (λ zs. means (x ++ zs)) j)
    ∙ (λ j. some >>= λ us. blocks_from layout size at b >>= λ ys. means (sym (append_assoc x us ys) j))) i)
    ∙ sym (then-then first (λ x. some >>= λ us. means (x ++ us)) last
    ∙ ap (λ (k : List ℕ → Format (List ℕ)). first >>= k) (λ i x. then-then some (λ us. means (x ++ us)) last i))

blocks-cut : (layout : Layout) (size n b : ℕ) →
    blocks_from layout size 0 (n + b) ≡ blocks_from layout size 0 n >>= (λ xs. blocks_from layout size n b >>= λ ys. means (xs ++ ys))
blocks-cut layout size n b =
    let here : 0 + n ≡ n = omega arith in
    blocks-append layout size 0 n b ∙ ap (λ (m : ℕ). blocks_from layout size 0 n >>= (λ xs. blocks_from layout size m b >>= λ ys. means (xs ++ ys))) here

-- one more block
pub reads_blocks_more : {X Y Z R : Type 0} (layout : Layout) (size n : ℕ) (view : X → List ℕ) (view' : Y → List ℕ) (view'' : Z → List ℕ) {f m h : ReaderState}
    {dev : Ghosts R} {i j k : R} (v : X) (y : Y) (z : Z) → view'' z ≡ view v ++ view' y →
    Reading (blocks_from layout size 0 n) view f m dev i j (Ok v) →
    Reading (block_field layout size n) view' m h dev j k (Ok y) →
    Reading (blocks_from layout size 0 (n + 1)) view'' f h dev i k (Ok z)
reads_blocks_more layout size n view view' view'' v y z e first second =
    reads_equal (blocks_from layout size 0 n >>= (λ xs. blocks_from layout size n 1 >>= λ ys. means (xs ++ ys))) (blocks_from layout size 0 (n + 1)) view'' (Ok z) (sym (blocks-cut layout size n 1))
    (reads_then (blocks_from layout size 0 n) (λ xs. blocks_from layout size n 1 >>= λ ys. means (xs ++ ys)) view view'' v first
    (reads_equal (block_field layout size n >>= (λ x. means (view v ++ (x ++ [])))) (blocks_from layout size n 1 >>= λ ys. means (view v ++ ys)) view'' (Ok z)
    (sym (then-then (block_field layout size n) (λ x. means (x ++ [])) (λ ys. means (view v ++ ys))))
    (reads_then (block_field layout size n) (λ x. means (view v ++ (x ++ []))) view' view'' y second
    (reads_nothing (means (view v ++ (view' y ++ []))) view'' z (ap means (ap (λ (l : List ℕ). view v ++ l) (append-nil (view' y)) ∙ sym e))))))

-- a fault within a block ends the reading of all blocks
pub reads_blocks_stopped : {X Y Z R : Type 0} (layout : Layout) (size n : ℕ) (view : X → List ℕ) (view' : Y → List ℕ) (view'' : Z → List ℕ) {f m h : ReaderState}
    {dev : Ghosts R} {i j k : R} (v : X) (fault : ReadFault) → n < layout.blocks →
    Reading (blocks_from layout size 0 n) view f m dev i j (Ok v) →
    Reading (block_field layout size n) view' m h dev j k (Err fault) →
    Reading (blocks_from layout size 0 layout.blocks) view'' f h dev i k (Err fault)
reads_blocks_stopped layout size n view view' view'' v fault there first second =
    let rest : ℕ = layout.blocks - (n + 1) in
    let all : n + suc rest ≡ layout.blocks = omega (arith, there) in
    reads_equal (blocks_from layout size 0 n >>= (λ xs. blocks_from layout size n (suc rest) >>= λ ys. means (xs ++ ys))) (blocks_from layout size 0 layout.blocks) view'' (Err fault)
    (sym (blocks-cut layout size n (suc rest)) ∙ ap (blocks_from layout size 0) all)
    (reads_then (blocks_from layout size 0 n) (λ xs. blocks_from layout size n (suc rest) >>= λ ys. means (xs ++ ys)) view view'' v first
    (reads_stopped (blocks_from layout size n (suc rest)) (λ ys. means (view v ++ ys)) view'' view'' fault
    (reads_stopped (block_field layout size n) (λ x. blocks_from layout size (n + 1) rest >>= λ more. means (x ++ more)) view' view'' fault second)))

-- the tail of a list from an index on, as a slice reads it
pub tail_of : (old new read : List ℕ) (at : ℕ) → at ≡ length old → read ≡ new → take (length read - at) (drop at read) ≡ drop (length old) new
tail_of old new read at here same =
    let all : take (length read - at) (drop at read) ≡ drop at read =
    ap (λ (n : ℕ). take n (drop at read)) (sym (length-drop at read)) ∙ take-length (drop at read) in
    all ∙ ap (drop at) same ∙ ap (λ (n : ℕ). drop n new) here

-- ---- a subtable

pub constant_blocks : (slot : Slot) (sub : Sub) → layout_of sub ≡ None → blocks_of slot (subtable_of sub) ≡ means (subtable_of sub)
constant_blocks slot (Constant flags byte) e = refl
constant_blocks slot (Pairs flags block_bits span_bits extra blocks code dict sparse lengths packed) e = absurd cc

pub reads_sub : {R : Type 0} (slot : Slot) (size : ℕ) (sub sub' : Sub) (packed : Vec ℕ Global) {f m h : ReaderState}
    {dev : Ghosts R} {i j k : R} →
    size ≡ slot.size → (layout_of sub ≡ None → ⊥) → subtable_of sub' ≡ with_blocks (subtable_of sub) packed.items →
    Reading (filled_to 64) (λ (_ : Unit {0}). tt) f m dev i j (Ok tt) →
    IfSome (layout_of sub) (λ layout. Reading (blocks_from layout size 0 layout.blocks) (λ (l : Vec ℕ Global). l.items) m h dev j k (Ok packed)) →
    Reading (blocks_of slot (subtable_of sub)) subtable_of f h dev i k (Ok sub')
reads_sub slot size (Constant flags byte) sub' packed sized some same filled read = absurd (some refl)
reads_sub slot size (Pairs flags block_bits span_bits extra blocks code dict sparse lengths old) sub' packed sized some same filled read =
    let head : Head = record { flags = flags; block_bits = block_bits; span_bits = span_bits; extra = extra; blocks = blocks; code = code; entries = dict } in
    let entries : List SparseEntry = map sparse_of sparse.items in
    let all : Format (List ℕ) = blocks_from (held_layout head entries lengths.items) slot.size 0 blocks in
    let same_size : blocks_from (held_layout head entries lengths.items) size 0 blocks ≡ all = ap (λ (n : ℕ). blocks_from (held_layout head entries lengths.items) n 0 blocks) sized in
    let found : List ℕ → Subtable = λ p. pairs head entries lengths.items p in
    let view : Vec ℕ Global → List ℕ = λ l. l.items in
    reads_then (filled_to 64) (λ _. all >>= λ p. means (found p)) (λ (_ : Unit {0}). tt) subtable_of tt filled
    (reads_then all (λ p. means (found p)) view subtable_of packed (reads_equal _ all view (Ok packed) same_size read) (reads_nothing (means (found packed.items)) subtable_of sub' (ap means (sym same))))

-- a fault within the padding ends the reading of a subtable's blocks
pub reads_fill_stopped : {R : Type 0} (slot : Slot) (sub : Sub) (fault : ReadFault) {f h : ReaderState}
    {dev : Ghosts R} {i k : R} → (layout_of sub ≡ None → ⊥) →
    Reading (filled_to 64) (λ (_ : Unit {0}). tt) f h dev i k (Err fault) →
    Reading (blocks_of slot (subtable_of sub)) subtable_of f h dev i k (Err fault)
reads_fill_stopped slot (Constant flags byte) fault some filled = absurd (some refl)
reads_fill_stopped slot (Pairs flags block_bits span_bits extra blocks code dict sparse lengths old) fault some filled =
    let head : Head = record { flags = flags; block_bits = block_bits; span_bits = span_bits; extra = extra; blocks = blocks; code = code; entries = dict } in
    let entries : List SparseEntry = map sparse_of sparse.items in
    let all : Format (List ℕ) = blocks_from (held_layout head entries lengths.items) slot.size 0 blocks in
    let found : List ℕ → Subtable = λ p. pairs head entries lengths.items p in
    reads_stopped (filled_to 64) (λ _. all >>= λ p. means (found p)) (λ (_ : Unit {0}). tt) subtable_of fault filled

pub reads_sub_stopped : {R : Type 0} (slot : Slot) (size : ℕ) (sub : Sub) (fault : ReadFault) {f m h : ReaderState}
    {dev : Ghosts R} {i j k : R} →
    size ≡ slot.size → (layout_of sub ≡ None → ⊥) →
    Reading (filled_to 64) (λ (_ : Unit {0}). tt) f m dev i j (Ok tt) →
    IfSome (layout_of sub) (λ layout. Reading (blocks_from layout size 0 layout.blocks) (λ (l : Vec ℕ Global). l.items) m h dev j k (Err fault)) →
    Reading (blocks_of slot (subtable_of sub)) subtable_of f h dev i k (Err fault)
reads_sub_stopped slot size (Constant flags byte) fault sized some filled read = absurd (some refl)
reads_sub_stopped slot size (Pairs flags block_bits span_bits extra blocks code dict sparse lengths old) fault sized some filled read =
    let head : Head = record { flags = flags; block_bits = block_bits; span_bits = span_bits; extra = extra; blocks = blocks; code = code; entries = dict } in
    let entries : List SparseEntry = map sparse_of sparse.items in
    let all : Format (List ℕ) = blocks_from (held_layout head entries lengths.items) slot.size 0 blocks in
    let same_size : blocks_from (held_layout head entries lengths.items) size 0 blocks ≡ all = ap (λ (n : ℕ). blocks_from (held_layout head entries lengths.items) n 0 blocks) sized in
    let found : List ℕ → Subtable = λ p. pairs head entries lengths.items p in
    let view : Vec ℕ Global → List ℕ = λ l. l.items in
    reads_then (filled_to 64) (λ _. all >>= λ p. means (found p)) (λ (_ : Unit {0}). tt) subtable_of tt filled
    (reads_stopped all (λ p. means (found p)) view subtable_of fault (reads_equal _ all view (Err fault) same_size read))
