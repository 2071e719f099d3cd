-- Values that a sink accepts while blocks are read.
use Rattle.std.proofs.Common.{◌≡◌, ℕ, zero, suc, ◌+◌, ◌-◌, ◌*◌, ◌^◌, ◌<◌, ◌≤◌, Bool, true, false, List, [], ◌∷◌, ◌++◌, length, take, drop, replicate, refl, sym, ap, subst, ◌∙◌, append-nil, append_assoc, arith, map, None, Ok}
use Rattle.std.specs.Prelude.{IfSome}
use Rattle.std.specs.List.{FoldsTo, flat_map, range_with_len}
use Rattle.std.proofs.Math.Nat.{mul-le-mul_right}
use Rattle.std.proofs.Math.Seq.{drop-append_seam, take-length}
use Rattle.std.proofs.lemmas.List.{length-drop, length-map, map-append, drop-append-le, take-append-le}
use Rattle.std.proofs.lemmas.List.Concat.{flat_map-append}
use Rattle.szg_values.specs.declared.Kind.{Kind}
use Rattle.szg_block.specs.Block.{needed, block_at, block_values}
use Rattle.szg_block.proofs.Values.{range-last}
use Rattle.szg_block.specs.BlocksTrait.{bytes_at}
use Rattle.szg_block.specs.Expansion.{needed_values, joined_values}
use Rattle.szg_block.specs.Layout.{Layout}
use Rattle.szg_block.specs.Subtable.{layout_of}
use Rattle.szg_block.specs.declared.Sub.{Sub}
use Rattle.szg_block.specs.declared.Sub.TheVariants.{Constant, Pairs}
use Rattle.szg_io.specs.declared.device.Input.{Ghosts}
use Rattle.szg_file.specs.Format.{Format}
use Rattle.szg_file.specs.Held.{subtable_of}
use Rattle.szg_file.specs.Blocks.{with_blocks}
use Rattle.szg_file.specs.Placed.{since, whole_sub}
use Rattle.szg_file.specs.Reading.{Reading}
use Rattle.szg_file.specs.declared.reading.state.ReaderState.{ReaderState}
use Rattle.szg_file.proofs.Readers.PassedBlocks.{since_is}
use Rattle.szg_file.proofs.Readers.PlacedSubs.{last_bytes, placed_at}
use Rattle.szg_file.specs.Lookup.{byte_of}
use Rattle.szg_file.specs.Contents.{Slot, Subtable}
use Rattle.szg_file.specs.File.{Begun}
use Rattle.szg_file.specs.Streaming.{Accepted, values_if, wanted_values}
use Rattle.szg_file.specs.Values.{constant_value, slotted, values_in, values_of}

-- ---- chunks

pub folds_then : {P A : Type 0} (R : P → A → P → Type 0) (xs ys : List A) (p q r : P) → FoldsTo R p xs q → FoldsTo R q ys r → FoldsTo R p (xs ++ ys) r
folds_then R [] ys p q r first second = subst (λ (z : _). FoldsTo R z ys r) (sym first) second
folds_then R (x ∷ xs) ys p q r first second = (first.0, first.1, folds_then R xs ys first.0 q r first.2 second)

module _ {K W : Type 0} (accepts : K → W → List ℕ → K → W → Type 0) where
  pub accepted_none : (sink : K) (out : W) → Accepted accepts [] sink out sink out
  accepted_none sink out = record { chunks = []; joined = refl; steps = refl }

  pub accepted_then : (xs ys : List ℕ) {sink sink' sink'' : K} {out out' out'' : W} → Accepted accepts xs sink out sink' out' → Accepted accepts ys sink' out' sink'' out'' → Accepted accepts (xs ++ ys) sink out sink'' out''
  accepted_then xs ys {sink} {sink'} {sink''} {out} {out'} {out''} first second = record {
    chunks = first.chunks ++ second.chunks;
    joined = ap (λ (z : List ℕ). z ++ ys) first.joined ∙ ap (λ (z : List ℕ). flat_map (λ chunk. chunk) first.chunks ++ z) second.joined ∙ sym (flat_map-append (λ chunk. chunk) first.chunks second.chunks);
    steps = folds_then {P = K × W} (λ p chunk q. accepts p.0 p.1 chunk q.0 q.1) first.chunks second.chunks (sink, out) (sink', out') (sink'', out'') first.steps second.steps;
  }

  pub accepted_one : (values : List ℕ) {sink sink' : K} {out out' : W} → accepts sink out values sink' out' → Accepted accepts values sink out sink' out'
  accepted_one values {sink} {sink'} {out} {out'} step = record {
    chunks = values ∷ [];
    joined = sym (append-nil values);
    steps = ((sink', out'), step, refl);
  }

  pub accepted_as : (xs ys : List ℕ) {sink sink' : K} {out out' : W} → xs ≡ ys → Accepted accepts xs sink out sink' out' → Accepted accepts ys sink out sink' out'
  accepted_as xs ys {sink} {sink'} {out} {out'} e h = subst (λ (z : List ℕ). Accepted accepts z sink out sink' out') e h

  pub accepted_wanted : (wanted : Bool) (values : List ℕ) {sink sink' : K} {out out' : W} → wanted ≡ true → Accepted accepts values sink out sink' out' → Accepted accepts (values_if wanted values) sink out sink' out'
  accepted_wanted wanted values on h = accepted_as values (values_if wanted values) (ap (λ (b : Bool). values_if b values) (sym on)) h

  pub accepted_unwanted : (wanted : Bool) (values : List ℕ) (sink : K) (out : W) → wanted ≡ false → Accepted accepts (values_if wanted values) sink out sink out
  accepted_unwanted wanted values sink out off = accepted_as [] (values_if wanted values) (ap (λ (b : Bool). values_if b values) (sym off)) (accepted_none sink out)

pub values_if-append : (wanted : Bool) (xs ys : List ℕ) → values_if wanted xs ++ values_if wanted ys ≡ values_if wanted (xs ++ ys)
values_if-append true xs ys = refl
values_if-append false xs ys = refl

pub values_if_none : (wanted : Bool) (xs : List ℕ) → xs ≡ [] → values_if wanted xs ≡ []
values_if_none true xs none = none
values_if_none false xs none = refl

-- ---- a constant subtable

pub constant_values : (kind : Kind) (size : ℕ) (sub : Sub) → layout_of sub ≡ None → replicate size (constant_value kind (byte_of sub)) ≡ values_in kind size (subtable_of sub)
constant_values kind size (Constant flags byte) none = refl
constant_values kind size (Pairs flags block_bits span_bits extra blocks code dict sparse lengths packed) none = absurd cc

-- ---- blocks

-- the needed values of the first `count` blocks
pub first_values : Layout → List ℕ → ℕ → ℕ → List ℕ
first_values layout packed size count = flat_map (needed_values layout packed size) (range_with_len 0 count)

flat_map_last : (f : ℕ → List ℕ) (n : ℕ) → flat_map f (range_with_len 0 (suc n)) ≡ flat_map f (range_with_len 0 n) ++ f n
flat_map_last f n =
    let r : range_with_len 0 (suc n) ≡ range_with_len 0 n ++ (0 + n) ∷ [] = range-last 0 n in
    let z : 0 + n ≡ n = omega arith in
    ap (λ u. flat_map f u) r ∙ flat_map-append f (range_with_len 0 n) ((0 + n) ∷ []) ∙ ap (λ u. flat_map f (range_with_len 0 n) ++ u) (append-nil (f (0 + n)) ∙ ap f z)

flat_map_below : (f g : ℕ → List ℕ) (n : ℕ) → ((k : ℕ) → k < n → f k ≡ g k) → flat_map f (range_with_len 0 n) ≡ flat_map g (range_with_len 0 n)
flat_map_below f g zero h = refl
flat_map_below f g (suc n) h =
    flat_map_last f n ∙ ap (λ u. u ++ f n) (flat_map_below f g n (λ k l. h k (omega arith))) ∙ ap (λ u. flat_map g (range_with_len 0 n) ++ u) (h n (omega arith)) ∙ sym (flat_map_last g n)

pub first_none : (layout : Layout) (packed : List ℕ) (size : ℕ) → first_values layout packed size 0 ≡ []
unfolding first_values
first_none layout packed size = refl

pub first_all : (layout : Layout) (packed : List ℕ) (size : ℕ) → first_values layout packed size layout.blocks ≡ joined_values layout packed size
unfolding first_values joined_values
first_all layout packed size = refl

-- a block among the first ones stays where more bytes follow
earlier_block : (bits n k : ℕ) (packed block : List ℕ) → length packed ≡ n * 2 ^ bits → k < n → block_at bits (packed ++ block) k ≡ block_at bits packed k
unfolding block_at
earlier_block bits n k packed block long less =
    let inside : (k + 1) * 2 ^ bits ≤ n * 2 ^ bits = mul-le-mul_right (2 ^ bits) (omega arith) in
    let from : k * 2 ^ bits ≤ length packed = omega (arith, inside, long) in
    let left : length (drop (k * 2 ^ bits) packed) ≡ length packed - k * 2 ^ bits = length-drop (k * 2 ^ bits) packed in
    ap (λ (z : List ℕ). take (2 ^ bits) z) (drop-append-le (k * 2 ^ bits) packed block from)
    ∙ take-append-le (2 ^ bits) (drop (k * 2 ^ bits) packed) block (omega (arith, inside, long, left))

-- the block that follows
next_block : (bits n : ℕ) (packed block : List ℕ) → length packed ≡ n * 2 ^ bits → length block ≡ 2 ^ bits → block_at bits (packed ++ block) n ≡ block
unfolding block_at
next_block bits n packed block long whole =
    ap (λ (k : ℕ). take (2 ^ bits) (drop k (packed ++ block))) (sym long)
    ∙ ap (λ (z : List ℕ). take (2 ^ bits) z) (drop-append_seam packed block)
    ∙ ap (λ (k : ℕ). take k block) (sym whole) ∙ take-length block

-- the values of one block more
pub first_more : (layout : Layout) (packed block : List ℕ) (size n : ℕ) → length packed ≡ n * 2 ^ layout.block_bits → length block ≡ 2 ^ layout.block_bits →
    first_values layout (packed ++ block) size (n + 1) ≡ first_values layout packed size n ++ take (needed layout.lengths size n) (block_values layout block)
unfolding first_values needed_values
first_more layout packed block size n long whole =
    let next : n + 1 ≡ suc n = omega arith in
    let all : List ℕ = packed ++ block in
    ap (λ (k : ℕ). flat_map (needed_values layout all size) (range_with_len 0 k)) next
    ∙ flat_map_last (needed_values layout all size) n
    ∙ ap (λ (z : List ℕ). z ++ needed_values layout all size n)
    (flat_map_below (needed_values layout all size) (needed_values layout packed size) n
    (λ k l. ap (λ (z : List ℕ). take (needed layout.lengths size k) (block_values layout z)) (earlier_block layout.block_bits n k packed block long l)))
    ∙ ap (λ (z : List ℕ). first_values layout packed size n ++ take (needed layout.lengths size n) (block_values layout z)) (next_block layout.block_bits n packed block long whole)

-- so many bytes were moved with the blocks
pub blocks_long : {A X R : Type 0} (f : Format A) (view : X → A) {x : X} {o n : ReaderState} {dev : Ghosts R} {i k : R} {bytes : ℕ} → Reading f view o n dev i k (Ok x) → n.place ≡ o.place + bytes →
    length (since (dev.moved i) (dev.moved k)) ≡ bytes
blocks_long f view {dev = dev} {i = i} {k = k} h e =
    let moved : since (dev.moved i) (dev.moved k) ≡ h.bytes = since_is (dev.moved i) (dev.moved k) h.bytes h.taken.bytes_moved in
    let place = h.answer.0.place in
    ap (λ (z : List ℕ). length z) moved ∙ omega (arith, place, e)

-- the values of a subtable whose blocks were moved
pub placed_accepted : {K W : Type 0} (accepts : K → W → List ℕ → K → W → Type 0) (kind : Kind) (size : ℕ) (sub : Sub) (first : ℕ) (old new : List ℕ) (wanted : Bool) {sink sink' : K} {out out' : W} →
    (layout_of sub ≡ None → ⊥) → first ≡ length old → IfSome (layout_of sub) (λ layout. length new ≡ first + layout.blocks * 2 ^ layout.block_bits) →
    IfSome (layout_of sub) (λ layout. Accepted accepts (values_if wanted (joined_values layout (since old new) size)) sink out sink' out') →
    Accepted accepts (values_if wanted (values_in kind size (whole_sub new (placed_at sub first)))) sink out sink' out'
placed_accepted accepts kind size (Constant flags byte) first old new wanted some at ends h = absurd (some refl)
placed_accepted accepts kind size (Pairs flags block_bits span_bits extra blocks code dict sparse lengths packed) first old new wanted some at ends h =
    let here : since old new ≡ bytes_at new first (blocks * 2 ^ block_bits) = ap (λ (n : ℕ). drop n new) (sym at) ∙ last_bytes new first (blocks * 2 ^ block_bits) ends in
    let sub : Sub = Pairs flags block_bits span_bits extra blocks code dict sparse lengths packed in
    accepted_as accepts _ (values_if wanted (values_in kind size (whole_sub new (placed_at sub first))))
    (ap (λ (z : List ℕ). values_if wanted (values_in kind size (with_blocks (subtable_of sub) z))) here) h

-- ---- subtables

slotted_more : (slots : List Slot) (subs : List Subtable) (slot : Slot) (sub : Subtable) → length slots ≡ length subs → slotted (slots ++ slot ∷ []) (subs ++ sub ∷ []) ≡ slotted slots subs ++ (slot, sub) ∷ []
slotted_more [] [] slot sub e = refl
slotted_more [] (s ∷ subs) slot sub e = absurd (omega (arith, e))
slotted_more (x ∷ slots) [] slot sub e = absurd (omega (arith, e))
slotted_more (x ∷ slots) (s ∷ subs) slot sub e = ap (λ (z : List (Slot × Subtable)). (x, s) ∷ z) (slotted_more slots subs slot sub (omega (arith, e)))

wanted_more : (wanted : ℕ → ℕ → Bool) (kind : Kind) (pairs : List (Slot × Subtable)) (pair : Slot × Subtable) →
    wanted_values wanted kind (pairs ++ pair ∷ []) ≡ wanted_values wanted kind pairs ++ values_if (wanted pair.0.part pair.0.side) (values_of kind pair)
wanted_more wanted kind [] pair = append-nil (values_if (wanted pair.0.part pair.0.side) (values_of kind pair))
wanted_more wanted kind (p ∷ pairs) pair =
    ap (λ (z : List ℕ). values_if (wanted p.0.part p.0.side) (values_of kind p) ++ z) (wanted_more wanted kind pairs pair)
    ∙ sym (append_assoc (values_if (wanted p.0.part p.0.side) (values_of kind p)) (wanted_values wanted kind pairs) (values_if (wanted pair.0.part pair.0.side) (values_of kind pair)))

-- the values of one subtable more
pub wanted_next : (wanted : ℕ → ℕ → Bool) (kind : Kind) (list : List Begun) (n : ℕ) (m : Begun) (subs : List Subtable) (sub : Subtable) →
    take (n + 1) list ≡ take n list ++ m ∷ [] → length (take n list) ≡ length subs →
    wanted_values wanted kind (slotted (map (λ (b : Begun). b.slot) (take n list)) subs) ++ values_if (wanted m.slot.part m.slot.side) (values_in kind m.slot.size sub)
    ≡ wanted_values wanted kind (slotted (map (λ (b : Begun). b.slot) (take (n + 1) list)) (subs ++ sub ∷ []))
wanted_next wanted kind list n m subs sub next many =
    let slot_of : Begun → Slot = λ b. b.slot in
    let slots : List Slot = map slot_of (take n list) in
    let long : length slots ≡ length subs = length-map (take n list) slot_of ∙ many in
    let more : map slot_of (take (n + 1) list) ≡ slots ++ m.slot ∷ [] = ap (λ (z : List Begun). map slot_of z) next ∙ map-append slot_of (take n list) (m ∷ []) in
    sym (wanted_more wanted kind (slotted slots subs) (m.slot, sub))
    ∙ ap (λ (z : List (Slot × Subtable)). wanted_values wanted kind z) (sym (slotted_more slots subs m.slot sub long))
    ∙ ap (λ (z : List Slot). wanted_values wanted kind (slotted z (subs ++ sub ∷ []))) (sym more)
