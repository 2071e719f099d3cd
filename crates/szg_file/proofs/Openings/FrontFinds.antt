-- Look-ups in a table that was opened by its front: the subtable, the bytes of the value's block, and the value.
use Rattle.std.proofs.Common.{◌≡◌, ℕ, ◌+◌, ◌-◌, ◌*◌, ◌^◌, ◌<◌, ◌≤◌, List, length, take, drop, refl, sym, ap, subst, ◌∙◌, arith, drop-drop, Option, Some, None, option_map}
use Rattle.std.specs.Prelude.{Bool, Result, Ok, Err, IfOk, IfErr, IfSome, IsSomeAnd, MatchOption, position, slice_get, option_and_then}
use Rattle.std.proofs.Math.Nat.{mul-le-mul_right}
use Rattle.std.proofs.lemmas.List.{length-map, length-drop, length-take-le, take-take, drop-take}
use Rattle.std.proofs.lemmas.Option.{slice_get-map}
use Rattle.szg_values.specs.declared.Kind.{Kind}
use Rattle.szg_block.specs.Block.{block_at, block_values}
use Rattle.szg_block.specs.BlocksTrait.{bytes_at}
use Rattle.szg_block.specs.Layout.{Layout}
use Rattle.szg_block.specs.Sound.{SpellsNeeded}
use Rattle.szg_block.specs.Steps.{block_location}
use Rattle.szg_block.specs.Subtable.{layout_of, IsShapedHead, HasSoundIndex}
use Rattle.szg_block.specs.declared.Sub.{Sub}
use Rattle.szg_block.specs.declared.Sub.TheVariants.{Constant, Pairs}
use Rattle.szg_block.proofs.Deciding.{has_total-true, first_bad_entry-None}
use Rattle.szg_file.specs.Contents.{Contents, Slot, slots, Subtable}
use Rattle.szg_file.specs.Fetching.{IsSpot, IsSpotAt, NamesBadBlock}
use Rattle.szg_file.specs.FrontTable.{FrontKept, IsFrontOf}
use Rattle.szg_file.specs.Index.{Index, slots_in, slot_in}
use Rattle.szg_file.specs.Located.{IsKeptIn}
use Rattle.szg_file.specs.Lookup.{byte_of}
use Rattle.szg_file.specs.Placed.{whole_sub, blocks_size, Fits, IsSlotted}
use Rattle.szg_file.specs.Unread.{front_at, IsDecoded, IsUnread}
use Rattle.szg_file.specs.Wanted.{IsSpelledBy, wanted_block}
use Rattle.szg_file.specs.Values.{subtable_at, constant_value}
use Rattle.szg_file.specs.declared.reading.dropping.PlacedSub.{PlacedSub}
use Rattle.szg_file.specs.declared.opened.fetching.FetchFault.{FetchFault}
use Rattle.szg_file.specs.declared.opened.fetching.FetchFault.TheVariants.{Block}
use Rattle.szg_file.specs.declared.opened.fetching.BlockSpot.{BlockSpot}
use Rattle.szg_file.proofs.Openings.KeptFronts.{kept_item, kept_subs_many}
use Rattle.szg_file.proofs.Openings.OpenedLaws.{all_at}
use Rattle.szg_file.proofs.Readers.PlacedSubs.{placed_at}
use Rattle.szg_file.proofs.Tables.TableFinds.{is_at, side_lengths, side_at, found_there}

-- ---- the subtable

pub record IsFrontFound (kept : FrontKept) (content : List ℕ) (all : Bool) (part side : ℕ) (slot : Slot) (sub : PlacedSub) : Type 0 where
  pub found : IsKeptIn all (front_at kept.index.material kept.index.kind content part side) content slot sub
  pub unread : IsUnread slot found.whole
  pub fits : Fits (length content) kept.room sub

module _ (kept : FrontKept) (content : List ℕ) (h : IsFrontOf kept content) where
  pub as_many_slots : length (slots_in kept.index) ≡ length kept.subs
  as_many_slots =
      let t : Contents = h.table in
      let many = side_lengths IsUnread (slots t.material t.kind t.parts) t.subtables h.unread in
      ap (λ (x : Index). length (slots_in x)) h.index_is ∙ many ∙ sym (kept_subs_many h.all (slots t.material t.kind t.parts) t.subtables many)
      ∙ ap (λ (z : List Subtable). length z) (sym h.subs_are) ∙ length-map kept.subs (whole_sub content)

  pub front_found : (part side : ℕ) (slot : Slot) (sub : PlacedSub) → IsSlotted (slots_in kept.index) kept.subs part side slot sub → IsFrontFound kept content h.all part side slot sub
  front_found part side slot sub (n, there, at, held) =
      let t : Contents = h.table in
      let here = subst (λ (x : Index). slice_get (slots_in x) n ≡ Some slot) h.index_is at in
      let seen = subst (λ (z : List Subtable). slice_get z n ≡ Some (whole_sub content sub)) h.subs_are (slice_get-map (whole_sub content) kept.subs n ∙ ap (option_map (whole_sub content)) held) in
      let item = kept_item h.all (slots t.material t.kind t.parts) t.subtables n slot (whole_sub content sub) here seen in
      record {
        found = record {
          whole = item.whole;
          is = ap (option_and_then (λ t. subtable_at t part side)) h.there
              ∙ found_there part side (slots t.material t.kind t.parts) t.subtables n slot item.whole (ap (λ (x : Index). position (is_at part side) (slots_in x)) (sym h.index_is) ∙ there) here item.there;
          kept_is = item.kept_is;
        };
        unread = side_at IsUnread (slots t.material t.kind t.parts) t.subtables h.unread n slot item.whole here item.there;
        fits = all_at (Fits (length content) kept.room) kept.subs n sub h.fits held;
      }

-- the slot that was found, by lists that equal the table's
module _ (kept : FrontKept) (placed : List Slot) (subs : List PlacedSub) (part side : ℕ) (same : placed ≡ slots_in kept.index) (same_subs : subs ≡ kept.subs) where
  pub many_slots : (content : List ℕ) → IsFrontOf kept content → length placed ≤ length subs
  many_slots content h = let many = as_many_slots kept content h in omega (arith, many, ap length same, ap length same_subs)

  pub no_front_slot : position (is_at part side) placed ≡ None → slot_in kept.index part side ≡ None
  no_front_slot none =
      ap (λ (z : List Slot). option_and_then (λ n. slice_get z n) (position (is_at part side) z)) (sym same) ∙ ap (option_and_then (λ n. slice_get placed n)) none

  pub one_front_slot : (slot : Slot) (sub : PlacedSub) → IsSlotted placed subs part side slot sub → slot_in kept.index part side ≡ Some slot
  one_front_slot slot sub (n, there, at, held) =
      ap (λ (z : List Slot). option_and_then (λ n. slice_get z n) (position (is_at part side) z)) (sym same) ∙ ap (option_and_then (λ n. slice_get placed n)) there ∙ at

  pub one_front_found : (content : List ℕ) (h : IsFrontOf kept content) (slot : Slot) (sub : PlacedSub) → IsSlotted placed subs part side slot sub → IsFrontFound kept content h.all part side slot sub
  one_front_found content h slot sub held =
      front_found kept content h part side slot sub
      (subst (λ (z : List Slot). IsSlotted z kept.subs part side slot sub) same (subst (λ (z : List PlacedSub). IsSlotted placed z part side slot sub) same_subs held))

-- ---- its properties

-- a value has a block just if its location has one
pub spot_none : {S : Type 0} (spot : Option S) (A : Type 0) (B : S → Type 0) → spot ≡ None → MatchOption spot A B → A
spot_none None A B e h = h
spot_none (Some s) A B e h = absurd (cc e)

pub spot_some : {S : Type 0} (spot : Option S) (s : S) (A : Type 0) (B : S → Type 0) → spot ≡ Some s → MatchOption spot A B → B s
spot_some None s A B e h = absurd (cc e)
spot_some (Some t) s A B e h = let same : t ≡ s = cc e in subst B same h

pub some_and : {A : Type 0} (o : Option A) (P Q : A → Type 0) → ((a : A) → P a → Q a) → IsSomeAnd o P → IsSomeAnd o Q
some_and None P Q all h = absurd h
some_and (Some a) P Q all h = all a h

pub if_some_second : {A : Type 0} (o : Option A) (P Q : A → Type 0) → IfSome o (λ a. P a × Q a) → IfSome o Q
if_some_second None P Q h = tt
if_some_second (Some a) P Q h = h.1

pub unread_known : (slot : Slot) (content : List ℕ) (sub : Sub) (first : ℕ) → IsUnread slot (whole_sub content (placed_at sub first)) → IsShapedHead sub slot.size × HasSoundIndex sub slot.size
unread_known slot content (Constant flags byte) first h =
    let least = h.0 in
    let most = h.1 in
    ((omega (arith, least, most), tt), tt)
unread_known slot content (Pairs flags block_bits span_bits extra blocks code dict sparse lengths packed) first h =
    let few = h.0.flags in (
      (
        omega (arith, few),
        record {
          block_bits = h.0.block_bits;
          some_span = h.0.span_some;
          span_bits = h.0.span_bits;
          symbols = h.0.symbols;
          sparse = h.1;
          lengths = h.2;
        },
      ),
      (has_total-true _ slot.size h.3.0, first_bad_entry-None _ h.3.1),
    )

-- ---- the bytes of the block

pub block_is_at : (block_bits blocks first n : ℕ) (content : List ℕ) → n < blocks → block_at block_bits (bytes_at content first (blocks * 2 ^ block_bits)) n ≡ bytes_at content (first + n * 2 ^ block_bits) (2 ^ block_bits)
unfolding block_at
block_is_at block_bits blocks first n content there =
    let w : ℕ = 2 ^ block_bits in
    let k : ℕ = blocks * w - n * w in
    let more : (n + 1) * w ≤ blocks * w = mul-le-mul_right w (omega arith) in
    let next : (n + 1) * w ≡ n * w + w = omega arith in
    let split : blocks * w ≡ n * w + k = omega (arith, more, next) in
    let long : w ≤ k = omega (arith, more, next) in
    ap (λ (m : ℕ). take w (drop (n * w) (take m (drop first content)))) split
    ∙ ap (λ (z : List ℕ). take w z) (drop-take (n * w) k (drop first content))
    ∙ take-take w k (drop (n * w) (drop first content)) long
    ∙ ap (λ (z : List ℕ). take w z) (drop-drop (n * w) first content)

short_in : (o : Option Layout) (first i : ℕ) (spot : BlockSpot) → IsSomeAnd o (λ layout. IsSpotAt layout first i spot) → spot.value.item < 65536
short_in None first i spot h = absurd h
short_in (Some layout) first i spot h = h.short

pub spot_short : (placed : PlacedSub) (i : ℕ) (spot : BlockSpot) → IsSpot placed i spot → spot.value.item < 65536
spot_short placed i spot h = short_in (layout_of placed.sub) placed.first i spot h

-- the bytes of the value's block end within those of all blocks
pub spot_inside : (sub : Sub) (first i count : ℕ) (spot : BlockSpot) → IsSpot (placed_at sub first) i spot → first + blocks_size sub ≤ count → spot.offset + spot.count ≤ count
spot_inside (Constant flags byte) first i count spot h inside = absurd h
spot_inside (Pairs flags block_bits span_bits extra blocks code dict sparse lengths packed) first i count spot h inside =
    let w : ℕ = 2 ^ block_bits in
    let n : ℕ = spot.value.block in
    let there = h.there in
    let more : (n + 1) * w ≤ blocks * w = mul-le-mul_right w (omega (arith, there)) in
    let next : (n + 1) * w ≡ n * w + w = omega arith in
    omega (arith, more, next, h.offset, h.count, inside)

-- ---- the value

pub constant_decoded : (kind : Kind) (slot : Slot) (content : List ℕ) (sub : Sub) (first i value : ℕ) → layout_of sub ≡ None → value ≡ constant_value kind (byte_of sub) → IsDecoded kind (slot, whole_sub content (placed_at sub first)) i value
constant_decoded kind slot content (Constant flags byte) first i value none is = is
constant_decoded kind slot content (Pairs flags block_bits span_bits extra blocks code dict sparse lengths packed) first i value none is = absurd (cc none)

pub value_decoded : (kind : Kind) (slot : Slot) (content : List ℕ) (sub : Sub) (first i value : ℕ) (spot : BlockSpot) (block : List ℕ) → IsSpot (placed_at sub first) i spot → block ≡ bytes_at content spot.offset spot.count →
    IfSome (layout_of sub) (λ layout. SpellsNeeded layout slot.size (block_location layout i).list block) → IfSome (layout_of sub) (λ layout. slice_get (block_values layout block) (block_location layout i).item ≡ Some value) →
    IsDecoded kind (slot, whole_sub content (placed_at sub first)) i value
value_decoded kind slot content (Constant flags byte) first i value spot block h is verified stated = absurd h
value_decoded kind slot content (Pairs flags block_bits span_bits extra blocks code dict sparse lengths packed) first i value spot block h is verified stated =
    let sub : Sub = Pairs flags block_bits span_bits extra blocks code dict sparse lengths packed in
    let here : block ≡ block_at block_bits (bytes_at content first (blocks * 2 ^ block_bits)) spot.value.block =
    is ∙ ap (λ (k : ℕ). bytes_at content k spot.count) h.offset ∙ ap (λ (k : ℕ). bytes_at content (first + spot.value.block * 2 ^ block_bits) k) h.count ∙ sym (block_is_at block_bits blocks first spot.value.block content h.there) in
    let at = here ∙ ap (λ (k : ℕ). block_at block_bits (bytes_at content first (blocks * 2 ^ block_bits)) k) h.block in
    subst (λ (z : List ℕ). IfSome (layout_of sub) (λ layout. SpellsNeeded layout slot.size (block_location layout i).list z × (slice_get (block_values layout z) (block_location layout i).item ≡ Some value))) at (verified, stated)

pub bad_named : (slot : Slot) (content : List ℕ) (sub : Sub) (first i : ℕ) (spot : BlockSpot) (block : List ℕ) (fault : FetchFault) → IsSpot (placed_at sub first) i spot → block ≡ bytes_at content spot.offset spot.count →
    fault ≡ Block spot.value.block spot.offset → IfSome (layout_of sub) (λ layout. ¬ SpellsNeeded layout slot.size (block_location layout i).list block) →
    NamesBadBlock content (slot, whole_sub content (placed_at sub first)) i fault
bad_named slot content (Constant flags byte) first i spot block fault h is e bad = absurd h
bad_named slot content (Pairs flags block_bits span_bits extra blocks code dict sparse lengths packed) first i spot block fault h is e bad =
    let sub : Sub = Pairs flags block_bits span_bits extra blocks code dict sparse lengths packed in
    let packed_bytes : List ℕ = bytes_at content first (blocks * 2 ^ block_bits) in
    let at : block_at block_bits packed_bytes spot.value.block ≡ bytes_at content spot.offset (2 ^ block_bits) =
    block_is_at block_bits blocks first spot.value.block content h.there ∙ ap (λ (k : ℕ). bytes_at content k (2 ^ block_bits)) (sym h.offset) in
    let here : block ≡ block_at block_bits packed_bytes spot.value.block = is ∙ ap (λ (k : ℕ). bytes_at content spot.offset k) h.count ∙ sym at in
    let not_spelled : IfSome (layout_of sub) (λ layout. ¬ SpellsNeeded layout slot.size spot.value.block (block_at block_bits packed_bytes spot.value.block)) =
    subst (λ (z : List ℕ). IfSome (layout_of sub) (λ layout. ¬ SpellsNeeded layout slot.size spot.value.block z)) here
    (subst (λ (k : ℕ). IfSome (layout_of sub) (λ layout. ¬ SpellsNeeded layout slot.size k block)) (sym h.block) bad) in
    subst (λ (f : FetchFault). NamesBadBlock content (slot, whole_sub content (placed_at sub first)) i f) (sym e) ((h.block, not_spelled), at)

-- ---- the bytes that a value needs

pub wanted_none : (content : List ℕ) (sub : Sub) (first i : ℕ) → layout_of sub ≡ None → wanted_block (whole_sub content (placed_at sub first)) i ≡ None
wanted_none content (Constant flags byte) first i none = refl
wanted_none content (Pairs flags block_bits span_bits extra blocks code dict sparse lengths packed) first i none = absurd (cc none)

pub wanted_spot : (content : List ℕ) (sub : Sub) (first i : ℕ) (spot : BlockSpot) → IsSpot (placed_at sub first) i spot →
    wanted_block (whole_sub content (placed_at sub first)) i ≡ Some (bytes_at content spot.offset spot.count)
wanted_spot content (Constant flags byte) first i spot h = absurd h
wanted_spot content (Pairs flags block_bits span_bits extra blocks code dict sparse lengths packed) first i spot h =
    let bytes : List ℕ = bytes_at content first (blocks * 2 ^ block_bits) in
    ap (λ (n : ℕ). Some (block_at block_bits bytes n)) (sym h.block)
    ∙ ap (λ (z : List ℕ). Some z) (block_is_at block_bits blocks first spot.value.block content h.there)
    ∙ ap (λ (k : ℕ). Some (bytes_at content k (2 ^ block_bits))) (sym h.offset)
    ∙ ap (λ (k : ℕ). Some (bytes_at content spot.offset k)) (sym h.count)

-- the block that the caller brings is the value's
pub wanted_brought : (content : List ℕ) (sub : Sub) (first i : ℕ) (spot : BlockSpot) (block : List ℕ) → IsSpot (placed_at sub first) i spot →
    IfSome (wanted_block (whole_sub content (placed_at sub first)) i) (λ wanted. wanted ≡ block) → block ≡ bytes_at content spot.offset spot.count
wanted_brought content sub first i spot block h is = sym (subst (λ (o : Option (List ℕ)). IfSome o (λ wanted. wanted ≡ block)) (wanted_spot content sub first i spot h) is)

pub block_long : (content : List ℕ) (offset count : ℕ) (block : List ℕ) → block ≡ bytes_at content offset count → offset + count ≤ length content → length block ≡ count
block_long content offset count block is inside =
    let left : length (drop offset content) ≡ length content - offset = length-drop offset content in
    ap (λ (z : List ℕ). length z) is ∙ length-take-le count (drop offset content) (omega (arith, left, inside))

-- a subtable without a block has the first case, one with a block the second
pub unwanted : (content : List ℕ) (sub : Sub) (first i : ℕ) (A : Type 0) (B : List ℕ → Type 0) → layout_of sub ≡ None → A → MatchOption (wanted_block (whole_sub content (placed_at sub first)) i) A B
unwanted content sub first i A B none a = subst (λ (o : Option (List ℕ)). MatchOption o A B) (sym (wanted_none content sub first i none)) a

pub wanted_long : (content : List ℕ) (sub : Sub) (first i : ℕ) (spot : BlockSpot) (A : Type 0) (B : ℕ → Type 0) → IsSpot (placed_at sub first) i spot → first + blocks_size sub ≤ length content → B spot.count →
    MatchOption (wanted_block (whole_sub content (placed_at sub first)) i) A (λ wanted. B (length wanted))
wanted_long content sub first i spot A B h inside b =
    let bytes : List ℕ = bytes_at content spot.offset spot.count in
    let long : length bytes ≡ spot.count = block_long content spot.offset spot.count bytes refl (spot_inside sub first i (length content) spot h inside) in
    subst (λ (o : Option (List ℕ)). MatchOption o A (λ wanted. B (length wanted))) (sym (wanted_spot content sub first i spot h)) (subst B (sym long) b)

-- ---- the value that any bytes spell

pub constant_spelled : (content : List ℕ) (sub : Sub) (first i : ℕ) (block : List ℕ) (stated : Option ℕ) → layout_of sub ≡ None → IsSpelledBy block (whole_sub content (placed_at sub first)) i stated
constant_spelled content (Constant flags byte) first i block stated none = tt
constant_spelled content (Pairs flags block_bits span_bits extra blocks code dict sparse lengths packed) first i block stated none = absurd (cc none)

pub block_spelled : (content : List ℕ) (sub : Sub) (first i value : ℕ) (spot : BlockSpot) (block : List ℕ) → IsSpot (placed_at sub first) i spot → length block ≡ spot.count →
    IfSome (layout_of sub) (λ layout. slice_get (block_values layout block) (block_location layout i).item ≡ Some value) → IsSpelledBy block (whole_sub content (placed_at sub first)) i (Some value)
block_spelled content (Constant flags byte) first i value spot block h long stated = absurd h
block_spelled content (Pairs flags block_bits span_bits extra blocks code dict sparse lengths packed) first i value spot block h long stated = (λ e. sym stated, λ no. absurd (no (long ∙ h.count)))

-- ---- two clauses of one result

pub ok_both : {X E : Type 0} (r : Result X E) (P Q S : X → Type 0) → IfOk r P → IfOk r Q → ((x : X) → P x → Q x → S x) → IfOk r S
ok_both (Ok x) P Q S h k both = both x h k
ok_both (Err e) P Q S h k both = tt

pub err_both : {X E : Type 0} (r : Result X E) (P Q S : E → Type 0) → IfErr r P → IfErr r Q → ((e : E) → P e → Q e → S e) → IfErr r S
err_both (Ok x) P Q S h k both = tt
err_both (Err e) P Q S h k both = both e h k

-- ---- a value in the bytes of the file

-- its block is none, or the bytes that were sliced
pub none_wanted : {X R : Type 0} (o : Option X) (W : X → Option (List ℕ)) (range : Option R) (B : X → R → Type 0) (block : List ℕ) → range ≡ None →
    IfSome o (λ found. MatchOption range (W found ≡ None) (B found)) → IfSome o (λ found. IfSome (W found) (λ wanted. wanted ≡ block))
none_wanted None W range B block e h = tt
none_wanted (Some found) W range B block e h = rw (spot_none range _ _ e h) tt

pub some_wanted : {X R : Type 0} (o : Option X) (W : X → Option (List ℕ)) (range : Option R) (r : R) (bytes : R → List ℕ) (block : List ℕ) → range ≡ Some r → block ≡ bytes r →
    IfSome o (λ found. MatchOption range (W found ≡ None) (λ x. W found ≡ Some (bytes x))) → IfSome o (λ found. IfSome (W found) (λ wanted. wanted ≡ block))
some_wanted None W range r bytes block e is h = tt
some_wanted (Some found) W range r bytes block e is h = rw (spot_some range r _ _ e h) (sym is)

pub given_wanted : {X : Type 0} (o : Option X) (W D : X → Type 0) → IfSome o W → IfSome o (λ found. W found → D found) → IfSome o D
given_wanted None W D w h = tt
given_wanted (Some found) W D w h = h w
