-- Opened tables: the slots and subtables are those of the table whose file the source's bytes begin with, and sound
-- over these bytes.
use Rattle.std.proofs.Common.{◌≡◌, ℕ, zero, suc, ◌+◌, ◌*◌, ◌^◌, ◌≤◌, List, [], ◌∷◌, ◌++◌, length, map, take, drop, replicate, sym, ap, subst, ◌∙◌, arith, Option, Some, None, Err, option_map}
use Rattle.std.specs.Prelude.{IfSome, IfNone, position, slice_get, option_and_then}
use Rattle.std.specs.List.{AllByRecursion}
use Rattle.std.proofs.lemmas.List.{length-map, length-append, take-append-drop}
use Rattle.std.proofs.lemmas.Option.{slice_get-map}
use Rattle.szg_values.specs.declared.Kind.{Kind}
use Rattle.szg_values.specs.Material.{Sides}
use Rattle.szg_block.specs.BlocksTrait.{bytes_at, packed_blocks, raised}
use Rattle.szg_block.specs.Views.{IsReady}
use Rattle.szg_block.specs.Subtable.{layout_of, IsSoundOver, values_over}
use Rattle.szg_block.specs.declared.Sub.{Sub}
use Rattle.szg_block.specs.declared.Sub.TheVariants.{Constant, Pairs}
use Rattle.szg_block.proofs.Chunks.{packed_blocks-chunks}
use Rattle.szg_block.proofs.SoundSources.{ready_paged}
use Rattle.szg_file.specs.Accepted.{IsSubtable, IsAccepted}
use Rattle.szg_file.specs.Contents.{Contents, Slot, slots, Subtable}
use Rattle.szg_file.specs.File.{file}
use Rattle.szg_file.specs.Format.{Format, Verdict, good, refused, truncated, verdict}
use Rattle.szg_file.specs.Held.{part_of}
use Rattle.szg_file.specs.Lookup.{byte_of}
use Rattle.szg_file.specs.Opened.{Opened, opened_at, requested_after, table_of, table_in, opened_fault, IsOpenRefusal, IsOpened}
use Rattle.szg_file.specs.Outline.{outlined}
use Rattle.szg_file.specs.Placed.{blocks_size, whole_sub, Fits, IsSlotted, IsPlacedIn}
use Rattle.szg_file.specs.Reading.{Reading, Advances}
use Rattle.szg_file.specs.WholeRead.{FollowsVerdict, Refuses}
use Rattle.szg_file.specs.Values.{item, subtable_at, constant_value, values_of}
use Rattle.szg_file.specs.declared.fault.Reason.{Reason}
use Rattle.szg_file.specs.declared.fault.ReadFault.{ReadFault}
use Rattle.szg_file.specs.declared.fault.ReadFault.TheVariants.{Refused, Device, Memory}
use Rattle.szg_file.specs.declared.reading.state.ReaderState.{ReaderState}
use Rattle.szg_file.specs.declared.reading.Outline.{Outline}
use Rattle.szg_file.specs.declared.reading.dropping.PlacedSub.{PlacedSub}
use Rattle.szg_file.proofs.Grammar.FormatLaws.{good-more}
use Rattle.szg_file.proofs.Readers.PlacedSubs.{placed_at, kept_whole, still_fit}
use Rattle.szg_file.proofs.Readers.ReadAnswers.{whole_file, fault_follows}
use Rattle.szg_file.proofs.Tables.SoundLaws.{accepted_code, accepted_shape, accepted_subtable}
use Rattle.szg_io.specs.declared.device.Input.{Ghosts}
use Rattle.szg_file.proofs.Tables.TableFinds.{is_at, item-slice_get, side_lengths, side_at, not_found, found_there}

-- ---- a subtable over the bytes

pub placed_ready : (slot : Slot) (content : List ℕ) (sub : Sub) (first count w : ℕ) → IsSubtable slot (whole_sub content (placed_at sub first)) → first + blocks_size sub ≤ length content →
    IfSome (layout_of sub) (λ layout. count ≡ layout.blocks) → IfSome (layout_of sub) (λ layout. w ≡ 2 ^ layout.block_bits) →
    IsReady sub slot.size count (λ n. bytes_at content (first + n * w) w)
placed_ready slot content (Constant flags byte) first count w h inside all long =
    let least = h.0 in
    let most = h.1 in
    ready_paged content first slot.size count w (Constant flags byte) (omega (arith, least, most), tt) tt tt tt tt tt
placed_ready slot content (Pairs flags block_bits span_bits extra blocks code dict sparse lengths packed) first count w h inside all long =
    let sub : Sub = Pairs flags block_bits span_bits extra blocks code dict sparse lengths packed in
    let few = h.head_is_valid.flags in
    let many : blocks * 2 ^ block_bits ≡ count * w = ap (λ (k : ℕ). blocks * k) (sym long) ∙ ap (λ (k : ℕ). k * w) (sym all) in
    ready_paged content first slot.size count w sub (omega (arith, few), accepted_shape slot.size _ _ _ _ h) (accepted_code _ h.head_is_valid.code) all long inside
    (subst (λ (k : ℕ). IsSoundOver sub (bytes_at content first k) slot.size) many (accepted_subtable slot.size _ _ _ _ h))

pub value_placed : (kind : Kind) (slot : Slot) (content : List ℕ) (sub : Sub) (first count w i value : ℕ) →
    IfSome (layout_of sub) (λ layout. count ≡ layout.blocks) → IfSome (layout_of sub) (λ layout. w ≡ 2 ^ layout.block_bits) →
    slice_get (values_over sub (packed_blocks (λ n. bytes_at content (first + n * w) w) count) slot.size (constant_value kind (byte_of sub))) i ≡ Some value →
    item (values_of kind (slot, whole_sub content (placed_at sub first))) i ≡ Some value
value_placed kind slot content (Constant flags byte) first count w i value all long e = item-slice_get (replicate slot.size (constant_value kind byte)) i ∙ e
value_placed kind slot content (Pairs flags block_bits span_bits extra blocks code dict sparse lengths packed) first count w i value all long e =
    let sub : Sub = Pairs flags block_bits span_bits extra blocks code dict sparse lengths packed in
    let many : blocks * 2 ^ block_bits ≡ count * w = ap (λ (k : ℕ). blocks * k) (sym long) ∙ ap (λ (k : ℕ). k * w) (sym all) in
    let same : bytes_at content first (blocks * 2 ^ block_bits) ≡ packed_blocks (λ n. bytes_at content (first + n * w) w) count =
    ap (λ (k : ℕ). bytes_at content first k) many ∙ sym (packed_blocks-chunks content w first count) in
    item-slice_get (values_of kind (slot, whole_sub content (placed_at sub first))) i
    ∙ ap (λ (z : List ℕ). slice_get (values_over sub z slot.size 0) i) same ∙ e

-- ---- searches

pub all_at : (P : PlacedSub → Type 0) (xs : List PlacedSub) (k : ℕ) (x : PlacedSub) → AllByRecursion P xs → slice_get xs k ≡ Some x → P x
all_at P [] k x h e = let no : None ≡ Some x = e in absurd (cc no)
all_at P (a ∷ xs) zero x h e = let same : a ≡ x = cc e in subst P same h.0
all_at P (a ∷ xs) (suc k) x h e = all_at P xs k x h.1 e

-- there is one subtable per slot
pub as_many_kept : (material : Sides) (kind : Kind) (content : List ℕ) (room : ℕ) (placed : List Slot) (subs : List PlacedSub) → IsOpened material kind content room placed subs →
    length placed ≡ length subs
as_many_kept material kind content room placed subs h =
    let t : Contents = h.table in
    ap (λ (z : List Slot). length z) h.slots_are ∙ side_lengths IsSubtable (slots t.material t.kind t.parts) t.subtables h.accepted.subtables
    ∙ ap (λ (z : List Subtable). length z) (sym h.subs_are) ∙ length-map subs (whole_sub content)

at_table : (there : Option Contents) (t : Contents) (part side : ℕ) → there ≡ Some t → option_and_then (λ t. subtable_at t part side) there ≡ subtable_at t part side
at_table there t part side e = ap (option_and_then (λ t. subtable_at t part side)) e

pub opened_absent : (material : Sides) (kind : Kind) (content : List ℕ) (room : ℕ) (placed : List Slot) (subs : List PlacedSub) (part side : ℕ) → IsOpened material kind content room placed subs →
    position (is_at part side) placed ≡ None → option_and_then (λ t. subtable_at t part side) (table_in material kind content) ≡ None
opened_absent material kind content room placed subs part side h none =
    let t : Contents = h.table in
    at_table _ t part side h.there
    ∙ not_found part side (slots t.material t.kind t.parts) t.subtables (ap (λ (z : List Slot). position (is_at part side) z) (sym h.slots_are) ∙ none)

-- the subtable with a number, its slot, and its properties
pub record IsKept (content : List ℕ) (room : ℕ) (there : Option (Slot × Subtable)) (slot : Slot) (sub : PlacedSub) : Type 0 where
  pub is : there ≡ Some (slot, whole_sub content sub)
  pub is_valid : IsSubtable slot (whole_sub content sub)
  pub fits : Fits (length content) room sub

pub opened_present : (material : Sides) (kind : Kind) (content : List ℕ) (room : ℕ) (placed : List Slot) (subs : List PlacedSub) (part side : ℕ) (slot : Slot) (sub : PlacedSub) →
    IsOpened material kind content room placed subs → IsSlotted placed subs part side slot sub →
    IsKept content room (option_and_then (λ t. subtable_at t part side) (table_in material kind content)) slot sub
opened_present material kind content room placed subs part side slot sub h (n, there, at, kept) =
    let t : Contents = h.table in
    let here = subst (λ (z : List Slot). slice_get z n ≡ Some slot) h.slots_are at in
    let held = subst (λ (z : List Subtable). slice_get z n ≡ Some (whole_sub content sub)) h.subs_are (slice_get-map (whole_sub content) subs n ∙ ap (option_map (whole_sub content)) kept) in
    record {
      is = at_table _ t part side h.there
          ∙ found_there part side (slots t.material t.kind t.parts) t.subtables n slot (whole_sub content sub) (ap (λ (z : List Slot). position (is_at part side) z) (sym h.slots_are) ∙ there) here held;
      is_valid = side_at IsSubtable (slots t.material t.kind t.parts) t.subtables h.accepted.subtables n slot (whole_sub content sub) here held;
      fits = all_at (Fits (length content) room) subs n sub h.fits kept;
    }

-- its blocks are within the bytes
pub kept_is_valid : (content : List ℕ) (room : ℕ) (there : Option (Slot × Subtable)) (slot : Slot) (sub : PlacedSub) → IsKept content room there slot sub → IsPlacedIn content slot sub
kept_is_valid content room there slot sub h = record { is_valid = h.is_valid; inside = h.fits.inside }

-- the result of a search among the slots
module _ (view now : Opened) (room : ℕ) (placed shown_slots : List Slot) (subs shown_subs : List PlacedSub) (part side : ℕ) (h : IsOpened view.material view.kind view.content room placed subs)
    (is : view ≡ now) (same : shown_slots ≡ placed) (same_subs : shown_subs ≡ subs) where
  pub as_many_opened : length shown_slots ≤ length shown_subs
  as_many_opened =
      let many = as_many_kept view.material view.kind view.content room placed subs h in
      omega (arith, many, ap length same, ap length same_subs)

  pub none_opened : position (is_at part side) shown_slots ≡ None → opened_at now part side ≡ None
  none_opened none =
      subst (λ (o : Opened). opened_at o part side ≡ None) is
      (opened_absent view.material view.kind view.content room placed subs part side h (ap (λ (z : List Slot). position (is_at part side) z) (sym same) ∙ none))

  pub one_opened : (slot : Slot) (sub : PlacedSub) → IsSlotted shown_slots shown_subs part side slot sub → IsKept view.content room (opened_at now part side) slot sub
  one_opened slot sub held =
      subst (λ (o : Opened). IsKept view.content room (opened_at o part side) slot sub) is
      (opened_present view.material view.kind view.content room placed subs part side slot sub h
      (subst (λ (z : List Slot). IsSlotted z subs part side slot sub) same (subst (λ (z : List PlacedSub). IsSlotted shown_slots z part side slot sub) same_subs held)))

-- ---- one value

pub few_bits : (slot : Slot) (content : List ℕ) (sub : Sub) (first : ℕ) → IsSubtable slot (whole_sub content (placed_at sub first)) → IfSome (layout_of sub) (λ layout. layout.block_bits ≤ 18)
few_bits slot content (Constant flags byte) first h = tt
few_bits slot content (Pairs flags block_bits span_bits extra blocks code dict sparse lengths packed) first h = (accepted_shape slot.size _ _ _ _ h).block_bits

-- the buffer holds a block
pub room_enough : (sub : Sub) (w room : ℕ) → IfSome (layout_of sub) (λ layout. w ≡ 2 ^ layout.block_bits) → IfNone (layout_of sub) (w ≡ 0) →
    IfSome (layout_of sub) (λ layout. 2 ^ layout.block_bits ≤ room) → w ≤ room
room_enough (Constant flags byte) w room long none roomy = omega (arith, none)
room_enough (Pairs flags block_bits span_bits extra blocks code dict sparse lengths packed) w room long none roomy = omega (arith, long, roomy)

-- the blocks of a subtable after the source selected them
pub flipped_ready : (slot : Slot) (content content' : List ℕ) (sub : Sub) (first first' count count' w w' : ℕ) → IsSubtable slot (whole_sub content (placed_at sub first)) →
    first + blocks_size sub ≤ length content → IfSome (layout_of sub) (λ layout. count ≡ layout.blocks) → IfSome (layout_of sub) (λ layout. w ≡ 2 ^ layout.block_bits) →
    content' ≡ content → first' ≡ first → count' ≡ count → w' ≡ w → IsReady sub slot.size count' (λ n. bytes_at content' (first' + n * w') w')
flipped_ready slot content content' sub first first' count count' w w' h inside all long ebytes efirst ecount ew =
    subst (λ (z : List ℕ). IsReady sub slot.size count' (λ n. bytes_at z (first' + n * w') w')) (sym ebytes)
    (subst (λ (k : ℕ). IsReady sub slot.size count' (λ n. bytes_at content (k + n * w') w')) (sym efirst)
    (subst (λ (k : ℕ). IsReady sub slot.size k (λ n. bytes_at content (first + n * w') w')) (sym ecount)
    (subst (λ (k : ℕ). IsReady sub slot.size count (λ n. bytes_at content (first + n * k) k)) (sym ew) (placed_ready slot content sub first count w h inside all long))))

pub flipped_value : (kind : Kind) (slot : Slot) (content content' : List ℕ) (sub : Sub) (first first' count count' w w' constant i value : ℕ) →
    IfSome (layout_of sub) (λ layout. count ≡ layout.blocks) → IfSome (layout_of sub) (λ layout. w ≡ 2 ^ layout.block_bits) →
    content' ≡ content → first' ≡ first → count' ≡ count → w' ≡ w → constant ≡ constant_value kind (byte_of sub) →
    slice_get (values_over sub (packed_blocks (λ n. bytes_at content' (first' + n * w') w') count') slot.size constant) i ≡ Some value →
    item (values_of kind (slot, whole_sub content (placed_at sub first))) i ≡ Some value
flipped_value kind slot content content' sub first first' count count' w w' constant i value all long ebytes efirst ecount ew econstant e =
    value_placed kind slot content sub first count w i value all long
    (subst (λ (z : List ℕ). slice_get (values_over sub (packed_blocks (λ n. bytes_at z (first + n * w) w) count) slot.size (constant_value kind (byte_of sub))) i ≡ Some value) ebytes
    (subst (λ (k : ℕ). slice_get (values_over sub (packed_blocks (λ n. bytes_at content' (k + n * w) w) count) slot.size (constant_value kind (byte_of sub))) i ≡ Some value) efirst
    (subst (λ (k : ℕ). slice_get (values_over sub (packed_blocks (λ n. bytes_at content' (first' + n * w) w) k) slot.size (constant_value kind (byte_of sub))) i ≡ Some value) ecount
    (subst (λ (k : ℕ). slice_get (values_over sub (packed_blocks (λ n. bytes_at content' (first' + n * k) k) count') slot.size (constant_value kind (byte_of sub))) i ≡ Some value) ew
    (subst (λ (k : ℕ). slice_get (values_over sub (packed_blocks (λ n. bytes_at content' (first' + n * w') w') count') slot.size k) i ≡ Some value) econstant e)))))

pub requested_placed : (content : List ℕ) (sub : Sub) (first old new cost w : ℕ) → IfSome (layout_of sub) (λ layout. w ≡ 2 ^ layout.block_bits) →
    IfNone (layout_of sub) (new ≡ old) → IfSome (layout_of sub) (λ _. new ≡ raised old cost) → cost ≡ w → new ≡ requested_after (whole_sub content (placed_at sub first)) old
requested_placed content (Constant flags byte) first old new cost w long none one e = none
requested_placed content (Pairs flags block_bits span_bits extra blocks code dict sparse lengths packed) first old new cost w long none one e =
    one ∙ ap (λ (k : ℕ). raised old k) (e ∙ long)

-- ---- opening

-- if a reader over a source began at its first byte, the source's bytes are unchanged, and those before the current
-- offset were read
pub forward_kept : (from to : ℕ) (old new bytes : List ℕ) → from ≡ 0 → drop from old ≡ bytes ++ drop to new → take to new ≡ take from old ++ bytes → new ≡ old
forward_kept from to old new bytes first gone moved =
    let none : take from old ≡ [] = ap (λ (n : ℕ). take n old) first in
    let all : drop from old ≡ old = ap (λ (n : ℕ). drop n old) first in
    let front : take to new ≡ bytes = moved ∙ ap (λ (z : List ℕ). z ++ bytes) none in
    sym (take-append-drop to new) ∙ ap (λ (z : List ℕ). z ++ drop to new) front ∙ sym gone ∙ all

pub forward_moved : (from to : ℕ) (old new bytes : List ℕ) → from ≡ 0 → take to new ≡ take from old ++ bytes → take to new ≡ bytes
forward_moved from to old new bytes first moved =
    let none : take from old ≡ [] = ap (λ (n : ℕ). take n old) first in
    moved ∙ ap (λ (z : List ℕ). z ++ bytes) none

pub opens : (material : Sides) (kind : Kind) (content moved rest : List ℕ) (o : Outline) (fill : List ℕ) (room : ℕ) → content ≡ moved ++ rest →
    verdict (file material kind) 0 moved ≡ good (outlined material kind moved o) fill [] → IsAccepted (outlined material kind moved o) fill →
    o.parts.slots.items ≡ slots material kind (map part_of o.parts.bytes.items) → AllByRecursion (Fits (length moved) room) o.subs.items →
    IsOpened material kind content room o.parts.slots.items o.subs.items
opens material kind content moved rest o fill room e whole accepted placed fits =
    let more : length content ≡ length moved + length rest = ap (λ (z : List ℕ). length z) e ∙ length-append moved rest in
    record {
      table = outlined material kind moved o;
      filled = fill;
      there = ap (λ (z : List ℕ). table_in material kind z) e ∙ ap table_of (good-more (file material kind) 0 moved rest (outlined material kind moved o) fill [] whole);
      accepted = accepted;
      slots_are = placed;
      subs_are = ap (λ (z : List ℕ). map (whole_sub z) o.subs.items) e ∙ kept_whole moved rest room o.subs.items fits;
      fits = still_fit (length moved) (length content) room room o.subs.items (omega (arith, more)) (omega arith) fits;
    }

pub opened_by : (material : Sides) (kind : Kind) (o : Outline) (begun ended : ReaderState) (from to : ℕ) (old new bytes content : List ℕ) (room room' : ℕ) → begun.place ≡ 0 → begun.fill.items ≡ [] →
    from ≡ 0 → take to new ≡ take from old ++ bytes → Advances (file material kind) (outlined material kind (take to new) o) begun ended bytes →
    o.parts.slots.items ≡ slots material kind (map part_of o.parts.bytes.items) → AllByRecursion (Fits (length (take to new)) room) o.subs.items →
    content ≡ new → room' ≡ room → IsOpened material kind content room' o.parts.slots.items o.subs.items
opened_by material kind o begun ended from to old new bytes content room room' place fill first came h placed fits same wide =
    let moved : take to new ≡ bytes = forward_moved from to old new bytes first came in
    let w = whole_file material kind (outlined material kind (take to new) o) begun ended bytes place fill h in
    let whole = subst (λ (z : List ℕ). verdict (file material kind) 0 z ≡ good (outlined material kind (take to new) o) ended.fill.items []) (sym moved) w.whole in
    let roomy = subst (λ (k : ℕ). AllByRecursion (Fits (length (take to new)) k) o.subs.items) (sym wide) fits in
    opens material kind content (take to new) (drop to new) o ended.fill.items room' (same ∙ sym (take-append-drop to new)) whole w.accepted placed roomy

pub refused_follows : (v : Verdict Contents) (place : ℕ) (reason : Reason) (coming : Option (List ℕ)) → FollowsVerdict v (Err (Refused place reason)) coming → Refuses v place reason
refused_follows (good t filled rest) place reason coming h = absurd h
refused_follows (refused at why rest) place reason coming h = (h.0, h.1)
refused_follows (truncated count) place reason coming h = (h.0, h.1)

pub refusal_follows : {X R : Type 0} (f : Format Contents) (view : X → Contents) (fault : ReadFault) (all : List ℕ) {o n : ReaderState}
    {dev : Ghosts R} {i k : R} → o.place ≡ 0 → dev.coming i ≡ Some all → Reading f view o n dev i k (Err fault) → IsOpenRefusal (verdict f 0 all) (opened_fault fault)
refusal_follows f view (Refused place reason) all {dev = dev} {i = i} {k = k} first stated h =
    let follows : IfSome (dev.coming i) (λ all. FollowsVerdict (verdict f 0 all) (Err (Refused place reason)) (dev.coming k)) = fault_follows f view (Refused place reason) first h (λ e. absurd cc) in
    refused_follows (verdict f 0 all) place reason (dev.coming k) (subst (λ (z : Option (List ℕ)). IfSome z (λ all. FollowsVerdict (verdict f 0 all) (Err (Refused place reason)) (dev.coming k))) stated follows)
refusal_follows f view Device all first stated h = tt
refusal_follows f view Memory all first stated h = tt
