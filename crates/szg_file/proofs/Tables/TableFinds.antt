-- The result of a search for a subtable.
use Rattle.std.proofs.Common.{◌≡◌, ℕ, zero, suc, ◌+◌, ◌<◌, ◌≤◌, Bool, true, false, cond, not, ◌&&◌, nat_eq, nat_lt, List, [], ◌∷◌, length, map, get_or, replicate, refl, sym, ap, subst, ◌∙◌, arith, Some, None, Option, option_map, IsSome, IfSome, MatchOption}
use Rattle.std.specs.Prelude.{slice_get, position, ℤ, Result, Ok, Err, option_and_then, ok_or}
use Rattle.std.specs.List.{position_or_len}
use Rattle.std.proofs.lemmas.Bool.{ltb-false, eqb-true}
use Rattle.std.proofs.lemmas.List.{length-map}
use Rattle.std.proofs.lemmas.Option.{cond_some, slice_get_read, slice_get-map}
use Rattle.szg_values.specs.declared.Kind.{Kind}
use Rattle.szg_values.specs.declared.Kind.TheVariants.{Dtz}
use Rattle.szg_values.specs.Material.{Sides}
use Rattle.szg_block.specs.declared.Sub.{Sub}
use Rattle.szg_block.specs.declared.Sub.TheVariants.{Constant, Pairs}
use Rattle.szg_block.specs.Subtable.{packed_of, IsShaped, IsSoundOver, values_over}
use Rattle.szg_file.specs.Contents.{Part, Subtable, Contents, Map, Slot, slots, slots_from, order_of}
use Rattle.szg_count.specs.Groups.{size_of}
use Rattle.szg_file.specs.Accepted.{SideBySide, IsSubtable, IsAccepted, IsMapOf, AreMaps}
use Rattle.szg_file.specs.File.{flags_of}
use Rattle.szg_file.specs.declared.fault.MapFault.{MapFault}
use Rattle.szg_file.specs.Held.{subtable_of}
use Rattle.szg_file.specs.Values.{item, slotted, found, subtable_at, constant_value, values_in, values_of, list_number, number_at, number_of_value}
use Rattle.szg_file.specs.Lookup.{IsFound, byte_of}
use Rattle.szg_file.proofs.Tables.SoundLaws.{accepted_shape, accepted_subtable}

-- ---- lists

pub item-slice_get : {A : Type 0} (xs : List A) (i : ℕ) → item xs i ≡ slice_get xs i
item-slice_get [] i = refl
item-slice_get (x ∷ xs) zero = refl
item-slice_get (x ∷ xs) (suc i) = item-slice_get xs i

pub side_lengths : {A B : Type 0} (P : A → B → Type 0) (xs : List A) (ys : List B) → SideBySide P xs ys → length xs ≡ length ys
side_lengths P [] [] h = refl
side_lengths P (x ∷ xs) (y ∷ ys) h = ap suc (side_lengths P xs ys h.1)
side_lengths P [] (y ∷ ys) h = absurd h
side_lengths P (x ∷ xs) [] h = absurd h

not_none : {A : Type 0} (x : A) → None ≡ Some x → ⊥
not_none x e = cc e

pub side_at : {A B : Type 0} (P : A → B → Type 0) (xs : List A) (ys : List B) → SideBySide P xs ys → (k : ℕ) (x : A) (y : B) →
    slice_get xs k ≡ Some x → slice_get ys k ≡ Some y → P x y
side_at P [] ys h k x y ex ey = absurd (not_none x ex)
side_at P (a ∷ xs) [] h k x y ex ey = absurd h
side_at P (a ∷ xs) (b ∷ ys) h zero x y ex ey =
    let same_x : a ≡ x = cc ex in
    let same_y : b ≡ y = cc ey in
    subst (λ z. P z y) same_x (subst (λ z. P a z) same_y h.0)
side_at P (a ∷ xs) (b ∷ ys) h (suc k) x y ex ey = side_at P xs ys h.1 k x y ex ey

slotted_at : (xs : List Slot) (ys : List Subtable) (k : ℕ) (x : Slot) (y : Subtable) → slice_get xs k ≡ Some x → slice_get ys k ≡ Some y →
    slice_get (slotted xs ys) k ≡ Some (x, y)
slotted_at [] ys k x y ex ey = absurd (not_none x ex)
slotted_at (a ∷ xs) [] k x y ex ey = absurd (not_none y ey)
slotted_at (a ∷ xs) (b ∷ ys) zero x y ex ey =
    let same_x : a ≡ x = cc ex in
    let same_y : b ≡ y = cc ey in
    cc
slotted_at (a ∷ xs) (b ∷ ys) (suc k) x y ex ey = slotted_at xs ys k x y ex ey

slotted_past : (xs : List Slot) (ys : List Subtable) (k : ℕ) → length xs ≤ k → slice_get (slotted xs ys) k ≡ None
slotted_past [] ys k h = refl
slotted_past (a ∷ xs) [] k h = refl
slotted_past (a ∷ xs) (b ∷ ys) zero h = absurd (omega arith)
slotted_past (a ∷ xs) (b ∷ ys) (suc k) h = slotted_past xs ys k (omega arith)

-- ---- the index of a part's side

abbrev pub is_at : ℕ → ℕ → Slot → Bool
is_at part side slot = nat_eq slot.part part && nat_eq slot.side side

found_at : (part side : ℕ) (xs : List Slot) (ys : List Subtable) → found part side (slotted xs ys) ≡ slice_get (slotted xs ys) (position_or_len (is_at part side) xs)
found_at part side [] ys = refl
found_at part side (x ∷ xs) [] = refl
found_at part side (x ∷ xs) (y ∷ ys) =
    let n : ℕ = position_or_len (is_at part side) xs in
    let next : suc n ≡ 1 + n = omega arith in
    elim (nat_eq x.part part && nat_eq x.side side)
    as (λ b. cond b (Some (x, y)) (found part side (slotted xs ys)) ≡ slice_get ((x, y) ∷ slotted xs ys) (cond (not b) (1 + n) 0))
    [ true ↦ refl | false ↦ found_at part side xs ys ∙ ap (λ (k : ℕ). slice_get ((x, y) ∷ slotted xs ys) k) next ]

none_past : (b : Bool) (n : ℕ) → cond b (Some n) None ≡ None → b ≡ false
none_past true n e = absurd (not_none n (sym e))
none_past false n e = refl

pub not_found : (part side : ℕ) (xs : List Slot) (ys : List Subtable) → position (is_at part side) xs ≡ None → found part side (slotted xs ys) ≡ None
not_found part side xs ys e =
    let n : ℕ = position_or_len (is_at part side) xs in
    let past = ltb-false n (length xs) (none_past (nat_lt n (length xs)) n e) in
    found_at part side xs ys ∙ slotted_past xs ys n past

pub found_there : (part side : ℕ) (xs : List Slot) (ys : List Subtable) (n : ℕ) (x : Slot) (y : Subtable) → position (is_at part side) xs ≡ Some n →
    slice_get xs n ≡ Some x → slice_get ys n ≡ Some y → found part side (slotted xs ys) ≡ Some (x, y)
found_there part side xs ys n x y e ex ey =
    let m : ℕ = position_or_len (is_at part side) xs in
    let same : m ≡ n = (cond_some (nat_lt m (length xs)) m n e).1 in
    found_at part side xs ys ∙ ap (λ (k : ℕ). slice_get (slotted xs ys) k) same ∙ slotted_at xs ys n x y ex ey

-- ---- of a table

-- there is one subtable per slot
pub as_many : (t : Contents) (filled : List ℕ) (subs : List Sub) → IsAccepted t filled → map subtable_of subs ≡ t.subtables → length (slots t.material t.kind t.parts) ≡ length subs
as_many t filled subs h es =
    side_lengths IsSubtable (slots t.material t.kind t.parts) t.subtables h.subtables ∙ ap (λ (z : List Subtable). length z) (sym es) ∙ length-map subs subtable_of

pub absent : (t : Contents) (part side : ℕ) → position (is_at part side) (slots t.material t.kind t.parts) ≡ None → subtable_at t part side ≡ None
absent t part side none = not_found part side (slots t.material t.kind t.parts) t.subtables none

held_at : (subs : List Sub) (n : ℕ) (sub : Sub) → n < length subs → sub ≡ get_or subs n sub → slice_get (map subtable_of subs) n ≡ Some (subtable_of sub)
held_at subs n sub lt e = slice_get-map subtable_of subs n ∙ ap (option_map subtable_of) (slice_get_read subs (length subs) n sub refl lt e)

-- ---- an accepted subtable is shaped and sound

pub shaped_and_sound : (slot : Slot) (sub : Sub) → IsSubtable slot (subtable_of sub) → IsShaped sub slot.size × IsSoundOver sub (packed_of sub) slot.size
shaped_and_sound slot (Constant flags byte) h =
    let least = h.0 in
    let most = h.1 in
    (((omega (arith, least, most), tt), tt), tt)
shaped_and_sound slot (Pairs flags block_bits span_bits extra blocks code dict sparse lengths packed) h =
    let few = h.head_is_valid.flags in
    (((omega (arith, few), accepted_shape slot.size _ _ _ _ h), h.packed_bytes.0), accepted_subtable slot.size _ _ _ _ h)

-- ---- a subtable that exists

pub present : (t : Contents) (filled : List ℕ) (subs : List Sub) (part side n size : ℕ) (slot : Slot) (sub : Sub) → IsAccepted t filled → map subtable_of subs ≡ t.subtables →
    position (is_at part side) (slots t.material t.kind t.parts) ≡ Some n → slice_get (slots t.material t.kind t.parts) n ≡ Some slot → n < length subs → sub ≡ get_or subs n sub → size ≡ slot.size →
    IsFound (subtable_at t part side) size (subtable_of sub) × (IsShaped sub size × IsSoundOver sub (packed_of sub) size)
present t filled subs part side n size slot sub h es there here lt esub esize =
    let held = subst (λ (z : List Subtable). slice_get z n ≡ Some (subtable_of sub)) es (held_at subs n sub lt esub) in
    let at : subtable_at t part side ≡ Some (slot, subtable_of sub) = found_there part side (slots t.material t.kind t.parts) t.subtables n slot (subtable_of sub) there here held in
    let is_valid = side_at IsSubtable (slots t.material t.kind t.parts) t.subtables h.subtables n slot (subtable_of sub) here held in (
      subst (λ (o : Option (Slot × Subtable)). IsFound o size (subtable_of sub)) (sym at) (sym esize, refl),
      subst (λ (k : ℕ). IsShaped sub k × IsSoundOver sub (packed_of sub) k) (sym esize) (shaped_and_sound slot sub is_valid),
    )

-- ---- values

pub value_found : (kind : Kind) (sub : Sub) (size i value : ℕ) → slice_get (values_over sub (packed_of sub) size (constant_value kind (byte_of sub))) i ≡ Some value →
    item (values_in kind size (subtable_of sub)) i ≡ Some value
value_found kind (Constant flags byte) size i value e = item-slice_get (replicate size (constant_value kind byte)) i ∙ e
value_found kind (Pairs flags block_bits span_bits extra blocks code dict sparse lengths packed) size i value e =
    item-slice_get (values_in kind size (subtable_of (Pairs flags block_bits span_bits extra blocks code dict sparse lengths packed))) i ∙ e

pub value_at : (there : Option (Slot × Subtable)) (kind : Kind) (sub : Sub) (size i value : ℕ) → IsFound there size (subtable_of sub) →
    slice_get (values_over sub (packed_of sub) size (constant_value kind (byte_of sub))) i ≡ Some value →
    IfSome there (λ pair. item (values_of kind pair) i ≡ Some value)
value_at None kind sub size i value h e = tt
value_at (Some pair) kind sub size i value h e =
    ap (λ (n : ℕ). item (values_in kind n pair.1) i) h.0 ∙ ap (λ (s : Subtable). item (values_in kind size s) i) h.1 ∙ value_found kind sub size i value e

-- all values of the subtable that was found
pub values_found : (kind : Kind) (sub : Sub) (size : ℕ) → values_over sub (packed_of sub) size (constant_value kind (byte_of sub)) ≡ values_in kind size (subtable_of sub)
values_found kind (Constant flags byte) size = refl
values_found kind (Pairs flags block_bits span_bits extra blocks code dict sparse lengths packed) size = refl

pub values_at : (there : Option (Slot × Subtable)) (kind : Kind) (sub : Sub) (size : ℕ) (values : List ℕ) → IsFound there size (subtable_of sub) →
    values ≡ values_over sub (packed_of sub) size (constant_value kind (byte_of sub)) → IfSome there (λ pair. values ≡ values_of kind pair)
values_at None kind sub size values h e = tt
values_at (Some pair) kind sub size values h e =
    e ∙ values_found kind sub size ∙ sym (ap (λ (n : ℕ). values_in kind n pair.1) h.0 ∙ ap (λ (s : Subtable). values_in kind size s) h.1)

-- a list of its number
pub size_found : (there : Option (Slot × Subtable)) (sub : Sub) (size : ℕ) (values : List ℕ) → IsFound there size (subtable_of sub) →
    IfSome there (λ pair. length values ≡ pair.0.size) → length values ≡ size
size_found None sub size values h e = absurd h
size_found (Some pair) sub size values h e = e ∙ h.0

-- ---- parts of a DTZ table

pub slot_count : (material : Sides) (number : ℕ) (parts : List Part) → length (slots_from material (0 ∷ []) number parts) ≡ length parts
slot_count material number [] = refl
slot_count material number (part ∷ parts) = ap suc (slot_count material (number + 1) parts)

pub part_below : (material : Sides) (number : ℕ) (parts : List Part) (ys : List Subtable) (part : ℕ) → IsSome (found part 0 (slotted (slots_from material (0 ∷ []) number parts) ys)) →
    part < number + length parts
part_below material number [] ys part h = absurd (cc h)
part_below material number (p ∷ parts) [] part h = absurd (cc h)
part_below material number (p ∷ parts) (y ∷ ys) part h =
    let rest : Option (Slot × Subtable) = found part 0 (slotted (slots_from material (0 ∷ []) (number + 1) parts) ys) in
    let one : Slot × Subtable = (record { part = number; side = 0; size = size_of material number (order_of 0 p) }, y) in
    elim (nat_eq number part)
    as (λ b. nat_eq number part ≡ b → IsSome (cond (b && true) (Some one) rest) → part < number + suc (length parts))
    [ true ↦ (λ e s. let same = eqb-true number part e in omega (arith, same)) | false ↦ (λ e s. let below = part_below material (number + 1) parts ys part s in omega (arith, below)) ]
    refl h

-- each part has an item among the maps
pub mapped_side : (P : Slot → Subtable → Type 0) (t : Contents) (part : ℕ) → SideBySide P (slots t.material t.kind t.parts) t.subtables → AreMaps t.kind t.subtables t.maps → t.kind ≡ Dtz →
    IsSome (subtable_at t part 0) → part < length t.maps
mapped_side P t part beside mapped dtz there =
    let maps : SideBySide IsMapOf t.subtables t.maps = subst (λ (kind : Kind). AreMaps kind t.subtables t.maps) dtz mapped in
    let subtables : SideBySide P (slots t.material Dtz t.parts) t.subtables = subst (λ (kind : Kind). SideBySide P (slots t.material kind t.parts) t.subtables) dtz beside in
    let below = part_below t.material 0 t.parts t.subtables part (subst (λ (kind : Kind). IsSome (found part 0 (slotted (slots t.material kind t.parts) t.subtables))) dtz there) in
    let as_many_slots = slot_count t.material 0 t.parts in
    let as_many_subtables = side_lengths P (slots t.material Dtz t.parts) t.subtables subtables in
    let as_many_maps = side_lengths IsMapOf t.subtables t.maps maps in
    omega (arith, below, as_many_slots, as_many_subtables, as_many_maps)

pub mapped_part : (t : Contents) (filled : List ℕ) (part : ℕ) → IsAccepted t filled → t.kind ≡ Dtz → IsSome (subtable_at t part 0) → part < length t.maps
mapped_part t filled part h dtz there = mapped_side IsSubtable t part h.subtables h.maps dtz there

-- ---- distances

stated_of : (there : Option (Slot × Subtable)) (size : ℕ) (s : Subtable) (f : Subtable → Option ℕ) → IsFound there size s → option_and_then (λ pair. f pair.1) there ≡ f s
stated_of None size s f h = absurd h
stated_of (Some pair) size s f h = ap f h.1

pub number_stated : (t : Contents) (part : ℕ) (class : ℤ) (v list flags size : ℕ) (s : Subtable) (m : Option Map) → list_number class ≡ Some list → IsFound (subtable_at t part 0) size s →
    flags ≡ flags_of s → item t.maps part ≡ Some m → number_of_value t part class v ≡ number_at flags m list v
number_stated t part class v list flags size s m class_is there flags_are map_is =
    ap (option_and_then (λ k. option_and_then (λ found. option_and_then (λ lists. number_at (flags_of found.1) lists k v) (item t.maps part)) (subtable_at t part 0))) class_is
    ∙ stated_of (subtable_at t part 0) size s (λ z. option_and_then (λ lists. number_at (flags_of z) lists list v) (item t.maps part)) there
    ∙ ap (option_and_then (λ lists. number_at (flags_of s) lists list v)) map_is
    ∙ ap (λ (k : ℕ). number_at k m list v) (sym flags_are)

pub map_at : {A B : Type 0} (f : A → B) (xs : List A) (i : ℕ) (x : A) → i < length xs → x ≡ get_or xs i x → item (map f xs) i ≡ Some (f x)
map_at f xs i x lt e = item-slice_get (map f xs) i ∙ slice_get-map f xs i ∙ ap (option_map f) (slice_get_read xs (length xs) i x refl lt e)

pub answer_of : (o : Option ℕ) (P : Type 0) (fault : MapFault) (r : Result ℕ MapFault) → r ≡ ok_or o fault → MatchOption o (P → r ≡ Err fault) (λ n. r ≡ Ok n)
answer_of None P fault r e = λ _. e
answer_of (Some n) P fault r e = e
