-- A table of subtables that are built from lists: it passes the checks of a file, and has the plan's parts, flags
-- and maps and the lists' values.
use Rattle.std.proofs.Common.{ℕ, zero, suc, ◌≡◌, ◌+◌, ◌/◌, ◌%◌, ◌<◌, ◌^◌, Bool, true, false, List, [], ◌∷◌, ◌++◌, length, map, get_or, take, replicate, refl, sym, ap, subst, ◌∙◌, add-one, arith, inl, inr, Option, Some, None, Result, Err}
use Rattle.std.specs.Prelude.{◌==◌, ◌&&◌, ◌⊎◌, not, nat_lt, nat_le, is_none, MatchOption, IfErr, IfNone, if◌then◌else◌, IfSome}
use Rattle.std.specs.List.{AllByRecursion, list_all, zip}
use Rattle.std.proofs.lemmas.Bool.{ltb-true, leb-true, eqb-true, eq-eqb, false_from_ne_true, and_parts, not-true}
use Rattle.std.proofs.lemmas.List.{length-map, length-take, map-append}
use Rattle.szg_values.specs.declared.Kind.{Kind}
use Rattle.szg_values.specs.declared.Kind.TheVariants.{Wdl, Dtz}
use Rattle.szg_values.specs.Material.{Sides, is_symmetric, has_pawns, man_codes}
use Rattle.szg_count.specs.Groups.{order_fault}
use Rattle.szg_file.specs.Contents.{Part, Slot, Subtable, constant, pairs, Map, narrow, wide, Contents, has_bit, slots, slots_from, part_numbers, side_numbers, order_bytes, order_of}
use Rattle.szg_file.specs.File.{split_agrees, agrees, flags_of}
use Rattle.szg_file.specs.Values.{slotted, values_in, values_of}
use Rattle.szg_file.specs.Accepted.{SideBySide, AreNumbers, AreBytes, IsPart, IsSubtable, IsMapOf, AreMaps}
use Rattle.szg_file.specs.Held.{part_of}
use Rattle.szg_file.specs.declared.table.PartBytes.{PartBytes}
use Rattle.szg_file.proofs.Tables.TableFinds.{side_lengths}
use Rattle.szg_file.proofs.Tables.AssembledLaws.{sides_of_all, all_of_sides}
use Rattle.std.proofs.Math.Seq.{take-suc}
use Rattle.std.proofs.lemmas.List.Elements.{All-from_recursion, All-get_or}
use Rattle.szg_build.specs.declared.BuildFault.{BuildFault}
use Rattle.szg_build.specs.declared.BuildFault.TheVariants as fault
use Rattle.szg_subtable.specs.declared.building.Choice.{Choice}
use Rattle.szg_subtable.specs.declared.building.Choice.TheVariants.{Fixed, Small}
use Rattle.szg_build.specs.Plan.{Plan, has_parts, is_part, has_maps, is_map_of, sizes_if_valid, build_fault, fault_for, wrong_length, wrong_value, too_many_values}
use Rattle.szg_subtable.specs.PackedSubtable.{IsPackedBy}
use Rattle.szg_build.specs.Rule.{byte4_for, constant_for, constant_in, HasSpanIndex, HasTruncatedBinary}
use Rattle.szg_subtable.specs.declared.building.Packing.{Packing}
use Rattle.szg_build.specs.Built.{IsBuilt, IsBuiltSmall, layout_in, packed_in, flags_byte, flags_bytes}
use Rattle.szg_build.specs.Tabling.{AreBuilt, IsBuiltBare, IsBuiltBy, IsOfBytes, IsOfItems, HasNoFault, IsBuiltSub, IsByRule}
use Rattle.szg_build.proofs.Builders.RefusalLaws.{all_held, all_both, none_pass, sizes_are, lists_are_valid, fault_stated, passed, bits_parsed, maps_pass}

-- ---- parts

apart : (let f : Bool = false in f ≡ true) → ⊥
apart e = cc e

three : (a b c : Bool) → (a && b && c) ≡ true → (a ≡ true) × (b ≡ true) × (c ≡ true)
three true true c e = (refl, refl, e)
three true false c e = absurd (apart e)
three false b c e = absurd (apart e)

pub four : (a b c d : Bool) → (a && b && c && d) ≡ true → (a ≡ true) × (b ≡ true) × (c ≡ true) × (d ≡ true)
four true true true d e = (refl, refl, refl, e)
four true true false d e = absurd (apart e)
four true false c d e = absurd (apart e)
four false b c d e = absurd (apart e)

none_parsed : {A : Type 0} (o : Option A) → is_none o ≡ true → o ≡ None
none_parsed None e = refl
none_parsed (Some x) e = absurd (apart e)

none_parses : {A : Type 0} (o : Option A) → o ≡ None → is_none o ≡ true
none_parses o e = ap is_none e

all_parsed : {A : Type 0} (p : A → Bool) (P : A → Type 0) (xs : List A) → ((x : A) → p x ≡ true → P x) → list_all p xs ≡ true → AllByRecursion P xs
all_parsed p P [] f e = tt
all_parsed p P (x ∷ xs) f e = let parts = and_parts (p x) (list_all p xs) e in (f x parts.0, all_parsed p P xs f parts.1)

all_parse : {A : Type 0} (p : A → Bool) (P : A → Type 0) (xs : List A) → ((x : A) → P x → p x ≡ true) → AllByRecursion P xs → list_all p xs ≡ true
all_parse p P [] f h = refl
all_parse p P (x ∷ xs) f h = ap (λ (b : Bool). b && list_all p xs) (f x h.0) ∙ all_parse p P xs f h.1

parse_part : (material : Sides) (kind : Kind) (part : Part) → IsOfBytes part → is_part material kind part ≡ true → IsPart material kind part
parse_part material kind part bytes e =
    let parts = three (length part.order == order_bytes material) (length part.men == length (man_codes material)) (list_all (λ side. is_none (order_fault material (order_of side part))) (side_numbers material kind)) e in
    record {
      order = (eqb-true (length part.order) (order_bytes material) parts.0, bytes.0);
      men = (eqb-true (length part.men) (length (man_codes material)) parts.1, bytes.1);
      sides = all_parsed (λ side. is_none (order_fault material (order_of side part))) (λ side. order_fault material (order_of side part) ≡ None) (side_numbers material kind)
          (λ side h. none_parsed (order_fault material (order_of side part)) h) parts.2;
    }

part_parses : (material : Sides) (kind : Kind) (part : Part) → IsPart material kind part → is_part material kind part ≡ true
part_parses material kind part h =
    let orders : (length part.order == order_bytes material) ≡ true = eq-eqb (length part.order) (order_bytes material) h.order.0 in
    let men : (length part.men == length (man_codes material)) ≡ true = eq-eqb (length part.men) (length (man_codes material)) h.men.0 in
    let sides : list_all (λ side. is_none (order_fault material (order_of side part))) (side_numbers material kind) ≡ true =
    all_parse (λ side. is_none (order_fault material (order_of side part))) (λ side. order_fault material (order_of side part) ≡ None) (side_numbers material kind)
    (λ side e. none_parses (order_fault material (order_of side part)) e) h.sides in
    ap (λ (b : Bool). b && (length part.men == length (man_codes material)) && list_all (λ side. is_none (order_fault material (order_of side part))) (side_numbers material kind)) orders
    ∙ ap (λ (b : Bool). b && list_all (λ side. is_none (order_fault material (order_of side part))) (side_numbers material kind)) men
    ∙ sides

parts_parsed : (material : Sides) (kind : Kind) (parts : List Part) → AllByRecursion IsOfBytes parts → has_parts material kind parts ≡ true →
    SideBySide (λ _. IsPart material kind) (part_numbers material) parts
parts_parsed material kind parts bytes e =
    let halves = and_parts (length parts == length (part_numbers material)) (list_all (is_part material kind) parts) e in
    let each : AllByRecursion (λ part. is_part material kind part ≡ true) parts = all_parsed (is_part material kind) (λ part. is_part material kind part ≡ true) parts (λ part h. h) halves.1 in
    sides_of_all (IsPart material kind) (part_numbers material) parts (sym (eqb-true (length parts) (length (part_numbers material)) halves.0))
    (all_both IsOfBytes (λ part. is_part material kind part ≡ true) (IsPart material kind) parts (λ part h k. parse_part material kind part h k) bytes each)

-- valid parts have sizes
pub sizes_of_parts : (material : Sides) (kind : Kind) (parts : List Part) → SideBySide (λ _. IsPart material kind) (part_numbers material) parts →
    sizes_if_valid material kind parts ≡ Some (map (λ slot. slot.size) (slots material kind parts))
unfolding sizes_if_valid
sizes_of_parts material kind parts h =
    let count : (length parts == length (part_numbers material)) ≡ true =
    eq-eqb (length parts) (length (part_numbers material)) (sym (side_lengths (λ _. IsPart material kind) (part_numbers material) parts h)) in
    let each : list_all (is_part material kind) parts ≡ true =
    all_parse (is_part material kind) (IsPart material kind) parts (λ part k. part_parses material kind part k) (all_of_sides (IsPart material kind) (part_numbers material) parts h) in
    let is_valid : has_parts material kind parts ≡ true = ap (λ (b : Bool). b && list_all (is_part material kind) parts) count ∙ each in
    ap (λ (b : Bool). if b then Some (map (λ slot. slot.size) (slots material kind parts)) else None) is_valid

-- parts that are not valid have no sizes
pub no_sizes : (material : Sides) (kind : Kind) (parts : List Part) → AllByRecursion IsOfBytes parts → ¬ SideBySide (λ _. IsPart material kind) (part_numbers material) parts →
    sizes_if_valid material kind parts ≡ None
unfolding sizes_if_valid
no_sizes material kind parts bytes h =
    ap (λ (b : Bool). if b then Some (map (λ slot. slot.size) (slots material kind parts)) else None)
    (false_from_ne_true (has_parts material kind parts) (λ e. h (parts_parsed material kind parts bytes e)))

-- ---- byte 4

pub agrees_itself : (b : Bool) → agrees b b ≡ true
agrees_itself true = refl
agrees_itself false = refl

pub split_is_valid : (material : Sides) (kind : Kind) (byte : ℕ) → has_bit 0 byte ≡ not (is_symmetric material) → split_agrees material kind byte ≡ true
split_is_valid material Wdl byte e = ap (λ (b : Bool). agrees b (not (is_symmetric material))) e ∙ agrees_itself (not (is_symmetric material))
split_is_valid material Dtz byte e = refl

-- ---- subtables

-- one more subtable after the others
pub built_more : (choice : Choice) (plan : Plan) (flags : List ℕ) (lists : List (List ℕ)) (subtables : List Subtable) (values : List ℕ) (subtable : Subtable) → AreBuilt choice plan flags lists subtables →
    IsBuiltSub plan.kind (get_or flags (length lists) 0) values choice subtable →
    AreBuilt choice plan flags (lists ++ values ∷ []) (subtables ++ subtable ∷ [])
built_more choice plan [] [] [] values subtable h here = (here, tt)
built_more choice plan (f ∷ flags) [] [] values subtable h here = (here, tt)
built_more choice plan flags [] (s ∷ subtables) values subtable h here = absurd h
built_more choice plan flags (v ∷ lists) [] values subtable h here = absurd h
built_more choice plan [] (v ∷ lists) (s ∷ subtables) values subtable h here = (h.0, built_more choice plan [] lists subtables values subtable h.1 here)
built_more choice plan (f ∷ flags) (v ∷ lists) (s ∷ subtables) values subtable h here = (h.0, built_more choice plan flags lists subtables values subtable h.1 here)

-- one more of the borrowed lists
pub built_next : {A : Type 0} (now : A → List ℕ) (choice : Choice) (plan : Plan) (flags : List ℕ) (lists : List A) (n : ℕ) (d : A) (subtables : List Subtable) (subtable : Subtable) (f : ℕ) → n < length lists →
    AreBuilt choice plan flags (map now (take n lists)) subtables → f ≡ get_or flags n 0 → IsBuiltSub plan.kind f (now (get_or lists n d)) choice subtable →
    AreBuilt choice plan flags (map now (take (n + 1) lists)) (subtables ++ subtable ∷ [])
built_next now choice plan flags lists n d subtables subtable f lt before same here =
    let count : n ≡ length (map now (take n lists)) = omega (arith, length-map (take n lists) now, length-take n lists, lt) in
    let longer : map now (take (n + 1) lists) ≡ map now (take n lists) ++ now (get_or lists n d) ∷ [] =
    ap (λ (m : ℕ). map now (take m lists)) (add-one n) ∙ ap (map now) (take-suc lists n d lt) ∙ map-append now (take n lists) (get_or lists n d ∷ []) in
    subst (λ (z : List (List ℕ)). AreBuilt choice plan flags z (subtables ++ subtable ∷ [])) (sym longer)
    (built_more choice plan flags (map now (take n lists)) subtables (now (get_or lists n d)) subtable before
    (subst (λ (g : ℕ). IsBuiltSub plan.kind g (now (get_or lists n d)) choice subtable) (same ∙ ap (λ (k : ℕ). get_or flags k 0) count) here))

pub lent_at : {A : Type 0} (P : List ℕ → Type 0) (now : A → List ℕ) (lists : List A) (n : ℕ) (d : A) → n < length lists → AllByRecursion P (map now lists) → P (now (get_or lists n d))
lent_at P now lists n d lt h = All-get_or (λ x. P (now x)) lists n d lt (All-from_recursion (λ x. P (now x)) lists (all_held P now lists h))

-- a subtable built from a list, with some flags
abbrev IsOf : Choice → Plan → List ℕ → Subtable → Type 0
IsOf choice plan values subtable = (flags : ℕ) × IsBuiltSub plan.kind flags values choice subtable

beside : (choice : Choice) (plan : Plan) (flags : List ℕ) (lists : List (List ℕ)) (subtables : List Subtable) → AreBuilt choice plan flags lists subtables → SideBySide (IsOf choice plan) lists subtables
beside choice plan flags [] [] h = tt
beside choice plan flags [] (s ∷ subtables) h = absurd h
beside choice plan flags (v ∷ lists) [] h = absurd h
beside choice plan [] (v ∷ lists) (s ∷ subtables) h = ((0, h.0), beside choice plan [] lists subtables h.1)
beside choice plan (f ∷ flags) (v ∷ lists) (s ∷ subtables) h = ((f, h.0), beside choice plan flags lists subtables h.1)

-- the sizes of the slots are the lengths of the lists
abbrev AreSized : List Slot → List (List ℕ) → Type 0
AreSized places lists = map (λ slot. slot.size) places ≡ map length lists

abbrev first_or : List ℕ → ℕ
first_or [] = 0
first_or (n ∷ ns) = n

abbrev rest_of : List ℕ → List ℕ
rest_of [] = []
rest_of (n ∷ ns) = ns

are_subs_valid : (choice : Choice) (plan : Plan) (places : List Slot) (lists : List (List ℕ)) (subtables : List Subtable) → AreSized places lists → SideBySide (IsOf choice plan) lists subtables →
    SideBySide IsSubtable places subtables
are_subs_valid choice plan [] [] [] e h = tt
are_subs_valid choice plan [] [] (s ∷ subtables) e h = absurd h
are_subs_valid choice plan [] (v ∷ lists) subtables e h = absurd (omega (arith, ap length e))
are_subs_valid choice plan (p ∷ places) [] subtables e h = absurd (omega (arith, ap length e))
are_subs_valid choice plan (p ∷ places) (v ∷ lists) [] e h = absurd h
are_subs_valid choice plan (p ∷ places) (v ∷ lists) (s ∷ subtables) e h = (h.0.1.is_valid p (ap first_or e), are_subs_valid choice plan places lists subtables (ap rest_of e) h.1)

values_are_valid : (choice : Choice) (plan : Plan) (places : List Slot) (lists : List (List ℕ)) (subtables : List Subtable) → AreSized places lists → SideBySide (IsOf choice plan) lists subtables →
    map (values_of plan.kind) (slotted places subtables) ≡ lists
values_are_valid choice plan [] [] [] e h = refl
values_are_valid choice plan [] [] (s ∷ subtables) e h = absurd h
values_are_valid choice plan [] (v ∷ lists) subtables e h = absurd (omega (arith, ap length e))
values_are_valid choice plan (p ∷ places) [] subtables e h = absurd (omega (arith, ap length e))
values_are_valid choice plan (p ∷ places) (v ∷ lists) [] e h = absurd h
values_are_valid choice plan (p ∷ places) (v ∷ lists) (s ∷ subtables) e h =
    ap (λ (z : List ℕ). z ∷ map (values_of plan.kind) (slotted places subtables)) (ap (λ (n : ℕ). values_in plan.kind n s) (ap first_or e) ∙ h.0.1.expands)
    ∙ ap (λ (z : List (List ℕ)). v ∷ z) (values_are_valid choice plan places lists subtables (ap rest_of e) h.1)

packed_are_valid : (choice : Choice) (plan : Plan) (places : List Slot) (lists : List (List ℕ)) (subtables : List Subtable) → AreSized places lists → SideBySide (IsOf choice plan) lists subtables →
    AllByRecursion (λ pair. IfSome (layout_in pair.1) (λ layout. IsPackedBy choice layout (packed_in pair.1) pair.0.size)) (slotted places subtables)
packed_are_valid choice plan [] [] [] e h = tt
packed_are_valid choice plan [] [] (s ∷ subtables) e h = absurd h
packed_are_valid choice plan [] (v ∷ lists) subtables e h = absurd (omega (arith, ap length e))
packed_are_valid choice plan (p ∷ places) [] subtables e h = absurd (omega (arith, ap length e))
packed_are_valid choice plan (p ∷ places) (v ∷ lists) [] e h = absurd h
packed_are_valid choice plan (p ∷ places) (v ∷ lists) (s ∷ subtables) e h = (
  subst (λ (n : ℕ). IfSome (layout_in s) (λ layout. IsPackedBy choice layout (packed_in s) n))
      (sym (ap first_or e)) h.0.1.packed,
  packed_are_valid choice plan places lists subtables (ap rest_of e) h.1,
)

-- subtables that follow the builder's rule
abbrev AreByRule : Kind → Choice → List (List ℕ) → List Subtable → Type 0
AreByRule kind choice lists subtables = SideBySide (λ list subtable. IsByRule kind list choice subtable) lists subtables

rules_are_valid : (choice : Choice) (plan : Plan) (lists : List (List ℕ)) (subtables : List Subtable) → SideBySide (IsOf choice plan) lists subtables → AreByRule plan.kind choice lists subtables
rules_are_valid choice plan [] [] h = tt
rules_are_valid choice plan [] (s ∷ subtables) h = absurd h
rules_are_valid choice plan (v ∷ lists) [] h = absurd h
rules_are_valid choice plan (v ∷ lists) (s ∷ subtables) h = (h.0.1.rule, rules_are_valid choice plan lists subtables h.1)

index_is_valid : (choice : Choice) (plan : Plan) (places : List Slot) (lists : List (List ℕ)) (subtables : List Subtable) → AreSized places lists → SideBySide (IsOf choice plan) lists subtables →
    AllByRecursion (λ pair. HasSpanIndex pair.0.size pair.1) (slotted places subtables)
index_is_valid choice plan [] [] [] e h = tt
index_is_valid choice plan [] [] (s ∷ subtables) e h = absurd h
index_is_valid choice plan [] (v ∷ lists) subtables e h = absurd (omega (arith, ap length e))
index_is_valid choice plan (p ∷ places) [] subtables e h = absurd (omega (arith, ap length e))
index_is_valid choice plan (p ∷ places) (v ∷ lists) [] e h = absurd h
index_is_valid choice plan (p ∷ places) (v ∷ lists) (s ∷ subtables) e h = (
  subst (λ (n : ℕ). HasSpanIndex n s) (sym (ap first_or e)) h.0.1.rule.index,
  index_is_valid choice plan places lists subtables (ap rest_of e) h.1,
)

pub constants_are : (kind : Kind) (choice : Choice) (lists : List (List ℕ)) (subtables : List Subtable) → SideBySide (λ list subtable. IsByRule kind list choice subtable) lists subtables →
    map constant_in subtables ≡ map (constant_for kind) lists
constants_are kind choice [] [] h = refl
constants_are kind choice [] (s ∷ subtables) h = absurd h
constants_are kind choice (v ∷ lists) [] h = absurd h
constants_are kind choice (v ∷ lists) (s ∷ subtables) h =
    ap (λ (o : Option ℕ). o ∷ map constant_in subtables) h.0.constants ∙ ap (λ (z : List (Option ℕ)). constant_for kind v ∷ z) (constants_are kind choice lists subtables h.1)

pub codes_are : (kind : Kind) (packing : Packing) (lists : List (List ℕ)) (subtables : List Subtable) → SideBySide (λ list subtable. IsByRule kind list (Fixed packing) subtable) lists subtables →
    AllByRecursion HasTruncatedBinary subtables
codes_are kind packing [] [] h = tt
codes_are kind packing [] (s ∷ subtables) h = absurd h
codes_are kind packing (v ∷ lists) [] h = absurd h
codes_are kind packing (v ∷ lists) (constant f byte ∷ subtables) h = (tt, codes_are kind packing lists subtables h.1)
codes_are kind packing (v ∷ lists) (pairs head sparse lengths packed ∷ subtables) h = (h.0.codes, codes_are kind packing lists subtables h.1)

-- ---- flags and maps

abbrev Kept : ℕ → ℕ → Type 0
Kept flags byte = (byte ≡ flags) ⊎ (byte ≡ flags + 128)

kept_of : (flags : ℕ) (subtable : Subtable) → flags_of subtable ≡ flags_byte flags subtable → Kept flags (flags_of subtable)
kept_of flags (constant byte value) e = inr e
kept_of flags (pairs head sparse lengths packed) e = inl e

kept_mod : (flags byte : ℕ) → flags < 32 → Kept flags byte → byte % 32 ≡ flags
kept_mod flags byte small (inl e) = omega (arith, e, small)
kept_mod flags byte small (inr e) = omega (arith, e, small)

kept_mapped : (flags byte : ℕ) → Kept flags byte → has_bit 1 byte ≡ has_bit 1 flags
kept_mapped flags byte (inl e) = ap (has_bit 1) e
kept_mapped flags byte (inr e) = ap (λ (n : ℕ). n == 1) (let same : (byte / 2) % 2 ≡ (flags / 2) % 2 = omega (arith, e) in same)

kept_wide : (flags byte : ℕ) → Kept flags byte → has_bit 4 byte ≡ has_bit 4 flags
kept_wide flags byte (inl e) = ap (has_bit 4) e
kept_wide flags byte (inr e) = ap (λ (n : ℕ). n == 1) (let same : (byte / 16) % 2 ≡ (flags / 16) % 2 = omega (arith, e) in same)

pub flags_are_valid : (choice : Choice) (plan : Plan) (flags : List ℕ) (lists : List (List ℕ)) (subtables : List Subtable) → AreBuilt choice plan flags lists subtables → length flags ≡ length lists →
    AllByRecursion (λ byte. byte < 32) flags → map (λ subtable. flags_of subtable % 32) subtables ≡ flags
flags_are_valid choice plan [] [] [] h e small = refl
flags_are_valid choice plan (f ∷ flags) [] subtables h e small = absurd (omega (arith, e))
flags_are_valid choice plan flags [] (s ∷ subtables) h e small = absurd h
flags_are_valid choice plan flags (v ∷ lists) [] h e small = absurd h
flags_are_valid choice plan [] (v ∷ lists) (s ∷ subtables) h e small = absurd (omega (arith, e))
flags_are_valid choice plan (f ∷ flags) (v ∷ lists) (s ∷ subtables) h e small =
    ap (λ (n : ℕ). n ∷ map (λ subtable. flags_of subtable % 32) subtables) (kept_mod f (flags_of s) small.0 (kept_of f s h.0.flags_kept))
    ∙ ap (λ (z : List ℕ). f ∷ z) (flags_are_valid choice plan flags lists subtables h.1 (omega (arith, e)) small.1)

bytes_are_valid : (choice : Choice) (plan : Plan) (flags : List ℕ) (lists : List (List ℕ)) (subtables : List Subtable) → AreBuilt choice plan flags lists subtables → map flags_of subtables ≡ flags_bytes flags subtables
bytes_are_valid choice plan flags lists [] h = refl
bytes_are_valid choice plan flags [] (s ∷ subtables) h = absurd h
bytes_are_valid choice plan [] (v ∷ lists) (s ∷ subtables) h =
    ap (λ (n : ℕ). n ∷ map flags_of subtables) h.0.flags_kept ∙ ap (λ (z : List ℕ). flags_byte 0 s ∷ z) (bytes_are_valid choice plan [] lists subtables h.1)
bytes_are_valid choice plan (f ∷ flags) (v ∷ lists) (s ∷ subtables) h =
    ap (λ (n : ℕ). n ∷ map flags_of subtables) h.0.flags_kept ∙ ap (λ (z : List ℕ). flags_byte f s ∷ z) (bytes_are_valid choice plan flags lists subtables h.1)

lists_fit : (size most : ℕ) (lists : List (List ℕ)) → most ≡ 256 ^ size → list_all (λ list. nat_lt (length list) most) lists ≡ true → AllByRecursion (AreNumbers size) lists →
    AllByRecursion (λ list. (length list < 256 ^ size) × AreNumbers size list) lists
lists_fit size most lists e short fit =
    all_both (λ (list : List ℕ). nat_lt (length list) most ≡ true) (AreNumbers size) (λ (list : List ℕ). (length list < 256 ^ size) × AreNumbers size list) lists
    (λ list h k. (subst (λ (m : ℕ). length list < m) e (ltb-true (length list) most h), k))
    (all_parsed (λ (list : List ℕ). nat_lt (length list) most) (λ (list : List ℕ). nat_lt (length list) most ≡ true) lists (λ list h. h) short) fit

is_map_valid : (flags : ℕ) (subtable : Subtable) (item : Option Map) → Kept flags (flags_of subtable) → is_map_of (flags, item) ≡ true → IsOfItems item → IsMapOf subtable item
is_map_valid flags subtable None kept e fit = kept_mapped flags (flags_of subtable) kept ∙ not-true (has_bit 1 flags) e
is_map_valid flags subtable (Some (narrow lists)) kept e fit =
    let parts = three (has_bit 1 flags) (not (has_bit 4 flags)) (list_all (λ list. nat_lt (length list) (2 ^ 8)) lists) e in (
      kept_mapped flags (flags_of subtable) kept ∙ parts.0,
      kept_wide flags (flags_of subtable) kept ∙ not-true (has_bit 4 flags) parts.1,
      (fit.0, lists_fit 1 256 lists refl parts.2 fit.1),
    )
is_map_valid flags subtable (Some (wide lists)) kept e fit =
    let parts = three (has_bit 1 flags) (has_bit 4 flags) (list_all (λ list. nat_lt (length list) (2 ^ 16)) lists) e in (
      kept_mapped flags (flags_of subtable) kept ∙ parts.0,
      kept_wide flags (flags_of subtable) kept ∙ parts.1,
      (fit.0, lists_fit 2 65536 lists refl parts.2 fit.1),
    )

maps_beside : (choice : Choice) (plan : Plan) (flags : List ℕ) (lists : List (List ℕ)) (subtables : List Subtable) (items : List (Option Map)) → AreBuilt choice plan flags lists subtables → length flags ≡ length lists →
    length items ≡ length flags → list_all is_map_of (zip flags items) ≡ true → AllByRecursion IsOfItems items → SideBySide IsMapOf subtables items
maps_beside choice plan [] [] [] [] h e e' all fit = tt
maps_beside choice plan (f ∷ flags) [] subtables items h e e' all fit = absurd (omega (arith, e))
maps_beside choice plan flags [] (s ∷ subtables) items h e e' all fit = absurd h
maps_beside choice plan flags (v ∷ lists) [] items h e e' all fit = absurd h
maps_beside choice plan [] (v ∷ lists) (s ∷ subtables) items h e e' all fit = absurd (omega (arith, e))
maps_beside choice plan [] [] [] (m ∷ items) h e e' all fit = absurd (omega (arith, e'))
maps_beside choice plan (f ∷ flags) (v ∷ lists) (s ∷ subtables) [] h e e' all fit = absurd (omega (arith, e'))
maps_beside choice plan (f ∷ flags) (v ∷ lists) (s ∷ subtables) (m ∷ items) h e e' all fit =
    let halves = and_parts (is_map_of (f, m)) (list_all is_map_of (zip flags items)) all in
    (is_map_valid f s m (kept_of f s h.0.flags_kept) halves.0 fit.0, maps_beside choice plan flags lists subtables items h.1 (omega (arith, e)) (omega (arith, e')) halves.1 fit.1)

-- a DTZ table has a slot for each part
one_each : (material : Sides) (n : ℕ) (parts : List Part) → length (slots_from material (0 ∷ []) n parts) ≡ length parts
one_each material n [] = refl
one_each material n (part ∷ parts) = ap suc (one_each material (n + 1) parts)

pub no_items : {A : Type 0} (xs : List A) → length xs ≡ 0 → xs ≡ []
no_items [] e = refl
no_items (x ∷ xs) e = absurd (omega (arith, e))

pub small_flags : (kind : Kind) (material : Sides) (flags : List ℕ) (items : List (Option Map)) → maps_pass kind material flags items ≡ true → AllByRecursion (λ byte. byte < 32) flags
small_flags Wdl material flags items e =
    let halves = and_parts (length flags == 0) (length items == 0) e in
    subst (λ (z : List ℕ). AllByRecursion (λ byte. byte < 32) z) (sym (no_items flags (eqb-true (length flags) 0 halves.0))) tt
small_flags Dtz material flags items e =
    let parts = four (length flags == length (part_numbers material)) (length items == length (part_numbers material)) (list_all (λ byte. nat_lt byte 32) flags) (list_all is_map_of (zip flags items)) e in
    all_parsed (λ byte. nat_lt byte 32) (λ byte. byte < 32) flags (λ byte h. ltb-true byte 32 h) parts.2

abbrev pub flags_shown : Kind → List Subtable → List ℕ
flags_shown kind subtables = elim kind [ Wdl ↦ [] | Dtz ↦ map (λ subtable. flags_of subtable % 32) subtables ]

-- the flags and maps of a table whose subtables are built from lists
pub maps_and_flags : (choice : Choice) (kind : Kind) (plan : Plan) (lists : List (List ℕ)) (subtables : List Subtable) → plan.kind ≡ kind → maps_pass kind plan.material plan.flags plan.maps ≡ true →
    AllByRecursion IsOfItems plan.maps → SideBySide (λ _. IsPart plan.material kind) (part_numbers plan.material) plan.parts →
    AreSized (slots plan.material kind plan.parts) lists → AreBuilt choice plan plan.flags lists subtables → AreMaps kind subtables plan.maps × (flags_shown kind subtables ≡ plan.flags)
maps_and_flags choice Wdl plan lists subtables is pass fit parts sized built =
    let halves = and_parts (length plan.flags == 0) (length plan.maps == 0) pass in
    (no_items plan.maps (eqb-true (length plan.maps) 0 halves.1), sym (no_items plan.flags (eqb-true (length plan.flags) 0 halves.0)))
maps_and_flags choice Dtz plan lists subtables is pass fit parts sized built =
    let tests = four (length plan.flags == length (part_numbers plan.material)) (length plan.maps == length (part_numbers plan.material)) (list_all (λ byte. nat_lt byte 32) plan.flags) (list_all is_map_of (zip plan.flags plan.maps)) pass in
    let places : length (slots plan.material Dtz plan.parts) ≡ length lists =
    sym (length-map (slots plan.material Dtz plan.parts) (λ slot. slot.size)) ∙ ap length sized ∙ length-map lists length in
    let flags : length plan.flags ≡ length lists = eqb-true (length plan.flags) (length (part_numbers plan.material)) tests.0
    ∙ side_lengths (λ _. IsPart plan.material Dtz) (part_numbers plan.material) plan.parts parts ∙ sym (one_each plan.material 0 plan.parts) ∙ places in
    let items : length plan.maps ≡ length plan.flags = eqb-true (length plan.maps) (length (part_numbers plan.material)) tests.1 ∙ sym (eqb-true (length plan.flags) (length (part_numbers plan.material)) tests.0) in (
      maps_beside choice plan plan.flags lists subtables plan.maps built flags items tests.3 fit,
      flags_are_valid choice plan plan.flags lists subtables built flags (all_parsed (λ byte. nat_lt byte 32) (λ byte. byte < 32) plan.flags (λ byte h. ltb-true byte 32 h) tests.2),
    )

-- ---- the table

-- the table with a plan's parts, maps and last bytes, and these subtables
abbrev pub table_with : Plan → ℕ → List Subtable → Contents
table_with plan byte4 subtables = record {
  material = plan.material;
  kind = plan.kind;
  byte4 = byte4;
  parts = plan.parts;
  subtables = subtables;
  maps = plan.maps;
  last = plan.last;
}

pub table_is_valid : (choice : Choice) (plan : Plan) (byte4 : ℕ) (lists : List (List ℕ)) (subtables : List Subtable) → byte4 < 256 → has_bit 0 byte4 ≡ not (is_symmetric plan.material) → has_bit 1 byte4 ≡ has_pawns plan.material →
    byte4 ≡ byte4_for plan.material → AreBytes 16 plan.last → AllByRecursion IsOfItems plan.maps → HasNoFault plan lists → AreBuilt choice plan plan.flags lists subtables → IsBuiltBare choice plan lists (table_with plan byte4 subtables)
table_is_valid choice plan byte4 lists subtables small split pawns ruled last fit is_valid built =
    let parts = is_valid.parts in
    let sized = is_valid.sizes in
    let pass = is_valid.maps in
    let stated = maps_and_flags choice plan.kind plan lists subtables refl pass fit parts sized built in
    let each = beside choice plan plan.flags lists subtables built in
    record {
      built = record {
        material = refl;
        kind = refl;
        parts = refl;
        flags = stated.1;
        bytes = bytes_are_valid choice plan plan.flags lists subtables built;
        maps = refl;
        last = refl;
        packed = packed_are_valid choice plan (slots plan.material plan.kind plan.parts) lists subtables sized each;
        values = values_are_valid choice plan (slots plan.material plan.kind plan.parts) lists subtables sized each;
        byte4 = ruled;
        rule = rules_are_valid choice plan lists subtables each;
        index = index_is_valid choice plan (slots plan.material plan.kind plan.parts) lists subtables sized each;
      };
      accepted = λ fill queried. record {
        byte4 = small;
        split = split_is_valid plan.material plan.kind byte4 split;
        pawns = ap (λ (b : Bool). agrees b (has_pawns plan.material)) pawns ∙ agrees_itself (has_pawns plan.material);
        parts = parts;
        subtables = are_subs_valid choice plan (slots plan.material plan.kind plan.parts) lists subtables sized each;
        maps = stated.0;
        last = last;
        fill_fits = queried;
      };
    }

-- a table packed by the plan's numbers
pub fixed_is_built : (plan : Plan) (lists : List (List ℕ)) (t : Contents) →
    IsBuiltBy (Fixed (record { block_bits = plan.block_bits; span_bits = plan.span_bits; rounds = plan.rounds })) plan lists t → IsBuilt plan lists t
fixed_is_built plan lists t h = record {
  material = h.material;
  kind = h.kind;
  parts = h.parts;
  flags = h.flags;
  bytes = h.bytes;
  maps = h.maps;
  last = h.last;
  packed = h.packed;
  values = h.values;
}

-- a table packed by numbers that the builder chose
pub small_is_built : (plan : Plan) (lists : List (List ℕ)) (t : Contents) → IsBuiltBy Small plan lists t → IsBuiltSmall plan lists t
small_is_built plan lists t h = record {
  material = h.material;
  kind = h.kind;
  parts = h.parts;
  flags = h.flags;
  bytes = h.bytes;
  maps = h.maps;
  last = h.last;
  packed = h.packed;
  values = h.values;
}

-- the same table, with copies of the plan's fields
pub table_copied : (choice : Choice) (plan : Plan) (lists : List (List ℕ)) (byte4 : ℕ) (subtables : List Subtable) (material : Sides) (parts : List Part) (items : List (Option Map)) (last : List ℕ) →
    material ≡ plan.material → parts ≡ plan.parts → items ≡ plan.maps → last ≡ plan.last → IsBuiltBare choice plan lists (table_with plan byte4 subtables) →
    IsBuiltBare choice plan lists (record { material = material; kind = plan.kind; byte4 = byte4; parts = parts; subtables = subtables; maps = items; last = last })
table_copied choice plan lists byte4 subtables material parts items last e1 e2 e3 e4 h =
    subst (λ (m : Sides). IsBuiltBare choice plan lists (record { material = m; kind = plan.kind; byte4 = byte4; parts = parts; subtables = subtables; maps = items; last = last })) (sym e1)
    (subst (λ (p : List Part). IsBuiltBare choice plan lists (record { material = plan.material; kind = plan.kind; byte4 = byte4; parts = p; subtables = subtables; maps = items; last = last })) (sym e2)
    (subst (λ (i : List (Option Map)). IsBuiltBare choice plan lists (record { material = plan.material; kind = plan.kind; byte4 = byte4; parts = plan.parts; subtables = subtables; maps = i; last = last })) (sym e3)
    (subst (λ (l : List ℕ). IsBuiltBare choice plan lists (record { material = plan.material; kind = plan.kind; byte4 = byte4; parts = plan.parts; subtables = subtables; maps = plan.maps; last = l })) (sym e4) h)))

-- flags are below 32, and those after the last are 0
pub flag_at : (flags : List ℕ) (n : ℕ) → AllByRecursion (λ byte. byte < 32) flags → get_or flags n 0 < 32
flag_at [] n h = omega arith
flag_at (byte ∷ flags) zero h = h.0
flag_at (byte ∷ flags) (suc n) h = flag_at flags n h.1

-- zeros are bytes
zeros : (n : ℕ) → AreBytes n (replicate n 0)
zeros zero = (refl, tt)
zeros (suc n) = let more = zeros n in (ap suc more.0, (omega arith, more.1))

pub zeros_fit : (n : ℕ) (fill : List ℕ) → fill ≡ replicate n 0 → AreBytes n fill
zeros_fit n fill e = subst (λ (z : List ℕ). AreBytes n z) (sym e) (zeros n)

pub all_zero : (n : ℕ) (fill : List ℕ) → fill ≡ replicate n 0 → AllByRecursion (λ (byte : ℕ). byte ≡ 0) fill
all_zero n fill e = subst (λ (z : List ℕ). AllByRecursion (λ (byte : ℕ). byte ≡ 0) z) (sym e) (zero_bytes n)
  where
    zero_bytes : (n : ℕ) → AllByRecursion (λ (byte : ℕ). byte ≡ 0) (replicate n 0)
    zero_bytes zero = tt
    zero_bytes (suc n) = (refl, zero_bytes n)

-- ---- refusals

pub order_parsed : (plan : Plan) (lists : List (List ℕ)) → AllByRecursion IsOfBytes plan.parts → ¬ SideBySide (λ _. IsPart plan.material plan.kind) (part_numbers plan.material) plan.parts →
    build_fault plan lists ≡ Some fault.Order
unfolding build_fault fault_for
order_parsed plan lists bytes h = ap (λ (o : Option (List ℕ)). fault_for o plan lists) (no_sizes plan.material plan.kind plan.parts bytes h)

pub rest_parsed : (plan : Plan) (lists : List (List ℕ)) (sizes : List ℕ) → SideBySide (λ _. IsPart plan.material plan.kind) (part_numbers plan.material) plan.parts →
    sizes ≡ map (λ slot. slot.size) (slots plan.material plan.kind plan.parts) → build_fault plan lists ≡ fault_for (Some sizes) plan lists
unfolding build_fault
rest_parsed plan lists sizes parts same =
    ap (λ (o : Option (List ℕ)). fault_for o plan lists) (sizes_of_parts plan.material plan.kind plan.parts parts ∙ ap Some (sym same))

pub all_are_valid : (plan : Plan) (lists : List (List ℕ)) (sizes : List ℕ) → SideBySide (λ _. IsPart plan.material plan.kind) (part_numbers plan.material) plan.parts →
    sizes ≡ map (λ slot. slot.size) (slots plan.material plan.kind plan.parts) → AllByRecursion (λ size. size < 2 ^ 33) sizes → fault_for (Some sizes) plan lists ≡ None → HasNoFault plan lists
all_are_valid plan lists sizes parts same fits none =
    let p = passed (bits_parsed plan) (nat_le plan.rounds 4000) (length lists == length sizes) (wrong_length sizes lists) (wrong_value plan.kind lists) (too_many_values lists) (has_maps plan)
    (sym (fault_stated sizes plan lists) ∙ none) in
    let lengths : sizes ≡ map length lists = sizes_are sizes lists (eqb-true (length lists) (length sizes) p.count) (none_pass (λ pair. not (length pair.1 == pair.0)) (zip sizes lists) p.length) in
    let bits = four (nat_le 5 plan.block_bits) (nat_le plan.block_bits 10) (nat_le 1 plan.span_bits) (nat_le plan.span_bits 16) p.bits in
    record {
      parts = parts;
      sizes = sym same ∙ lengths;
      range = record {
        least_block = leb-true 5 plan.block_bits bits.0;
        most_block = leb-true plan.block_bits 10 bits.1;
        least_span = leb-true 1 plan.span_bits bits.2;
        most_span = leb-true plan.span_bits 16 bits.3;
        rounds = leb-true plan.rounds 4000 p.rounds;
        flags = small_flags plan.kind plan.material plan.flags plan.maps p.maps;
      };
      each = lists_are_valid plan.kind sizes lists fits lengths p.value p.many;
      maps = p.maps;
    }

some_of : (f : BuildFault) → None ≡ Some f → ⊥
some_of f e = cc e

same_of : (g f : BuildFault) → Some g ≡ Some f → g ≡ f
same_of g f e = cc e

-- the result is the fault that is due
pub refused_as : {A : Type 0} (r : Result A BuildFault) (o : Option BuildFault) (f : BuildFault) → o ≡ Some f → r ≡ Err f → MatchOption o (IfErr r (λ stated. stated ≡ fault.Memory)) (λ stated. r ≡ Err stated)
refused_as r None f e h = absurd (some_of f e)
refused_as r (Some g) f e h = h ∙ ap Err (sym (same_of g f e))

pub passed_as : {A : Type 0} (r : Result A BuildFault) (o : Option BuildFault) → o ≡ None → IfErr r (λ stated. stated ≡ fault.Memory) → MatchOption o (IfErr r (λ stated. stated ≡ fault.Memory)) (λ stated. r ≡ Err stated)
passed_as r None e h = h
passed_as r (Some g) e h = absurd (some_of g (sym e))

-- if there is no fault, the option is None
pub no_fault : (o : Option BuildFault) → ((f : BuildFault) → o ≡ Some f → ⊥) → o ≡ None
no_fault None h = refl
no_fault (Some f) h = absurd (h f refl)

-- ---- borrowed parts

pub bytes_as : (lent held : List PartBytes) → lent ≡ held → AllByRecursion IsOfBytes (map part_of lent) → AllByRecursion IsOfBytes (map part_of held)
bytes_as lent held e h = subst (λ (z : List PartBytes). AllByRecursion IsOfBytes (map part_of z)) e h

abbrev Parts : Sides → Kind → List PartBytes → Type 0
Parts material kind parts = SideBySide (λ _. IsPart material kind) (part_numbers material) (map part_of parts)

pub parts_as : (material : Sides) (kind : Kind) (lent held : List PartBytes) → lent ≡ held → SideBySide (λ _. IsPart material kind) (part_numbers material) (map part_of lent) →
    SideBySide (λ _. IsPart material kind) (part_numbers material) (map part_of held)
parts_as material kind lent held e h = subst (λ (z : List PartBytes). Parts material kind z) e h

pub sizes_as : (material : Sides) (kind : Kind) (lent held : List PartBytes) → lent ≡ held →
    map (λ slot. slot.size) (slots material kind (map part_of lent)) ≡ map (λ slot. slot.size) (slots material kind (map part_of held))
sizes_as material kind lent held e = ap (λ (z : List PartBytes). map (λ slot. slot.size) (slots material kind (map part_of z))) e

pub no_parts : (material : Sides) (kind : Kind) (lent held : List PartBytes) → lent ≡ held → {A : Type 0} (o : Option A) → ((x : A) → o ≡ Some x → ⊥) →
    IfNone o (¬ SideBySide (λ _. IsPart material kind) (part_numbers material) (map part_of lent)) → ¬ SideBySide (λ _. IsPart material kind) (part_numbers material) (map part_of held)
no_parts material kind lent held e None h k = λ is_valid. k (subst (λ (z : List PartBytes). Parts material kind z) (sym e) is_valid)
no_parts material kind lent held e (Some x) h k = absurd (h x refl)

pub valid_as : (plan : Plan) (lists : List (List ℕ)) (sizes : List ℕ) (lent held : List PartBytes) → lent ≡ held → plan.parts ≡ map part_of held →
    SideBySide (λ _. IsPart plan.material plan.kind) (part_numbers plan.material) (map part_of lent) → sizes ≡ map (λ slot. slot.size) (slots plan.material plan.kind (map part_of lent)) →
    build_fault plan lists ≡ fault_for (Some sizes) plan lists
valid_as plan lists sizes lent held e is parts same =
    let own : map part_of lent ≡ plan.parts = ap (map part_of) e ∙ sym is in
    rest_parsed plan lists sizes (subst (λ (z : List Part). SideBySide (λ _. IsPart plan.material plan.kind) (part_numbers plan.material) z) own parts)
    (same ∙ ap (λ (z : List Part). map (λ slot. slot.size) (slots plan.material plan.kind z)) own)
