-- Subtables of a dump that are packed while it is read.
use Rattle.std.proofs.Common.{◌≡◌, ℕ, zero, suc, ◌+◌, ◌<◌, ◌≤◌, ◌^◌, Bool, true, false, List, [], ◌∷◌, ◌++◌, length, map, replicate, refl, sym, ap, subst, ◌∙◌, append-nil, arith, Some, None}
use Rattle.std.specs.Prelude.{◌==◌, nat_le, if◌then◌else◌}
use Rattle.std.specs.List.{AllByRecursion, list_any}
use Rattle.std.proofs.lemmas.Bool.{eqb-true, false_from_ne_true, leb-true}
use Rattle.std.proofs.lemmas.List.{length-replicate}
use Rattle.szg_values.specs.declared.Kind.{Kind}
use Rattle.szg_values.specs.declared.Kind.TheVariants.{Wdl, Dtz}
use Rattle.szg_block.specs.Subtable.{packed_of, IsShaped, IsSoundOver}
use Rattle.szg_block.specs.declared.Sub.{Sub}
use Rattle.szg_file.specs.Accepted.{IsPart, SideBySide}
use Rattle.szg_file.specs.Contents.{Contents, Slot, Subtable, constant, part_numbers, slots}
use Rattle.szg_file.specs.Held.{subtable_of}
use Rattle.szg_file.specs.Values.{constant_value, values_in}
use Rattle.szg_file.proofs.Tables.TableFinds.{shaped_and_sound}
use Rattle.szg_subtable.specs.declared.building.Choice.{Choice}
use Rattle.szg_subtable.specs.declared.building.Packing.{Packing}
use Rattle.szg_subtable.specs.declared.building.Choice.TheVariants.{Fixed, Small}
use Rattle.szg_build.specs.declared.reading.packing.PackedSub.{PackedSub}
use Rattle.szg_build.specs.declared.reading.gathering.Gathered.{Gathered}
use Rattle.szg_build.specs.declared.reading.gathering.Subs.{Subs}
use Rattle.szg_build.specs.Built.{dump_plan}
use Rattle.szg_build.specs.Chosen.{numbers_in, plan_by, IsBuiltAs, IsCodedTable}
use Rattle.szg_subtable.specs.Pairing.{different_values}
use Rattle.szg_build.specs.Plan.{Plan, greatest_value, has_maps}
use Rattle.szg_build.specs.Rule.{constant_for}
use Rattle.szg_build.specs.Tabling.{AreBuilt, AreMade, IsBuildable, IsBuiltBy, IsChoiceOf, HasNoFault, IsBuiltSub}
use Rattle.szg_build.specs.Packed.{gathered_dump, lists_in, packed_values, AreFlagsOf, ArePacked, IsPackedAs, IsPackedSub, IsSettled}
use Rattle.szg_subtable.proofs.Pairs.LeafLaws.{values_below-few, values_below-missing}
use Rattle.szg_build.proofs.Builders.RefusalLaws.{bits_parsed}
use Rattle.szg_build.proofs.Builders.SubLaws.{replicated_all}
use Rattle.szg_build.proofs.Builders.TableLaws.{codes_are, fixed_is_built, four, small_flags, small_is_built}

-- ---- one subtable

-- a packed subtable is sound
pub packed_sound : (kind : Kind) (choice : Choice) (packed : PackedSub) → IsPackedSub kind choice packed → IsShaped packed.sub packed.size × IsSoundOver packed.sub (packed_of packed.sub) packed.size
packed_sound kind choice packed h =
    let slot : Slot = record { part = 0; side = 0; size = packed.size } in
    shaped_and_sound slot packed.sub (h.built.is_valid slot (sym h.size))

-- a subtable that is built of values
pub built_is_packed : (kind : Kind) (choice : Choice) (values : List ℕ) (packed : PackedSub) → packed.flags < 32 → packed.size ≡ length values → IsBuildable kind values →
    IsBuiltSub kind packed.flags values choice (subtable_of packed.sub) → IsPackedAs kind choice packed.flags values packed
built_is_packed kind choice values packed small size fits built =
    let same : packed_values kind packed ≡ values = ap (λ (n : ℕ). values_in kind n (subtable_of packed.sub)) size ∙ built.expands in
    record {
      good = record {
        built = subst (λ (z : List ℕ). IsBuiltSub kind packed.flags z choice (subtable_of packed.sub)) (sym same) built;
        fits = subst (λ (z : List ℕ). IsBuildable kind z) (sym same) fits;
        size = ap length same ∙ sym size;
        small = small;
      };
      flagged = refl;
      valued = same;
    }

-- ---- equal values

-- the rule for equal values
pub wdl_run : (kind : Kind) (value count : ℕ) → kind ≡ Wdl → (count ≡ 0 → value ≡ 0) → constant_for kind (replicate count value) ≡ Some value
wdl_run kind value zero wdl none = ap (λ (k : Kind). constant_for k []) wdl ∙ ap Some (sym (none refl))
wdl_run kind value (suc count) wdl none =
    ap (λ (k : Kind). constant_for k (value ∷ replicate count value)) wdl ∙ ap (λ (b : Bool). if b then Some value else None) (replicated_all value (suc count))

pub dtz_run : (kind : Kind) (value count : ℕ) → kind ≡ Dtz → value ≡ 0 → constant_for kind (replicate count value) ≡ Some 0
dtz_run kind value count dtz none =
    ap (λ (k : Kind). constant_for k (replicate count value)) dtz ∙ ap (λ (v : ℕ). constant_for Dtz (replicate count v)) none
    ∙ ap (λ (b : Bool). if b then Some 0 else None) (replicated_all 0 count)

all_equal : (P : ℕ → Type 0) (value n : ℕ) → P value → AllByRecursion P (replicate n value)
all_equal P value zero h = tt
all_equal P value (suc n) h = (h, all_equal P value n h)

none_large : (values : List ℕ) → AllByRecursion (λ v. v ≤ 4) values → list_any (λ v. v == 4095) values ≡ false
none_large [] h = refl
none_large (v ∷ values) h =
    let here : (v == 4095) ≡ false = false_from_ne_true (v == 4095) (λ e. omega (arith, eqb-true v 4095 e, h.0)) in
    rw here (none_large values h.1)

few_different : (values : List ℕ) → AllByRecursion (λ v. v ≤ 4) values → length (different_values values) ≤ 4095
few_different values h =
    subst (λ (z : List ℕ). length z ≤ 4095) (sym (values_below-missing 4095 values (none_large values h))) (values_below-few 4095 values)

small_value : (kind : Kind) (value : ℕ) → value ≤ 4 → value ≤ greatest_value kind
small_value Wdl value h = h
small_value Dtz value h = omega (arith, h)

pub run_is_buildable : (kind : Kind) (value count : ℕ) → value ≤ 4 → count < 2 ^ 33 → IsBuildable kind (replicate count value)
run_is_buildable kind value count small few = record {
  few = omega (arith, length-replicate count value, few);
  small = all_equal (λ v. v ≤ greatest_value kind) value count (small_value kind value small);
  different = few_different (replicate count value) (all_equal (λ v. v ≤ 4) value count small);
}

pub run_is_built : (kind : Kind) (choice : Choice) (flags byte value count : ℕ) → flags < 32 → byte < 256 → constant_value kind byte ≡ value → constant_for kind (replicate count value) ≡ Some byte →
    IsBuiltSub kind flags (replicate count value) choice (constant (flags + 128) byte)
run_is_built kind choice flags byte value count small fits same rule = record {
  is_valid = λ slot size. (omega (arith, small), omega (arith, small), fits);
  expands = ap (λ (n : ℕ). replicate n (constant_value kind byte)) (length-replicate count value) ∙ ap (replicate count) same;
  flags_kept = refl;
  packed = tt;
  rule = record { constants = sym rule; codes = tt; index = tt };
}

-- ---- a subtable is added

-- none yet
pub none_packed : (kind : Kind) (choice : Choice) (subs : Subs) → subs.flags.items ≡ [] → subs.packed.items ≡ [] → ArePacked kind choice subs
none_packed kind choice subs e p = record {
  each = subst (λ (z : List PackedSub). AllByRecursion (IsPackedSub kind choice) z) (sym p) tt;
  flags = λ _. subst (λ (z : List PackedSub). AreFlagsOf kind z subs.flags.items) (sym p) (no_flags kind subs.flags.items e);
}
  where
    no_flags : (kind : Kind) (flags : List ℕ) → flags ≡ [] → AreFlagsOf kind [] flags
    no_flags Wdl flags e = (e, tt)
    no_flags Dtz flags e = e

-- ---- the subtables of a table

built_unflagged : (choice : Choice) (plan : Plan) (packed : List PackedSub) → AllByRecursion (IsPackedSub plan.kind choice) packed → AllByRecursion (λ p. p.flags ≡ 0) packed →
    AreBuilt choice plan [] (map (packed_values plan.kind) packed) (map (λ p. subtable_of p.sub) packed)
built_unflagged choice plan [] h z = tt
built_unflagged choice plan (p ∷ packed) h z = (
  subst (λ (f : ℕ). IsBuiltSub plan.kind f (packed_values plan.kind p) choice (subtable_of p.sub)) z.0 h.0.built,
  built_unflagged choice plan packed h.1 z.1,
)

built_flagged : (choice : Choice) (plan : Plan) (packed : List PackedSub) → AllByRecursion (IsPackedSub plan.kind choice) packed →
    AreBuilt choice plan (map (λ p. p.flags) packed) (map (packed_values plan.kind) packed) (map (λ p. subtable_of p.sub) packed)
built_flagged choice plan [] h = tt
built_flagged choice plan (p ∷ packed) h = (h.0.built, built_flagged choice plan packed h.1)

built_by_kind : (kind : Kind) (choice : Choice) (plan : Plan) (packed : List PackedSub) (flags : List ℕ) → AllByRecursion (IsPackedSub plan.kind choice) packed → AreFlagsOf kind packed flags →
    AreBuilt choice plan flags (map (packed_values plan.kind) packed) (map (λ p. subtable_of p.sub) packed)
built_by_kind Wdl choice plan packed flags h f =
    subst (λ (z : List ℕ). AreBuilt choice plan z (map (packed_values plan.kind) packed) (map (λ p. subtable_of p.sub) packed)) (sym f.0) (built_unflagged choice plan packed h f.1)
built_by_kind Dtz choice plan packed flags h f =
    subst (λ (z : List ℕ). AreBuilt choice plan z (map (packed_values plan.kind) packed) (map (λ p. subtable_of p.sub) packed)) (sym f) (built_flagged choice plan packed h)

-- packed subtables with the plan's flags are built
pub packed_are_built : (choice : Choice) (plan : Plan) (packed : List PackedSub) → AllByRecursion (IsPackedSub plan.kind choice) packed → AreFlagsOf plan.kind packed plan.flags →
    AreBuilt choice plan plan.flags (map (packed_values plan.kind) packed) (map (λ p. subtable_of p.sub) packed)
packed_are_built choice plan packed h f = built_by_kind plan.kind choice plan packed plan.flags h f

-- their sizes are the lengths of their lists
pub packed_sizes : (kind : Kind) (choice : Choice) (packed : List PackedSub) → AllByRecursion (IsPackedSub kind choice) packed → map (λ p. p.size) packed ≡ map length (map (packed_values kind) packed)
packed_sizes kind choice [] h = refl
packed_sizes kind choice (p ∷ packed) h =
    ap (λ (n : ℕ). n ∷ map (λ p. p.size) packed) (sym h.0.size) ∙ ap (λ (z : List ℕ). length (packed_values kind p) ∷ z) (packed_sizes kind choice packed h.1)

pub packed_fit : (kind : Kind) (choice : Choice) (packed : List PackedSub) → AllByRecursion (IsPackedSub kind choice) packed → AllByRecursion (IsBuildable kind) (map (packed_values kind) packed)
packed_fit kind choice [] h = tt
packed_fit kind choice (p ∷ packed) h = (h.0.fits, packed_fit kind choice packed h.1)

-- ---- the table

-- a plan's choice
pub plan_choice : (choice : Choice) (plan : Plan) → plan.block_bits ≡ (numbers_in choice).block_bits → plan.span_bits ≡ (numbers_in choice).span_bits → plan.rounds ≡ (numbers_in choice).rounds → IsChoiceOf plan choice
plan_choice (Fixed packing) plan b s r = (sym b, sym s, sym r)
plan_choice Small plan b s r = tt

-- the numbers of a fixed choice are the plan's
numbers_are : (packing : Packing) (plan : Plan) → IsChoiceOf plan (Fixed packing) → packing ≡ record { block_bits = plan.block_bits; span_bits = plan.span_bits; rounds = plan.rounds }
numbers_are packing plan is = λ i. record { block_bits = is.0 i; span_bits = is.1 i; rounds = is.2 i }

pub built_as_chosen : (choice : Choice) (plan : Plan) (lists : List (List ℕ)) (t : Contents) → IsChoiceOf plan choice → IsBuiltBy choice plan lists t → IsBuiltAs choice plan lists t
built_as_chosen (Fixed packing) plan lists t is h = fixed_is_built plan lists t (subst (λ (p : Packing). IsBuiltBy (Fixed p) plan lists t) (numbers_are packing plan is) h)
built_as_chosen Small plan lists t is h = small_is_built plan lists t h

pub coded_as_chosen : (choice : Choice) (plan : Plan) (lists : List (List ℕ)) (t : Contents) → IsBuiltBy choice plan lists t → IsCodedTable choice t
coded_as_chosen (Fixed packing) plan lists t h = codes_are plan.kind packing lists t.subtables h.rule
coded_as_chosen Small plan lists t h = tt

-- if the numbers are in their ranges, the sizes are those of the parts and the maps are as they must be, nothing is refused
pub packed_are_valid : (choice : Choice) (plan : Plan) (packed : List PackedSub) (sizes : List ℕ) → AllByRecursion (IsPackedSub plan.kind choice) packed →
    SideBySide (λ _. IsPart plan.material plan.kind) (part_numbers plan.material) plan.parts → sizes ≡ map (λ slot. slot.size) (slots plan.material plan.kind plan.parts) →
    sizes ≡ map (λ p. p.size) packed → bits_parsed plan ≡ true → plan.rounds ≤ 4000 → has_maps plan ≡ true → HasNoFault plan (map (packed_values plan.kind) packed)
packed_are_valid choice plan packed sizes h parts same own bits rounds maps =
    let four_bits = four (nat_le 5 plan.block_bits) (nat_le plan.block_bits 10) (nat_le 1 plan.span_bits) (nat_le plan.span_bits 16) bits in
    record {
      parts = parts;
      sizes = sym same ∙ own ∙ packed_sizes plan.kind choice packed h;
      range = record {
        least_block = leb-true 5 plan.block_bits four_bits.0;
        most_block = leb-true plan.block_bits 10 four_bits.1;
        least_span = leb-true 1 plan.span_bits four_bits.2;
        most_span = leb-true plan.span_bits 16 four_bits.3;
        rounds = rounds;
        flags = small_flags plan.kind plan.material plan.flags plan.maps maps;
      };
      each = packed_fit plan.kind choice packed h;
      maps = maps;
    }

subs_shown : (packed : List PackedSub) → map subtable_of (map (λ p. p.sub) packed) ≡ map (λ p. subtable_of p.sub) packed
subs_shown [] = refl
subs_shown (p ∷ packed) = ap (λ (z : List Subtable). subtable_of p.sub ∷ z) (subs_shown packed)

settled_zero : (old new : List PackedSub) → map (λ p. p.flags) new ≡ map (λ p. p.flags) old → AllByRecursion (λ p. p.flags ≡ 0) old → AllByRecursion (λ p. p.flags ≡ 0) new
settled_zero old [] e h = tt
settled_zero [] (q ∷ new) e h = cc
settled_zero (p ∷ old) (q ∷ new) e h =
    let first : q.flags ≡ p.flags = cc in
    let others : map (λ p. p.flags) new ≡ map (λ p. p.flags) old = cc in
    (first ∙ h.0, settled_zero old new others h.1)

settled_flags : (kind : Kind) (old new : List PackedSub) (flags : List ℕ) → map (λ p. p.flags) new ≡ map (λ p. p.flags) old → AreFlagsOf kind old flags → AreFlagsOf kind new flags
settled_flags Wdl old new flags e h = (h.0, settled_zero old new e h.1)
settled_flags Dtz old new flags e h = h ∙ sym e

-- packed subtables, some of which were packed again, are those of the plan and the lists
pub settled_are_made : (choice : Choice) (plan : Plan) (packed settled : List PackedSub) (subs : List Sub) → HasNoFault plan (map (packed_values plan.kind) packed) → AreFlagsOf plan.kind packed plan.flags →
    IsSettled plan.kind choice packed settled → subs ≡ map (λ p. p.sub) settled → AreMade choice plan (map (packed_values plan.kind) packed) (map subtable_of subs)
settled_are_made choice plan packed settled subs is_valid flags h same =
    let lists = map (packed_values plan.kind) packed in
    let shown : map subtable_of subs ≡ map (λ p. subtable_of p.sub) settled = ap (map subtable_of) same ∙ subs_shown settled in
    record {
      is_valid = is_valid;
      built = subst (λ (z : List Subtable). AreBuilt choice plan plan.flags lists z) (sym shown)
          (subst (λ (z : List (List ℕ)). AreBuilt choice plan plan.flags z (map (λ p. subtable_of p.sub) settled)) h.values
          (packed_are_built choice plan settled h.each (settled_flags plan.kind packed settled plan.flags h.flags flags)));
    }

-- all that was read is packed
pub whole_built : (choice : Choice) (gathered : Gathered) (numbers : Packing) (t : Contents) → numbers ≡ numbers_in choice → gathered.subs.rest.items ≡ [] →
    IsBuiltBy choice (dump_plan (gathered_dump gathered) numbers.block_bits numbers.span_bits numbers.rounds) (map (packed_values gathered.header.kind) gathered.subs.packed.items) t →
    IsBuiltBy choice (plan_by choice (gathered_dump gathered)) (lists_in gathered.header.kind gathered.subs) t
whole_built choice gathered numbers t e none h =
    let packed = map (packed_values gathered.header.kind) gathered.subs.packed.items in
    let all : lists_in gathered.header.kind gathered.subs ≡ packed = ap (λ z. packed ++ map (λ list. list.items) z) none ∙ append-nil packed in
    subst (λ (z : List (List ℕ)). IsBuiltBy choice (plan_by choice (gathered_dump gathered)) z t) (sym all)
    (subst (λ (z : Packing). IsBuiltBy choice (dump_plan (gathered_dump gathered) z.block_bits z.span_bits z.rounds) packed t) e h)
