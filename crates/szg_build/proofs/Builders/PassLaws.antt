-- A plan and lists of values without faults are not refused.
use Rattle.std.proofs.Common.{ℕ, ◌≡◌, ◌+◌, ◌≤◌, Bool, true, false, cond, List, [], ◌∷◌, ◌++◌, length, map, refl, sym, ap, subst, ◌∙◌, append-nil, arith, Option, Some, None}
use Rattle.std.specs.Prelude.{◌==◌, not, nat_lt, nat_le}
use Rattle.std.specs.List.{AllByRecursion, list_any, position, prefix_len, zip}
use Rattle.std.proofs.lemmas.Bool.{eq-eqb, le-leb}
use Rattle.std.proofs.lemmas.Bool.Decides.{nat_tests}
use Rattle.std.proofs.lemmas.List.{length-map}
use Rattle.szg_file.specs.Contents.{slots}
use Rattle.szg_subtable.specs.declared.building.Choice.{Choice}
use Rattle.szg_subtable.specs.declared.building.Packing.{Packing}
use Rattle.szg_build.specs.declared.reading.gathering.Gathered.{Gathered}
use Rattle.szg_build.specs.Built.{dump_plan}
use Rattle.szg_build.specs.Chosen.{numbers_in, plan_by}
use Rattle.szg_build.specs.Packed.{gathered_dump, lists_in, packed_values}
use Rattle.szg_subtable.specs.Pairing.{different_values}
use Rattle.szg_build.specs.Plan.{Plan, build_fault, greatest_value, has_maps, too_many_values, wrong_length, wrong_value}
use Rattle.szg_build.specs.Tabling.{IsBuildable, HasNoFault}
use Rattle.szg_build.proofs.Builders.RefusalLaws.{all_as, bits_parsed, chain, fault_stated, four_all}
use Rattle.szg_build.proofs.Builders.TableLaws.{rest_parsed}

-- ---- the tests of lists

not_above : (a b : ℕ) → b ≤ a → nat_lt a b ≡ false
not_above a b le = grind (arith, nat_tests)

whole_prefix : {A : Type 0} (p : A → Bool) (xs : List A) → AllByRecursion (λ x. p x ≡ false) xs → prefix_len (λ x. not (p x)) xs ≡ length xs
whole_prefix p [] h = refl
whole_prefix p (x ∷ xs) h = ap (λ (b : Bool). cond (not b) (1 + prefix_len (λ x. not (p x)) xs) 0) h.0 ∙ omega (arith, whole_prefix p xs h.1)

-- if no item passes, there is no first item that passes
none_found : {A : Type 0} (p : A → Bool) (xs : List A) → AllByRecursion (λ x. p x ≡ false) xs → position p xs ≡ None
none_found p xs h =
    ap (λ (n : ℕ). cond (nat_lt n (length xs)) (Some n) None) (whole_prefix p xs h)
    ∙ ap (λ (b : Bool). cond b (Some (length xs)) None) (not_above (length xs) (length xs) (omega arith))

none_exceeds : (greatest : ℕ) (values : List ℕ) → AllByRecursion (λ v. v ≤ greatest) values → list_any (λ v. nat_lt greatest v) values ≡ false
none_exceeds greatest [] h = refl
none_exceeds greatest (v ∷ values) h = rw (not_above greatest v h.0) (none_exceeds greatest values h.1)

own_lengths : (lists : List (List ℕ)) → AllByRecursion (λ pair. not (length pair.1 == pair.0) ≡ false) (zip (map length lists) lists)
own_lengths [] = tt
own_lengths (list ∷ lists) = (ap not (eq-eqb (length list) (length list) refl), own_lengths lists)

-- ---- all tests

all_pass : (b1 b2 b3 : Bool) (o4 o5 o6 : Option ℕ) (b7 : Bool) → b1 ≡ true → b2 ≡ true → b3 ≡ true → o4 ≡ None → o5 ≡ None → o6 ≡ None → b7 ≡ true → chain b1 b2 b3 o4 o5 o6 b7 ≡ None
all_pass b1 b2 b3 o4 o5 o6 b7 e1 e2 e3 e4 e5 e6 e7 = rw (e1, e2, e3, e4, e5, e6, e7)

bits_pass : (plan : Plan) (lists : List (List ℕ)) → HasNoFault plan lists → bits_parsed plan ≡ true
bits_pass plan lists h =
    sym (four_all (nat_le 5 plan.block_bits) (nat_le plan.block_bits 10) (nat_le 1 plan.span_bits) (nat_le plan.span_bits 16) true
    (le-leb 5 plan.block_bits h.range.least_block) (le-leb plan.block_bits 10 h.range.most_block) (le-leb 1 plan.span_bits h.range.least_span)
    (sym (le-leb plan.span_bits 16 h.range.most_span)))

-- what has no fault is not refused
pub nothing_refused : (plan : Plan) (lists : List (List ℕ)) → HasNoFault plan lists → build_fault plan lists ≡ None
nothing_refused plan lists h =
    let sizes : List ℕ = map (λ slot. slot.size) (slots plan.material plan.kind plan.parts) in
    let count : length lists ≡ length sizes = sym (ap length h.sizes ∙ length-map lists length) in
    let lengths : wrong_length sizes lists ≡ None =
    ap (λ (z : List ℕ). wrong_length z lists) h.sizes ∙ none_found (λ pair. not (length pair.1 == pair.0)) (zip (map length lists) lists) (own_lengths lists) in
    let values : wrong_value plan.kind lists ≡ None =
    none_found (λ (list : List ℕ). list_any (λ v. nat_lt (greatest_value plan.kind) v) list) lists
    (all_as (IsBuildable plan.kind) (λ (list : List ℕ). list_any (λ v. nat_lt (greatest_value plan.kind) v) list ≡ false) lists
    (λ list k. none_exceeds (greatest_value plan.kind) list k.small) h.each) in
    let many : too_many_values lists ≡ None =
    none_found (λ (list : List ℕ). nat_lt 4095 (length (different_values list))) lists
    (all_as (IsBuildable plan.kind) (λ (list : List ℕ). nat_lt 4095 (length (different_values list)) ≡ false) lists
    (λ list k. not_above 4095 (length (different_values list)) k.different) h.each) in
    rest_parsed plan lists sizes h.parts refl ∙ fault_stated sizes plan lists
    ∙ all_pass (bits_parsed plan) (nat_le plan.rounds 4000) (length lists == length sizes) (wrong_length sizes lists) (wrong_value plan.kind lists) (too_many_values lists) (has_maps plan)
    (bits_pass plan lists h) (le-leb plan.rounds 4000 h.range.rounds) (eq-eqb (length lists) (length sizes) count) lengths values many h.maps

-- ---- a dump's table

-- all that was read is packed, and has no fault
pub whole_passes : (choice : Choice) (gathered : Gathered) (numbers : Packing) → numbers ≡ numbers_in choice → gathered.subs.rest.items ≡ [] →
    HasNoFault (dump_plan (gathered_dump gathered) numbers.block_bits numbers.span_bits numbers.rounds) (map (packed_values gathered.header.kind) gathered.subs.packed.items) →
    build_fault (plan_by choice (gathered_dump gathered)) (lists_in gathered.header.kind gathered.subs) ≡ None
whole_passes choice gathered numbers e none h =
    let packed = map (packed_values gathered.header.kind) gathered.subs.packed.items in
    let all : lists_in gathered.header.kind gathered.subs ≡ packed = ap (λ z. packed ++ map (λ list. list.items) z) none ∙ append-nil packed in
    subst (λ (z : List (List ℕ)). build_fault (plan_by choice (gathered_dump gathered)) z ≡ None) (sym all)
    (subst (λ (z : Packing). build_fault (dump_plan (gathered_dump gathered) z.block_bits z.span_bits z.rounds) packed ≡ None) e
    (nothing_refused (dump_plan (gathered_dump gathered) numbers.block_bits numbers.span_bits numbers.rounds) packed h))
