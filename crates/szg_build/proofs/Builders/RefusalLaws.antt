-- The faults of a plan and its lists, in their order, and what holds if there is none.
use Rattle.std.proofs.Common.{ℕ, ◌≡◌, ◌+◌, ◌<◌, ◌≤◌, ◌^◌, Bool, true, false, cond, List, [], ◌∷◌, length, map, get_or, refl, sym, ap, subst, ◌∙◌, arith, inl, inr, Option, Some, None}
use Rattle.std.specs.Prelude.{◌==◌, ◌&&◌, not, nat_lt, nat_le, option_map}
use Rattle.std.specs.Bool.{then_some}
use Rattle.std.specs.List.{AllByRecursion, All, list_any, list_all, position, prefix_len, zip}
use Rattle.std.proofs.lemmas.Bool.{cases_lt, lt-ltb, eqb-true, or_parts, not-true, not-false}
use Rattle.std.proofs.lemmas.List.{length-map}
use Rattle.std.proofs.lemmas.List.Sums.{prefix_len_passes}
use Rattle.std.proofs.lemmas.List.Elements.{recursion_from_All, All-from_recursion}
use Rattle.std.proofs.lemmas.Bool.Decides.{nat_tests}
use Rattle.szg_values.specs.declared.Kind.{Kind}
use Rattle.szg_values.specs.declared.Kind.TheVariants.{Wdl, Dtz}
use Rattle.szg_values.specs.Material.{Sides}
use Rattle.szg_file.specs.Contents.{Map, part_numbers}
use Rattle.std.proofs.lemmas.List.Folds.{list_all-map}
use Rattle.szg_build.specs.declared.BuildFault.{BuildFault}
use Rattle.szg_build.specs.declared.BuildFault.TheVariants as fault
use Rattle.szg_subtable.specs.Pairing.{different_values}
use Rattle.szg_build.specs.Plan.{Plan, fault_for, first_fault, unless, wrong_length, wrong_value, too_many_values, has_maps, greatest_value, is_map_of}
use Rattle.szg_build.specs.Tabling.{IsBuildable}

-- ---- tests

apart : (let f : Bool = false in f ≡ true) → ⊥
apart e = cc e

pub no_less : (a b : ℕ) → nat_lt a b ≡ false → b ≤ a
no_less a b e = elim (cases_lt a b) [ inl lt ↦ absurd (apart (sym e ∙ lt-ltb a b lt)) | inr le ↦ le ]

-- ---- the first item that passes a test

prefix_len-map : {A B : Type 0} (p : B → Bool) (f : A → B) (xs : List A) → prefix_len p (map f xs) ≡ prefix_len (λ x. p (f x)) xs
prefix_len-map p f [] = refl
prefix_len-map p f (x ∷ xs) = ap (λ (n : ℕ). cond (p (f x)) (1 + n) 0) (prefix_len-map p f xs)

abbrev place : ℕ → ℕ → Option ℕ
place n m = cond (nat_lt n m) (Some n) None

pub position-map : {A B : Type 0} (p : B → Bool) (f : A → B) (xs : List A) → position p (map f xs) ≡ position (λ x. p (f x)) xs
position-map p f xs =
    ap (λ (n : ℕ). place n (length (map f xs))) (prefix_len-map (λ y. not (p y)) f xs)
    ∙ ap (place (prefix_len (λ x. not (p (f x))) xs)) (length-map xs f)

pub zip-map : {A B C : Type 0} (f : B → C) (ks : List A) (xs : List B) → zip ks (map f xs) ≡ map (λ (pair : A × B). (pair.0, f pair.1)) (zip ks xs)
zip-map f [] xs = refl
zip-map f (k ∷ ks) [] = refl
zip-map f (k ∷ ks) (x ∷ xs) = ap (λ z. (k, f x) ∷ z) (zip-map f ks xs)

some_none : (n : ℕ) → Some n ≡ None → ⊥
some_none n e = cc e

no_place : (n m : ℕ) → place n m ≡ None → m ≤ n
no_place n m e = elim (cases_lt n m) [ inl lt ↦ absurd (some_none n (sym (ap (λ (b : Bool). cond b (Some n) None) (lt-ltb n m lt)) ∙ e)) | inr le ↦ le ]

-- if there is no first item that passes, no item passes
pub none_pass : {A : Type 0} (p : A → Bool) (xs : List A) → position p xs ≡ None → AllByRecursion (λ x. p x ≡ false) xs
none_pass p xs e =
    let whole : length xs ≤ prefix_len (λ x. not (p x)) xs = no_place (prefix_len (λ x. not (p x)) xs) (length xs) e in
    recursion_from_All (λ x. p x ≡ false) xs (λ k d lt. not-true (p (get_or xs k d)) (prefix_len_passes (λ x. not (p x)) xs k d (omega arith)))

-- ---- lists

pub all_held : {A B : Type 0} (P : B → Type 0) (f : A → B) (xs : List A) → AllByRecursion P (map f xs) → AllByRecursion (λ x. P (f x)) xs
all_held P f [] h = tt
all_held P f (x ∷ xs) h = (h.0, all_held P f xs h.1)

pub all_as : {A : Type 0} (P Q : A → Type 0) (xs : List A) → ((x : A) → P x → Q x) → AllByRecursion P xs → AllByRecursion Q xs
all_as P Q [] f h = tt
all_as P Q (x ∷ xs) f h = (f x h.0, all_as P Q xs f h.1)

pub all_both : {A : Type 0} (P Q R : A → Type 0) (xs : List A) → ((x : A) → P x → Q x → R x) → AllByRecursion P xs → AllByRecursion Q xs → AllByRecursion R xs
all_both P Q R [] f h k = tt
all_both P Q R (x ∷ xs) f h k = (f x h.0 k.0, all_both P Q R xs f h.1 k.1)

-- no value is above the greatest
pub none_above : (greatest : ℕ) (values : List ℕ) → list_any (λ v. nat_lt greatest v) values ≡ false → AllByRecursion (λ v. v ≤ greatest) values
none_above greatest [] e = tt
none_above greatest (v ∷ values) e =
    let parts = or_parts (nat_lt greatest v) (list_any (λ v. nat_lt greatest v) values) e in
    (no_less greatest v parts.0, none_above greatest values parts.1)

pub below_4095 : (kind : Kind) (values : List ℕ) → AllByRecursion (λ v. v ≤ greatest_value kind) values → AllByRecursion (λ v. v ≤ 4095) values
below_4095 Wdl values h = all_as (λ v. v ≤ 4) (λ v. v ≤ 4095) values (λ v le. omega (arith, le)) h
below_4095 Dtz values h = h

-- the number of lists is the number of sizes, and each list has its size
pub sizes_are : (sizes : List ℕ) (lists : List (List ℕ)) → length lists ≡ length sizes → AllByRecursion (λ pair. not (length pair.1 == pair.0) ≡ false) (zip sizes lists) →
    sizes ≡ map length lists
sizes_are [] [] e h = refl
sizes_are [] (list ∷ lists) e h = absurd (omega (arith, e))
sizes_are (size ∷ sizes) [] e h = absurd (omega (arith, e))
sizes_are (size ∷ sizes) (list ∷ lists) e h =
    let same : length list ≡ size = eqb-true (length list) size (not-false (length list == size) h.0) in
    ap (λ (n : ℕ). n ∷ sizes) (sym same) ∙ ap (λ (z : List ℕ). length list ∷ z) (sizes_are sizes lists (omega (arith, e)) h.1)

-- ---- the refusals in their order

abbrev pub chain : Bool → Bool → Bool → Option ℕ → Option ℕ → Option ℕ → Bool → Option BuildFault
chain b1 b2 b3 o4 o5 o6 b7 = first_fault (
    unless b1 fault.Bits ∷ unless b2 fault.Rounds ∷ unless b3 fault.Count
    ∷ option_map fault.Length o4 ∷ option_map fault.Value o5 ∷ option_map fault.TooManyValues o6
    ∷ unless b7 fault.Map ∷ [])

abbrev pub bits_parsed : Plan → Bool
bits_parsed plan = nat_le 5 plan.block_bits && nat_le plan.block_bits 10 && nat_le 1 plan.span_bits && nat_le plan.span_bits 16

abbrev pub tests : List ℕ → Plan → List (List ℕ) → Option BuildFault
tests sizes plan lists =
    chain (bits_parsed plan) (nat_le plan.rounds 4000) (length lists == length sizes)
    (wrong_length sizes lists) (wrong_value plan.kind lists) (too_many_values lists) (has_maps plan)

pub fault_stated : (sizes : List ℕ) (plan : Plan) (lists : List (List ℕ)) → fault_for (Some sizes) plan lists ≡ tests sizes plan lists
unfolding fault_for
fault_stated sizes plan lists = refl

at_bits : (b1 b2 b3 : Bool) (o4 o5 o6 : Option ℕ) (b7 : Bool) → b1 ≡ false → Some fault.Bits ≡ chain b1 b2 b3 o4 o5 o6 b7
at_bits b1 b2 b3 o4 o5 o6 b7 e1 = sym (ap (λ (b : Bool). chain b b2 b3 o4 o5 o6 b7) e1)

at_rounds : (b1 b2 b3 : Bool) (o4 o5 o6 : Option ℕ) (b7 : Bool) → b1 ≡ true → b2 ≡ false → Some fault.Rounds ≡ chain b1 b2 b3 o4 o5 o6 b7
at_rounds b1 b2 b3 o4 o5 o6 b7 e1 e2 = sym (ap (λ (b : Bool). chain b b2 b3 o4 o5 o6 b7) e1 ∙ ap (λ (b : Bool). chain true b b3 o4 o5 o6 b7) e2)

-- once the checks of the numbers pass
counted : (b1 b2 b3 : Bool) (o4 o5 o6 : Option ℕ) (b7 : Bool) → b1 ≡ true → b2 ≡ true → chain b1 b2 b3 o4 o5 o6 b7 ≡ chain true true b3 o4 o5 o6 b7
counted b1 b2 b3 o4 o5 o6 b7 e1 e2 = ap (λ (b : Bool). chain b b2 b3 o4 o5 o6 b7) e1 ∙ ap (λ (b : Bool). chain true b b3 o4 o5 o6 b7) e2

at_count : (b1 b2 b3 : Bool) (o4 o5 o6 : Option ℕ) (b7 : Bool) → b1 ≡ true → b2 ≡ true → b3 ≡ false → Some fault.Count ≡ chain b1 b2 b3 o4 o5 o6 b7
at_count b1 b2 b3 o4 o5 o6 b7 e1 e2 e3 = sym (counted b1 b2 b3 o4 o5 o6 b7 e1 e2 ∙ ap (λ (b : Bool). chain true true b o4 o5 o6 b7) e3)

-- once the check of the number of lists passes, too
listed : (b1 b2 b3 : Bool) (o4 o5 o6 : Option ℕ) (b7 : Bool) → b1 ≡ true → b2 ≡ true → b3 ≡ true → chain b1 b2 b3 o4 o5 o6 b7 ≡ chain true true true o4 o5 o6 b7
listed b1 b2 b3 o4 o5 o6 b7 e1 e2 e3 = counted b1 b2 b3 o4 o5 o6 b7 e1 e2 ∙ ap (λ (b : Bool). chain true true b o4 o5 o6 b7) e3

at_length : (b1 b2 b3 : Bool) (o4 o5 o6 : Option ℕ) (b7 : Bool) (n : ℕ) → b1 ≡ true → b2 ≡ true → b3 ≡ true → o4 ≡ Some n → Some (fault.Length n) ≡ chain b1 b2 b3 o4 o5 o6 b7
at_length b1 b2 b3 o4 o5 o6 b7 n e1 e2 e3 e4 = sym (listed b1 b2 b3 o4 o5 o6 b7 e1 e2 e3 ∙ ap (λ (o : Option ℕ). chain true true true o o5 o6 b7) e4)

at_value : (b1 b2 b3 : Bool) (o4 o5 o6 : Option ℕ) (b7 : Bool) (n : ℕ) → b1 ≡ true → b2 ≡ true → b3 ≡ true → o4 ≡ None → o5 ≡ Some n →
    Some (fault.Value n) ≡ chain b1 b2 b3 o4 o5 o6 b7
at_value b1 b2 b3 o4 o5 o6 b7 n e1 e2 e3 e4 e5 =
    sym (listed b1 b2 b3 o4 o5 o6 b7 e1 e2 e3 ∙ ap (λ (o : Option ℕ). chain true true true o o5 o6 b7) e4 ∙ ap (λ (o : Option ℕ). chain true true true None o o6 b7) e5)

at_many : (b1 b2 b3 : Bool) (o4 o5 o6 : Option ℕ) (b7 : Bool) (n : ℕ) → b1 ≡ true → b2 ≡ true → b3 ≡ true → o4 ≡ None → o5 ≡ None → o6 ≡ Some n →
    Some (fault.TooManyValues n) ≡ chain b1 b2 b3 o4 o5 o6 b7
at_many b1 b2 b3 o4 o5 o6 b7 n e1 e2 e3 e4 e5 e6 =
    sym (listed b1 b2 b3 o4 o5 o6 b7 e1 e2 e3 ∙ ap (λ (o : Option ℕ). chain true true true o o5 o6 b7) e4 ∙ ap (λ (o : Option ℕ). chain true true true None o o6 b7) e5
    ∙ ap (λ (o : Option ℕ). chain true true true None None o b7) e6)

-- once the checks of the lists pass, too
valued : (b1 b2 b3 : Bool) (o4 o5 o6 : Option ℕ) (b7 : Bool) → b1 ≡ true → b2 ≡ true → b3 ≡ true → o4 ≡ None → o5 ≡ None → o6 ≡ None →
    chain b1 b2 b3 o4 o5 o6 b7 ≡ unless b7 fault.Map
valued b1 b2 b3 o4 o5 o6 true e1 e2 e3 e4 e5 e6 =
    listed b1 b2 b3 o4 o5 o6 true e1 e2 e3 ∙ ap (λ (o : Option ℕ). chain true true true o o5 o6 true) e4 ∙ ap (λ (o : Option ℕ). chain true true true None o o6 true) e5
    ∙ ap (λ (o : Option ℕ). chain true true true None None o true) e6
valued b1 b2 b3 o4 o5 o6 false e1 e2 e3 e4 e5 e6 =
    listed b1 b2 b3 o4 o5 o6 false e1 e2 e3 ∙ ap (λ (o : Option ℕ). chain true true true o o5 o6 false) e4 ∙ ap (λ (o : Option ℕ). chain true true true None o o6 false) e5
    ∙ ap (λ (o : Option ℕ). chain true true true None None o false) e6

unless_not : (b : Bool) (fault : BuildFault) → then_some (not b) fault ≡ unless b fault
unless_not true fault = refl
unless_not false fault = refl

at_maps : (b1 b2 b3 : Bool) (o4 o5 o6 : Option ℕ) (b7 : Bool) → b1 ≡ true → b2 ≡ true → b3 ≡ true → o4 ≡ None → o5 ≡ None → o6 ≡ None →
    then_some (not b7) fault.Map ≡ chain b1 b2 b3 o4 o5 o6 b7
at_maps b1 b2 b3 o4 o5 o6 b7 e1 e2 e3 e4 e5 e6 = unless_not b7 fault.Map ∙ sym (valued b1 b2 b3 o4 o5 o6 b7 e1 e2 e3 e4 e5 e6)

-- if nothing is refused, every test passes
pub record Passed (b1 b2 b3 : Bool) (o4 o5 o6 : Option ℕ) (b7 : Bool) : Type 0 where
  pub bits : b1 ≡ true
  pub rounds : b2 ≡ true
  pub count : b3 ≡ true
  pub length : o4 ≡ None
  pub value : o5 ≡ None
  pub many : o6 ≡ None
  pub maps : b7 ≡ true

refused : (f : BuildFault) → Some f ≡ None → ⊥
refused f e = cc e

pub passed : (b1 b2 b3 : Bool) (o4 o5 o6 : Option ℕ) (b7 : Bool) → chain b1 b2 b3 o4 o5 o6 b7 ≡ None → Passed b1 b2 b3 o4 o5 o6 b7
passed false b2 b3 o4 o5 o6 b7 e = absurd (refused fault.Bits e)
passed true false b3 o4 o5 o6 b7 e = absurd (refused fault.Rounds e)
passed true true false o4 o5 o6 b7 e = absurd (refused fault.Count e)
passed true true true (Some n) o5 o6 b7 e = absurd (refused (fault.Length n) e)
passed true true true None (Some n) o6 b7 e = absurd (refused (fault.Value n) e)
passed true true true None None (Some n) b7 e = absurd (refused (fault.TooManyValues n) e)
passed true true true None None None false e = absurd (refused fault.Map e)
passed true true true None None None true e = record { bits = refl; rounds = refl; count = refl; length = refl; value = refl; many = refl; maps = refl }

-- from lists that are not refused subtables can be built
pub lists_are_valid : (kind : Kind) (sizes : List ℕ) (lists : List (List ℕ)) → AllByRecursion (λ size. size < 2 ^ 33) sizes → sizes ≡ map length lists →
    wrong_value kind lists ≡ None → too_many_values lists ≡ None → AllByRecursion (IsBuildable kind) lists
lists_are_valid kind sizes lists fits same small many =
    let few : AllByRecursion (λ (list : List ℕ). length list < 2 ^ 33) lists =
    all_held (λ (size : ℕ). size < 2 ^ 33) length lists (subst (λ (z : List ℕ). AllByRecursion (λ size. size < 2 ^ 33) z) same fits) in
    let low : AllByRecursion (λ (list : List ℕ). list_any (λ v. nat_lt (greatest_value kind) v) list ≡ false) lists = none_pass (λ (list : List ℕ). list_any (λ v. nat_lt (greatest_value kind) v) list) lists small in
    let different : AllByRecursion (λ (list : List ℕ). nat_lt 4095 (length (different_values list)) ≡ false) lists = none_pass (λ (list : List ℕ). nat_lt 4095 (length (different_values list))) lists many in
    all_both (λ (list : List ℕ). (length list < 2 ^ 33) × (list_any (λ v. nat_lt (greatest_value kind) v) list ≡ false)) (λ (list : List ℕ). nat_lt 4095 (length (different_values list)) ≡ false) (IsBuildable kind) lists
    (λ list h k. record { few = h.0; small = none_above (greatest_value kind) list h.1; different = no_less 4095 (length (different_values list)) k })
    (all_both (λ (list : List ℕ). length list < 2 ^ 33) (λ (list : List ℕ). list_any (λ v. nat_lt (greatest_value kind) v) list ≡ false)
    (λ (list : List ℕ). (length list < 2 ^ 33) × (list_any (λ v. nat_lt (greatest_value kind) v) list ≡ false)) lists (λ list h k. (h, k)) few low)
    different

-- the fault that is returned for each failed check

pub parsed_bits : (sizes : List ℕ) (plan : Plan) (lists : List (List ℕ)) → bits_parsed plan ≡ false →
    Some fault.Bits ≡ fault_for (Some sizes) plan lists
parsed_bits sizes plan lists e1 =
    at_bits (bits_parsed plan) (nat_le plan.rounds 4000) (length lists == length sizes) (wrong_length sizes lists) (wrong_value plan.kind lists) (too_many_values lists) (has_maps plan) e1
    ∙ sym (fault_stated sizes plan lists)

pub parsed_rounds : (sizes : List ℕ) (plan : Plan) (lists : List (List ℕ)) → bits_parsed plan ≡ true → nat_le plan.rounds 4000 ≡ false →
    Some fault.Rounds ≡ fault_for (Some sizes) plan lists
parsed_rounds sizes plan lists e1 e2 =
    at_rounds (bits_parsed plan) (nat_le plan.rounds 4000) (length lists == length sizes) (wrong_length sizes lists) (wrong_value plan.kind lists) (too_many_values lists) (has_maps plan) e1 e2
    ∙ sym (fault_stated sizes plan lists)

pub parsed_count : (sizes : List ℕ) (plan : Plan) (lists : List (List ℕ)) → bits_parsed plan ≡ true → nat_le plan.rounds 4000 ≡ true → (length lists == length sizes) ≡ false →
    Some fault.Count ≡ fault_for (Some sizes) plan lists
parsed_count sizes plan lists e1 e2 e3 =
    at_count (bits_parsed plan) (nat_le plan.rounds 4000) (length lists == length sizes) (wrong_length sizes lists) (wrong_value plan.kind lists) (too_many_values lists) (has_maps plan) e1 e2 e3
    ∙ sym (fault_stated sizes plan lists)

pub parsed_length : (sizes : List ℕ) (plan : Plan) (lists : List (List ℕ)) (n : ℕ) → bits_parsed plan ≡ true → nat_le plan.rounds 4000 ≡ true → (length lists == length sizes) ≡ true → wrong_length sizes lists ≡ Some n →
    Some (fault.Length n) ≡ fault_for (Some sizes) plan lists
parsed_length sizes plan lists n e1 e2 e3 e4 =
    at_length (bits_parsed plan) (nat_le plan.rounds 4000) (length lists == length sizes) (wrong_length sizes lists) (wrong_value plan.kind lists) (too_many_values lists) (has_maps plan) n e1 e2 e3 e4
    ∙ sym (fault_stated sizes plan lists)

pub parsed_value : (sizes : List ℕ) (plan : Plan) (lists : List (List ℕ)) (n : ℕ) → bits_parsed plan ≡ true → nat_le plan.rounds 4000 ≡ true → (length lists == length sizes) ≡ true → wrong_length sizes lists ≡ None → wrong_value plan.kind lists ≡ Some n →
    Some (fault.Value n) ≡ fault_for (Some sizes) plan lists
parsed_value sizes plan lists n e1 e2 e3 e4 e5 =
    at_value (bits_parsed plan) (nat_le plan.rounds 4000) (length lists == length sizes) (wrong_length sizes lists) (wrong_value plan.kind lists) (too_many_values lists) (has_maps plan) n e1 e2 e3 e4 e5
    ∙ sym (fault_stated sizes plan lists)

pub stated_many : (sizes : List ℕ) (plan : Plan) (lists : List (List ℕ)) (n : ℕ) → bits_parsed plan ≡ true → nat_le plan.rounds 4000 ≡ true → (length lists == length sizes) ≡ true → wrong_length sizes lists ≡ None → wrong_value plan.kind lists ≡ None → too_many_values lists ≡ Some n →
    Some (fault.TooManyValues n) ≡ fault_for (Some sizes) plan lists
stated_many sizes plan lists n e1 e2 e3 e4 e5 e6 =
    at_many (bits_parsed plan) (nat_le plan.rounds 4000) (length lists == length sizes) (wrong_length sizes lists) (wrong_value plan.kind lists) (too_many_values lists) (has_maps plan) n e1 e2 e3 e4 e5 e6
    ∙ sym (fault_stated sizes plan lists)

pub parsed_maps : (sizes : List ℕ) (plan : Plan) (lists : List (List ℕ)) → bits_parsed plan ≡ true → nat_le plan.rounds 4000 ≡ true → (length lists == length sizes) ≡ true → wrong_length sizes lists ≡ None → wrong_value plan.kind lists ≡ None → too_many_values lists ≡ None →
    then_some (not (has_maps plan)) fault.Map ≡ fault_for (Some sizes) plan lists
parsed_maps sizes plan lists e1 e2 e3 e4 e5 e6 =
    at_maps (bits_parsed plan) (nat_le plan.rounds 4000) (length lists == length sizes) (wrong_length sizes lists) (wrong_value plan.kind lists) (too_many_values lists) (has_maps plan) e1 e2 e3 e4 e5 e6
    ∙ sym (fault_stated sizes plan lists)

-- the checks over borrowed lists
pub lengths_lent : {A : Type 0} (now : A → List ℕ) (sizes : List ℕ) (lists : List A) → position (λ (pair : ℕ × A). not (length (now pair.1) == pair.0)) (zip sizes lists) ≡ wrong_length sizes (map now lists)
lengths_lent now sizes lists = sym (ap (position (λ (pair : ℕ × List ℕ). not (length pair.1 == pair.0))) (zip-map now sizes lists)
    ∙ position-map (λ (pair : ℕ × List ℕ). not (length pair.1 == pair.0)) (λ (pair : ℕ × _). (pair.0, now pair.1)) (zip sizes lists))

pub values_lent : {A : Type 0} (now : A → List ℕ) (kind : Kind) (lists : List A) → position (λ (list : A). list_any (λ v. nat_lt (greatest_value kind) v) (now list)) lists ≡ wrong_value kind (map now lists)
values_lent now kind lists = sym (position-map (λ (list : List ℕ). list_any (λ v. nat_lt (greatest_value kind) v) list) now lists)

pub many_lent : {A : Type 0} (now : A → List ℕ) (lists : List A) → position (λ (list : A). nat_lt 4095 (length (different_values (now list)))) lists ≡ too_many_values (map now lists)
many_lent now lists = sym (position-map (λ (list : List ℕ). nat_lt 4095 (length (different_values list))) now lists)

pub not_some : (o : Option ℕ) → ((n : ℕ) → o ≡ Some n → ⊥) → o ≡ None
not_some None h = refl
not_some (Some n) h = absurd (h n refl)

pub too_many : (a b : ℕ) → b < a → nat_le a b ≡ false
too_many a b lt = grind (arith, nat_tests)

-- borrowed lists whose values are not too great
pub lent_small : {A : Type 0} (now : A → List ℕ) (kind : Kind) (lists : List A) → position (λ (list : A). list_any (λ v. nat_lt (greatest_value kind) v) (now list)) lists ≡ None →
    All (λ (list : A). AllByRecursion (λ v. v ≤ 4095) (now list)) lists
lent_small now kind lists e =
    All-from_recursion (λ (list : _). AllByRecursion (λ v. v ≤ 4095) (now list)) lists
    (all_as (λ (list : _). list_any (λ v. nat_lt (greatest_value kind) v) (now list) ≡ false) (λ (list : _). AllByRecursion (λ v. v ≤ 4095) (now list)) lists
    (λ list h. below_4095 kind (now list) (none_above (greatest_value kind) (now list) h))
    (none_pass (λ (list : _). list_any (λ v. nat_lt (greatest_value kind) v) (now list)) lists e))

-- four tests, one after another
pub four_first : (a b c d : Bool) → a ≡ false → false ≡ (a && b && c && d)
four_first a b c d e = sym (ap (λ (x : Bool). x && b && c && d) e)

pub four_all : (a b c d r : Bool) → a ≡ true → b ≡ true → c ≡ true → r ≡ d → r ≡ (a && b && c && d)
four_all a b c d r e e' e'' same = same ∙ sym (ap (λ (x : Bool). x && b && c && d) e ∙ ap (λ (x : Bool). x && c && d) e' ∙ ap (λ (x : Bool). x && d) e'')

pub three_all : (a b c r : Bool) → a ≡ true → b ≡ true → r ≡ c → r ≡ (a && b && c)
three_all a b c r e e' same = same ∙ sym (ap (λ (x : Bool). x && b && c) e ∙ ap (λ (x : Bool). x && c) e')

-- whether flags and maps are those that the kind requires
abbrev pub maps_pass : Kind → Sides → List ℕ → List (Option Map) → Bool
maps_pass kind material flags items = elim kind [
  | Wdl ↦ (length flags == 0) && (length items == 0)
  | Dtz ↦ (length flags == length (part_numbers material)) && (length items == length (part_numbers material)) && list_all (λ byte. nat_lt byte 32) flags && list_all is_map_of (zip flags items)
]

pub maps_of_dtz : (kind : Kind) (material : Sides) (flags : List ℕ) {A : Type 0} (shown : A → Option Map) (items : List A) (r : Bool) → kind ≡ Dtz →
    r ≡ ((length flags == length (part_numbers material)) && (length items == length (part_numbers material)) && list_all (λ byte. nat_lt byte 32) flags
    && list_all (λ (pair : ℕ × A). is_map_of (pair.0, shown pair.1)) (zip flags items)) → r ≡ maps_pass kind material flags (map shown items)
maps_of_dtz Wdl material flags shown items r e h = absurd (cc e)
maps_of_dtz Dtz material flags shown items r e h =
    h ∙ ap (λ (n : ℕ). (length flags == length (part_numbers material)) && (n == length (part_numbers material)) && list_all (λ byte. nat_lt byte 32) flags
    && list_all (λ (pair : ℕ × _). is_map_of (pair.0, shown pair.1)) (zip flags items)) (sym (length-map items shown))
    ∙ ap (λ (b : Bool). (length flags == length (part_numbers material)) && (length (map shown items) == length (part_numbers material)) && list_all (λ byte. nat_lt byte 32) flags && b)
    (sym (ap (list_all is_map_of) (zip-map shown flags items) ∙ list_all-map is_map_of (λ (pair : ℕ × _). (pair.0, shown pair.1)) (zip flags items)))
