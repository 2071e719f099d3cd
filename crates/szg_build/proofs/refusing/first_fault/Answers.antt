use Rattle.std.proofs.iter.Serving.{serving}
use Rattle.std.proofs.Common.{ℕ, ◌≡◌, ◌≤◌, List, Bor, length, map, true, false, sym, ap, ◌∙◌, rules, tests}
use Rattle.std.specs.Prelude.{◌==◌, not, nat_lt}
use Rattle.std.specs.Bool.{then_some}
use Rattle.std.specs.List.{All, AllByRecursion, list_any, position}
use Rattle.std.proofs.lemmas.Bool.{ne_eqb, eq-eqb, le-leb}
use Rattle.std.proofs.lemmas.Iterator.{YieldsList-from_slice, YieldsList-from_zip}
use Rattle.std.proofs.lemmas.Iterator.Search.{position_from_yields_List}
use Rattle.std.proofs.lemmas.List.{length-map}
use Rattle.szg_build.specs.declared.BuildFault.TheVariants.{Map}
use Rattle.szg_subtable.specs.Pairing.{different_values}
use Rattle.szg_build.specs.Plan.{greatest_value, wrong_length}
use Rattle.szg_build.specs.Shown.{plan_seen}
use Rattle.szg_build.proofs.Builders.RefusalLaws as laws
use Rattle.szg_build.proofs.refusing.first_fault.Goals as goal
use Rattle.szg_build.proofs.refusing.first_fault.Goals.{After-position, After-position-2, After-position-3}

-- the number of lists that are lent
count_is : {A : Type 0} (now : A → List ℕ) (sizes : List ℕ) (lists : List A) → length lists ≡ length sizes → (length (map now lists) == length sizes) ≡ true
count_is now sizes lists e = eq-eqb (length (map now lists)) (length sizes) (length-map lists now ∙ e)

count_fails : {A : Type 0} (now : A → List ℕ) (sizes : List ℕ) (lists : List A) → (length lists ≡ length sizes → ⊥) → (length (map now lists) == length sizes) ≡ false
count_fails now sizes lists h = ne_eqb (length (map now lists)) (length sizes) (λ e. h (sym (length-map lists now) ∙ e))

-- the searches for a list of another length, and for a value that is too great
lengths : (c : After-position) → wrong_length c.args.sizes.now (map (λ list. list.now) c.args.lists.now) ≡ c.position.result
lengths c =
    sym (laws.lengths_lent (λ list. list.now) c.args.sizes.now c.args.lists.now)
    ∙ sym (position_from_yields_List (λ (pair : ℕ × Bor (List ℕ)). not (length pair.1.now == pair.0)) c.position.new.self _ c.position.result c.position.ensures.ran
    (YieldsList-from_zip (YieldsList-from_slice c.args.sizes.now cc) (YieldsList-from_slice c.args.lists.now cc)) (λ x b q k. search (rules, tests)))

values : (c : After-position-2) → position (λ (list : Bor (List ℕ)). list_any (λ v. nat_lt (greatest_value c.args.plan.now.kind) v) list.now) c.args.lists.now ≡ c.position-2.result
values c =
    sym (position_from_yields_List (λ (list : Bor (List ℕ)). list_any (λ v. nat_lt (greatest_value c.args.plan.now.kind) v) list.now) c.position-2.new.self _ c.position-2.result c.position-2.ensures.ran
    (YieldsList-from_slice c.args.lists.now cc) (λ x b q k. search (rules, tests)))

many : (c : After-position-3) → position (λ (list : Bor (List ℕ)). nat_lt 4095 (length (different_values list.now))) c.args.lists.now ≡ c.position-3.result
many c =
    sym (position_from_yields_List (λ (list : Bor (List ℕ)). nat_lt 4095 (length (different_values list.now))) c.position-3.new.self _ c.position-3.result c.position-3.ensures.ran
    (YieldsList-from_slice c.args.lists.now cc) (λ x b q k. search (rules, tests)))

pub returns-then-not-are_bits_valid : goal.returns-then-not-are_bits_valid
returns-then-not-are_bits_valid c =
    laws.parsed_bits c.args.sizes.now (plan_seen c.args.plan.now) (map (λ list. list.now) c.args.lists.now) (sym c.if-not-are_bits_valid.ensures)

pub returns-then-plan-gt-MAX_ROUNDS : goal.returns-then-plan-gt-MAX_ROUNDS
returns-then-plan-gt-MAX_ROUNDS c =
    laws.parsed_rounds c.args.sizes.now (plan_seen c.args.plan.now) (map (λ list. list.now) c.args.lists.now) (sym c.if-not-are_bits_valid.ensures)
    (laws.too_many c.args.plan.now.rounds 4000 c.if-plan-gt-MAX_ROUNDS.true)

pub returns-then-lists-sizes : goal.returns-then-lists-sizes
returns-then-lists-sizes c =
    laws.parsed_count c.args.sizes.now (plan_seen c.args.plan.now) (map (λ list. list.now) c.args.lists.now) (sym c.if-not-are_bits_valid.ensures)
    (le-leb c.args.plan.now.rounds 4000 c.if-plan-gt-MAX_ROUNDS.false)
    (count_fails (λ list. list.now) c.args.sizes.now c.args.lists.now c.if-lists-sizes.true)

pub returns-in-Some : goal.returns-in-Some
returns-in-Some c =
    laws.parsed_length c.args.sizes.now (plan_seen c.args.plan.now) (map (λ list. list.now) c.args.lists.now) c.in-Some.n (sym c.if-not-are_bits_valid.ensures)
    (le-leb c.args.plan.now.rounds 4000 c.if-plan-gt-MAX_ROUNDS.false)
    (count_is (λ list. list.now) c.args.sizes.now c.args.lists.now c.if-lists-sizes.false)
    (lengths (goal.at.returns-in-Some c).After-position ∙ c.in-Some.is)

pub returns-in-Some-position : goal.returns-in-Some-position
returns-in-Some-position c =
    laws.parsed_value c.args.sizes.now (plan_seen c.args.plan.now) (map (λ list. list.now) c.args.lists.now) c.in-Some-position.n (sym c.if-not-are_bits_valid.ensures)
    (le-leb c.args.plan.now.rounds 4000 c.if-plan-gt-MAX_ROUNDS.false)
    (count_is (λ list. list.now) c.args.sizes.now c.args.lists.now c.if-lists-sizes.false)
    (lengths (goal.at.returns-in-Some-position c).After-position ∙ laws.not_some c.position.result c.in_default.not-Some)
    (sym (laws.values_lent (λ list. list.now) c.args.plan.now.kind c.args.lists.now) ∙ values (goal.at.returns-in-Some-position c).After-position-2 ∙ c.in-Some-position.is)

pub position-requires-3-clause-callable : goal.position-requires-3-clause-callable
position-requires-3-clause-callable c =
    let small : All (λ (list : Bor (List ℕ)). AllByRecursion (λ v. v ≤ 4095) list.now) c.args.lists.now =
    laws.lent_small (λ list. list.now) c.args.plan.now.kind c.args.lists.now (values (goal.at.position-requires-3-clause-callable c).After-position-2 ∙ laws.not_some c.position-2.result c.in_default-position.not-Some) in
    grind (serving, small)

pub returns-in-Some-position-2 : goal.returns-in-Some-position-2
returns-in-Some-position-2 c =
    laws.stated_many c.args.sizes.now (plan_seen c.args.plan.now) (map (λ list. list.now) c.args.lists.now) c.in-Some-position-2.n (sym c.if-not-are_bits_valid.ensures)
    (le-leb c.args.plan.now.rounds 4000 c.if-plan-gt-MAX_ROUNDS.false)
    (count_is (λ list. list.now) c.args.sizes.now c.args.lists.now c.if-lists-sizes.false)
    (lengths (goal.at.returns-in-Some-position-2 c).After-position ∙ laws.not_some c.position.result c.in_default.not-Some)
    (sym (laws.values_lent (λ list. list.now) c.args.plan.now.kind c.args.lists.now) ∙ values (goal.at.returns-in-Some-position-2 c).After-position-2 ∙ laws.not_some c.position-2.result c.in_default-position.not-Some)
    (sym (laws.many_lent (λ list. list.now) c.args.lists.now) ∙ many (goal.at.returns-in-Some-position-2 c).After-position-3 ∙ c.in-Some-position-2.is)

pub returns : goal.returns
returns c =
    c.then_some.ensures
    ∙ ap (λ b. then_some (not b) Map) c.are_maps_valid.ensures
    ∙ laws.parsed_maps c.args.sizes.now (plan_seen c.args.plan.now) (map (λ list. list.now) c.args.lists.now) (sym c.if-not-are_bits_valid.ensures)
    (le-leb c.args.plan.now.rounds 4000 c.if-plan-gt-MAX_ROUNDS.false)
    (count_is (λ list. list.now) c.args.sizes.now c.args.lists.now c.if-lists-sizes.false)
    (lengths (goal.at.returns c).After-position ∙ laws.not_some c.position.result c.in_default.not-Some)
    (sym (laws.values_lent (λ list. list.now) c.args.plan.now.kind c.args.lists.now) ∙ values (goal.at.returns c).After-position-2 ∙ laws.not_some c.position-2.result c.in_default-position.not-Some)
    (sym (laws.many_lent (λ list. list.now) c.args.lists.now) ∙ many (goal.at.returns c).After-position-3 ∙ laws.not_some c.position-3.result c.in_default-position-2.not-Some)
