use Rattle.std.proofs.Common.{ℕ, ◌≡◌, ◌≢◌, ◌<◌, ◌≤◌, ◌∙◌, Some, None, length, map, get_or, rules, tests, arith}
use Rattle.std.proofs.lemmas.Iterator.{IsFirst-from_position, YieldsList-from_slice}
use Rattle.szg_pairs.specs.Dictionary.{IsDictionaryFault}
use Rattle.szg_pairs.specs.State.{entry_of, node_of, IsDictState}
use Rattle.szg_pairs.specs.declared.DictFault.TheVariants.{Child, Cycle, LongSymbol}
use Rattle.szg_pairs.proofs.Accepting.{accepted_has_no_fault, is_cycle, is_long_symbol}
use Rattle.szg_pairs.proofs.Judging.{IsFirstIndex, first_endless, all_expand, first_too_long, dict_state}
use Rattle.szg_pairs.proofs.Dict.new.Goals as goal
use Rattle.szg_pairs.proofs.Dict.new.Goals.{After-drop-entries, After-drop-entries-in-Some-position, After-drop-entries-in-Some-position-2, In_ok-nodes}

-- ---- what the searches find

first_unknown : (c : After-drop-entries-in-Some-position) → IsFirstIndex (λ n. n ≡ 0) c.in_ok-lengths.lengths.items c.in-Some-position.symbol
first_unknown c =
    let p = IsFirst-from_position _ _ (Some c.in-Some-position.symbol) (λ (n : ℕ). n ≡ 0) (λ (n : ℕ). n ≢ 0) c.in-Some-position.ensures.ran (YieldsList-from_slice c.in_ok-lengths.lengths.items (c.iter.ensures.rest ∙ c.deref-3.ensures.value)) (λ x q k. search (rules, tests)) (λ x q k. search (rules, tests)) in
    record { there = p.0; before = λ k lt. p.2 k 0 (omega arith) lt; here = p.1 0 }

all_known : (c : After-drop-entries-in-Some-position-2) → (s : ℕ) → s < length c.in_ok-lengths.lengths.items → 0 < get_or c.in_ok-lengths.lengths.items s 0
all_known c s lt =
    let p = IsFirst-from_position _ _ None (λ (n : ℕ). n ≡ 0) (λ (n : ℕ). n ≢ 0) c.in_default-position.ensures.ran (YieldsList-from_slice c.in_ok-lengths.lengths.items (c.iter.ensures.rest ∙ c.deref-3.ensures.value)) (λ x q k. search (rules, tests)) (λ x q k. search (rules, tests)) in
    omega (arith, p s 0 (omega arith) lt)

all_known_at_end : (c : In_ok-nodes) → (s : ℕ) → s < length c.in_ok-lengths.lengths.items → 0 < get_or c.in_ok-lengths.lengths.items s 0
all_known_at_end c s lt =
    let p = IsFirst-from_position _ _ None (λ (n : ℕ). n ≡ 0) (λ (n : ℕ). n ≢ 0) c.in_default-position.ensures.ran (YieldsList-from_slice c.in_ok-lengths.lengths.items (c.iter.ensures.rest ∙ c.deref-3.ensures.value)) (λ x q k. search (rules, tests)) (λ x q k. search (rules, tests)) in
    omega (arith, p s 0 (omega arith) lt)

first_long : (c : After-drop-entries-in-Some-position-2) → IsFirstIndex (λ n. 256 < n) c.in_ok-lengths.lengths.items c.in-Some-position-2.symbol
first_long c =
    let p = IsFirst-from_position _ _ (Some c.in-Some-position-2.symbol) (λ (n : ℕ). 256 < n) (λ (n : ℕ). n ≤ 256) c.in-Some-position-2.ensures.ran (YieldsList-from_slice c.in_ok-lengths.lengths.items (c.iter-2.ensures.rest ∙ c.deref-4.ensures.value)) (λ x q k. search (rules, tests)) (λ x q k. search (rules, tests)) in
    record { there = p.0; before = λ k lt more. absurd (omega (arith, more, p.2 k 0 (omega arith) lt)); here = p.1 0 }

all_short : (c : In_ok-nodes) → (s : ℕ) → s < length c.in_ok-lengths.lengths.items → get_or c.in_ok-lengths.lengths.items s 0 ≤ 256
all_short c s lt =
    let p = IsFirst-from_position _ _ None (λ (n : ℕ). 256 < n) (λ (n : ℕ). n ≤ 256) c.in_default-position-2.ensures.ran (YieldsList-from_slice c.in_ok-lengths.lengths.items (c.iter-2.ensures.rest ∙ c.deref-4.ensures.value)) (λ x q k. search (rules, tests)) (λ x q k. search (rules, tests)) in
    p s 0 (omega arith) lt

-- ---- the fault that is returned

child : (c : After-drop-entries) → IsDictionaryFault c.args.entries.items (Child c.in-Some.symbol)
child c = rw c.deref.ensures.value at c.in-Some.ensures

cycle : (c : After-drop-entries-in-Some-position) → IsDictionaryFault c.args.entries.items (Cycle c.in-Some-position.symbol)
cycle c =
    let found = rw c.deref-2.ensures.value at c.in_ok-lengths.ensures in
    (rw c.deref.ensures.value at c.in_default.ensures, first_endless _ _ found c.in-Some-position.symbol (first_unknown c))

long_symbol : (c : After-drop-entries-in-Some-position-2) → IsDictionaryFault c.args.entries.items (LongSymbol c.in-Some-position-2.symbol)
long_symbol c =
    let found = rw c.deref-2.ensures.value at c.in_ok-lengths.ensures in
    (all_expand _ _ found (all_known c), first_too_long _ _ found (all_known c) c.in-Some-position-2.symbol (first_long c))

-- ---- refusals

pub returns-in-Some-clause-long_symbol : goal.returns-in-Some-clause-long_symbol
returns-in-Some-clause-long_symbol c s fault = is_long_symbol c.args.entries.items (Child c.in-Some.symbol) s (child c) fault

pub returns-in-Some-position-clause-refused : goal.returns-in-Some-position-clause-refused
returns-in-Some-position-clause-refused c = cycle c

pub returns-in-Some-position-clause-cycle : goal.returns-in-Some-position-clause-cycle
returns-in-Some-position-clause-cycle c s fault = is_cycle c.args.entries.items (Cycle c.in-Some-position.symbol) s (cycle c) fault

pub returns-in-Some-position-clause-long_symbol : goal.returns-in-Some-position-clause-long_symbol
returns-in-Some-position-clause-long_symbol c s fault = is_long_symbol c.args.entries.items (Cycle c.in-Some-position.symbol) s (cycle c) fault

pub returns-in-Some-position-2-clause-refused : goal.returns-in-Some-position-2-clause-refused
returns-in-Some-position-2-clause-refused c = long_symbol c

pub returns-in-Some-position-2-clause-cycle : goal.returns-in-Some-position-2-clause-cycle
returns-in-Some-position-2-clause-cycle c s fault = is_cycle c.args.entries.items (LongSymbol c.in-Some-position-2.symbol) s (long_symbol c) fault

pub returns-in-Some-position-2-clause-long_symbol : goal.returns-in-Some-position-2-clause-long_symbol
returns-in-Some-position-2-clause-long_symbol c s fault = is_long_symbol c.args.entries.items (LongSymbol c.in-Some-position-2.symbol) s (long_symbol c) fault

-- ---- the dictionary

nodes_made : (c : In_ok-nodes) → c.in_ok-nodes.nodes.items ≡ map (node_of c.in_ok-lengths.lengths.items) c.args.entries.items
nodes_made c = rw (c.deref-5.ensures.value, c.deref-6.ensures.value) at c.in_ok-nodes.ensures.nodes

same_entries : (c : In_ok-nodes) → map entry_of c.in_ok-nodes.nodes.items ≡ c.args.entries.items
same_entries c = rw c.deref-5.ensures.value at c.in_ok-nodes.ensures.entries

state : (c : In_ok-nodes) → IsDictState c.args.entries.items c.in_ok-nodes.nodes.items c.in_ok-lengths.lengths.items
state c =
    let found = rw c.deref-2.ensures.value at c.in_ok-lengths.ensures in
    dict_state _ _ found (all_known_at_end c) (all_short c) c.requires _ (nodes_made c)

pub invariant_of-result : goal.invariant_of-result
invariant_of-result c = rw (same_entries c) (state c)

pub returns-clause-accepted : goal.returns-clause-accepted
returns-clause-accepted c =
    let made = (goal.at.returns-clause-accepted c).In_ok-nodes in
    (same_entries made, (state made).dictionary)

pub returns-clause-cycle : goal.returns-clause-cycle
returns-clause-cycle c s fault =
    let made = (goal.at.returns-clause-cycle c).In_ok-nodes in
    let none = accepted_has_no_fault c.args.entries.items (state made).dictionary (Cycle s) fault in
    absurd cc

pub returns-clause-long_symbol : goal.returns-clause-long_symbol
returns-clause-long_symbol c s fault =
    let made = (goal.at.returns-clause-long_symbol c).In_ok-nodes in
    let none = accepted_has_no_fault c.args.entries.items (state made).dictionary (LongSymbol s) fault in
    absurd cc
