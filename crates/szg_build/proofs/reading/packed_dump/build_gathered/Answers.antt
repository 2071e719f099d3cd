use Rattle.std.proofs.Common.{◌≡◌, ◌⊎◌, ◌∙◌, ℕ, List, Option, None, Some, Ok, Err, Bor, length, map, ap, inl, inr, refl, arith, rules, sym, subst}
use Rattle.std.specs.Prelude.{Result, IfErr, IfOk, MatchOption}
use Rattle.std.proofs.lemmas.Grind.{common_steps}
use Rattle.std.specs.List.{AllByRecursion}
use Rattle.szg_build.specs.Built.{dump_plan}
use Rattle.szg_build.specs.Chosen.{plan_by}
use Rattle.szg_build.specs.Packed.{gathered_dump, lists_held, lists_in, packed_values, IsPackedSub}
use Rattle.szg_build.specs.Plan.{build_fault}
use Rattle.szg_build.specs.Tabling.{IsBuiltBy, HasNoFault}
use Rattle.szg_build.specs.declared.BuildFault.{BuildFault}
use Rattle.szg_build.specs.declared.BuildFault.TheVariants.{Memory}
use Rattle.szg_subtable.specs.declared.building.Packing.{Packing}
use Rattle.szg_build.proofs.Builders.PackedLaws.{settled_are_made, whole_built}
use Rattle.szg_build.proofs.Builders.PassLaws.{whole_passes}
use Rattle.szg_build.proofs.Builders.TableLaws.{no_items}
use Rattle.szg_build.proofs.reading.packed_dump.build_gathered.Goals as goal

pub are_complete-requires : goal.are_complete-requires
are_complete-requires g c =
    (c.args.choice, subst (λ z. AllByRecursion (IsPackedSub c.args.gathered.header.kind c.args.choice) z) (sym c.deref.ensures.value) c.requires.each)

pub table_from-requires : goal.table_from-requires
table_from-requires g c =
    let count : length c.args.gathered.subs.rest.items ≡ 0 = grind (arith, common_steps, c.is_empty.ensures, c.if-is_empty.true) in
    let none = no_items c.args.gathered.subs.rest.items count in
    let numbers = c.numbers_of-numbers.result in
    let taken : c.in_ok-made.made.items ≡ map (λ p. p.sub) c.in_ok-settled.settled.items = search rules in
    let made = settled_are_made c.args.choice (dump_plan (gathered_dump c.args.gathered) numbers.block_bits numbers.span_bits numbers.rounds) c.args.gathered.subs.packed.items c.in_ok-settled.settled.items c.in_ok-made.made.items
    (subst (λ z. HasNoFault (dump_plan (gathered_dump c.args.gathered) numbers.block_bits numbers.span_bits numbers.rounds) (map (packed_values c.args.gathered.header.kind) z))
    c.deref.ensures.value (c.are_complete.ensures c.if-are_complete.true))
    (c.requires.flags none) c.in_ok-settled.ensures taken in
    (c.args.choice, map (packed_values c.args.gathered.header.kind) c.args.gathered.subs.packed.items, made)

pub returns-then-are_complete-clause-built : goal.returns-then-are_complete-clause-built
returns-then-are_complete-clause-built g c =
    let count : length c.args.gathered.subs.rest.items ≡ 0 = grind (arith, common_steps, c.is_empty.ensures, c.if-is_empty.true) in
    let none = no_items c.args.gathered.subs.rest.items count in
    let numbers = c.numbers_of-numbers.result in
    let taken : c.in_ok-made.made.items ≡ map (λ p. p.sub) c.in_ok-settled.settled.items = search rules in
    let made = settled_are_made c.args.choice (dump_plan (gathered_dump c.args.gathered) numbers.block_bits numbers.span_bits numbers.rounds) c.args.gathered.subs.packed.items c.in_ok-settled.settled.items c.in_ok-made.made.items
    (subst (λ z. HasNoFault (dump_plan (gathered_dump c.args.gathered) numbers.block_bits numbers.span_bits numbers.rounds) (map (packed_values c.args.gathered.header.kind) z))
    c.deref.ensures.value (c.are_complete.ensures c.if-are_complete.true))
    (c.requires.flags none) c.in_ok-settled.ensures taken in
    whole_built c.args.choice c.args.gathered numbers c.in_ok-table_from.field-0.contents c.numbers_of-numbers.ensures none
    (c.in_ok-table_from.ensures.built c.args.choice (map (packed_values c.args.gathered.header.kind) c.args.gathered.subs.packed.items) made)

pub returns-then-are_complete-clause-no_fault : goal.returns-then-are_complete-clause-no_fault
returns-then-are_complete-clause-no_fault g c =
    let count : length c.args.gathered.subs.rest.items ≡ 0 = grind (arith, common_steps, c.is_empty.ensures, c.if-is_empty.true) in
    let none = no_items c.args.gathered.subs.rest.items count in
    let numbers = c.numbers_of-numbers.result in
    whole_passes c.args.choice c.args.gathered c.numbers_of-numbers.result c.numbers_of-numbers.ensures none
    (subst (λ z. HasNoFault (dump_plan (gathered_dump c.args.gathered) numbers.block_bits numbers.span_bits numbers.rounds) (map (packed_values c.args.gathered.header.kind) z))
    c.deref.ensures.value (c.are_complete.ensures c.if-are_complete.true))

pub list_all-requires : goal.list_all-requires
list_all-requires g c =
    (c.args.choice, subst (λ z. AllByRecursion (IsPackedSub c.args.gathered.header.kind c.args.choice) z) (sym c.deref-2.ensures.value) c.requires.each)

-- what the result says of the fault of the plan and the lists
refused_by : {T : Type 0} (o : Option BuildFault) (r : Result T BuildFault) → MatchOption o (IfErr r (λ fault. fault ≡ Memory)) (λ fault. r ≡ Err fault) → (fault : BuildFault) → r ≡ Err fault → (fault ≡ Memory) ⊎ (o ≡ Some fault)
refused_by None (Ok t) h fault e = absurd (cc e)
refused_by None (Err why) h fault e = let same : why ≡ fault = cc e in inl (sym same ∙ h)
refused_by (Some why) r h fault e = let same : why ≡ fault = cc (h, e) in inr (ap Some same)

passed_by : {T : Type 0} (o : Option BuildFault) (r : Result T BuildFault) → MatchOption o (IfErr r (λ fault. fault ≡ Memory)) (λ fault. r ≡ Err fault) → IfOk r (λ _. o ≡ None)
passed_by None (Ok t) h = refl
passed_by None (Err why) h = tt
passed_by (Some why) (Ok t) h = absurd (cc h)
passed_by (Some why) (Err fault) h = tt

pub returns-clause-refused : goal.returns-clause-refused
returns-clause-refused g c =
    let gathered = c.args.gathered in
    let kind = gathered.header.kind in
    let lists : map (λ (slice : Bor (List ℕ)). slice.now) c.deref-4.result.now ≡ lists_in kind gathered.subs =
    ap (map (λ (slice : Bor (List ℕ)). slice.now)) c.deref-4.ensures.value ∙ c.in_ok-lent.ensures ∙ ap (map (λ list. list.items)) c.deref-3.ensures.value
    ∙ c.in_ok-lists.ensures ∙ ap (λ z. lists_held kind z (map (λ list. list.items) gathered.subs.rest.items)) c.deref-2.ensures.value in
    let known =
    subst (λ (n : Packing). MatchOption (build_fault (dump_plan (gathered_dump gathered) n.block_bits n.span_bits n.rounds) (lists_in kind gathered.subs)) (IfErr c.build_by.result (λ fault. fault ≡ Memory)) (λ fault. c.build_by.result ≡ Err fault)) c.numbers_of-numbers.ensures
    (subst (λ (l : List (List ℕ)). MatchOption (build_fault (dump_plan (gathered_dump gathered) c.numbers_of-numbers.result.block_bits c.numbers_of-numbers.result.span_bits c.numbers_of-numbers.result.rounds) l) (IfErr c.build_by.result (λ fault. fault ≡ Memory)) (λ fault. c.build_by.result ≡ Err fault)) lists
    c.build_by.ensures.refused) in
    refused_by (build_fault (plan_by c.args.choice (gathered_dump gathered)) (lists_in kind gathered.subs)) c.build_by.result known

pub returns-clause-no_fault : goal.returns-clause-no_fault
returns-clause-no_fault g c =
    let gathered = c.args.gathered in
    let kind = gathered.header.kind in
    let lists : map (λ (slice : Bor (List ℕ)). slice.now) c.deref-4.result.now ≡ lists_in kind gathered.subs =
    ap (map (λ (slice : Bor (List ℕ)). slice.now)) c.deref-4.ensures.value ∙ c.in_ok-lent.ensures ∙ ap (map (λ list. list.items)) c.deref-3.ensures.value
    ∙ c.in_ok-lists.ensures ∙ ap (λ z. lists_held kind z (map (λ list. list.items) gathered.subs.rest.items)) c.deref-2.ensures.value in
    let known =
    subst (λ (n : Packing). MatchOption (build_fault (dump_plan (gathered_dump gathered) n.block_bits n.span_bits n.rounds) (lists_in kind gathered.subs)) (IfErr c.build_by.result (λ fault. fault ≡ Memory)) (λ fault. c.build_by.result ≡ Err fault)) c.numbers_of-numbers.ensures
    (subst (λ (l : List (List ℕ)). MatchOption (build_fault (dump_plan (gathered_dump gathered) c.numbers_of-numbers.result.block_bits c.numbers_of-numbers.result.span_bits c.numbers_of-numbers.result.rounds) l) (IfErr c.build_by.result (λ fault. fault ≡ Memory)) (λ fault. c.build_by.result ≡ Err fault)) lists
    c.build_by.ensures.refused) in
    passed_by (build_fault (plan_by c.args.choice (gathered_dump gathered)) (lists_in kind gathered.subs)) c.build_by.result known

pub returns-clause-built : goal.returns-clause-built
returns-clause-built g c =
    let gathered = c.args.gathered in
    let kind = gathered.header.kind in
    let lists : map (λ (slice : Bor (List ℕ)). slice.now) c.deref-4.result.now ≡ lists_in kind gathered.subs =
    ap (map (λ (slice : Bor (List ℕ)). slice.now)) c.deref-4.ensures.value ∙ c.in_ok-lent.ensures ∙ ap (map (λ list. list.items)) c.deref-3.ensures.value
    ∙ c.in_ok-lists.ensures ∙ ap (λ z. lists_held kind z (map (λ list. list.items) gathered.subs.rest.items)) c.deref-2.ensures.value in
    subst (λ (n : Packing). IfOk c.build_by.result (λ t. IsBuiltBy c.args.choice (dump_plan (gathered_dump gathered) n.block_bits n.span_bits n.rounds) (lists_in kind gathered.subs) t.contents)) c.numbers_of-numbers.ensures
    (subst (λ (l : List (List ℕ)). IfOk c.build_by.result (λ t. IsBuiltBy c.args.choice (dump_plan (gathered_dump gathered) c.numbers_of-numbers.result.block_bits c.numbers_of-numbers.result.span_bits c.numbers_of-numbers.result.rounds) l t.contents)) lists
    c.build_by.ensures.built)
