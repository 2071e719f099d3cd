use Rattle.std.proofs.Common.{ℕ, List, ◌≡◌, ◌<◌, length, map, refl, ap, sym, subst, ◌∙◌, arith, rules}
use Rattle.std.proofs.lemmas.List.{length-map}
use Rattle.szg_block.specs.Block.{start}
use Rattle.szg_block.specs.Indexed.{entry_of}
use Rattle.szg_block.specs.declared.Entry.{Entry}
use Rattle.szg_subtable.specs.Building.{IsCut, IsExtended, IsIndexOf, IsPairing}
use Rattle.szg_subtable.specs.Pairing.{values_of}
use Rattle.szg_subtable.proofs.Builders.MadeLaws.{below_as, symbols_few, symbols_some, entries_some, cut_total, cut_some}
use Rattle.szg_pairs.specs.declared.DictFault.TheVariants.{Child, Cycle, Memory}
use Rattle.szg_pairs.proofs.Accepting.{accepted_has_no_fault}
use Rattle.szg_subtable.proofs.building.build_paired.Goals as goal

pub unreachable-requires : goal.unreachable-requires
unreachable-requires c =
    let is : c.in-Err-Child.field-0 ≡ Child c.in-Err-Child.field-0-0 = c.in-Err-Child.field-0-is in
    let none : c.in-Err-Child.field-0 ≡ Memory = accepted_has_no_fault c.args.paired.entries.items c.requires.pairing.round.dictionary c.in-Err-Child.field-0 c.in-Err-Child.ensures.refused in
    cc

pub unreachable-requires-in-Err-Cycle : goal.unreachable-requires-in-Err-Cycle
unreachable-requires-in-Err-Cycle c =
    let is : c.in-Err-Cycle.field-0 ≡ Cycle c.in-Err-Cycle.field-0-0 = c.in-Err-Cycle.field-0-is in
    let none : c.in-Err-Cycle.field-0 ≡ Memory = accepted_has_no_fault c.args.paired.entries.items c.requires.pairing.round.dictionary c.in-Err-Cycle.field-0 c.in-Err-Cycle.ensures.refused in
    cc

pub choose_code-requires-clause-some : goal.choose_code-requires-clause-some
choose_code-requires-clause-some c =
    let round = c.requires.pairing.round in
    let es : List (List ℕ) = c.args.paired.entries.items in
    let ss : List ℕ = c.args.paired.symbols.items in
    let some : 0 < length es = entries_some es ss round.below (symbols_some es c.args.values.now ss round.same c.requires.some) in
    omega (arith, some, ap length c.in-Ok.ensures.accepted.0)

pub fill_blocks-requires-clause-below : goal.fill_blocks-requires-clause-below
fill_blocks-requires-clause-below c =
    below_as c.args.paired.entries.items c.in-Ok.dict c.args.paired.symbols.items c.deref-2.result.now
    c.in-Ok.ensures.accepted.0 c.deref-2.ensures.value
    c.requires.pairing.round.below

pub fill_blocks-requires-clause-few : goal.fill_blocks-requires-clause-few
fill_blocks-requires-clause-few c =
    let round = c.requires.pairing.round in
    let es : List (List ℕ) = c.args.paired.entries.items in
    let ss : List ℕ = c.args.paired.symbols.items in
    let same : c.deref-2.result.now ≡ ss = c.deref-2.ensures.value in
    omega (arith, ap length same, symbols_few es round.dictionary ss round.below, ap length round.same, c.requires.few)

pub sparse_index-requires-clause-total : goal.sparse_index-requires-clause-total
sparse_index-requires-clause-total c =
    let round = c.requires.pairing.round in
    let ss : List ℕ = c.deref-2.result.now in
    let e1 : c.in-Ok.dict ≡ c.args.paired.entries.items = c.in-Ok.ensures.accepted.0 in
    let e2 : ss ≡ c.args.paired.symbols.items = c.deref-2.ensures.value in
    let same : values_of c.in-Ok.dict ss ≡ c.args.values.now = ap (λ (z : List (List ℕ)). values_of z ss) e1 ∙ ap (values_of c.args.paired.entries.items) e2 ∙ round.same in
    let lengths : c.deref-3.result.now ≡ c.in_ok-filled.filled.lengths.items = c.deref-3.ensures.value in
    subst (λ (z : List ℕ). start z (length z) ≡ length c.args.values.now) (sym lengths)
    (cut_total c.in_ok-code.code c.in-Ok.dict c.args.packing.block_bits c.args.values.now ss (length c.in_ok-filled.filled.lengths.items)
    c.in_ok-filled.filled.lengths.items c.in_ok-filled.filled.packed.items c.in_ok-filled.ensures same)

pub sparse_index-requires-clause-some : goal.sparse_index-requires-clause-some
sparse_index-requires-clause-some c = cut_some c.deref-3.result.now (length c.args.values.now) (sparse_index-requires-clause-total c) c.requires.some

pub returns-clause-made : goal.returns-clause-made
returns-clause-made c =
    let ss : List ℕ = c.deref-2.result.now in
    let own : List ℕ = c.in_ok-filled.filled.lengths.items in
    let e1 : c.in-Ok.dict ≡ c.args.paired.entries.items = c.in-Ok.ensures.accepted.0 in
    let e2 : ss ≡ c.args.paired.symbols.items = c.deref-2.ensures.value in
    let blocks : c.len-blocks.result ≡ length own = first_of (omega (arith, c.len-blocks.ensures, c.deref-3.ensures.len, ap length c.deref-3.ensures.value), omega (arith, c.len-blocks.ensures, c.in_ok-filled.filled.lengths.ok), search rules) in (
      refl,
      record {
        symbols = ss;
        own = own;
        pairing = subst (λ (z : List (List ℕ)). IsPairing c.args.values.now c.args.packing.rounds z ss) (sym e1)
            (subst (λ (z : List ℕ). IsPairing c.args.values.now c.args.packing.rounds c.args.paired.entries.items z) (sym e2) c.requires.pairing);
        chosen = c.in_ok-code.ensures.chosen;
        cut = subst (λ (n : ℕ). IsCut c.in_ok-code.code c.in-Ok.dict c.args.packing.block_bits ss n own c.in_ok-filled.filled.packed.items) (sym blocks) c.in_ok-filled.ensures;
        index = subst (λ (z : List ℕ). IsIndexOf z c.args.packing.span_bits (map entry_of c.in_ok-sparse.sparse.items)) c.deref-3.ensures.value c.in_ok-sparse.ensures.index;
        index_count = length-map c.in_ok-sparse.sparse.items entry_of ∙ c.in_ok-sparse.ensures.count;
        extended = subst (λ (z : List Entry). IsExtended (map entry_of z) own c.push_extra.new.lengths.items c.in_ok-extra.extra) c.deref-4.ensures.value c.in_ok-extra.ensures;
        block_bits_kept = refl;
        span_bits_kept = refl;
      },
    )
