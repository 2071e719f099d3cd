use Rattle.std.proofs.Common.{ℕ, ◌≡◌, ◌+◌, List, length, take, get_or, sym, ap, subst, ◌∙◌, arith, refl, rules}
use Rattle.std.proofs.lemmas.List.{length-set}
use Rattle.szg_pairs.specs.Expansion.{expansion_of}
use Rattle.szg_subtable.specs.Building.{IsSymbolAt}
use Rattle.szg_subtable.proofs.Pairs.ProposalLaws.{values_more, known_more, known_none, below_at}
use Rattle.szg_subtable.proofs.pairing.accepting.expands_to.Goals as goal

pub loop-symbol-init : goal.loop-symbol-init
loop-symbol-init c = record {
  inside = omega arith;
  same = refl;
  count = omega (arith, c.as_mut_slice-offsets.ensures.len, c.in_ok-unseen.ensures.len, c.from.ensures, c.symbols.ensures);
  known = known_none c.args.dict.now c.args.values.now c.as_mut_slice-offsets.result.now _ (c.as_mut_slice-offsets.ensures.value ∙ c.in_ok-unseen.ensures.items_if_clones_equal (search rules));
}

pub loop-symbol-preserved : goal.loop-symbol-preserved
loop-symbol-preserved c =
    let entries = c.args.dict.now in
    let values : List ℕ = c.args.values.now in
    let start : ℕ = c.loop-symbol.start in
    let s : ℕ = get_or c.args.symbols.now c.loop-symbol.symbol-index 0 in
    let n : ℕ = length (expansion_of entries s) in
    let long : c.from-length.result ≡ n = omega (arith, c.from-length.ensures, c.len.ensures.number) in
    let here : IsSymbolAt entries values s start = c.is_at.ensures c.if-not-is_at.false in
    let place : s ≡ c.from-place.result = sym c.from-place.ensures in
    let more = values_more entries c.args.symbols.now values c.loop-symbol.symbol-index s start n c.loop-symbol-test.true refl here.same c.loop-symbol.invariant.same in
    record {
      inside = omega (arith, long, here.inside);
      same = more ∙ ap (λ (k : ℕ). take (start + k) values) (sym long);
      count = length-set c.loop-symbol.offsets c.from-place.result _ ∙ c.loop-symbol.invariant.count;
      known = known_more entries values c.loop-symbol.offsets c.from-place.result start (omega (arith, below_at (length entries) c.args.symbols.now c.loop-symbol.symbol-index c.requires.below c.loop-symbol-test.true, place, c.loop-symbol.invariant.count)) (subst (λ (k : ℕ). IsSymbolAt entries values k start) place here) c.loop-symbol.invariant.known;
    }
