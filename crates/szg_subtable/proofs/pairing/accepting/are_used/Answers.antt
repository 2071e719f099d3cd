use Rattle.std.proofs.Common.{ℕ, List, ◌≡◌, ◌<◌, true, length, get_or, sym, subst, ◌∙◌, arith, inl, inr}
use Rattle.std.specs.List.{AllByRecursion}
use Rattle.std.proofs.lemmas.List.{length-set, take_all}
use Rattle.std.proofs.lemmas.Option.{slice_get_within}
use Rattle.szg_code.specs.Canonical.{IsIn}
use Rattle.szg_subtable.proofs.Pairs.ProposalLaws.{below_push, in_at, marked_more}
use Rattle.szg_subtable.proofs.pairing.accepting.are_used.Goals as goal

pub loop-symbol-preserved : goal.loop-symbol-preserved
loop-symbol-preserved c =
    let symbols : List ℕ = c.args.symbols.now in
    let s : ℕ = c.from-symbol.result in
    let read : s ≡ get_or symbols c.loop-symbol.symbol-index 0 = c.from-symbol.ensures in
    let here : IsIn symbols s = subst (λ (k : ℕ). IsIn symbols k) (sym read) (in_at symbols c.loop-symbol.symbol-index c.loop-symbol-test.true) in
    record {
      count = length-set c.loop-symbol.marks s true ∙ c.loop-symbol.invariant.count;
      below = below_push (length c.args.entries.now) symbols c.loop-symbol.symbol-index s c.loop-symbol-test.true read (omega arith) c.loop-symbol.invariant.below;
      marked = marked_more (λ (k : ℕ). IsIn symbols k) c.loop-symbol.marks s here c.loop-symbol.invariant.marked;
    }

pub returns-clause-below : goal.returns-clause-below
returns-clause-below c = λ _.
    subst (λ (z : List ℕ). AllByRecursion (λ s. s < length c.args.entries.now) z) (take_all c.loop-symbol.symbol-index c.args.symbols.now (omega arith)) c.loop-symbol.invariant.below

pub returns-clause-used : goal.returns-clause-used
returns-clause-used c = λ _ s entry there paired.
    elim (c.loop-pair.invariant.marked s (c.loop-place.invariant s entry (omega (arith, slice_get_within c.args.entries.now s entry there, c.loop-place-test.false)) there paired)) [
      | inl before ↦ inl (c.loop-symbol.invariant.marked s before)
      | inr other ↦ inr other
    ]
