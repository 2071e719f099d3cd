use Rattle.std.proofs.Common.{ℕ, List, ◌≡◌, ◌+◌, ◌-◌, length, take, drop, get_or, sym, ap, subst, ◌∙◌, arith, length-take, length-drop}
use Rattle.std.proofs.lemmas.List.{ext_get_or}
use Rattle.szg_pairs.specs.Expansion.{expansion_of}
use Rattle.szg_subtable.proofs.Pairs.ProposalLaws.{same_more}
use Rattle.szg_subtable.proofs.pairing.accepting.is_at.Goals as goal

pub loop-place-preserved : goal.loop-place-preserved
loop-place-preserved c =
    let here : List ℕ = take (c.args.start + c.from-length.result - c.args.start) (drop c.args.start c.args.values.now) in
    same_more here (expansion_of c.args.dict.now c.args.symbol) c.loop-place.place c.value_at.result c.loop-place.invariant c.value_at.ensures
    (ap (λ (k : ℕ). get_or here k 0) (sym c.from.ensures) ∙ sym c.if-value_at-here.false)

pub returns : goal.returns
returns c = λ _.
    let values : List ℕ = drop c.args.start c.args.values.now in
    let expansion : List ℕ = expansion_of c.args.dict.now c.args.symbol in
    let n : ℕ = c.args.start + c.from-length.result - c.args.start in
    let is : n ≡ length expansion = omega (arith, c.from-length.ensures, c.len.ensures.number) in
    let long : length (take n values) ≡ length expansion = omega (arith, length-take n values, length-drop c.args.start c.args.values.now, is, c.requires.inside) in
    record {
      inside = c.requires.inside;
      same = subst (λ (k : ℕ). take k values ≡ expansion) is (ext_get_or 0 (take n values) expansion long (λ k lt. c.loop-place.invariant k (omega (arith, lt, long, c.len-place-end.ensures.number))));
    }
