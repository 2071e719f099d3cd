use Rattle.std.proofs.Common.{◌≡◌, ◌-◌, ◌<◌, ◌≤◌, ℕ, [], ◌∷◌, ◌++◌, length, sym, ap, ◌∙◌, subst, lit<, arith, length-append}
use Rattle.std.specs.Prelude.{Some, slice_get}
use Rattle.std.proofs.lemmas.List.{append-nil, append_assoc}
use Rattle.szg_count.specs.Sets.{subsets, choose}
use Rattle.szg_count.proofs.SubsetRanks.{step_without, step_with, some_left, below_with, none_left, falls-at}
use Rattle.szg_count.proofs.subsets.unrank_subset.Goals as goal
use Rattle.szg_count.proofs.subsets.unrank_subset.Goals.{Then-without-rank}

-- the binomial that the code needs
without : (c : Then-without-rank) → choose (c.loop-number.number - 1) c.loop-number.left ≤ c.loop-number.rank
without c =
    let e = c.choose-without.ensures.count ∙ ap (λ n. choose n c.loop-number.left) c.from.ensures in let h = c.if-without-rank.true in omega (arith, e, h)

has_left : (c : Then-without-rank) → 0 < c.loop-number.left
has_left c = some_left c.loop-number.number c.loop-number.left c.loop-number.rank c.loop-number-test.true c.loop-number.invariant.below (without c)

pub choose-without-requires-clause-chosen : goal.choose-without-requires-clause-chosen
choose-without-requires-clause-chosen c = let a = c.loop-number.invariant.left in let b = c.requires.chosen in omega (arith, a, b)

pub overflow_sub-left : goal.overflow_sub-left
overflow_sub-left c = let a = has_left c in omega (arith, a)

pub push-requires : goal.push-requires
push-requires c =
    let a = c.loop-number.invariant.left in let b = c.requires.chosen in let k = has_left (goal.at.push-requires c).Then-without-rank in
    (lit< tt, omega (arith, a, b, k))

pub loop-number-preserved-then-without-rank : goal.loop-number-preserved-then-without-rank
loop-number-preserved-then-without-rank c =
    let m = c.loop-number.number in let r = c.loop-number.left in let i = c.loop-number.rank in let set = c.loop-number.set.items in
    let h = c.loop-number-test.true in let below = c.loop-number.invariant.below in
    let e : c.choose-without.result ≡ choose (m - 1) r = c.choose-without.ensures.count ∙ ap (λ n. choose n r) c.from.ensures in
    let f = c.if-without-rank.true in
    let k : choose (m - 1) r ≤ i = omega (arith, e, f) in
    let some = some_left m r i h below k in
    let left = c.loop-number.invariant.left in
    let pushed : c.push.new.self.items ≡ set ++ (m - 1) ∷ [] = cc in
    let d : i - choose (m - 1) r ≡ i - c.choose-without.result = ap (λ n. i - n) (sym e) in
    record {
      below = subst (λ (n : ℕ). n < choose (m - 1) (r - 1)) d (below_with m r i h below k);
      ranked = λ rest g. c.loop-number.invariant.ranked ((m - 1) ∷ rest)
          (step_with m r i rest h some k (subst (λ (n : ℕ). slice_get (subsets (m - 1) (r - 1)) n ≡ Some rest) (sym d) g))
          ∙ ap Some (sym (append_assoc set ((m - 1) ∷ []) rest) ∙ ap (λ l. l ++ rest) (sym pushed));
      left = let n = ap length pushed ∙ length-append set ((m - 1) ∷ []) in omega (arith, n, left, some);
    }

pub loop-number-preserved : goal.loop-number-preserved
loop-number-preserved c =
    let m = c.loop-number.number in let r = c.loop-number.left in let i = c.loop-number.rank in
    let h = c.loop-number-test.true in
    let e = c.choose-without.ensures.count ∙ ap (λ n. choose n r) c.from.ensures in let f = c.if-without-rank.false in
    let fewer : i < choose (m - 1) r = omega (arith, e, f) in
    record {
      below = fewer;
      ranked = λ set e. c.loop-number.invariant.ranked set (step_without m r i set h e);
      left = c.loop-number.invariant.left;
    }

-- if no number remains, the set is complete
unranked : (c : goal.After-loop-number) → slice_get (subsets c.args.numbers c.args.chosen) c.args.rank ≡ Some c.loop-number.set.items
unranked c =
    let none : c.loop-number.number ≡ 0 = omega (arith, c.loop-number-test.false) in
    let below : c.loop-number.rank < choose 0 c.loop-number.left = subst (λ (n : ℕ). c.loop-number.rank < choose n c.loop-number.left) none c.loop-number.invariant.below in
    let empty = none_left c.loop-number.left c.loop-number.rank below in
    c.loop-number.invariant.ranked [] (subst (λ (n : ℕ). slice_get (subsets n c.loop-number.left) c.loop-number.rank ≡ Some []) (sym none) empty)
    ∙ ap Some (append-nil c.loop-number.set.items)

pub returns-clause-set : goal.returns-clause-set
returns-clause-set c = unranked c

pub returns-clause-size : goal.returns-clause-size
returns-clause-size c = (falls-at c.args.numbers c.args.chosen c.args.rank c.loop-number.set.items (unranked c)).0

pub returns-clause-falling : goal.returns-clause-falling
returns-clause-falling c = (falls-at c.args.numbers c.args.chosen c.args.rank c.loop-number.set.items (unranked c)).1
