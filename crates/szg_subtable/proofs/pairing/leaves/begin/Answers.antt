use Rattle.std.proofs.Common.{false, ℕ, List, sym, ap, subst, ◌∙◌, arith, map, length, get_or, replicate, ◌+◌, ◌++◌, ◌∷◌, [], ◌≡◌, length-append}
use Rattle.std.proofs.lemmas.List.{take_all, length-replicate, get_or-replicate}
use Rattle.szg_subtable.specs.Pairing.{values_below}
use Rattle.szg_subtable.specs.Building.{AreLens, IsRound, leaves_below}
use Rattle.szg_subtable.proofs.Pairs.LeafLaws.{default_at, first_lens, first_round, leaves-none, leaves-few, leaf_there, leaf_missing, values_below-few, numbered_more}
use Rattle.szg_subtable.proofs.pairing.leaves.begin.Goals as goal
use Rattle.szg_subtable.proofs.pairing.leaves.begin.Goals.{then-marked+in_ok-push-2, else-marked}

pub mark-requires-clause-none : goal.mark-requires-clause-none
mark-requires-clause-none c = λ value. default_at 4096 value false

pub loop-value-init : goal.loop-value-init
loop-value-init c = record {
  entries = c.new-entries.ensures.items ∙ sym (leaves-none c.args.values.now);
  count = ap length c.in_ok-numbers.ensures.items;
  numbers = λ value lt. absurd (omega (arith, lt));
}

pub overflow_cast-len : goal.overflow_cast-len
overflow_cast-len c =
    omega (arith, c.len.ensures, ap length c.loop-value.invariant.entries, leaves-few c.loop-value.value c.args.values.now, values_below-few c.loop-value.value c.args.values.now)

pub loop-value-preserved : goal.loop-value-preserved
loop-value-preserved c =
    let i : ℕ = c.loop-value.value in
    let many : c.len.result ≡ length (values_below i c.args.values.now) =
    omega (arith, c.len.ensures, c.loop-value.entries.ok.0, ap length c.loop-value.invariant.entries, leaves-few i c.args.values.now) in
    let next = numbered_more c.args.values.now c.loop-value.numbers.items c.push.new.self.items i c.len.result c.loop-value.invariant.count c.loop-value.invariant.numbers c.in_ok-push.ensures.items many in
    let long : length c.push.new.self.items ≡ i + 1 =
    ap length c.in_ok-push.ensures.items ∙ length-append c.loop-value.numbers.items (c.len.result ∷ []) ∙ ap (λ (k : ℕ). k + 1) c.loop-value.invariant.count in
    elim c.if-marked.branch [
      | then-marked+in_ok-push-2 w ↦ record {
        entries = ap (λ z. z.items) w.entries-is ∙ w.in_ok-push-2.ensures.items
            ∙ ap (λ (z : List (List ℕ)). z ++ w.entry.result ∷ []) c.loop-value.invariant.entries
            ∙ ap (λ (e : List ℕ). leaves_below i c.args.values.now ++ e ∷ []) w.entry.ensures
            ∙ sym (leaf_there c.args.values.now c.mark.new.marks i c.mark.ensures c.loop-value-test.true w.if-marked.true);
        count = long;
        numbers = next;
      }
      | else-marked w ↦ record { entries = ap (λ z. z.items) w.entries-is ∙ c.loop-value.invariant.entries ∙ sym (leaf_missing c.args.values.now c.mark.new.marks i c.mark.ensures c.loop-value-test.true w.if-marked.false); count = long; numbers = next }
    ]

pub returns-clause-round : goal.returns-clause-round
returns-clause-round c =
    let last : c.loop-value.value ≡ 4096 = omega (arith, c.mark.ensures.count) in
    let all : c.loop-value.entries.items ≡ leaves_below 4096 c.args.values.now = c.loop-value.invariant.entries ∙ ap (λ (k : ℕ). leaves_below k c.args.values.now) last in
    let f : ℕ → ℕ = λ v. length (values_below v c.args.values.now) in
    let symbols : c.loop-item.symbols.items ≡ map f c.args.values.now =
    c.loop-item.invariant ∙ ap (map f) (take_all c.loop-item.item-index c.args.values.now (omega arith)) in
    subst (λ (z : List ℕ). IsRound c.args.values.now 0 c.loop-value.entries.items z) (sym symbols)
    (subst (λ (z : List (List ℕ)). IsRound c.args.values.now 0 z (map (λ v. length (values_below v c.args.values.now)) c.args.values.now)) (sym all)
    (first_round c.args.values.now c.requires.small c.requires.different))

pub returns-clause-lens : goal.returns-clause-lens
returns-clause-lens c =
    let last : c.loop-value.value ≡ 4096 = omega (arith, c.mark.ensures.count) in
    let all : c.loop-value.entries.items ≡ leaves_below 4096 c.args.values.now = c.loop-value.invariant.entries ∙ ap (λ (k : ℕ). leaves_below k c.args.values.now) last in
    let many : c.len-2.result ≡ length (leaves_below 4096 c.args.values.now) =
    omega (arith, c.len-2.ensures, c.loop-value.entries.ok.0, ap length all) in
    let ones : c.in_ok-lens.lens.items ≡ replicate c.len-2.result 1 = c.in_ok-lens.ensures.items_if_clones_equal (λ y h. h) in
    let count : length c.in_ok-lens.lens.items ≡ length (leaves_below 4096 c.args.values.now) = ap length ones ∙ length-replicate c.len-2.result 1 ∙ many in
    subst (λ (z : List (List ℕ)). AreLens z c.in_ok-lens.lens.items) (sym all)
    (first_lens c.args.values.now c.in_ok-lens.lens.items count (λ s lt. ap (λ (z : List ℕ). get_or z s 0) ones ∙ get_or-replicate c.len-2.result s 1 0 (omega (arith, lt, count, many))))
