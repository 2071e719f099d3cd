use Rattle.std.proofs.Common.{◌≡◌, length, arith}
use Rattle.szg_subtable.proofs.Pairs.RoundLaws.{paired_all, paired_full, paired_exhausted, lens_below}
use Rattle.szg_subtable.proofs.Pairs.ProposalLaws.{below_as, none_as}
use Rattle.szg_subtable.proofs.pairing.rounds.pair_slowly.Goals as goal

pub find_remaining_pair-requires-clause-few : goal.find_remaining_pair-requires-clause-few
find_remaining_pair-requires-clause-few g c = omega (arith, c.loop-done.invariant.round.few, c.loop-done.invariant.lens.count)

pub find_remaining_pair-requires-clause-below : goal.find_remaining_pair-requires-clause-below
find_remaining_pair-requires-clause-below g c =
    let p = c.loop-done.paired in
    below_as p.lens.items c.deref-in-loop-done.result.now p.symbols.items c.deref.result.now c.deref-in-loop-done.ensures.value c.deref.ensures.value
    (lens_below p.entries.items p.lens.items p.symbols.items c.loop-done.invariant.lens c.loop-done.invariant.round.below)

pub returns-then-len-eq-MAX_SYMBOLS-clause-pairing : goal.returns-then-len-eq-MAX_SYMBOLS-clause-pairing
returns-then-len-eq-MAX_SYMBOLS-clause-pairing g c =
    let p = c.loop-done.paired in
    let full : length p.entries.items ≡ 4095 = omega (arith, c.if-len-eq-MAX_SYMBOLS.true, c.len.ensures, p.entries.ok.0) in
    paired_full c.args.values.now p.entries.items p.symbols.items c.loop-done.done c.args.rounds c.loop-done.invariant.round c.loop-done-test.true full

pub returns-in_default-clause-pairing : goal.returns-in_default-clause-pairing
returns-in_default-clause-pairing g c =
    let p = c.loop-done.paired in
    let none = none_as p.lens.items c.deref-in-loop-done.result.now p.symbols.items c.deref.result.now c.deref-in-loop-done.ensures.value c.deref.ensures.value (rw c.in_default.is at c.in_ok-pair.ensures.none) in
    paired_exhausted c.args.values.now p.entries.items p.lens.items p.symbols.items c.loop-done.done c.args.rounds c.loop-done.invariant.round c.loop-done.invariant.lens c.loop-done-test.true none

pub make_pair-requires-clause-few : goal.make_pair-requires-clause-few
make_pair-requires-clause-few g c =
    omega (arith, c.if-len-eq-MAX_SYMBOLS.false, c.len.ensures, c.loop-done.paired.entries.ok.0, c.loop-done.invariant.round.few)

pub returns-clause-pairing : goal.returns-clause-pairing
returns-clause-pairing g c =
    let p = c.loop-done.paired in
    paired_all c.args.values.now p.entries.items p.symbols.items c.loop-done.done c.args.rounds c.loop-done.invariant.round (omega (arith, c.loop-done-test.false, c.loop-done.auto.done-end))

pub loop-done-preserved : goal.loop-done-preserved
loop-done-preserved g c =
    let old = c.loop-done.invariant in
    record {
      round = c.in_ok-make_pair.ensures.round c.args.values.now c.loop-done.done old.lens old.round;
      lens = c.in_ok-make_pair.ensures.lens c.args.values.now c.loop-done.done old.lens old.round;
    }
