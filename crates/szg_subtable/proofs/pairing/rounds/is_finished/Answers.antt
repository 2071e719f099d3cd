use Rattle.std.proofs.Common.{ℕ, List, ◌≡◌, ◌<◌, length, ap, ◌∙◌, arith, inr}
use Rattle.szg_subtable.specs.Pairing.{pairs_in}
use Rattle.szg_subtable.proofs.Pairs.RoundLaws.{exhausted}
use Rattle.szg_subtable.proofs.Pairs.ProposalLaws.{none_as}
use Rattle.szg_subtable.proofs.pairing.rounds.is_finished.Goals as goal

pub returns-in_default : goal.returns-in_default
returns-in_default c = λ _.
    let p = c.args.paired.now in
    let pairs : c.count_pairs_in-pairs.result ≡ length (pairs_in p.entries.items) = c.count_pairs_in-pairs.ensures.pairs ∙ ap (λ (z : List (List ℕ)). length (pairs_in z)) c.deref.ensures.value in
    let less : length (pairs_in p.entries.items) < c.args.rounds = omega (arith, pairs, c.if-pairs-rounds.false) in
    let none = none_as p.lens.items c.deref-3.result.now p.symbols.items c.deref-2.result.now c.deref-3.ensures.value c.deref-2.ensures.value (rw c.in_default.is at c.in_ok-find_remaining_pair.ensures.none) in
    inr (less, inr (exhausted p.entries.items p.lens.items p.symbols.items c.requires.lens c.requires.below none))
