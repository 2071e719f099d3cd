use Rattle.std.proofs.Common.{ℕ, List, ◌≡◌, ◌+◌, ◌∙◌, length, refl, subst, arith}
use Rattle.std.specs.List.{each_same}
use Rattle.szg_pairs.specs.Dictionary.{IsDictionary}
use Rattle.szg_subtable.specs.Pairing.{different_values, pairs_in, values_of}
use Rattle.szg_subtable.specs.Building.{IsRound}
use Rattle.szg_subtable.proofs.Pairs.ProposalLaws.{passed}
use Rattle.szg_subtable.proofs.pairing.accepting.accept.Goals as goal

pub returns-clause-round : goal.returns-clause-round
returns-clause-round c =
    let values : List ℕ = c.args.values.now in
    let entries : List (List ℕ) = c.as_slice-listed.result.now in
    let symbols : List ℕ = c.as_slice-text.result.now in
    let copied : c.in_ok-to_vec.field-0.items ≡ entries = c.in_ok-to_vec.ensures.items_if_clones_equal (λ x y h. each_same x y h.whole) in
    let dict : c.in-Ok.dict ≡ entries = c.in-Ok.ensures.accepted.0 ∙ copied in
    let accepted : IsDictionary entries = subst (λ (z : List (List ℕ)). IsDictionary z) copied c.in-Ok.ensures.accepted.1 in
    let same : values_of entries symbols ≡ values = subst (λ (z : List (List ℕ)). values_of z symbols ≡ values) dict (c.in_ok-expands_to.ensures c.if-not-branch-2.false) in
    let leaves : length entries ≡ length (different_values values) + length (pairs_in entries) =
    omega (arith, c.if-listed-pairs.false, c.count_different.ensures, c.count_pairs_in-pairs.ensures.pairs, c.count_pairs_in-pairs.ensures.few) in
    subst (λ (z : List (List ℕ)). IsRound values (length (pairs_in z)) z c.args.proposal.symbols.items) c.as_slice-listed.ensures.value
    (subst (λ (z : List ℕ). IsRound values (length (pairs_in entries)) entries z) c.as_slice-text.ensures.value
    (passed values entries symbols (length (pairs_in entries)) accepted c.if-listed-gt-MAX_SYMBOLS.false
    (c.in_ok-are_used.ensures.below c.if-not-branch.false) same (c.in_ok-are_used.ensures.used c.if-not-branch.false) refl leaves))
