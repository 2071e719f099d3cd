use Rattle.std.proofs.Common.{ℕ, List, [], ◌∷◌, ◌++◌, ◌≡◌, ◌+◌, length, get_or, refl, arith, ap, sym, subst, ◌∙◌}
use Rattle.std.proofs.lemmas.Grind.{get_or_default_zero}
use Rattle.szg_subtable.specs.Pairing.{replaced}
use Rattle.szg_subtable.specs.Building.{entry_of, IsRound, AreLens}
use Rattle.szg_subtable.proofs.Pairs.RoundLaws.{round_more, lens_more}
use Rattle.szg_subtable.proofs.pairing.rounds.make_pair.Goals as goal

pub returns-clause-round : goal.returns-clause-round
returns-clause-round c = λ values done are round.
    let entries : List (List ℕ) = c.args.paired.now.entries.items in
    let pushed : c.push.new.self.items ≡ entries ++ entry_of c.args.pair.left c.args.pair.right ∷ [] = c.in_ok-push.ensures.items ∙ ap (λ (e : List ℕ). entries ++ e ∷ []) c.entry.ensures in
    let number : c.len-new.result ≡ length entries = omega (arith, c.len-new.ensures, c.args.paired.now.entries.ok.0) in
    let made : c.replace.new.symbols.items ≡ replaced c.args.pair.left c.args.pair.right (length entries) c.args.paired.now.symbols.items =
    c.replace.ensures ∙ ap (λ (k : ℕ). replaced c.args.pair.left c.args.pair.right k c.args.paired.now.symbols.items) number in
    subst (λ (z : List ℕ). IsRound values (done + 1) c.push.new.self.items z) (sym made)
    (subst (λ (z : List (List ℕ)). IsRound values (done + 1) z (replaced c.args.pair.left c.args.pair.right (length entries) c.args.paired.now.symbols.items)) (sym pushed)
    (round_more values entries c.args.paired.now.lens.items c.args.paired.now.symbols.items c.args.pair.left c.args.pair.right done are round c.requires.candidate c.requires.few))

pub returns-clause-lens : goal.returns-clause-lens
returns-clause-lens c = λ values done are round.
    let entries : List (List ℕ) = c.args.paired.now.entries.items in
    let lens : List ℕ = c.args.paired.now.lens.items in
    let n : ℕ = get_or lens c.args.pair.left 0 + get_or lens c.args.pair.right 0 in
    let pushed : c.push.new.self.items ≡ entries ++ entry_of c.args.pair.left c.args.pair.right ∷ [] = c.in_ok-push.ensures.items ∙ ap (λ (e : List ℕ). entries ++ e ∷ []) c.entry.ensures in
    let left : c.index.result.now ≡ get_or lens c.args.pair.left 0 =
    c.index.ensures ∙ ap (λ (k : ℕ). get_or lens k c.index.result.now) c.from.ensures ∙ get_or_default_zero lens c.args.pair.left c.index.result.now c.requires.candidate.left_there in
    let right : c.index-2.result.now ≡ get_or lens c.args.pair.right 0 =
    c.index-2.ensures ∙ ap (λ (k : ℕ). get_or lens k c.index-2.result.now) c.from-2.ensures ∙ get_or_default_zero lens c.args.pair.right c.index-2.result.now c.requires.candidate.right_there in
    let more : c.push-2.new.self.items ≡ lens ++ n ∷ [] = c.in_ok-push-2.ensures.items
    ∙ ap (λ (k : ℕ). lens ++ k ∷ []) (omega (arith, left, right)) in
    subst (λ (z : List ℕ). AreLens c.push.new.self.items z) (sym more)
    (subst (λ (z : List (List ℕ)). AreLens z (lens ++ n ∷ [])) (sym pushed)
    (lens_more values entries lens c.args.paired.now.symbols.items c.args.pair.left c.args.pair.right done n are round c.requires.candidate c.requires.few (refl)))
