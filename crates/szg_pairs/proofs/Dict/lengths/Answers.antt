use Rattle.std.proofs.Common.{◌<◌, List, ℕ, length, subst, sym, arith}
use Rattle.szg_pairs.proofs.Accepting.{symbol_of_dictionary}
use Rattle.szg_pairs.proofs.Dict.lengths.Goals as goal

pub returns-clause-at_least : goal.returns-clause-at_least
returns-clause-at_least c s there =
    let there' = subst (λ (v : List (List ℕ)). s < length v) (sym c.self.view_is) there in
    let short = symbol_of_dictionary _ c.self.invariant.dictionary s there' in
    let each = c.self.invariant.each s there' in
    rw c.deref.ensures.value (omega (arith, short.some, each))

pub returns-clause-at_most : goal.returns-clause-at_most
returns-clause-at_most c s there =
    let there' = subst (λ (v : List (List ℕ)). s < length v) (sym c.self.view_is) there in
    let short = symbol_of_dictionary _ c.self.invariant.dictionary s there' in
    let each = c.self.invariant.each s there' in
    rw c.deref.ensures.value (omega (arith, short.few, each))
