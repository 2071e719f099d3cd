use Rattle.std.proofs.Common.{ℕ, ◌<◌, List, length, get_or, sym, ap, ◌∙◌, subst}
use Rattle.std.proofs.lemmas.Bool.{ltb-true}
use Rattle.szg_tables.specs.Listed.{IsListOf}
use Rattle.szg_tables.specs.declared.listed.ValueList.{ValueList}
use Rattle.szg_tables.proofs.ListedValues.{listed_is}
use Rattle.szg_tables.proofs.listed.listed_at.Goals as goal

pub returns-then-list-spot-2 : goal.returns-then-list-spot-2
returns-then-list-spot-2 c = λ t all.
    let i = c.args.spot.index in let value = c.in_ok-value.value.now in
    listed_is t c.list-item.result c.args.spot c.from.result value
    (subst (λ (list : ValueList). IsListOf t list) (sym c.list-item.is) (all c.loop-list.list-index c.list-item.result c.loop-list-test.true))
    c.if-list-spot.true c.if-list-spot-2.true
    (subst (λ (xs : List ℕ). i < length xs) c.deref.ensures.value (ltb-true _ _ (sym c.in_ok-value.ensures.lookup.0)))
    (c.from.ensures ∙ c.in_ok-value.ensures.lookup.1 ∙ ap (λ (xs : List ℕ). get_or xs i value) c.deref.ensures.value)
