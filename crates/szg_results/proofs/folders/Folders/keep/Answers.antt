use Rattle.std.proofs.Common.{◌≡◌, Global, List, rules, subst, sym}
use Rattle.std.specs.Prelude.{IfSome, slice_get}
use Rattle.std.proofs.lemmas.List.{with_items_is}
use Rattle.std.proofs.lemmas.List.Elements.{All-push}
use Rattle.szg_tables.specs.declared.fetched.FetchedTable.{FetchedTable}
use Rattle.szg_results.specs.Folders.{AreFetched, IsFetched, IsPieceOf, IsValueOf, words_of}
use Rattle.szg_results.proofs.folders.Folders.keep.Goals as goal

pub returns-in_ok-push-in-Front-clause-fetched : goal.returns-in_ok-push-in-Front-clause-fetched
returns-in_ok-push-in-Front-clause-fetched c = λ files is all.
    let tables = c.args.self.now.tables.items in let words = words_of c.args.self.now in
    subst (AreFetched files words) (sym c.in_ok-push-in-Front.ensures.items) (All-push (IsFetched files words) tables c.in-Front.table all (subst (IsPieceOf files words tables) c.in-Front.is is))

pub returns-in-Value-clause-fetched : goal.returns-in-Value-clause-fetched
returns-in-Value-clause-fetched c = λ files is all.
    let old = c.deref_mut.result.now in let tables = c.args.self.now.tables.items in let words = words_of c.args.self.now in
    let same : old ≡ tables = c.deref_mut.ensures.value in
    let value = subst (λ (ts : List FetchedTable). IfSome (slice_get ts c.in-Value.number) (IsValueOf files c.in-Value.value)) (sym same) (subst (IsPieceOf files words tables) c.in-Value.is is) in
    let kept : AreFetched files words c.keep_value.new.tables = c.keep_value.ensures files words value (subst (AreFetched files words) (sym same) all) in
    subst (AreFetched files words) (sym (with_items_is {Z = Global} c.args.self.now.tables c.keep_value.new.tables (search rules))) kept
