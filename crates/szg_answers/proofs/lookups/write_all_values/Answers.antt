use Rattle.std.proofs.Common.{◌≡◌, ℕ, List, ◌++◌, ap, flat_map, inr, replicate, subst, ◌∙◌}
use Rattle.std.specs.Prelude.{IsSomeAnd, Option, Some, None}
use Rattle.std.proofs.lemmas.Result.{err_from_is_err_and}
use Rattle.szg_build.proofs.Readers.ReadingLaws.{same_error}
use Rattle.szg_build.specs.declared.writing.stored.StoredValues.{StoredValues}
use Rattle.szg_build.specs.Stored.{shown_values}
use Rattle.szg_file.specs.Values.{subtable_at, values_of}
use Rattle.szg_answers.specs.Answers.{number_line}
use Rattle.szg_answers.proofs.lookups.write_all_values.Goals as goal

-- the lines of these values are those of all
lines_of : {X : Type 0} (found : Option X) (values : X → List ℕ) (shown text : List ℕ) → IsSomeAnd found (λ x. shown ≡ values x) → text ≡ flat_map number_line shown → IsSomeAnd found (λ x. text ≡ flat_map number_line (values x))
lines_of None values shown text is lines = is
lines_of (Some x) values shown text is lines = lines ∙ ap (flat_map number_line) is

pub returns-in_err-add_same-in-Same-clause-memory : goal.returns-in_err-add_same-in-Same-clause-memory
returns-in_err-add_same-in-Same-clause-memory g c =
    let p = err_from_is_err_and c.from_residual.result c.from_residual.ensures.1 in
    rw (p.1, p.2) (λ e.
    let cut = c.in_err-add_same-in-Same.ensures.memory (same_error e) in
    let lines : cut.0 ++ cut.1 ≡ flat_map number_line (replicate c.in-Same.count c.in-Same.value) = cut.2 ∙ ap (λ (z : List ℕ). z ++ flat_map number_line (replicate c.in-Same.count c.in-Same.value)) c.new-text.ensures.items in
    let stored = subst (λ (s : StoredValues). IsSomeAnd (subtable_at c.args.table.now.contents c.args.request.now.part c.args.request.now.side) (λ found. shown_values s ≡ values_of c.args.table.now.contents.kind found)) c.in-Same.is c.in-Some.ensures in
    inr (cut.0, cut.1, lines_of (subtable_at c.args.table.now.contents c.args.request.now.part c.args.request.now.side) (λ found. values_of c.args.table.now.contents.kind found) (replicate c.in-Same.count c.in-Same.value) (cut.0 ++ cut.1) stored lines, cut.3))
