use Rattle.std.proofs.Common.{◌≡◌, ◌∙◌, List, Vec, Global, true, false, ap}
use Rattle.szg_tables.specs.declared.fetched.FetchedTable.{FetchedTable}
use Rattle.szg_results.proofs.Answered.{answered_over}
use Rattle.szg_results.proofs.folders.answer_over.Goals as goal

pub returns-then-has_distances-clause-answer : goal.returns-then-has_distances-clause-answer
returns-then-has_distances-clause-answer c =
    let set : List FetchedTable = c.of-set.result in
    let same : set ≡ c.args.tables.now.items = c.of-set.ensures ∙ ap (λ (tables : Vec FetchedTable Global). tables.items) c.replace.ensures.value in
    answered_over set c.args.tables.now.items c.args.fen.now true c.probe_position-answer.result same c.probe_position-answer.ensures.has_distances c.probe_position-answer.ensures.stated

pub returns-clause-answer : goal.returns-clause-answer
returns-clause-answer c =
    let set : List FetchedTable = c.of-set.result in
    let same : set ≡ c.args.tables.now.items = c.of-set.ensures ∙ ap (λ (tables : Vec FetchedTable Global). tables.items) c.replace.ensures.value in
    answered_over set c.args.tables.now.items c.args.fen.now false c.probe_position-answer-2.result same c.probe_position-answer-2.ensures.has_distances c.probe_position-answer-2.ensures.stated
