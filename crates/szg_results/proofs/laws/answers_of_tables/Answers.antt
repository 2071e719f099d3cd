use Rattle.std.specs.Prelude.{if◌then◌else◌}
use Rattle.szg_tables.specs.Fetched.{fetched_classes, fetched_numbers}
use Rattle.szg_tables.specs.Stored.{stored_classes, stored_numbers}
use Rattle.szg_results.specs.Results.{zero_numbers}
use Rattle.szg_results.proofs.Among.{answer_among, chosen_among}
use Rattle.szg_results.proofs.laws.answers_of_tables.Goals as goal

pub returns : goal.returns
returns c = λ parts tables fen a all answer.
    let known = c.fetched_is_stored.ensures parts tables all in
    let numbers = fetched_numbers parts in
    let others = stored_numbers tables in
    answer_among (fetched_classes parts) (stored_classes tables) known.0 (if a.has_distances then numbers else zero_numbers) (if a.has_distances then others else zero_numbers)
    (chosen_among numbers others a.has_distances known.1) fen.position (if a.has_distances then fen.halfmove else 0) a answer
