use Rattle.szg_tables.proofs.FetchedTables.{classes_among, numbers_among}
use Rattle.szg_tables.proofs.laws.fetched_is_stored.Goals as goal

pub returns : goal.returns
returns c = λ parts tables all. (classes_among parts tables all, numbers_among parts tables all)
