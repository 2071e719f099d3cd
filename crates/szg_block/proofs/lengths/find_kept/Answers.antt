use Rattle.std.proofs.lemmas.Option.{slice_get_within}
use Rattle.szg_block.proofs.lengths.find_kept.Goals as goal

pub kept_middle-first-requires-clause-there : goal.kept_middle-first-requires-clause-there
kept_middle-first-requires-clause-there c = slice_get_within _ _ _ c.requires.entry
