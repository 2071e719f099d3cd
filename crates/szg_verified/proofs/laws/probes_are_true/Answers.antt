use Rattle.szg_verified.proofs.laws.probes_are_true.Goals as goal

pub returns : goal.returns
returns c = λ tables materials parts fen a true_tables all position covered answer.
    c.answers_are_true.ensures tables materials fen a true_tables position covered (c.answers_of_tables.ensures parts tables fen a all answer)
