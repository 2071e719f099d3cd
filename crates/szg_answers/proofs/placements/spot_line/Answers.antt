use Rattle.szg_answers.proofs.placements.spot_line.Goals as goal

pub returns : goal.returns
returns c = rw (c.part_letter-letter.ensures) at c.format.ensures.ok
