use Rattle.std.proofs.Common.{rules}
use Rattle.szg_c_positions.proofs.ReadPositions.{read_again}
use Rattle.szg_c_positions.proofs.fens.write_position.Goals as goal

pub returns-clause-read : goal.returns-clause-read
returns-clause-read c = record {
  placed = search rules;
  passed = search rules;
  plies = search rules;
  fit = read_again c.args.said.now.position c.men-placed.result.now c.copy_from_slice.new.self _ _ _ c.men-placed.ensures.position
      (search rules) (search rules) (search rules) (search rules);
}
