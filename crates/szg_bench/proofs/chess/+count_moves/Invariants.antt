use Rattle.szg_bench.proofs.chess.+count_moves.Given as goal

abbrev pub decreases-count_moves : goal.decreases-count_moves
decreases-count_moves l = l.depth
