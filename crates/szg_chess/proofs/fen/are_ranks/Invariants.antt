use Rattle.std.proofs.Common.{◌≡◌, ◌-◌}
use Rattle.szg_chess.specs.Fen.{are_ranks}
use Rattle.szg_chess.proofs.fen.are_ranks.Given as goal

abbrev pub invariant-loop-rank : goal.invariant-loop-rank
invariant-loop-rank l = are_ranks 8 l.board ≡ are_ranks (8 - l._rank) l.left
