use Rattle.std.proofs.Common.{◌≡◌, ◌+◌, ◌++◌, take}
use Rattle.szg_chess.specs.Fen.{rank_width, men_of_rank}
use Rattle.szg_chess.proofs.fen.push_rank.Given as goal

abbrev pub invariant-loop-byte : goal.invariant-loop-byte
invariant-loop-byte l = record { men : l.men.items ≡ l.initial.men.items ++ men_of_rank l.first (take l.byte-index l.rank); square : l.square ≡ l.first + rank_width (take l.byte-index l.rank) }
