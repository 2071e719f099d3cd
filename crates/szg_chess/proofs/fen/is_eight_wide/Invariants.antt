use Rattle.std.proofs.Common.{◌≡◌, ◌≤◌, take}
use Rattle.szg_chess.specs.Fen.{rank_width}
use Rattle.szg_chess.proofs.fen.is_eight_wide.Given as goal

abbrev pub invariant-loop-byte : goal.invariant-loop-byte
invariant-loop-byte l = record { width : l.width ≡ rank_width (take l.byte-index l.rank); small : l.width ≤ 8 }
