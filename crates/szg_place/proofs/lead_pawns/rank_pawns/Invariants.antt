use Rattle.std.proofs.Common.{◌≡◌, ◌+◌, drop, length, map}
use Rattle.szg_count.specs.Sets.{binomial_sum}
use Rattle.szg_place.proofs.Ranks.LeadPawns.{pawn_number}
use Rattle.szg_place.proofs.lead_pawns.rank_pawns.Given as goal

abbrev pub invariant-loop-square : goal.invariant-loop-square
invariant-loop-square l = record {
  number : l.number + binomial_sum (drop l.square-index (map pawn_number l.squares)) ≡ binomial_sum (map pawn_number l.squares);
  left : l.left + l.square-index ≡ length l.squares;
}
