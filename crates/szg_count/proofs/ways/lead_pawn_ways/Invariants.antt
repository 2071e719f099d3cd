use Rattle.std.proofs.Common.{◌≡◌, ◌≤◌, ◌*◌, map}
use Rattle.std.specs.Prelude.{sum}
use Rattle.std.specs.List.{range_with_len}
use Rattle.szg_count.proofs.Binomials.{pawn_ways}
use Rattle.szg_count.proofs.ways.lead_pawn_ways.Given as goal

abbrev pub invariant-loop-rank : goal.invariant-loop-rank
invariant-loop-rank l = record {
  total : l.count ≡ sum (map (pawn_ways l.pawns l.file) (range_with_len 0 l.rank));
  small : l.count ≤ l.rank * 262144;
}
