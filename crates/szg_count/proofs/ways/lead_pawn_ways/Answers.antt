use Rattle.std.proofs.Common.{◌≡◌, ℕ, ◌-◌, ◌*◌, ◌≤◌, sym, ap, ◌∙◌, map, arith}
use Rattle.std.specs.Prelude.{sum}
use Rattle.std.specs.List.{range_with_len}
use Rattle.std.proofs.lemmas.List.FromFn.{sum_by-map-range_with_len_more}
use Rattle.szg_count.proofs.Binomials.{pawn_ways, choose_small, lead_pawn_sum}
use Rattle.szg_count.proofs.ways.lead_pawn_ways.Goals as goal

small_ways : (pawns file rank : ℕ) → pawns ≤ 4 → pawn_ways pawns file rank ≤ 262144
small_ways pawns file rank h = choose_small (47 - 12 * file - 2 * rank) (pawns - 1) 3 (omega arith) (omega arith)

pub overflow_add-count : goal.overflow_add-count
overflow_add-count c =
    let now : c.choose-count.result ≡ pawn_ways c.args.pawns c.args.file c.loop-rank.rank = cc in
    let small = small_ways c.args.pawns c.args.file c.loop-rank.rank c.requires.few in
    let so_far : c.loop-rank.rank * 262144 ≤ 6 * 262144 = omega arith in
    omega arith

pub loop-rank-preserved : goal.loop-rank-preserved
loop-rank-preserved c =
    let now : c.choose-count.result ≡ pawn_ways c.args.pawns c.args.file c.loop-rank.rank = cc in
    let small = small_ways c.args.pawns c.args.file c.loop-rank.rank c.requires.few in
    let more = sum_by-map-range_with_len_more (λ (n : ℕ). n) (pawn_ways c.args.pawns c.args.file) 0 c.loop-rank.rank c.loop-rank.rank (omega arith) in
    let total = c.loop-rank.invariant.total in
    record {
      total = omega (arith, more, now, total);
      small = omega arith;
    }

pub returns : goal.returns
returns c =
    let all : c.loop-rank.rank ≡ 6 = omega arith in
    c.loop-rank.invariant.total ∙ ap (λ n. sum (map (pawn_ways c.args.pawns c.args.file) (range_with_len 0 n))) all
    ∙ sym (lead_pawn_sum c.args.pawns c.args.file c.requires.file)
