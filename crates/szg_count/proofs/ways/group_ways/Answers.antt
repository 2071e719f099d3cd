use Rattle.std.proofs.Common.{◌≡◌, ℕ, ◌++◌, [], ◌∷◌, length, map, sym, ap, ◌∙◌, lit<, subst, List, arith}
use Rattle.std.specs.Prelude.{nat_lt}
use Rattle.szg_count.specs.Groups.{has_other_pawns}
use Rattle.std.specs.List.{range_with_len}
use Rattle.std.proofs.lemmas.List.Sums.{sum_by_more}
use Rattle.std.proofs.lemmas.List.FromFn.{map-range_with_len_more, length-map-range_with_len}
use Rattle.szg_count.specs.Steps.{ArePositive, ways_by}
use Rattle.szg_count.proofs.Pawns.{has_other_pawns-counted}
use Rattle.szg_count.proofs.Counts.{lead_ways-positive, ways_by-positive, ArePositive-map}
use Rattle.szg_count.proofs.ways.group_ways.Goals as goal

pub push-requires : goal.push-requires
push-requires c =
    let many : length c.loop-i.ways.items ≡ c.loop-i.i = ap length c.loop-i.invariant.ways
    ∙ length-map-range_with_len (ways_by c.lead_ways-lead.result (nat_lt 0 c.other_pawns-has_other.result) c.args.lengths.now) 0 c.loop-i.i in
    (lit< tt, omega arith)

pub loop-i-preserved : goal.loop-i-preserved
loop-i-preserved c =
    let counts = ways_by c.lead_ways-lead.result (nat_lt 0 c.other_pawns-has_other.result) c.args.lengths.now in
    let here : c.ways_of_next.result ≡ counts c.loop-i.i = cc in
    let more = sum_by_more (λ (n : ℕ). n) c.args.lengths.now c.loop-i.i 0 (omega arith) in
    let before = c.loop-i.invariant.before in let length = c.from-length.ensures in
    record {
      ways = c.push.ensures.items ∙ ap (λ l. l ++ c.ways_of_next.result ∷ []) c.loop-i.invariant.ways
          ∙ ap (λ n. map counts (range_with_len 0 c.loop-i.i) ++ n ∷ []) here
          ∙ sym (map-range_with_len_more counts 0 c.loop-i.i c.loop-i.i (omega arith));
      before = omega (arith, more, before, length);
    }

pub returns-clause-ways : goal.returns-clause-ways
returns-clause-ways c =
    let all : c.loop-i.i ≡ length c.args.lengths.now = omega arith in
    let other = ap (λ n. nat_lt 0 n) c.other_pawns-has_other.ensures ∙ has_other_pawns-counted c.args.material.now in
    c.loop-i.invariant.ways
    ∙ ap (λ n. map (ways_by c.lead_ways-lead.result (nat_lt 0 c.other_pawns-has_other.result) c.args.lengths.now) (range_with_len 0 n)) all
    ∙ ap (λ b. map (ways_by c.lead_ways-lead.result b c.args.lengths.now) (range_with_len 0 (length c.args.lengths.now))) other
    ∙ ap (λ n. map (ways_by n (has_other_pawns c.args.material.now) c.args.lengths.now) (range_with_len 0 (length c.args.lengths.now))) c.lead_ways-lead.ensures

pub returns-clause-positive : goal.returns-clause-positive
returns-clause-positive c =
    let counts = ways_by c.lead_ways-lead.result (nat_lt 0 c.other_pawns-has_other.result) c.args.lengths.now in
    let lead = lead_ways-positive c.args.material.now c.args.part c.requires.material c.requires.part in
    let same = c.lead_ways-lead.ensures in
    subst (λ (l : List ℕ). ArePositive l) (sym c.loop-i.invariant.ways)
    (ArePositive-map counts 0 c.loop-i.i
    (λ i. ways_by-positive c.lead_ways-lead.result (nat_lt 0 c.other_pawns-has_other.result) c.args.lengths.now i (omega (arith, lead, same)) c.requires.few))
