use Rattle.std.proofs.Common.{◌≡◌, ◌+◌, ◌*◌, ◌^◌, ℕ, length, map, get_or, drop, sym, ap, ◌∙◌, arith}
use Rattle.std.specs.List.{range_with_len}
use Rattle.std.proofs.lemmas.List.{drop_all}
use Rattle.std.proofs.lemmas.List.Sums.{sum_by_more}
use Rattle.szg_count.specs.Groups.{product}
use Rattle.szg_count.specs.Steps.{group_from}
use Rattle.szg_count.proofs.Positions.{ways_given, push_given}
use Rattle.szg_count.proofs.Products.{product-positive, ArePositive-drop, product-drop, factor_below}
use Rattle.szg_count.proofs.Groups.assembled.Goals as goal

pub overflow_mul-size : goal.overflow_mul-size
overflow_mul-size c =
    let ws = c.args.ways.now in let i = c.loop-i.i in let many = c.requires.ways in
    let d = product-drop i ws (omega (arith, many)) in
    let rest = product (drop (i + 1) ws) in
    let e : c.loop-i.size * (get_or ws i 0 * rest) ≡ product ws = ap (λ n. c.loop-i.size * n) (sym d) ∙ c.loop-i.invariant.size in
    let all : c.loop-i.size * get_or ws i 0 * rest ≡ product ws = omega (arith, e) in
    let below = factor_below (c.loop-i.size * get_or ws i 0) rest (product ws) (2 ^ 33) all (product-positive (drop (i + 1) ws) (ArePositive-drop (i + 1) ws c.requires.positive)) c.requires.fits in
    omega (arith, below)

pub loop-i-preserved : goal.loop-i-preserved
loop-i-preserved c =
    let more = sum_by_more (λ (n : ℕ). n) c.args.lengths.now c.loop-i.i 0 (omega arith) in
    let first = c.loop-i.invariant.first in
    record {
      groups = push_given c.args.lengths.now c.args.ways.now c.args.positions.now c.loop-i.i c.loop-i.first c.factor_at.result c.loop-i.groups.items c.push.new.self.items
          c.loop-i.invariant.groups first c.factor_at.ensures c.push.ensures.items;
      first = omega (arith, more, first);
      size =
          let ws = c.args.ways.now in let i = c.loop-i.i in let many = c.requires.ways in let rest = product (drop (i + 1) ws) in
          let e : c.loop-i.size * (get_or ws i 0 * rest) ≡ product ws = ap (λ n. c.loop-i.size * n) (sym (product-drop i ws (omega (arith, many)))) ∙ c.loop-i.invariant.size in
          omega (arith, e);
    }

pub invariant_of-result : goal.invariant_of-result
invariant_of-result c =
    let all : c.loop-i.i ≡ length c.args.lengths.now = omega arith in
    let items = c.loop-i.invariant.groups ∙ ap (λ n. map (group_from c.args.lengths.now c.args.ways.now c.args.positions.now) (range_with_len 0 n)) all in
    let ways = ap (λ gs. map (λ group. group.ways) gs) items ∙ ways_given c.args.lengths.now c.args.ways.now c.args.positions.now c.requires.ways in
    let done = ap product (drop_all c.loop-i.i c.args.ways.now (let many = c.requires.ways in omega (arith, all, many))) in
    let last : c.loop-i.size * 1 ≡ product c.args.ways.now = ap (λ n. c.loop-i.size * n) (sym done) ∙ c.loop-i.invariant.size in
    let size : c.loop-i.size ≡ product c.args.ways.now = omega (arith, last) in let fits = c.requires.fits in
    (size ∙ ap product (sym ways), omega (arith, size, fits))
