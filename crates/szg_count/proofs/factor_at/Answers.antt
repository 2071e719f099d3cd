use Rattle.std.proofs.Common.{◌≡◌, ◌+◌, ◌*◌, ◌^◌, length, get_or, drop, true, false, cond, sym, ap, ◌∙◌, arith}
use Rattle.std.specs.Prelude.{nat_lt}
use Rattle.std.proofs.Math.Seq.{drop-length}
use Rattle.std.proofs.lemmas.Bool.{lt-ltb, le-ltb}
use Rattle.szg_count.proofs.Radix.{ways_below, product-ways_before}
use Rattle.szg_count.proofs.Products.{ArePositive-drop, ways_below-positive, ways_below-le, ways_below-drop, factor_below}
use Rattle.szg_count.proofs.factor_at.Goals as goal
use Rattle.szg_count.proofs.factor_at.Goals.{then-earlier-position, else-earlier-position}

pub overflow_mul-factor : goal.overflow_mul-factor
overflow_mul-factor c =
    let ps = c.args.positions.now in let ws = c.args.ways.now in let p = c.args.position in let i = c.loop-i.i in
    let t : nat_lt (get_or ps i 0) p ≡ true = lt-ltb (get_or ps i 0) p c.if-earlier-position.true in
    let d : ways_below p (drop i ps) (drop i ws) ≡ get_or ws i 0 * ways_below p (drop (i + 1) ps) (drop (i + 1) ws) = ways_below-drop p i ps ws (omega arith) c.requires.ways ∙ ap (λ b. cond b (get_or ws i 0) 1 * ways_below p (drop (i + 1) ps) (drop (i + 1) ws)) t in
    let rest = ways_below p (drop (i + 1) ps) (drop (i + 1) ws) in
    let all : c.loop-i.factor * get_or ws i 0 * rest ≡ ways_below p ps ws = let e : c.loop-i.factor * (get_or ws i 0 * rest) ≡ ways_below p ps ws = ap (λ n. c.loop-i.factor * n) (sym d) ∙ c.loop-i.invariant in omega (arith, e) in
    let pos = ways_below-positive p (drop (i + 1) ps) (drop (i + 1) ws) (ArePositive-drop (i + 1) ws c.requires.positive) in
    let le = ways_below-le p ps ws c.requires.positive in
    let f = c.requires.fits in
    let below = factor_below (c.loop-i.factor * get_or ws i 0) rest (ways_below p ps ws) (2 ^ 33) all pos (omega (arith, le, f)) in
    omega (arith, below)

pub loop-i-preserved : goal.loop-i-preserved
loop-i-preserved c =
    let ps = c.args.positions.now in let ws = c.args.ways.now in let p = c.args.position in let i = c.loop-i.i in
    let rest = ways_below p (drop (i + 1) ps) (drop (i + 1) ws) in
    let d = ways_below-drop p i ps ws (omega arith) c.requires.ways in
    elim c.if-earlier-position.branch [
      | then-earlier-position w ↦
          let t : nat_lt (get_or ps i 0) p ≡ true = lt-ltb (get_or ps i 0) p w.if-earlier-position.true in
          let e : c.loop-i.factor * (cond true (get_or ws i 0) 1 * rest) ≡ ways_below p ps ws = ap (λ b. c.loop-i.factor * (cond b (get_or ws i 0) 1 * rest)) (sym t) ∙ ap (λ n. c.loop-i.factor * n) (sym d) ∙ c.loop-i.invariant in
          ap (λ f. f * rest) w.factor-is ∙ (let k : c.loop-i.factor * get_or ws i 0 * rest ≡ ways_below p ps ws = omega (arith, e) in k)
      | else-earlier-position w ↦
          let t : nat_lt (get_or ps i 0) p ≡ false = le-ltb (get_or ps i 0) p w.if-earlier-position.false in
          let e : c.loop-i.factor * (cond false (get_or ws i 0) 1 * rest) ≡ ways_below p ps ws = ap (λ b. c.loop-i.factor * (cond b (get_or ws i 0) 1 * rest)) (sym t) ∙ ap (λ n. c.loop-i.factor * n) (sym d) ∙ c.loop-i.invariant in
          ap (λ f. f * rest) w.factor-is ∙ (let k : c.loop-i.factor * rest ≡ ways_below p ps ws = omega (arith, e) in k)
    ]

pub returns : goal.returns
returns c =
    let ps = c.args.positions.now in let ws = c.args.ways.now in let p = c.args.position in
    let all : c.loop-i.i ≡ length ps = omega arith in
    let none : ways_below p (drop c.loop-i.i ps) (drop c.loop-i.i ws) ≡ 1 = ap (λ n. ways_below p (drop n ps) (drop c.loop-i.i ws)) all ∙ ap (λ l. ways_below p l (drop c.loop-i.i ws)) (drop-length ps) in
    let e : c.loop-i.factor * 1 ≡ ways_below p ps ws = ap (λ n. c.loop-i.factor * n) (sym none) ∙ c.loop-i.invariant in
    let k : c.loop-i.factor ≡ ways_below p ps ws = omega (arith, e) in
    k ∙ sym (product-ways_before p ps ws)
