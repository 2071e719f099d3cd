use Rattle.std.proofs.Common.{ℕ, ◌≡◌, ◌+◌, ◌-◌, ◌≤◌, inl, inr, List, length, ap, ◌∙◌, arith}
use Rattle.szg_code.specs.Canonical.{CanonicalCode}
use Rattle.std.proofs.lemmas.Bool.{cases_lt}
use Rattle.szg_code.proofs.canonical.word.Goals as goal

pub loop-j-preserved : goal.loop-j-preserved
loop-j-preserved c k below word long w =
    elim (cases_lt k c.loop-j.j) [
      | inl less ↦ c.loop-j.invariant k less word long w
      | inr more ↦ let here : k ≡ c.loop-j.j = omega arith in c.in_default.ensures.none word (long ∙ ap (λ (n : ℕ). c.args.code.now.min_length + n) here) w
    ]

pub returns-clause-none : goal.returns-clause-none
returns-clause-none c word w =
    let code : CanonicalCode = c.args.code.now in
    let each : length code.lowest + code.min_length ≡ code.max_length + 1 = c.symbols.ensures.accepted.lengths.each in
    let long : code.min_length ≤ length word = w.long_enough in
    let short : length word ≤ code.max_length = w.short_enough in
    let n : length c.lowest-j-end.result.now ≡ length code.lowest = ap (λ (xs : List ℕ). length xs) c.lowest-j-end.ensures in
    c.loop-j.invariant (length word - code.min_length) (omega arith) word (omega arith) w
