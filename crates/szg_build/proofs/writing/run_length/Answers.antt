use Rattle.std.proofs.Common.{◌≡◌, ℕ, zero, suc, ◌<◌, List, length, get_or, refl, arith}
use Rattle.szg_build.proofs.Writers.WritingLaws.{runs_at}
use Rattle.szg_build.proofs.writing.run_length.Goals as goal

-- an index with another value than the first is above 0
positive : (values : List ℕ) (n : ℕ) → (get_or values n 0 ≡ get_or values 0 0 → ⊥) → 0 < n
positive values zero h = absurd (h refl)
positive values (suc n) h = omega arith

pub returns-then-value-values-clause-run : goal.returns-then-value-values-clause-run
returns-then-value-values-clause-run c =
    runs_at c.args.values.now (get_or c.args.values.now 0 0) c.values.count (positive c.args.values.now c.values.count c.if-value-values.true) (omega arith) c.values.invariant (λ h e. c.if-value-values.true e)

pub returns-clause-run : goal.returns-clause-run
returns-clause-run c =
    runs_at c.args.values.now (get_or c.args.values.now 0 0) (length c.args.values.now) (omega arith) (omega arith) (λ k h. c.values.invariant k (omega (arith, h))) (λ h e. absurd (omega (arith, h)))
