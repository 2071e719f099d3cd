use Rattle.std.proofs.Common.{refl, arith}
use Rattle.szg_file.proofs.Readers.KeptRows.{kept_next}
use Rattle.szg_file.proofs.begun.KeptLengths.pass.Goals.{then-seen-last, else-seen-last}
use Rattle.szg_file.proofs.begun.KeptLengths.pass.Goals as goal

pub returns-in_ok-push-clause-kept : goal.returns-in_ok-push-clause-kept
returns-in_ok-push-clause-kept c = λ list h.
    kept_next c.args.limit c.args.last list c.args.length c.args.self.now _ h refl
    (λ less. elim c.if-seen-last.branch [
      | then-seen-last w ↦ rw w.self-is (omega (arith, c.from-values.ensures))
      | else-seen-last w ↦ absurd (omega (arith, less, w.if-seen-last.false))
    ])
    (λ more. elim c.if-seen-last.branch [
      | then-seen-last w ↦ absurd (omega (arith, more, w.if-seen-last.true))
      | else-seen-last w ↦ rw w.self-is refl
    ])
    (λ less. (c.in_ok-push.ensures.items, omega (arith, c.from-values.ensures))) (λ more. absurd (omega (arith, more, c.if-self-limit.true)))

pub returns-else-self-limit-clause-kept : goal.returns-else-self-limit-clause-kept
returns-else-self-limit-clause-kept c = λ list h.
    kept_next c.args.limit c.args.last list c.args.length c.args.self.now _ h refl
    (λ less. elim c.if-seen-last.branch [
      | then-seen-last w ↦ rw w.self-is (omega (arith, c.from-values.ensures))
      | else-seen-last w ↦ absurd (omega (arith, less, w.if-seen-last.false))
    ])
    (λ more. elim c.if-seen-last.branch [
      | then-seen-last w ↦ absurd (omega (arith, more, w.if-seen-last.true))
      | else-seen-last w ↦ rw w.self-is refl
    ])
    (λ less. absurd (omega (arith, less, c.if-self-limit.false))) (λ more. (refl, refl))
