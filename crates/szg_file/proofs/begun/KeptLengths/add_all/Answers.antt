use Rattle.std.proofs.Common.{refl, arith, rules}
use Rattle.szg_file.proofs.Readers.KeptRows.{kept_more}
use Rattle.szg_file.proofs.begun.KeptLengths.add_all.Goals.{then-seen-last, else-seen-last}
use Rattle.szg_file.proofs.begun.KeptLengths.add_all.Goals as goal

pub returns-clause-kept : goal.returns-clause-kept
returns-clause-kept c = λ limit list room h.
    kept_more limit c.args.last list c.args.numbers.now c.args.self.now _ h refl (omega (arith, room, c.requires.sum)) c.requires.apart
    (λ less. elim c.if-seen-last.branch [
      | then-seen-last w ↦ rw w.self-is (omega (arith, c.requires.sum))
      | else-seen-last w ↦ absurd (omega (arith, less, w.if-seen-last.false))
    ])
    (λ more. elim c.if-seen-last.branch [
      | then-seen-last w ↦ absurd (omega (arith, more, w.if-seen-last.true))
      | else-seen-last w ↦ rw w.self-is refl
    ])
    (search rules) (omega (arith, c.requires.sum))
