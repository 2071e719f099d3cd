use Rattle.std.proofs.Common.{arith, subst}
use Rattle.std.proofs.lemmas.Grind.{common_steps}
use Rattle.szg_code.specs.Canonical.{CanonicalCode}
use Rattle.szg_code.specs.Acceptance.{IsCode}
use Rattle.szg_code.specs.declared.CodeFault.TheVariants.{LowestOrder, TooFull}
use Rattle.szg_file.specs.File.{code_with}
use Rattle.szg_file.proofs.Readers.HeadReads.{lowest_passes, lowest_refused}
use Rattle.szg_file.proofs.reading.heads.read_lowest.Goals as goal

pub returns-in-Ok-clause-lowest : goal.returns-in-Ok-clause-lowest
returns-in-Ok-clause-lowest g c =
    let passes = lowest_passes c.args.state.now.place (code_with c.args.min c.args.max c.in_ok-lowest.lowest.items 0)
    (subst (λ (code : CanonicalCode). IsCode code) c.in-Ok.ensures.accepted.1 c.in-Ok.ensures.accepted.0) in
    grind (arith, common_steps, passes)

pub returns-in-Err-LowestOrder-clause-lowest : goal.returns-in-Err-LowestOrder-clause-lowest
returns-in-Err-LowestOrder-clause-lowest g c =
    let refused = lowest_refused c.args.state.now.place (code_with c.args.min c.args.max c.in_ok-lowest.lowest.items 0)
    (record { some_bits = c.requires.some; in_order = c.requires.in_order; at_most = c.requires.most; each = omega (arith, c.in_ok-lowest.ensures.count, c.from.ensures, c.requires.in_order) })
    (LowestOrder c.in-Err-LowestOrder.item) (rw c.in-Err-LowestOrder.field-0-is at c.in-Err-LowestOrder.ensures.refused) in
    grind (arith, common_steps, refused)

pub returns-in-Err-TooFull-clause-lowest : goal.returns-in-Err-TooFull-clause-lowest
returns-in-Err-TooFull-clause-lowest g c =
    let refused = lowest_refused c.args.state.now.place (code_with c.args.min c.args.max c.in_ok-lowest.lowest.items 0)
    (record { some_bits = c.requires.some; in_order = c.requires.in_order; at_most = c.requires.most; each = omega (arith, c.in_ok-lowest.ensures.count, c.from.ensures, c.requires.in_order) })
    (TooFull c.in-Err-TooFull.item) (rw c.in-Err-TooFull.field-0-is at c.in-Err-TooFull.ensures.refused) in
    grind (arith, common_steps, refused)
