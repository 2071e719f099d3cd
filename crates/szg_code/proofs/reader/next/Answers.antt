use Rattle.std.proofs.Common.{◌≡◌, refl, subst, ap, ◌∙◌}
use Rattle.szg_code.specs.Cursor.{Cursor, EndlessCursor}
use Rattle.szg_code.specs.Spelling.{BeginsWithNoWord}
use Rattle.szg_code.proofs.reader.next.Goals as goal

pub returns-in_err-symbol-clause-none : goal.returns-in_err-symbol-clause-none
returns-in_err-symbol-clause-none c =
    let same : c.copied-moved.result.cursor ≡ c.args.bits.now = ap (λ (k : EndlessCursor). k.cursor) c.copied-moved.ensures ∙ c.bits.view_is in
    rw c.from_residual.ensures (subst (λ (k : Cursor). BeginsWithNoWord c.args.code.now k.left) same c.in_err-symbol.ensures.none, refl)

pub returns-in_err-bits-inside-clause-none : goal.returns-in_err-bits-inside-clause-none
returns-in_err-bits-inside-clause-none c =
    let same : c.copied-moved.result.cursor ≡ c.args.bits.now = ap (λ (k : EndlessCursor). k.cursor) c.copied-moved.ensures ∙ c.bits.view_is in
    let past = c.in_err-bits-inside.ensures.past in
    rw c.from_residual-in_err-bits-inside.ensures (subst (λ (k : Cursor). BeginsWithNoWord c.args.code.now k.left) same (c.in_ok-symbol.ensures.past past.0), refl)
