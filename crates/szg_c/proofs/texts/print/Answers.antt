use Rattle.std.proofs.Common.{◌∙◌, ℕ, ◌-◌, List, length, take, ap, sym}
use Rattle.std.specs.Prelude.{min}
use Rattle.szg_c.proofs.Printing.{written}
use Rattle.szg_c.proofs.texts.print.Goals as goal

pub returns-then-not-is_empty-clause-text : goal.returns-then-not-is_empty-clause-text
returns-then-not-is_empty-clause-text c =
    let name = c.as_bytes-name.ensures.value in
    written c.args.name.now c.args.text.now c.copy_from_slice.new.self c.min-count.result (sym c.is_empty.ensures ∙ c.if-not-is_empty.true)
    (c.copy_from_slice.ensures.after ∙ ap (take c.min-count.result) name)
    (c.min-count.ensures ∙ ap (λ (l : List ℕ). min (length l) (length c.args.text.now - 1)) name)
