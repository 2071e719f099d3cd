use Rattle.std.proofs.Common.{ℕ, ◌∙◌, ap, get_or, length, Some, sym, subst}
use Rattle.std.proofs.lemmas.Option.{slice_get-get_or}
use Rattle.szg_game.specs.declared.Entry.{Entry}
use Rattle.szg_verify.specs.Memory.{IsSpotOf}
use Rattle.szg_verify.specs.declared.memory.Cell.{Cell}
use Rattle.szg_verify.proofs.Kept.{recalled}
use Rattle.szg_verify.proofs.memory.recall_at.Goals as goal

pub returns-in-Some : goal.returns-in-Some
returns-in-Some c = λ p tables position there right.
    let cells = c.args.cells.now in
    let place = c.args.spot.place in
    let empty : Cell = record { tag = 0; lower = 0; code = 0 } in
    let cell : Cell = get_or cells place empty in
    let spot = subst (λ (tag : ℕ). IsSpotOf (length cells) p tag place) (sym c.if-cell-spot.false) there in
    recalled tables cells p place cell c.args.needs_near c.in-Some.class right position (slice_get-get_or cells place empty c.requires.inside) spot
    (sym c.class_by.ensures ∙ c.in-Some.is) (sym c.lacks_near.ensures ∙ c.if-lacks_near.false) ∙ ap (λ (e : Entry). Some e) (sym c.entry_in.ensures)
