use Rattle.std.proofs.Common.{[], ◌∷◌, map, refl}
use Rattle.std.proofs.lemmas.Result.{err_from_is_err_and}
use Rattle.szg_file.specs.Format.{means}
use Rattle.szg_file.proofs.Readers.ReadingLaws.{reads_then, reads_stopped, reads_nothing}
use Rattle.szg_file.proofs.Readers.MapReads.{four_steps, after_one, after_two, after_three}
use Rattle.szg_file.proofs.reading.maps.read_four.Goals as goal

pub returns-in_err-wins-clause-lists : goal.returns-in_err-wins-clause-lists
returns-in_err-wins-clause-lists g c = λ field all.
    let p = err_from_is_err_and c.from_residual.result c.from_residual.ensures.1 in
    rw (p.1, p.2, four_steps field)
    (reads_stopped field (after_one field) (λ list. list.items) (λ lists. map (λ list. list.items) lists) c.in_err-wins.field-0.0 (all _ _ _ _ _ _ c.in_err-wins.ensures))

pub returns-in_err-losses-clause-lists : goal.returns-in_err-losses-clause-lists
returns-in_err-losses-clause-lists g c = λ field all.
    let wins = c.in_ok-wins.wins in
    let p = err_from_is_err_and c.from_residual-in_err-losses.result c.from_residual-in_err-losses.ensures.1 in
    rw (p.1, p.2, four_steps field)
    (reads_then field (after_one field) (λ list. list.items) (λ lists. map (λ list. list.items) lists) wins (all _ _ _ _ _ _ c.in_ok-wins.ensures)
    (reads_stopped field (after_two field wins.items) (λ list. list.items) (λ lists. map (λ list. list.items) lists) c.in_err-losses.field-0.0 (all _ _ _ _ _ _ c.in_err-losses.ensures)))

pub returns-in_err-cursed_wins-clause-lists : goal.returns-in_err-cursed_wins-clause-lists
returns-in_err-cursed_wins-clause-lists g c = λ field all.
    let wins = c.in_ok-wins.wins in
    let losses = c.in_ok-losses.losses in
    let p = err_from_is_err_and c.from_residual-in_err-cursed_wins.result c.from_residual-in_err-cursed_wins.ensures.1 in
    rw (p.1, p.2, four_steps field)
    (reads_then field (after_one field) (λ list. list.items) (λ lists. map (λ list. list.items) lists) wins (all _ _ _ _ _ _ c.in_ok-wins.ensures)
    (reads_then field (after_two field wins.items) (λ list. list.items) (λ lists. map (λ list. list.items) lists) losses (all _ _ _ _ _ _ c.in_ok-losses.ensures)
    (reads_stopped field (after_three field wins.items losses.items) (λ list. list.items) (λ lists. map (λ list. list.items) lists) c.in_err-cursed_wins.field-0.0 (all _ _ _ _ _ _ c.in_err-cursed_wins.ensures))))

pub returns-in_err-blessed_losses-clause-lists : goal.returns-in_err-blessed_losses-clause-lists
returns-in_err-blessed_losses-clause-lists g c = λ field all.
    let wins = c.in_ok-wins.wins in
    let losses = c.in_ok-losses.losses in
    let cursed_wins = c.in_ok-cursed_wins.cursed_wins in
    let p = err_from_is_err_and c.from_residual-in_err-blessed_losses.result c.from_residual-in_err-blessed_losses.ensures.1 in
    rw (p.1, p.2, four_steps field)
    (reads_then field (after_one field) (λ list. list.items) (λ lists. map (λ list. list.items) lists) wins (all _ _ _ _ _ _ c.in_ok-wins.ensures)
    (reads_then field (after_two field wins.items) (λ list. list.items) (λ lists. map (λ list. list.items) lists) losses (all _ _ _ _ _ _ c.in_ok-losses.ensures)
    (reads_then field (after_three field wins.items losses.items) (λ list. list.items) (λ lists. map (λ list. list.items) lists) cursed_wins (all _ _ _ _ _ _ c.in_ok-cursed_wins.ensures)
    (reads_stopped field (λ z. means (wins.items ∷ losses.items ∷ cursed_wins.items ∷ z ∷ [])) (λ list. list.items) (λ lists. map (λ list. list.items) lists) c.in_err-blessed_losses.field-0.0 (all _ _ _ _ _ _ c.in_err-blessed_losses.ensures)))))

pub returns-clause-lists : goal.returns-clause-lists
returns-clause-lists g c = λ field all.
    let wins = c.in_ok-wins.wins in
    let losses = c.in_ok-losses.losses in
    let cursed_wins = c.in_ok-cursed_wins.cursed_wins in
    let blessed_losses = c.in_ok-blessed_losses.blessed_losses in
    rw (four_steps field)
    (reads_then field (after_one field) (λ list. list.items) (λ lists. map (λ list. list.items) lists) wins (all _ _ _ _ _ _ c.in_ok-wins.ensures)
    (reads_then field (after_two field wins.items) (λ list. list.items) (λ lists. map (λ list. list.items) lists) losses (all _ _ _ _ _ _ c.in_ok-losses.ensures)
    (reads_then field (after_three field wins.items losses.items) (λ list. list.items) (λ lists. map (λ list. list.items) lists) cursed_wins (all _ _ _ _ _ _ c.in_ok-cursed_wins.ensures)
    (reads_then field (λ z. means (wins.items ∷ losses.items ∷ cursed_wins.items ∷ z ∷ [])) (λ list. list.items) (λ lists. map (λ list. list.items) lists) blessed_losses (all _ _ _ _ _ _ c.in_ok-blessed_losses.ensures)
    (reads_nothing (means (wins.items ∷ losses.items ∷ cursed_wins.items ∷ blessed_losses.items ∷ [])) (λ lists. map (λ list. list.items) lists) _ refl)))))
