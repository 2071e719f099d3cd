use Rattle.std.proofs.Common.{◌+◌, [], ◌∷◌, map, refl, arith}
use Rattle.std.proofs.lemmas.Result.{err_from_is_err_and}
use Rattle.szg_build.specs.Grammar.{map_list}
use Rattle.szg_build.proofs.Readers.GoingLaws.{each_begun, each_more, each_stopped, each_ended}
use Rattle.szg_build.proofs.Readers.LackLaws.{lacks_each}
use Rattle.szg_build.proofs.Readers.LeastLaws.{asks_map_list}
use Rattle.szg_build.proofs.Readers.ReadingLaws.{same_error}
use Rattle.szg_build.proofs.reading.read_lists.Goals as goal

pub returns-in_err-wins-clause-lines : goal.returns-in_err-wins-clause-lines
returns-in_err-wins-clause-lines g c =
    let p = err_from_is_err_and c.from_residual.result c.from_residual.ensures.1 in
    rw (p.1, p.2) (each_stopped (map_list g.T.Item.GREATEST) [] 0 4 3 (λ list. map g.T.Item.number list.items) (λ lists. map (λ list. map g.T.Item.number list.items) lists) c.in_err-wins.field-0.0 refl
    (each_begun (map_list g.T.Item.GREATEST) [] 4 4 refl refl) c.in_err-wins.ensures.lines)

pub returns-in_err-losses-clause-lines : goal.returns-in_err-losses-clause-lines
returns-in_err-losses-clause-lines g c =
    let p = err_from_is_err_and c.from_residual-in_err-losses.result c.from_residual-in_err-losses.ensures.1 in
    rw (p.1, p.2) (each_stopped (map_list g.T.Item.GREATEST) (map g.T.Item.number c.in_ok-wins.wins.items ∷ []) 1 3 2 (λ list. map g.T.Item.number list.items) (λ lists. map (λ list. map g.T.Item.number list.items) lists) c.in_err-losses.field-0.0 refl
    (each_more (map_list g.T.Item.GREATEST) [] (map g.T.Item.number c.in_ok-wins.wins.items ∷ []) 0 1 4 3 (λ list. map g.T.Item.number list.items) c.in_ok-wins.wins refl refl refl
    (each_begun (map_list g.T.Item.GREATEST) [] 4 4 refl refl) c.in_ok-wins.ensures.lines) c.in_err-losses.ensures.lines)

pub returns-in_err-cursed_wins-clause-lines : goal.returns-in_err-cursed_wins-clause-lines
returns-in_err-cursed_wins-clause-lines g c =
    let p = err_from_is_err_and c.from_residual-in_err-cursed_wins.result c.from_residual-in_err-cursed_wins.ensures.1 in
    rw (p.1, p.2) (each_stopped (map_list g.T.Item.GREATEST) (map g.T.Item.number c.in_ok-wins.wins.items ∷ map g.T.Item.number c.in_ok-losses.losses.items ∷ []) 2 2 1 (λ list. map g.T.Item.number list.items) (λ lists. map (λ list. map g.T.Item.number list.items) lists) c.in_err-cursed_wins.field-0.0 refl
    (each_more (map_list g.T.Item.GREATEST) (map g.T.Item.number c.in_ok-wins.wins.items ∷ []) (map g.T.Item.number c.in_ok-wins.wins.items ∷ map g.T.Item.number c.in_ok-losses.losses.items ∷ []) 1 2 3 2 (λ list. map g.T.Item.number list.items) c.in_ok-losses.losses refl refl refl
    (each_more (map_list g.T.Item.GREATEST) [] (map g.T.Item.number c.in_ok-wins.wins.items ∷ []) 0 1 4 3 (λ list. map g.T.Item.number list.items) c.in_ok-wins.wins refl refl refl
    (each_begun (map_list g.T.Item.GREATEST) [] 4 4 refl refl) c.in_ok-wins.ensures.lines) c.in_ok-losses.ensures.lines) c.in_err-cursed_wins.ensures.lines)

pub returns-in_err-blessed_losses-clause-lines : goal.returns-in_err-blessed_losses-clause-lines
returns-in_err-blessed_losses-clause-lines g c =
    let p = err_from_is_err_and c.from_residual-in_err-blessed_losses.result c.from_residual-in_err-blessed_losses.ensures.1 in
    rw (p.1, p.2) (each_stopped (map_list g.T.Item.GREATEST) (map g.T.Item.number c.in_ok-wins.wins.items ∷ map g.T.Item.number c.in_ok-losses.losses.items ∷ map g.T.Item.number c.in_ok-cursed_wins.cursed_wins.items ∷ []) 3 1 0 (λ list. map g.T.Item.number list.items) (λ lists. map (λ list. map g.T.Item.number list.items) lists) c.in_err-blessed_losses.field-0.0 refl
    (each_more (map_list g.T.Item.GREATEST) (map g.T.Item.number c.in_ok-wins.wins.items ∷ map g.T.Item.number c.in_ok-losses.losses.items ∷ []) (map g.T.Item.number c.in_ok-wins.wins.items ∷ map g.T.Item.number c.in_ok-losses.losses.items ∷ map g.T.Item.number c.in_ok-cursed_wins.cursed_wins.items ∷ []) 2 3 2 1 (λ list. map g.T.Item.number list.items) c.in_ok-cursed_wins.cursed_wins refl refl refl
    (each_more (map_list g.T.Item.GREATEST) (map g.T.Item.number c.in_ok-wins.wins.items ∷ []) (map g.T.Item.number c.in_ok-wins.wins.items ∷ map g.T.Item.number c.in_ok-losses.losses.items ∷ []) 1 2 3 2 (λ list. map g.T.Item.number list.items) c.in_ok-losses.losses refl refl refl
    (each_more (map_list g.T.Item.GREATEST) [] (map g.T.Item.number c.in_ok-wins.wins.items ∷ []) 0 1 4 3 (λ list. map g.T.Item.number list.items) c.in_ok-wins.wins refl refl refl
    (each_begun (map_list g.T.Item.GREATEST) [] 4 4 refl refl) c.in_ok-wins.ensures.lines) c.in_ok-losses.ensures.lines) c.in_ok-cursed_wins.ensures.lines) c.in_err-blessed_losses.ensures.lines)

pub returns-clause-lines : goal.returns-clause-lines
returns-clause-lines g c =
    each_ended (map_list g.T.Item.GREATEST) (map g.T.Item.number c.in_ok-wins.wins.items ∷ map g.T.Item.number c.in_ok-losses.losses.items ∷ map g.T.Item.number c.in_ok-cursed_wins.cursed_wins.items ∷ map g.T.Item.number c.in_ok-blessed_losses.blessed_losses.items ∷ []) 4 0 (λ lists. map (λ list. map g.T.Item.number list.items) lists) (c.in_ok-wins.wins ∷ c.in_ok-losses.losses ∷ c.in_ok-cursed_wins.cursed_wins ∷ c.in_ok-blessed_losses.blessed_losses ∷ []) refl refl
    (each_more (map_list g.T.Item.GREATEST) (map g.T.Item.number c.in_ok-wins.wins.items ∷ map g.T.Item.number c.in_ok-losses.losses.items ∷ map g.T.Item.number c.in_ok-cursed_wins.cursed_wins.items ∷ []) (map g.T.Item.number c.in_ok-wins.wins.items ∷ map g.T.Item.number c.in_ok-losses.losses.items ∷ map g.T.Item.number c.in_ok-cursed_wins.cursed_wins.items ∷ map g.T.Item.number c.in_ok-blessed_losses.blessed_losses.items ∷ []) 3 4 1 0 (λ list. map g.T.Item.number list.items) c.in_ok-blessed_losses.blessed_losses refl refl refl
    (each_more (map_list g.T.Item.GREATEST) (map g.T.Item.number c.in_ok-wins.wins.items ∷ map g.T.Item.number c.in_ok-losses.losses.items ∷ []) (map g.T.Item.number c.in_ok-wins.wins.items ∷ map g.T.Item.number c.in_ok-losses.losses.items ∷ map g.T.Item.number c.in_ok-cursed_wins.cursed_wins.items ∷ []) 2 3 2 1 (λ list. map g.T.Item.number list.items) c.in_ok-cursed_wins.cursed_wins refl refl refl
    (each_more (map_list g.T.Item.GREATEST) (map g.T.Item.number c.in_ok-wins.wins.items ∷ []) (map g.T.Item.number c.in_ok-wins.wins.items ∷ map g.T.Item.number c.in_ok-losses.losses.items ∷ []) 1 2 3 2 (λ list. map g.T.Item.number list.items) c.in_ok-losses.losses refl refl refl
    (each_more (map_list g.T.Item.GREATEST) [] (map g.T.Item.number c.in_ok-wins.wins.items ∷ []) 0 1 4 3 (λ list. map g.T.Item.number list.items) c.in_ok-wins.wins refl refl refl
    (each_begun (map_list g.T.Item.GREATEST) [] 4 4 refl refl) c.in_ok-wins.ensures.lines) c.in_ok-losses.ensures.lines) c.in_ok-cursed_wins.ensures.lines) c.in_ok-blessed_losses.ensures.lines)

pub returns-in_err-wins-clause-memory : goal.returns-in_err-wins-clause-memory
returns-in_err-wins-clause-memory g c =
    let p = err_from_is_err_and c.from_residual.result c.from_residual.ensures.1 in
    rw (p.1, p.2) (λ e. lacks_each (map_list g.T.Item.GREATEST) [] 0 4 3 (c.args.following + 3) c.args.following refl (omega arith) (λ j. asks_map_list g.T.Item.GREATEST j)
    (each_begun (map_list g.T.Item.GREATEST) [] 4 4 refl refl) (c.in_err-wins.ensures.memory (same_error e)))

pub returns-in_err-losses-clause-memory : goal.returns-in_err-losses-clause-memory
returns-in_err-losses-clause-memory g c =
    let p = err_from_is_err_and c.from_residual-in_err-losses.result c.from_residual-in_err-losses.ensures.1 in
    rw (p.1, p.2) (λ e. lacks_each (map_list g.T.Item.GREATEST) (map g.T.Item.number c.in_ok-wins.wins.items ∷ []) 1 3 2 (c.args.following + 2) c.args.following refl (omega arith) (λ j. asks_map_list g.T.Item.GREATEST j)
    (each_more (map_list g.T.Item.GREATEST) [] (map g.T.Item.number c.in_ok-wins.wins.items ∷ []) 0 1 4 3 (λ list. map g.T.Item.number list.items) c.in_ok-wins.wins refl refl refl
    (each_begun (map_list g.T.Item.GREATEST) [] 4 4 refl refl) c.in_ok-wins.ensures.lines) (c.in_err-losses.ensures.memory (same_error e)))

pub returns-in_err-cursed_wins-clause-memory : goal.returns-in_err-cursed_wins-clause-memory
returns-in_err-cursed_wins-clause-memory g c =
    let p = err_from_is_err_and c.from_residual-in_err-cursed_wins.result c.from_residual-in_err-cursed_wins.ensures.1 in
    rw (p.1, p.2) (λ e. lacks_each (map_list g.T.Item.GREATEST) (map g.T.Item.number c.in_ok-wins.wins.items ∷ map g.T.Item.number c.in_ok-losses.losses.items ∷ []) 2 2 1 (c.args.following + 1) c.args.following refl (omega arith) (λ j. asks_map_list g.T.Item.GREATEST j)
    (each_more (map_list g.T.Item.GREATEST) (map g.T.Item.number c.in_ok-wins.wins.items ∷ []) (map g.T.Item.number c.in_ok-wins.wins.items ∷ map g.T.Item.number c.in_ok-losses.losses.items ∷ []) 1 2 3 2 (λ list. map g.T.Item.number list.items) c.in_ok-losses.losses refl refl refl
    (each_more (map_list g.T.Item.GREATEST) [] (map g.T.Item.number c.in_ok-wins.wins.items ∷ []) 0 1 4 3 (λ list. map g.T.Item.number list.items) c.in_ok-wins.wins refl refl refl
    (each_begun (map_list g.T.Item.GREATEST) [] 4 4 refl refl) c.in_ok-wins.ensures.lines) c.in_ok-losses.ensures.lines) (c.in_err-cursed_wins.ensures.memory (same_error e)))

pub returns-in_err-blessed_losses-clause-memory : goal.returns-in_err-blessed_losses-clause-memory
returns-in_err-blessed_losses-clause-memory g c =
    let p = err_from_is_err_and c.from_residual-in_err-blessed_losses.result c.from_residual-in_err-blessed_losses.ensures.1 in
    rw (p.1, p.2) (λ e. lacks_each (map_list g.T.Item.GREATEST) (map g.T.Item.number c.in_ok-wins.wins.items ∷ map g.T.Item.number c.in_ok-losses.losses.items ∷ map g.T.Item.number c.in_ok-cursed_wins.cursed_wins.items ∷ []) 3 1 0 c.args.following c.args.following refl (omega arith) (λ j. asks_map_list g.T.Item.GREATEST j)
    (each_more (map_list g.T.Item.GREATEST) (map g.T.Item.number c.in_ok-wins.wins.items ∷ map g.T.Item.number c.in_ok-losses.losses.items ∷ []) (map g.T.Item.number c.in_ok-wins.wins.items ∷ map g.T.Item.number c.in_ok-losses.losses.items ∷ map g.T.Item.number c.in_ok-cursed_wins.cursed_wins.items ∷ []) 2 3 2 1 (λ list. map g.T.Item.number list.items) c.in_ok-cursed_wins.cursed_wins refl refl refl
    (each_more (map_list g.T.Item.GREATEST) (map g.T.Item.number c.in_ok-wins.wins.items ∷ []) (map g.T.Item.number c.in_ok-wins.wins.items ∷ map g.T.Item.number c.in_ok-losses.losses.items ∷ []) 1 2 3 2 (λ list. map g.T.Item.number list.items) c.in_ok-losses.losses refl refl refl
    (each_more (map_list g.T.Item.GREATEST) [] (map g.T.Item.number c.in_ok-wins.wins.items ∷ []) 0 1 4 3 (λ list. map g.T.Item.number list.items) c.in_ok-wins.wins refl refl refl
    (each_begun (map_list g.T.Item.GREATEST) [] 4 4 refl refl) c.in_ok-wins.ensures.lines) c.in_ok-losses.ensures.lines) c.in_ok-cursed_wins.ensures.lines) (c.in_err-blessed_losses.ensures.memory (same_error e)))
