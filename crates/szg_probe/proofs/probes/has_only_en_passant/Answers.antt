use Rattle.std.proofs.Common.{◌≡◌, ◌∙◌, ap, refl, sym, Bool, true, false, Option, ℕ}
use Rattle.std.specs.Prelude.{is_some, not, ◌||◌}
use Rattle.szg_chess.specs.Moves.{has_no_move, has_move_beside_en_passant}
use Rattle.szg_probe.proofs.Search.{only_none}
use Rattle.szg_probe.proofs.probes.has_only_en_passant.Goals as goal

pub returns-then-is_none : goal.returns-then-is_none
returns-then-is_none c =
    let same = ap (λ (o : Option ℕ). is_some o) c.en_passant.ensures in
    sym (only_none c.args.position.now (sym same ∙ c.is_none.ensures ∙ ap not c.if-is_none.true))

-- no move, and so none beside
without : (none beside : Bool) → not none ≡ false → not none ≡ not (none || beside)
without true beside h = refl
without false beside h = absurd cc

pub returns-else-has_move : goal.returns-else-has_move
returns-else-has_move c =
    let p = c.args.position.now in
    c.has_move.ensures ∙ without (has_no_move p) (has_move_beside_en_passant p) (sym c.has_move.ensures ∙ c.if-has_move.false)
