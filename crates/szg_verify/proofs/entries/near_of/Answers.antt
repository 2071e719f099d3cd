use Rattle.std.proofs.Common.{◌≡◌, refl, sym, ap, ◌∙◌, false, Some, None}
use Rattle.std.specs.Prelude.{◌||◌}
use Rattle.szg_game.specs.declared.Class.{Class}
use Rattle.szg_chess.specs.Position.{Position}
use Rattle.szg_chess.specs.Moves.{has_no_move}
use Rattle.szg_game.specs.declared.Entry.{Entry}
use Rattle.szg_verify.specs.Entries.{is_drawn}
use Rattle.szg_verify.proofs.Near.{near_ended, near_one_ply, near_stored}
use Rattle.szg_verify.proofs.entries.near_of.Goals as goal

-- neither a draw nor without a move
going_on : (k : Class) (p : Position) → is_drawn k ≡ false → has_no_move p ≡ false → (is_drawn k || has_no_move p) ≡ false
going_on k p drawn ended = rw (drawn, ended) refl

pub returns-then-is_drawn-clause-entry : goal.returns-then-is_drawn-clause-entry
returns-then-is_drawn-clause-entry g c =
    let drawn = sym c.is_drawn.ensures ∙ c.if-is_drawn.true in
    near_ended (g.T.Tables.stored c.args.classes.now) (g.D.DtzTables.distances c.args.distances.now) c.args.position.now c.args.class c.requires.class (rw drawn refl)

pub returns-then-is_ended-clause-entry : goal.returns-then-is_ended-clause-entry
returns-then-is_ended-clause-entry g c =
    let drawn = sym c.is_drawn.ensures ∙ c.if-is_drawn.false in
    let ended = sym c.is_ended.ensures ∙ c.if-is_ended.true in
    near_ended (g.T.Tables.stored c.args.classes.now) (g.D.DtzTables.distances c.args.distances.now) c.args.position.now c.args.class c.requires.class (rw (drawn, ended) refl)

pub returns-then-one_ply-clause-entry : goal.returns-then-one_ply-clause-entry
returns-then-one_ply-clause-entry g c =
    let p = c.args.position.now in
    near_one_ply (g.T.Tables.stored c.args.classes.now) (g.D.DtzTables.distances c.args.distances.now) p c.args.class c.requires.class (going_on c.args.class p (sym c.is_drawn.ensures ∙ c.if-is_drawn.false) (sym c.is_ended.ensures ∙ c.if-is_ended.false))
    (sym c.in-Ok.ensures.test ∙ c.if-one_ply.true)

pub returns-in-Ok-Some-clause-entry : goal.returns-in-Ok-Some-clause-entry
returns-in-Ok-Some-clause-entry g c =
    let p = c.args.position.now in
    ap (λ (e : Entry). Some e) c.entry_by_distance.ensures
    ∙ near_stored (g.T.Tables.stored c.args.classes.now) (g.D.DtzTables.distances c.args.distances.now) p c.args.class c.requires.class (going_on c.args.class p (sym c.is_drawn.ensures ∙ c.if-is_drawn.false) (sym c.is_ended.ensures ∙ c.if-is_ended.false))
    (sym c.in-Ok.ensures.test ∙ c.if-one_ply.false) (Some c.in-Ok-Some.distance) (c.in-Ok-Some.ensures.distance ∙ c.in-Ok-Some.field-0-is)

pub returns-in-Ok-None-clause-entry : goal.returns-in-Ok-None-clause-entry
returns-in-Ok-None-clause-entry g c =
    let p = c.args.position.now in
    near_stored (g.T.Tables.stored c.args.classes.now) (g.D.DtzTables.distances c.args.distances.now) p c.args.class c.requires.class (going_on c.args.class p (sym c.is_drawn.ensures ∙ c.if-is_drawn.false) (sym c.is_ended.ensures ∙ c.if-is_ended.false))
    (sym c.in-Ok.ensures.test ∙ c.if-one_ply.false) None (c.in-Ok-None.ensures.distance ∙ c.in-Ok-None.field-0-is)
