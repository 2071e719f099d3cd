use Rattle.std.proofs.Common.{◌≡◌, List, refl, subst}
use Rattle.std.specs.Prelude.{IfSome, None, Some, option_and_then, slice_get}
use Rattle.szg_values.specs.Placement.{material_of}
use Rattle.szg_values.specs.declared.Kind.TheVariants.{Wdl}
use Rattle.szg_tables.specs.Opened.{IsReasonIn, class_in, opened_classes, opened_numbers}
use Rattle.szg_tables.specs.Stored.{board_of}
use Rattle.szg_tables.specs.declared.MissingReason.TheVariants.{Table}
use Rattle.szg_tables.proofs.OpenedSets.{class_by, reason_at, reason_nowhere}
use Rattle.szg_tables.proofs.Stored.{is_missing, placed_is}
use Rattle.szg_tables.proofs.opened.OpenedSetTables.class.Goals as goal

pub returns-in-None-clause-fault : goal.returns-in-None-clause-fault
returns-in-None-clause-fault g c =
    let men = c.args.position.now.placed_men in
    let mover = c.args.position.now.mover in
    let board = c.in-Some.men in
    let is = placed_is men mover c.placed_men.result board c.placed_men.ensures.placed c.requires c.in-Some.is in
    is_missing Wdl c.missing.result Table (opened_classes g.T.OpenTable.opened c.args.self.now) (opened_numbers g.T.OpenTable.opened c.args.self.now) men mover (board_of men mover) refl c.missing.ensures
    (class_by g.T.OpenTable.opened c.args.self.now men mover board is None None c.in-None.ensures.none refl)

pub returns-in-Err-clause-fault : goal.returns-in-Err-clause-fault
returns-in-Err-clause-fault g c =
    let men = c.args.position.now.placed_men in
    let mover = c.args.position.now.mover in
    let board = c.in-Some.men in
    let is = placed_is men mover c.placed_men.result board c.placed_men.ensures.placed c.requires c.in-Some.is in
    is_missing Wdl c.missing-in-Err.result c.in-Err.reason (opened_classes g.T.OpenTable.opened c.args.self.now) (opened_numbers g.T.OpenTable.opened c.args.self.now) men mover (board_of men mover) refl c.missing-in-Err.ensures
    (class_by g.T.OpenTable.opened c.args.self.now men mover board is _ _ c.in-Some-find.ensures.found (subst (λ (tables : List _). option_and_then (λ t. class_in board (g.T.OpenTable.opened t)) (slice_get tables c.in-Some-find.n) ≡ None) c.find.ensures.same c.in-Err.ensures.none))

pub returns-in-Ok-clause-class : goal.returns-in-Ok-clause-class
returns-in-Ok-clause-class g c =
    let men = c.args.position.now.placed_men in
    let mover = c.args.position.now.mover in
    let board = c.in-Some.men in
    let is = placed_is men mover c.placed_men.result board c.placed_men.ensures.placed c.requires c.in-Some.is in
    class_by g.T.OpenTable.opened c.args.self.now men mover board is _ _ c.in-Some-find.ensures.found (subst (λ (tables : List _). option_and_then (λ t. class_in board (g.T.OpenTable.opened t)) (slice_get tables c.in-Some-find.n) ≡ Some c.in-Ok.class) c.find.ensures.same c.in-Ok.ensures.class)

pub returns-in-None-clause-reason : goal.returns-in-None-clause-reason
returns-in-None-clause-reason g c =
    let men = c.args.position.now.placed_men in
    let mover = c.args.position.now.mover in
    let board = c.in-Some.men in
    let is = placed_is men mover c.placed_men.result board c.placed_men.ensures.placed c.requires c.in-Some.is in
    reason_nowhere g.T.OpenTable.opened g.T.OpenTable.explains Wdl c.args.self.now men mover board is c.missing.result (material_of men) c.missing.ensures c.in-None.ensures.none

pub returns-in-Err-clause-reason : goal.returns-in-Err-clause-reason
returns-in-Err-clause-reason g c =
    let men = c.args.position.now.placed_men in
    let mover = c.args.position.now.mover in
    let board = c.in-Some.men in
    let is = placed_is men mover c.placed_men.result board c.placed_men.ensures.placed c.requires c.in-Some.is in
    reason_at g.T.OpenTable.opened g.T.OpenTable.explains Wdl c.args.self.now men mover board is c.missing-in-Err.result (material_of men) c.in-Some-find.n c.in-Err.reason c.missing-in-Err.ensures c.in-Some-find.ensures.found c.in-Some-find.ensures.kind
    (subst (λ (tables : List _). IfSome (slice_get tables c.in-Some-find.n) (λ t. IsReasonIn (g.T.OpenTable.explains t) board (g.T.OpenTable.opened t) c.in-Err.reason)) c.find.ensures.same c.in-Err.ensures.reason)
