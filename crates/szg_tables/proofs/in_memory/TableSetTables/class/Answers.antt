use Rattle.std.proofs.Common.{◌∙◌, ap}
use Rattle.szg_values.specs.Placement.{Board, material_of}
use Rattle.szg_values.specs.declared.Kind.TheVariants.{Wdl}
use Rattle.szg_tables.specs.Stored.{stored_classes, stored_numbers}
use Rattle.szg_tables.proofs.Stored.{placed_is, class_by, no_class, is_missing, missing_at, missing_by}
use Rattle.szg_tables.proofs.in_memory.TableSetTables.class.Goals as goal

pub returns-in-Err-clause-fault : goal.returns-in-Err-clause-fault
returns-in-Err-clause-fault c =
    let men = c.args.position.now.placed_men in
    let mover = c.args.position.now.mover in
    let tables = c.args.self.now in
    let board = c.in-Some.placement in
    let is = placed_is men mover c.placement.result board c.placement.ensures.placed c.requires c.in-Some.is in
    is_missing Wdl c.in-Err.missing _ (stored_classes tables) (stored_numbers tables) men mover board is c.in-Err.ensures.missing (no_class tables men mover board is c.in-Err.ensures.none)

pub returns-in-Ok-class_in-clause-class : goal.returns-in-Ok-class_in-clause-class
returns-in-Ok-class_in-clause-class c =
    let men = c.args.position.now.placed_men in
    let mover = c.args.position.now.mover in
    let tables = c.args.self.now in
    let board = c.in-Some.placement in
    let is = placed_is men mover c.placement.result board c.placement.ensures.placed c.requires c.in-Some.is in
    class_by tables men mover board is c.in-Ok.table _ c.in-Ok.ensures.found c.in-Ok-class_in.ensures.class

pub returns-in-Err-class_in-clause-fault : goal.returns-in-Err-class_in-clause-fault
returns-in-Err-class_in-clause-fault c =
    let men = c.args.position.now.placed_men in
    let mover = c.args.position.now.mover in
    let tables = c.args.self.now in
    let board = c.in-Some.placement in
    let is = placed_is men mover c.placement.result board c.placement.ensures.placed c.requires c.in-Some.is in
    (c.material.ensures ∙ ap (λ (b : Board). material_of b.placed_men) is, class_by tables men mover board is c.in-Ok.table _ c.in-Ok.ensures.found c.in-Err-class_in.ensures.none)

pub returns-in-Err-clause-missing : goal.returns-in-Err-clause-missing
returns-in-Err-clause-missing c =
    let men = c.args.position.now.placed_men in
    let mover = c.args.position.now.mover in
    let board = c.in-Some.placement in
    let is = placed_is men mover c.placement.result board c.placement.ensures.placed c.requires c.in-Some.is in
    missing_at Wdl c.args.self.now men mover board is c.in-Err.missing c.in-Err.ensures.missing

pub returns-in-Err-class_in-clause-missing : goal.returns-in-Err-class_in-clause-missing
returns-in-Err-class_in-clause-missing c =
    let men = c.args.position.now.placed_men in
    let mover = c.args.position.now.mover in
    let board = c.in-Some.placement in
    let is = placed_is men mover c.placement.result board c.placement.ensures.placed c.requires c.in-Some.is in
    missing_by Wdl c.args.self.now men mover board is c.in-Ok.table c.material.result _ c.material.ensures c.in-Ok.ensures.found c.in-Err-class_in.ensures.reason
