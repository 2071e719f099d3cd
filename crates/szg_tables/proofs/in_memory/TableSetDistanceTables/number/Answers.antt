use Rattle.std.proofs.Common.{sym, ap, ◌∙◌, Option, Some, option_map}
use Rattle.szg_values.specs.Placement.{Board, material_of}
use Rattle.szg_values.specs.declared.Kind.TheVariants.{Dtz}
use Rattle.szg_tables.specs.Stored.{stored_classes, stored_numbers}
use Rattle.szg_tables.specs.declared.in_memory.StoredNumber.{StoredNumber}
use Rattle.szg_tables.proofs.Stored.{placed_is, number_by_table, no_number, is_missing, missing_at, missing_by}
use Rattle.szg_tables.proofs.in_memory.TableSetDistanceTables.number.Goals as goal

pub returns-in-Err-clause-fault : goal.returns-in-Err-clause-fault
returns-in-Err-clause-fault c =
    let men = c.args.position.now.placed_men in
    let mover = c.args.position.now.mover in
    let tables = c.args.self.now in
    let board = c.in-Some.placement in
    let is = placed_is men mover c.placement.result board c.placement.ensures.placed c.requires c.in-Some.is in
    is_missing Dtz c.in-Err.missing _ (stored_classes tables) (stored_numbers tables) men mover board is c.in-Err.ensures.missing (c.args.class, no_number tables men mover board is c.args.class c.in-Err.ensures.none)

pub returns-in-Ok-Some-clause-number : goal.returns-in-Ok-Some-clause-number
returns-in-Ok-Some-clause-number c =
    let men = c.args.position.now.placed_men in
    let mover = c.args.position.now.mover in
    let tables = c.args.self.now in
    let board = c.in-Some.placement in
    let is = placed_is men mover c.placement.result board c.placement.ensures.placed c.requires c.in-Some.is in
    number_by_table tables men mover board is c.args.class c.in-Ok.table _ c.in-Ok.ensures.found
    (c.in-Ok-Some.ensures.number ∙ ap (λ (o : Option StoredNumber). Some (option_map (λ n. n.plies) o)) c.in-Ok-Some.field-0-is)
    ∙ sym (ap (λ (n : StoredNumber). Some (Some n.plies)) c.in-Ok-Some.number-is)

pub returns-in-Ok-None-clause-number : goal.returns-in-Ok-None-clause-number
returns-in-Ok-None-clause-number c =
    let men = c.args.position.now.placed_men in
    let mover = c.args.position.now.mover in
    let tables = c.args.self.now in
    let board = c.in-Some.placement in
    let is = placed_is men mover c.placement.result board c.placement.ensures.placed c.requires c.in-Some.is in
    number_by_table tables men mover board is c.args.class c.in-Ok.table _ c.in-Ok.ensures.found
    (c.in-Ok-None.ensures.number ∙ ap (λ (o : Option StoredNumber). Some (option_map (λ n. n.plies) o)) c.in-Ok-None.field-0-is)

pub returns-in-Err-number_in-clause-fault : goal.returns-in-Err-number_in-clause-fault
returns-in-Err-number_in-clause-fault c =
    let men = c.args.position.now.placed_men in
    let mover = c.args.position.now.mover in
    let tables = c.args.self.now in
    let board = c.in-Some.placement in
    let is = placed_is men mover c.placement.result board c.placement.ensures.placed c.requires c.in-Some.is in
    (c.material.ensures ∙ ap (λ (b : Board). material_of b.placed_men) is, (c.args.class, number_by_table tables men mover board is c.args.class c.in-Ok.table _ c.in-Ok.ensures.found c.in-Err-number_in.ensures.none))

pub returns-in-Err-clause-missing : goal.returns-in-Err-clause-missing
returns-in-Err-clause-missing c =
    let men = c.args.position.now.placed_men in
    let mover = c.args.position.now.mover in
    let board = c.in-Some.placement in
    let is = placed_is men mover c.placement.result board c.placement.ensures.placed c.requires c.in-Some.is in
    missing_at Dtz c.args.self.now men mover board is c.in-Err.missing c.in-Err.ensures.missing

pub returns-in-Err-number_in-clause-missing : goal.returns-in-Err-number_in-clause-missing
returns-in-Err-number_in-clause-missing c =
    let men = c.args.position.now.placed_men in
    let mover = c.args.position.now.mover in
    let board = c.in-Some.placement in
    let is = placed_is men mover c.placement.result board c.placement.ensures.placed c.requires c.in-Some.is in
    missing_by Dtz c.args.self.now men mover board is c.in-Ok.table c.material.result _ c.material.ensures c.in-Ok.ensures.found c.in-Err-number_in.ensures.reason
