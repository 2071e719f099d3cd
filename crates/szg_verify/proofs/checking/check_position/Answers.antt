use Rattle.std.proofs.Common.{sym, ap, ◌∙◌, Bool}
use Rattle.std.specs.Prelude.{Some, None, if◌then◌else◌}
use Rattle.szg_game.specs.Certified.{accepts}
use Rattle.szg_chess.specs.Moves.{is_check}
use Rattle.szg_probe.specs.Chess.{ply_limit}
use Rattle.szg_probe.specs.Probing.{StoredClasses}
use Rattle.szg_verify.specs.Entries.{StoredDistances, tables_of}
use Rattle.szg_verify.proofs.Checked.{all_steps, checked_with, checked_no_entry, checked_no_steps}
use Rattle.szg_verify.proofs.Broken.{no_number, no_number_after, broken_with}
use Rattle.szg_verify.proofs.checking.check_position.Goals as goal

pub returns-in-Ok-None-clause-checked : goal.returns-in-Ok-None-clause-checked
returns-in-Ok-None-clause-checked g c =
    checked_no_entry (tables_of (g.T.Tables.stored c.args.classes.now) (g.D.DtzTables.distances c.args.distances.now)) c.args.position.now (sym c.in-Ok-None.ensures.entry ∙ c.in-Ok-None.field-0-is)

pub returns-in-Ok-true-clause-checked : goal.returns-in-Ok-true-clause-checked
returns-in-Ok-true-clause-checked g c =
    let p = c.args.position.now in
    let classes = g.T.Tables.stored c.args.classes.now in
    let distances = g.D.DtzTables.distances c.args.distances.now in
    let steps = ap (λ (a : StoredClasses). all_steps (tables_of a distances) p) (sym c.plain_entry.ensures.same_classes)
    ∙ ap (λ (d : StoredDistances). all_steps (tables_of (g.T.Tables.stored c.plain_entry.new.classes) d) p) (sym c.plain_entry.ensures.same_distances)
    ∙ sym c.in-Ok-true.ensures.steps ∙ ap (λ (all : Bool). if all then Some c.all_steps.new.steps.items else None) c.in-Ok-true.field-0-test in
    c.broken_by.ensures.accepted
    ∙ ap (λ (b : Bool). accepts ply_limit c.in-Ok-Some.entry b c.as_slice.result.now) c.is_check.ensures
    ∙ ap (accepts ply_limit c.in-Ok-Some.entry (is_check p)) c.as_slice.ensures
    ∙ checked_with (tables_of classes distances) p c.in-Ok-Some.entry c.all_steps.new.steps.items (sym c.in-Ok-Some.ensures.entry ∙ c.in-Ok-Some.field-0-is) steps

pub returns-in-Ok-false-clause-checked : goal.returns-in-Ok-false-clause-checked
returns-in-Ok-false-clause-checked g c =
    let p = c.args.position.now in
    let classes = g.T.Tables.stored c.args.classes.now in
    let distances = g.D.DtzTables.distances c.args.distances.now in
    let steps = ap (λ (a : StoredClasses). all_steps (tables_of a distances) p) (sym c.plain_entry.ensures.same_classes)
    ∙ ap (λ (d : StoredDistances). all_steps (tables_of (g.T.Tables.stored c.plain_entry.new.classes) d) p) (sym c.plain_entry.ensures.same_distances)
    ∙ sym c.in-Ok-false.ensures.steps ∙ ap (λ (all : Bool). if all then Some c.all_steps.new.steps.items else None) c.in-Ok-false.field-0-test in
    checked_no_steps (tables_of classes distances) p c.in-Ok-Some.entry (sym c.in-Ok-Some.ensures.entry ∙ c.in-Ok-Some.field-0-is) steps

pub returns-in-Ok-None-clause-broken : goal.returns-in-Ok-None-clause-broken
returns-in-Ok-None-clause-broken g c =
    no_number (tables_of (g.T.Tables.stored c.args.classes.now) (g.D.DtzTables.distances c.args.distances.now)) c.args.position.now (sym c.in-Ok-None.ensures.entry ∙ c.in-Ok-None.field-0-is)

pub returns-in-Ok-false-clause-broken : goal.returns-in-Ok-false-clause-broken
returns-in-Ok-false-clause-broken g c =
    let p = c.args.position.now in
    let classes = g.T.Tables.stored c.args.classes.now in
    let distances = g.D.DtzTables.distances c.args.distances.now in
    let steps = ap (λ (a : StoredClasses). all_steps (tables_of a distances) p) (sym c.plain_entry.ensures.same_classes)
    ∙ ap (λ (d : StoredDistances). all_steps (tables_of (g.T.Tables.stored c.plain_entry.new.classes) d) p) (sym c.plain_entry.ensures.same_distances)
    ∙ sym c.in-Ok-false.ensures.steps ∙ ap (λ (all : Bool). if all then Some c.all_steps.new.steps.items else None) c.in-Ok-false.field-0-test in
    no_number_after (tables_of classes distances) p c.in-Ok-Some.entry (sym c.in-Ok-Some.ensures.entry ∙ c.in-Ok-Some.field-0-is) steps

pub returns-in-Ok-true-clause-broken : goal.returns-in-Ok-true-clause-broken
returns-in-Ok-true-clause-broken g c =
    let p = c.args.position.now in
    let classes = g.T.Tables.stored c.args.classes.now in
    let distances = g.D.DtzTables.distances c.args.distances.now in
    let steps = ap (λ (a : StoredClasses). all_steps (tables_of a distances) p) (sym c.plain_entry.ensures.same_classes)
    ∙ ap (λ (d : StoredDistances). all_steps (tables_of (g.T.Tables.stored c.plain_entry.new.classes) d) p) (sym c.plain_entry.ensures.same_distances)
    ∙ sym c.in-Ok-true.ensures.steps ∙ ap (λ (all : Bool). if all then Some c.all_steps.new.steps.items else None) c.in-Ok-true.field-0-test in
    broken_with (tables_of classes distances) p c.in-Ok-Some.entry c.all_steps.new.steps.items c.as_slice.result.now c.is_check.result c.broken_by.result
    (sym c.in-Ok-Some.ensures.entry ∙ c.in-Ok-Some.field-0-is) steps c.is_check.ensures c.as_slice.ensures c.broken_by.ensures.broken
