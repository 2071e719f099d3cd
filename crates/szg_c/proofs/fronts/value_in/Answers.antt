use Rattle.std.proofs.Common.{◌∙◌, ap, inl, sym, refl}
use Rattle.std.specs.Prelude.{is_some}
use Rattle.szg_file.specs.Index.{Index, slot_in}
use Rattle.szg_c.specs.Places.{with_slot}
use Rattle.szg_c.proofs.FrontsStated.{bad_stays, below, fetch_not_done, fetch_status, missing, there}
use Rattle.szg_c.proofs.fronts.value_in.Goals as goal

pub get-requires : goal.get-requires
get-requires c = below (slot_in c.args.table.now.index c.args.spot.part c.args.spot.side) c.args.spot.index (sym c.if-not-has_index.false ∙ (c.has_index.ensures ∙ ap (λ (x : Index). is_some (with_slot (slot_in x c.args.spot.part c.args.spot.side) c.args.spot.index)) c.index.ensures))

pub returns-then-not-has_index-clause-statuses : goal.returns-then-not-has_index-clause-statuses
returns-then-not-has_index-clause-statuses c =
    missing _ _ (with_slot (slot_in c.args.table.now.index c.args.spot.part c.args.spot.side) c.args.spot.index) (sym c.if-not-has_index.true ∙ (c.has_index.ensures ∙ ap (λ (x : Index). is_some (with_slot (slot_in x c.args.spot.part c.args.spot.side) c.args.spot.index)) c.index.ensures)) refl

pub returns-then-not-has_index-clause-got : goal.returns-then-not-has_index-clause-got
returns-then-not-has_index-clause-got c = λ front.
    missing _ _ (with_slot (slot_in c.args.table.now.index c.args.spot.part c.args.spot.side) c.args.spot.index) (sym c.if-not-has_index.true ∙ (c.has_index.ensures ∙ ap (λ (x : Index). is_some (with_slot (slot_in x c.args.spot.part c.args.spot.side) c.args.spot.index)) c.index.ensures)) tt

pub returns-in-Ok-clause-statuses : goal.returns-in-Ok-clause-statuses
returns-in-Ok-clause-statuses c =
    there _ _ (with_slot (slot_in c.args.table.now.index c.args.spot.part c.args.spot.side) c.args.spot.index) (sym c.if-not-has_index.false ∙ (c.has_index.ensures ∙ ap (λ (x : Index). is_some (with_slot (slot_in x c.args.spot.part c.args.spot.side) c.args.spot.index)) c.index.ensures)) (λ slot. inl refl)

pub returns-in-Ok-clause-got : goal.returns-in-Ok-clause-got
returns-in-Ok-clause-got c = λ front.
    there _ _ (with_slot (slot_in c.args.table.now.index c.args.spot.part c.args.spot.side) c.args.spot.index) (sym c.if-not-has_index.false ∙ (c.has_index.ensures ∙ ap (λ (x : Index). is_some (with_slot (slot_in x c.args.spot.part c.args.spot.side) c.args.spot.index)) c.index.ensures))
    (λ slot. (λ e. c.in-Ok.ensures.value front, λ undone. absurd (undone refl)))

pub returns-in-Err-clause-statuses : goal.returns-in-Err-clause-statuses
returns-in-Err-clause-statuses c =
    there _ _ (with_slot (slot_in c.args.table.now.index c.args.spot.part c.args.spot.side) c.args.spot.index) (sym c.if-not-has_index.false ∙ (c.has_index.ensures ∙ ap (λ (x : Index). is_some (with_slot (slot_in x c.args.spot.part c.args.spot.side) c.args.spot.index)) c.index.ensures))
    (λ slot. fetch_status c.in-Err.fault c.args.bad.now c.fetch_status.new.bad c.fetch_status.result c.fetch_status.ensures)

pub returns-in-Err-clause-got : goal.returns-in-Err-clause-got
returns-in-Err-clause-got c = λ front.
    there _ _ (with_slot (slot_in c.args.table.now.index c.args.spot.part c.args.spot.side) c.args.spot.index) (sym c.if-not-has_index.false ∙ (c.has_index.ensures ∙ ap (λ (x : Index). is_some (with_slot (slot_in x c.args.spot.part c.args.spot.side) c.args.spot.index)) c.index.ensures))
    (λ slot. (λ e. absurd (fetch_not_done c.in-Err.fault c.args.bad.now c.fetch_status.new.bad c.fetch_status.result c.fetch_status.ensures e), λ undone. (c.in-Err.fault, c.fetch_status.ensures, c.in-Err.ensures.fault front)))

pub returns-in-Err-clause-bad_stays : goal.returns-in-Err-clause-bad_stays
returns-in-Err-clause-bad_stays c = bad_stays c.in-Err.fault c.args.bad.now c.fetch_status.new.bad c.fetch_status.result c.fetch_status.ensures
