use Rattle.std.proofs.Common.{◌∙◌, ap, Ok, Err, inl, sym, refl}
use Rattle.std.specs.Prelude.{is_some}
use Rattle.szg_file.specs.Index.{Index, slot_in}
use Rattle.szg_file.specs.Unread.{front_at}
use Rattle.szg_file.proofs.Openings.LocatedLaws.{fault_of, length_of, spelled_of, value_of}
use Rattle.szg_c.specs.Places.{with_slot}
use Rattle.szg_c.proofs.FrontBlocks.{changed_of_fault, fault_of_changed, length_stated, under}
use Rattle.szg_c.proofs.FrontsStated.{bad_stays, below, fetch_not_done, fetch_status, missing, there}
use Rattle.szg_c.proofs.front_blocks.value_of.Goals as goal

pub locate-requires : goal.locate-requires
locate-requires c = below (slot_in c.args.table.now.index c.args.spot.part c.args.spot.side) c.args.spot.index (sym c.if-not-has_index.false ∙ (c.has_index.ensures ∙ ap (λ (x : Index). is_some (with_slot (slot_in x c.args.spot.part c.args.spot.side) c.args.spot.index)) c.index.ensures))

-- ---- no such index

pub returns-then-not-has_index-clause-statuses : goal.returns-then-not-has_index-clause-statuses
returns-then-not-has_index-clause-statuses c =
    missing _ _ (with_slot (slot_in c.args.table.now.index c.args.spot.part c.args.spot.side) c.args.spot.index) (sym c.if-not-has_index.true ∙ (c.has_index.ensures ∙ ap (λ (x : Index). is_some (with_slot (slot_in x c.args.spot.part c.args.spot.side) c.args.spot.index)) c.index.ensures)) refl

pub returns-then-not-has_index-clause-length : goal.returns-then-not-has_index-clause-length
returns-then-not-has_index-clause-length c = λ content front.
    missing _ _ (with_slot (slot_in c.args.table.now.index c.args.spot.part c.args.spot.side) c.args.spot.index) (sym c.if-not-has_index.true ∙ (c.has_index.ensures ∙ ap (λ (x : Index). is_some (with_slot (slot_in x c.args.spot.part c.args.spot.side) c.args.spot.index)) c.index.ensures)) tt

pub returns-then-not-has_index-clause-got : goal.returns-then-not-has_index-clause-got
returns-then-not-has_index-clause-got c = λ content front.
    missing _ _ (with_slot (slot_in c.args.table.now.index c.args.spot.part c.args.spot.side) c.args.spot.index) (sym c.if-not-has_index.true ∙ (c.has_index.ensures ∙ ap (λ (x : Index). is_some (with_slot (slot_in x c.args.spot.part c.args.spot.side) c.args.spot.index)) c.index.ensures)) tt

pub returns-then-not-has_index-clause-spelled : goal.returns-then-not-has_index-clause-spelled
returns-then-not-has_index-clause-spelled c = λ content front.
    missing _ _ (with_slot (slot_in c.args.table.now.index c.args.spot.part c.args.spot.side) c.args.spot.index) (sym c.if-not-has_index.true ∙ (c.has_index.ensures ∙ ap (λ (x : Index). is_some (with_slot (slot_in x c.args.spot.part c.args.spot.side) c.args.spot.index)) c.index.ensures)) tt

-- ---- a value

pub returns-in-Ok-clause-statuses : goal.returns-in-Ok-clause-statuses
returns-in-Ok-clause-statuses c =
    there _ _ (with_slot (slot_in c.args.table.now.index c.args.spot.part c.args.spot.side) c.args.spot.index) (sym c.if-not-has_index.false ∙ (c.has_index.ensures ∙ ap (λ (x : Index). is_some (with_slot (slot_in x c.args.spot.part c.args.spot.side) c.args.spot.index)) c.index.ensures)) (λ slot. inl refl)

pub returns-in-Ok-clause-length : goal.returns-in-Ok-clause-length
returns-in-Ok-clause-length c = λ content front.
    there _ _ (with_slot (slot_in c.args.table.now.index c.args.spot.part c.args.spot.side) c.args.spot.index) (sym c.if-not-has_index.false ∙ (c.has_index.ensures ∙ ap (λ (x : Index). is_some (with_slot (slot_in x c.args.spot.part c.args.spot.side) c.args.spot.index)) c.index.ensures))
    (λ slot. length_stated (front_at c.args.table.now.index.material c.args.table.now.index.kind content c.args.spot.part c.args.spot.side) c.args.spot.index c.args.block.now (Ok c.in-Ok.found) 0 (λ ok. refl) (λ e. absurd (cc e)) (λ e. absurd (cc e))
    (length_of c.locate.result _ c.locate.ensures c.args.block.now (Ok c.in-Ok.found) c.in-Ok.ensures.length content front))

pub returns-in-Ok-clause-got : goal.returns-in-Ok-clause-got
returns-in-Ok-clause-got c = λ content front.
    there _ _ (with_slot (slot_in c.args.table.now.index c.args.spot.part c.args.spot.side) c.args.spot.index) (sym c.if-not-has_index.false ∙ (c.has_index.ensures ∙ ap (λ (x : Index). is_some (with_slot (slot_in x c.args.spot.part c.args.spot.side) c.args.spot.index)) c.index.ensures))
    (λ slot brought. (λ e. under (front_at c.args.table.now.index.material c.args.table.now.index.kind content c.args.spot.part c.args.spot.side) _ _ (value_of c.locate.result _ c.locate.ensures c.args.block.now c.in-Ok.found c.in-Ok.ensures.value content front) brought, λ undone. absurd (undone refl)))

pub returns-in-Ok-clause-spelled : goal.returns-in-Ok-clause-spelled
returns-in-Ok-clause-spelled c = λ content front.
    there _ _ (with_slot (slot_in c.args.table.now.index c.args.spot.part c.args.spot.side) c.args.spot.index) (sym c.if-not-has_index.false ∙ (c.has_index.ensures ∙ ap (λ (x : Index). is_some (with_slot (slot_in x c.args.spot.part c.args.spot.side) c.args.spot.index)) c.index.ensures)) (λ slot e. spelled_of c.locate.result _ c.locate.ensures c.args.block.now c.in-Ok.found c.in-Ok.ensures.spelled content front)

-- ---- a fault

pub returns-in-Err-clause-statuses : goal.returns-in-Err-clause-statuses
returns-in-Err-clause-statuses c =
    there _ _ (with_slot (slot_in c.args.table.now.index c.args.spot.part c.args.spot.side) c.args.spot.index) (sym c.if-not-has_index.false ∙ (c.has_index.ensures ∙ ap (λ (x : Index). is_some (with_slot (slot_in x c.args.spot.part c.args.spot.side) c.args.spot.index)) c.index.ensures))
    (λ slot. fetch_status c.in-Err.fault c.args.bad.now c.fetch_status.new.bad c.fetch_status.result c.fetch_status.ensures)

pub returns-in-Err-clause-length : goal.returns-in-Err-clause-length
returns-in-Err-clause-length c = λ content front.
    there _ _ (with_slot (slot_in c.args.table.now.index c.args.spot.part c.args.spot.side) c.args.spot.index) (sym c.if-not-has_index.false ∙ (c.has_index.ensures ∙ ap (λ (x : Index). is_some (with_slot (slot_in x c.args.spot.part c.args.spot.side) c.args.spot.index)) c.index.ensures))
    (λ slot. length_stated (front_at c.args.table.now.index.material c.args.table.now.index.kind content c.args.spot.part c.args.spot.side) c.args.spot.index c.args.block.now (Err c.in-Err.fault) c.fetch_status.result (λ ok. absurd (cc ok))
    (fault_of_changed c.in-Err.fault c.args.bad.now c.fetch_status.new.bad c.fetch_status.result c.fetch_status.ensures)
    (changed_of_fault c.in-Err.fault c.args.bad.now c.fetch_status.new.bad c.fetch_status.result c.fetch_status.ensures)
    (length_of c.locate.result _ c.locate.ensures c.args.block.now (Err c.in-Err.fault) c.in-Err.ensures.length content front))

pub returns-in-Err-clause-got : goal.returns-in-Err-clause-got
returns-in-Err-clause-got c = λ content front.
    there _ _ (with_slot (slot_in c.args.table.now.index c.args.spot.part c.args.spot.side) c.args.spot.index) (sym c.if-not-has_index.false ∙ (c.has_index.ensures ∙ ap (λ (x : Index). is_some (with_slot (slot_in x c.args.spot.part c.args.spot.side) c.args.spot.index)) c.index.ensures))
    (λ slot brought. (
      λ e. absurd (fetch_not_done c.in-Err.fault c.args.bad.now c.fetch_status.new.bad c.fetch_status.result c.fetch_status.ensures e),
      λ undone. (
        c.in-Err.fault,
        c.fetch_status.ensures,
        under (front_at c.args.table.now.index.material c.args.table.now.index.kind content c.args.spot.part c.args.spot.side) _ _ (fault_of c.locate.result _ c.locate.ensures c.args.block.now c.in-Err.fault c.in-Err.ensures.fault content front) brought,
      ),
    ))

pub returns-in-Err-clause-spelled : goal.returns-in-Err-clause-spelled
returns-in-Err-clause-spelled c = λ content front.
    there _ _ (with_slot (slot_in c.args.table.now.index c.args.spot.part c.args.spot.side) c.args.spot.index) (sym c.if-not-has_index.false ∙ (c.has_index.ensures ∙ ap (λ (x : Index). is_some (with_slot (slot_in x c.args.spot.part c.args.spot.side) c.args.spot.index)) c.index.ensures))
    (λ slot e. absurd (fetch_not_done c.in-Err.fault c.args.bad.now c.fetch_status.new.bad c.fetch_status.result c.fetch_status.ensures e))

pub returns-in-Err-clause-bad_stays : goal.returns-in-Err-clause-bad_stays
returns-in-Err-clause-bad_stays c = bad_stays c.in-Err.fault c.args.bad.now c.fetch_status.new.bad c.fetch_status.result c.fetch_status.ensures
