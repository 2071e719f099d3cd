use Rattle.std.proofs.Common.{◌∙◌, None, Some, ap, sym, refl}
use Rattle.std.specs.Prelude.{is_some}
use Rattle.szg_file.specs.Index.{Index, slot_in}
use Rattle.szg_file.specs.Unread.{front_at}
use Rattle.szg_file.specs.Wanted.{wanted_block}
use Rattle.szg_file.proofs.Openings.LocatedLaws.{wanted_of}
use Rattle.szg_c.specs.Places.{with_slot}
use Rattle.szg_c.proofs.FrontBlocks.{range_stated, weaker}
use Rattle.szg_c.proofs.FrontsStated.{below, missing, there}
use Rattle.szg_c.proofs.front_blocks.find_in.Goals as goal

pub locate-requires : goal.locate-requires
locate-requires c = below (slot_in c.args.table.now.index c.args.spot.part c.args.spot.side) c.args.spot.index (sym c.if-not-has_index.false ∙ (c.has_index.ensures ∙ ap (λ (x : Index). is_some (with_slot (slot_in x c.args.spot.part c.args.spot.side) c.args.spot.index)) c.index.ensures))

pub returns-then-not-has_index-clause-statuses : goal.returns-then-not-has_index-clause-statuses
returns-then-not-has_index-clause-statuses c =
    missing _ _ (with_slot (slot_in c.args.table.now.index c.args.spot.part c.args.spot.side) c.args.spot.index) (sym c.if-not-has_index.true ∙ (c.has_index.ensures ∙ ap (λ (x : Index). is_some (with_slot (slot_in x c.args.spot.part c.args.spot.side) c.args.spot.index)) c.index.ensures)) refl

pub returns-then-not-has_index-clause-found : goal.returns-then-not-has_index-clause-found
returns-then-not-has_index-clause-found c = λ content front.
    missing _ _ (with_slot (slot_in c.args.table.now.index c.args.spot.part c.args.spot.side) c.args.spot.index) (sym c.if-not-has_index.true ∙ (c.has_index.ensures ∙ ap (λ (x : Index). is_some (with_slot (slot_in x c.args.spot.part c.args.spot.side) c.args.spot.index)) c.index.ensures)) tt

pub returns-in-Some-clause-statuses : goal.returns-in-Some-clause-statuses
returns-in-Some-clause-statuses c =
    there _ _ (with_slot (slot_in c.args.table.now.index c.args.spot.part c.args.spot.side) c.args.spot.index) (sym c.if-not-has_index.false ∙ (c.has_index.ensures ∙ ap (λ (x : Index). is_some (with_slot (slot_in x c.args.spot.part c.args.spot.side) c.args.spot.index)) c.index.ensures)) (λ slot. refl)

pub returns-in-Some-clause-found : goal.returns-in-Some-clause-found
returns-in-Some-clause-found c = λ content front.
    there _ _ (with_slot (slot_in c.args.table.now.index c.args.spot.part c.args.spot.side) c.args.spot.index) (sym c.if-not-has_index.false ∙ (c.has_index.ensures ∙ ap (λ (x : Index). is_some (with_slot (slot_in x c.args.spot.part c.args.spot.side) c.args.spot.index)) c.index.ensures))
    (λ slot. weaker (front_at c.args.table.now.index.material c.args.table.now.index.kind content c.args.spot.part c.args.spot.side) _ _ (wanted_of c.locate.result _ c.locate.ensures (Some c.in-Some.wanted) c.in-Some.ensures.wanted content front)
    (λ found wanted. range_stated (Some c.in-Some.wanted) (wanted_block found.1 c.args.spot.index) content _ wanted (refl, refl)))

pub returns-in-None-clause-statuses : goal.returns-in-None-clause-statuses
returns-in-None-clause-statuses c =
    there _ _ (with_slot (slot_in c.args.table.now.index c.args.spot.part c.args.spot.side) c.args.spot.index) (sym c.if-not-has_index.false ∙ (c.has_index.ensures ∙ ap (λ (x : Index). is_some (with_slot (slot_in x c.args.spot.part c.args.spot.side) c.args.spot.index)) c.index.ensures)) (λ slot. refl)

pub returns-in-None-clause-found : goal.returns-in-None-clause-found
returns-in-None-clause-found c = λ content front.
    there _ _ (with_slot (slot_in c.args.table.now.index c.args.spot.part c.args.spot.side) c.args.spot.index) (sym c.if-not-has_index.false ∙ (c.has_index.ensures ∙ ap (λ (x : Index). is_some (with_slot (slot_in x c.args.spot.part c.args.spot.side) c.args.spot.index)) c.index.ensures))
    (λ slot. weaker (front_at c.args.table.now.index.material c.args.table.now.index.kind content c.args.spot.part c.args.spot.side) _ _ (wanted_of c.locate.result _ c.locate.ensures None c.in-None.ensures.wanted content front)
    (λ found wanted. range_stated None (wanted_block found.1 c.args.spot.index) content _ wanted (refl, refl)))
