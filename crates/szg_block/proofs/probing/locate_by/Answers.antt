use Rattle.std.proofs.Common.{◌∙◌, arith, sym}
use Rattle.szg_block.proofs.ByEntry.{entry_somewhere, found_in, found_somewhere, good_entry}
use Rattle.szg_block.proofs.probing.locate_by.Goals as goal

pub returns-in_err-entry-clause-found : goal.returns-in_err-entry-clause-found
returns-in_err-entry-clause-found g c = λ layout size sound below.
    absurd (entry_somewhere _ _ _ _ layout size c.args.i below sound (sym c.in_err-entry.ensures))

pub returns-in_err-location-clause-found : goal.returns-in_err-location-clause-found
returns-in_err-location-clause-found g c = λ layout size sound below.
    let entry = c.in_ok-entry.entry in
    absurd (found_somewhere _ _ _ _ layout size c.args.i below entry c.in_ok-entry.ensures sound ((rw c.from.ensures at c.in_err-location.ensures.none) (good_entry _ _ _ _ layout size c.args.i below entry c.in_ok-entry.ensures sound)))

pub returns-then-location-blocks-clause-found : goal.returns-then-location-blocks-clause-found
returns-then-location-blocks-clause-found g c = λ layout size sound below.
    let entry = c.in_ok-entry.entry in
    let at = c.in_ok-location.location in
    let is = (rw c.from.ensures at c.in_ok-location.ensures.location) (good_entry _ _ _ _ layout size c.args.i below entry c.in_ok-entry.ensures sound) in
    let found = found_in _ _ _ _ layout size c.args.i below entry c.in_ok-entry.ensures sound at.block at.item at.length (sym c.in_ok-location.ensures.there) c.in_ok-location.ensures.inside is in
    omega (arith, found.there, sound.blocks_are, c.if-location-blocks.true)

pub returns-clause-found : goal.returns-clause-found
returns-clause-found g c = λ layout size sound below.
    let entry = c.in_ok-entry.entry in
    let at = c.in_ok-location.location in
    let is = (rw c.from.ensures at c.in_ok-location.ensures.location) (good_entry _ _ _ _ layout size c.args.i below entry c.in_ok-entry.ensures sound) in
    let found = found_in _ _ _ _ layout size c.args.i below entry c.in_ok-entry.ensures sound at.block at.item at.length (sym c.in_ok-location.ensures.there) c.in_ok-location.ensures.inside is in
    record { block = found.block; item = found.item; moves = c.abs_diff.ensures ∙ found.moves }
