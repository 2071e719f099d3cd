use Rattle.std.proofs.Common.{ap, ◌∙◌}
use Rattle.szg_block.specs.Subtable.{layout_of}
use Rattle.szg_block.proofs.KeptLayouts.{sound_is_locatable_over}
use Rattle.szg_block.proofs.ByEntry.{is_value, steps}
use Rattle.szg_block.proofs.probing.look_up.Goals as goal

pub find_in_block-words-requires-clause-within : goal.find_in_block-words-requires-clause-within
find_in_block-words-requires-clause-within g c =
    let v = is_value _ _ (ap layout_of c.in-Pairs.is) _ _ _ c.requires.head c.symbols.ensures.accepted c.requires.all c.requires.whole c.requires.sound c.args.i c.requires.below _ _ c.in-Some.ensures.block c.in-Some.ensures.item in
    rw c.in_ok-block.ensures.block v.within

pub returns-clause-value : goal.returns-clause-value
returns-clause-value g c =
    let v = is_value _ _ (ap layout_of c.in-Pairs.is) _ _ _ c.requires.head c.symbols.ensures.accepted c.requires.all c.requires.whole c.requires.sound c.args.i c.requires.below _ _ c.in-Some.ensures.block c.in-Some.ensures.item in
    let r = rw c.in_ok-block.ensures.block at c.find_in_block-words.ensures.value in
    rw c.in-Pairs.is (v.same ∙ r)

pub returns-clause-steps : goal.returns-clause-steps
returns-clause-steps g c =
    let w = rw c.in_ok-block.ensures.block at c.find_in_block-words.ensures.words in
    let q = rw c.in_ok-block.ensures.block at c.find_in_block-words.ensures.pairs in
    rw c.in-Pairs.is (steps _ _ (ap layout_of c.in-Pairs.is) _ _ _ c.requires.head c.symbols.ensures.accepted c.requires.all c.requires.whole c.requires.sound c.args.i c.requires.below _ _ c.in-Some.ensures.block c.in-Some.ensures.item _ _ _ c.in-Some.ensures.moves w (c.from.ensures ∙ q))

pub locate_value-requires-clause-index : goal.locate_value-requires-clause-index
locate_value-requires-clause-index g c = sound_is_locatable_over _ _ _ c.requires.head c.requires.sound
