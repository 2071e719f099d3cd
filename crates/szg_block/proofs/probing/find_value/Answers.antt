use Rattle.std.proofs.Common.{ap, ◌∙◌, refl, arith}
use Rattle.szg_block.specs.Subtable.{layout_of}
use Rattle.szg_block.proofs.KeptLayouts.{sound_is_locatable_over}
use Rattle.szg_block.proofs.ByEntry.{is_value}
use Rattle.szg_block.proofs.probing.find_value.Goals as goal

pub unreachable-requires-in_default-find : goal.unreachable-requires-in_default-find
unreachable-requires-in_default-find g c =
    let v = is_value _ _ (ap layout_of c.in-Pairs.is) _ _ _ c.requires.head c.symbols.ensures.accepted c.requires.all c.requires.whole c.requires.sound c.args.i c.requires.below _ _ c.in-Some.ensures.block c.in-Some.ensures.item in
    let none = rw (c.new.ensures.left, c.in_ok-block.ensures.block) at c.in_default-find.ensures.none in
    omega (arith, v.within, none)

pub returns-clause-value : goal.returns-clause-value
returns-clause-value g c =
    let v = is_value _ _ (ap layout_of c.in-Pairs.is) _ _ _ c.requires.head c.symbols.ensures.accepted c.requires.all c.requires.whole c.requires.sound c.args.i c.requires.below _ _ c.in-Some.ensures.block c.in-Some.ensures.item in
    let r = rw (c.new.ensures.left, c.in_ok-block.ensures.block) at (c.in-Some-find.ensures.value refl) in
    rw c.in-Pairs.is (v.same ∙ r)

pub locate_value-requires-clause-index : goal.locate_value-requires-clause-index
locate_value-requires-clause-index g c = sound_is_locatable_over _ _ _ c.requires.head c.requires.sound
