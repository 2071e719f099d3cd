use Rattle.std.proofs.Common.{ℕ, List, ◌≡◌, ◌<◌, take, arith, refl, subst}
use Rattle.std.proofs.lemmas.List.{take_all}
use Rattle.szg_subtable.specs.Building.{IsFilling}
use Rattle.szg_subtable.proofs.Builders.BlockSteps.{filling_none, filling_done}
use Rattle.szg_subtable.proofs.building.blocks.fill_blocks.Goals as goal

pub loop-symbol-init : goal.loop-symbol-init
loop-symbol-init c = record {
  filling = filling_none c.args.code.now c.args.dict.now c.args.block_bits _ c.new.result.items c.new-2.result.items c.new-3.result 0 refl c.new.ensures.items c.new-2.ensures.items c.new-3.ensures refl;
  some = λ h. h;
}

pub returns : goal.returns
returns c =
    let f = c.loop-symbol.filling in
    let all : take c.loop-symbol.symbol-index c.args.symbols.now ≡ c.args.symbols.now = take_all c.loop-symbol.symbol-index c.args.symbols.now (omega arith) in
    let filling = subst (λ (z : List ℕ). IsFilling c.args.code.now c.args.dict.now c.args.block_bits z f.lengths.items f.packed.items f.buffer f.values) all c.loop-symbol.invariant.filling in
    let some : 0 < f.values = c.loop-symbol.invariant.some (omega (arith, c.loop-symbol-test.false, c.requires.some)) in
    let block = c.in_ok-close.ensures.block in
    filling_done c.args.code.now c.args.dict.now c.args.block_bits c.args.symbols.now f.lengths.items f.packed.items f.buffer f.values block.0 c.close.new.filling.lengths.items c.close.new.filling.packed.items
    filling block.1 some c.requires.few c.in_ok-close.ensures.lengths block.2
