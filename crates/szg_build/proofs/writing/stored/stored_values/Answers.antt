use Rattle.std.proofs.Common.{◌≡◌, Option, Some, None, refl, sym, arith, IfSome}
use Rattle.szg_block.specs.Layout.{Layout}
use Rattle.szg_block.specs.Block.{start}
use Rattle.szg_block.specs.Subtable.{layout_of}
use Rattle.szg_block.proofs.Values.{start-zero}
use Rattle.szg_file.specs.Held.{subtable_of}
use Rattle.szg_build.specs.BlockValues.{left_of}
use Rattle.szg_build.proofs.Writers.StoredLaws.{blocks_values, sound_there, values_there}
use Rattle.szg_build.proofs.writing.stored.stored_values.Goals as goal

no_block : (o : Option Layout) → IfSome o (λ layout. 0 ≡ start layout.lengths 0)
no_block None = tt
no_block (Some layout) = sym (start-zero layout.lengths)

pub invariant_of-blocks : goal.invariant_of-blocks
invariant_of-blocks c =
    let sound = sound_there c.args.table.now.contents c.args.table.now.filled c.args.part c.args.side c.in_ok-size.size c.in_ok-sub.sub.now c.table_fits.ensures c.in_ok-size.ensures c.in_ok-sub.ensures in
    record { shaped = sound.0; sound = sound.1; before_is = no_block (layout_of c.in_ok-sub.sub.now); few = omega arith }

pub returns-in-Pairs : goal.returns-in-Pairs
returns-in-Pairs c =
    let t = c.args.table.now.contents in
    let sub = c.in_ok-sub.sub.now in
    let size = c.in_ok-size.size in
    values_there t c.args.part c.args.side size (subtable_of sub) (left_of sub size 0).values c.in_ok-size.ensures c.in_ok-sub.ensures (blocks_values t.kind sub size (rw c.in-Pairs.is refl))
