use Rattle.std.proofs.Common.{◌+◌, replicate, sym, subst, arith}
use Rattle.std.proofs.lemmas.List.{length-replicate}
use Rattle.szg_block.specs.declared.Sub.TheVariants.{Constant}
use Rattle.szg_build.specs.Packed.{values_held, IsPackedAs}
use Rattle.szg_build.specs.declared.reading.packing.PackedSub.{PackedSub}
use Rattle.szg_build.specs.declared.reading.values.Values.{Values}
use Rattle.szg_build.proofs.Builders.PackedLaws.{built_is_packed, run_is_buildable, run_is_built}
use Rattle.szg_build.proofs.reading.packing.pack_equal.Goals as goal

pub returns : goal.returns
returns c = λ choice.
    let kind = c.args.kind in
    let flags = c.args.flags in
    let value = c.in-Run.value in
    let count = c.in-Run.count in
    let byte = c.in_ok-byte.byte in
    let packed : PackedSub = record { flags = flags; size = count; sub = Constant (flags + 128) byte } in
    subst (λ (z : Values). IsPackedAs kind choice flags (values_held z) packed) (sym c.in-Run.is)
    (built_is_packed kind choice (replicate count value) packed c.requires (sym (length-replicate count value))
    (run_is_buildable kind value count c.in_ok-byte.ensures.small (omega (arith, c.if-count-ge-TOO_MANY.false)))
    (run_is_built kind choice flags byte value count (omega (arith, c.requires)) (omega (arith, c.in_ok-byte.ensures.few)) c.in_ok-byte.ensures.same c.in_ok-byte.ensures.rule))
