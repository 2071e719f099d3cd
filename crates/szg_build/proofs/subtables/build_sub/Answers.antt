use Rattle.std.proofs.Common.{sym, ◌∙◌, arith}
use Rattle.szg_build.proofs.Builders.RefusalLaws.{below_4095}
use Rattle.szg_build.proofs.Builders.SubLaws.{none_of, packed_is_built}
use Rattle.szg_build.proofs.subtables.build_sub.Goals as goal

pub pack-requires-clause-small : goal.pack-requires-clause-small
pack-requires-clause-small g c = below_4095 c.args.kind c.args.values.now c.requires.small

pub returns : goal.returns
returns g c =
    packed_is_built c.args.kind c.args.flags c.args.values.now c.args.choice c.in_ok-sub.sub c.in_ok-sub.ensures c.sub_fits.ensures (omega (arith, c.requires.flags))
    (sym (c.constant_byte.ensures.rule c.requires.small) ∙ none_of c.constant_byte.result c.in_default.not-Some)
