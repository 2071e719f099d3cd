use Rattle.std.proofs.Common.{sym, arith}
use Rattle.std.proofs.lemmas.Bool.{leb-true}
use Rattle.szg_build.specs.Plan.{greatest_value}
use Rattle.szg_build.proofs.Builders.RefusalLaws.{below_4095, none_above}
use Rattle.szg_build.proofs.reading.packing.is_buildable.Goals as goal

pub count_different-requires : goal.count_different-requires
count_different-requires c =
    below_4095 c.args.kind c.args.values.now (none_above (greatest_value c.args.kind) c.args.values.now (sym c.if-has_above.ensures))

pub returns : goal.returns
returns c = λ e. record {
  few = omega (arith, c.if-values-ge-TOO_MANY.false);
  small = none_above (greatest_value c.args.kind) c.args.values.now (sym c.if-has_above.ensures);
  different = omega (arith, leb-true c.count_different.result 4095 e, c.count_different.ensures);
}
