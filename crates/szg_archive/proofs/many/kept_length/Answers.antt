use Rattle.std.proofs.Common.{◌≡◌, false, is_some, refl, rules}
use Rattle.szg_archive.specs.Verdicts.{reads_all}
use Rattle.szg_archive.proofs.Logging.{left_out}
use Rattle.szg_archive.proofs.many.kept_length.Goals as goal

pub returns-then-state-good-2 : goal.returns-then-state-good-2
returns-then-state-good-2 g c =
    let unlisted : is_some c.args.options.sums ≡ false = search rules in
    let none : reads_all c.args.options ≡ false = rw (unlisted, c.if-options.false) refl in
    left_out c.args.options c.in-Some.log c.args.path.now c.in_ok-good.field-0 c.in-Some-2.good none c.in-Some.is c.in_ok-good.ensures c.in-Some-2.is
