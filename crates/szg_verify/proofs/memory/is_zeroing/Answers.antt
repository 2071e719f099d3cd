use Rattle.std.proofs.Common.{sym, ◌∙◌}
use Rattle.szg_verify.proofs.Zeroing.{captures_alone}
use Rattle.szg_verify.proofs.memory.is_zeroing.Goals as goal

pub returns-else-numbered : goal.returns-else-numbered
returns-else-numbered c =
    c.is_capture.ensures ∙ sym (captures_alone c.args.position.now c.args.m.now (sym c.requires.holds ∙ c.if-numbered.false))
