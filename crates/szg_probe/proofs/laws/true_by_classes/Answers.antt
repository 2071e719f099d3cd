use Rattle.szg_probe.proofs.Known.{true_by_classes}
use Rattle.szg_probe.proofs.laws.true_by_classes.Goals as goal

pub returns : goal.returns
returns c = true_by_classes
