use Rattle.std.proofs.Common.{◌≡◌, ◌≤◌, min, drop}
use Rattle.szg_verify.specs.Entries.{least, farthest}
use Rattle.szg_verify.proofs.entries.least.Given as goal

abbrev pub invariant-loop-step : goal.invariant-loop-step
invariant-loop-step l = record {
  lower : min l.lower (least (λ e. e.lower) l.class (drop l.step-index l.steps)) ≡ least (λ e. e.lower) l.class l.steps;
  upper : min l.upper (least (λ e. e.upper) l.class (drop l.step-index l.steps)) ≡ least (λ e. e.upper) l.class l.steps;
  lower_near : l.lower ≤ farthest;
  upper_near : l.upper ≤ farthest;
}
