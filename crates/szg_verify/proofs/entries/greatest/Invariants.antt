use Rattle.std.proofs.Common.{◌≡◌, max, drop}
use Rattle.szg_verify.specs.Entries.{greatest}
use Rattle.szg_verify.proofs.entries.greatest.Given as goal

abbrev pub invariant-loop-step : goal.invariant-loop-step
invariant-loop-step l = record {
  lower : max l.lower (greatest (λ e. e.lower) (drop l.step-index l.steps)) ≡ greatest (λ e. e.lower) l.steps;
  upper : max l.upper (greatest (λ e. e.upper) (drop l.step-index l.steps)) ≡ greatest (λ e. e.upper) l.steps;
}
