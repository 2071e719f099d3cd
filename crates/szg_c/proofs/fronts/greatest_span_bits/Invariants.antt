use Rattle.std.proofs.Common.{◌≡◌, take}
use Rattle.szg_c.specs.Fronts.{greatest_span_bits}
use Rattle.szg_c.proofs.fronts.greatest_span_bits.Given as goal

-- the greatest so far
abbrev pub invariant-subtables : goal.invariant-subtables
invariant-subtables l = l.greatest ≡ greatest_span_bits (take l.placed-index l.subs)
