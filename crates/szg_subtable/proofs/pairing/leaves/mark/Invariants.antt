use Rattle.std.proofs.Common.{ℕ, ◌≡◌, false, take, get_or}
use Rattle.std.specs.Prelude.{◌==◌}
use Rattle.std.specs.List.{list_any}
use Rattle.szg_subtable.proofs.pairing.leaves.mark.Given as goal

-- the values so far are marked
abbrev pub invariant-loop-value : goal.invariant-loop-value
invariant-loop-value l = (value : ℕ) → get_or l.marks value false ≡ list_any (λ v. v == value) (take l.value-index l.values)
