use Rattle.std.proofs.Common.{take}
use Rattle.szg_file.specs.Accepted.{SideBySide, IsSubtable}
use Rattle.szg_file.specs.Held.{subtable_of}
use Rattle.szg_file.proofs.passing.are_subs_valid.Given as goal

-- the subtables so far pass
abbrev pub invariant-subs : goal.invariant-subs
invariant-subs l = SideBySide (λ slot sub. IsSubtable slot (subtable_of sub)) (take l.n l.slots) (take l.n l.subs)
