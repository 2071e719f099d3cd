use Rattle.std.proofs.Common.{◌≡◌, ◌%◌, map, take}
use Rattle.szg_build.proofs.copies.copy_flags.Given as goal

-- the flags of the subtables so far
abbrev pub invariant-loop-byte : goal.invariant-loop-byte
invariant-loop-byte l = l.flags.items ≡ map (λ byte. byte % 32) (take l.byte-index l.bytes)
