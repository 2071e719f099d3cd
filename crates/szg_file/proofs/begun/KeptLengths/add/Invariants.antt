use Rattle.std.proofs.Common.{◌≡◌, ℕ, ◌+◌, ◌++◌, List, take}
use Rattle.szg_file.specs.Kept.{IsKept}
use Rattle.szg_file.proofs.begun.KeptLengths.add.Given as goal

-- the lengths so far were passed
abbrev pub invariant-loop-length : goal.invariant-loop-length
invariant-loop-length l = record {
  kept : (list : List ℕ) → IsKept l.limit l.last list l.fn.self → IsKept l.limit l.last (list ++ take l.length-index l.numbers) l.self;
  seen : l.self.seen ≡ l.fn.self.seen + l.length-index;
}
