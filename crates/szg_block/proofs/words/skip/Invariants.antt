use Rattle.std.proofs.Common.{ℕ, List, ◌≤◌}
use Rattle.szg_code.specs.Canonical.{CanonicalCode}
use Rattle.szg_code.specs.Cursor.{EndlessCursor}
use Rattle.szg_block.specs.Reached.{IsAhead}
use Rattle.szg_block.proofs.words.skip.Given as goal

-- the value that was at an index of what a first cursor left is at another of what the second one left
pub record StaysAhead (code : CanonicalCode) (entries : List (List ℕ)) (first : EndlessCursor) (index : ℕ) (left : EndlessCursor) (ahead : ℕ) : Type 0 where
  pub at_most : ahead ≤ index
  pub stays : (all : List ℕ) (i : ℕ) → IsAhead code entries all i first index → IsAhead code entries all i left ahead

abbrev pub invariant-windows : goal.invariant-windows
invariant-windows g l = StaysAhead l.code l.dict l.fn.words l.fn.index l.words l.ahead

abbrev pub invariant-loop : goal.invariant-loop
invariant-loop g l = StaysAhead l.code l.dict l.fn.words l.fn.index l.words l.ahead
