use Rattle.std.proofs.Common.{◌≡◌, ◌+◌, ◌*◌, ℕ, List, ◌++◌, length}
use Rattle.szg_archive.proofs.one.read_on.Given as goal

abbrev pub decreases-chunks : goal.decreases-chunks
decreases-chunks g l = l.left

-- full chunks were read, and nothing has failed
abbrev pub invariant-chunks : goal.invariant-chunks
invariant-chunks g l = record {
  size : length l.chunk ≡ 4096;
  quiet : g.F.Input.failures l.input ≡ g.F.Input.failures l.initial.input;
  rest : List ℕ;
  moved : g.F.Input.moved l.input ≡ g.F.Input.moved l.initial.input ++ rest;
  count : length rest + 4096 * l.left ≡ 4096 * 18446744073709551615;
}
