use Rattle.std.proofs.Common.{◌≡◌, ℕ, List, length}
use Rattle.sha2.specs.Hashers.{Holds256}
use Rattle.szg_io.specs.Moved.{Gives}
use Rattle.szg_answers.proofs.copying.copy_bytes.Given as goal

-- what was read so far was hashed and written
abbrev pub invariant-chunks : goal.invariant-chunks
invariant-chunks g l = record {
  size : length l.chunk ≡ 16384;
  text : List ℕ;
  given : Gives g.W.Output l.initial.output l.output text 0;
  taken : Holds256 l.hasher text;
}
