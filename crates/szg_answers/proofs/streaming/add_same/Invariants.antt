use Rattle.std.proofs.Common.{◌≡◌, ℕ, List, ◌++◌, flat_map, replicate}
use Rattle.szg_io.specs.Moved.{Gives}
use Rattle.szg_answers.specs.Answers.{number_line}
use Rattle.szg_answers.proofs.streaming.add_same.Given as goal

-- nothing has failed so far; what went out and what is held are the lines so far
abbrev pub invariant-values : goal.invariant-values
invariant-values g l = record {
  quiet : g.W.Output.failures l.writer ≡ g.W.Output.failures l.fn.writer;
  out : List ℕ;
  given : Gives g.W.Output l.fn.writer l.writer out 0;
  lines : out ++ l.text.items ≡ l.fn.text.items ++ flat_map number_line (replicate l._done l.value);
}
