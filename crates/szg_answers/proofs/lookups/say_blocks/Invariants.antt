use Rattle.std.proofs.Common.{◌≡◌, ℕ, List, ◌++◌, flat_map}
use Rattle.szg_io.specs.Moved.{Gives}
use Rattle.szg_answers.specs.Answers.{number_line}
use Rattle.szg_answers.proofs.lookups.say_blocks.Given as goal

-- nothing has failed so far; what went out and what is held are the lines of the values so far, and the others are left
abbrev pub invariant-each : goal.invariant-each
invariant-each g l = record {
  quiet : g.W.Output.failures l.writer ≡ g.W.Output.failures l.initial.writer;
  done : List ℕ;
  whole : done ++ l.blocks.values ≡ l.initial.blocks.values;
  out : List ℕ;
  given : Gives g.W.Output l.initial.writer l.writer out 0;
  lines : out ++ l.text.items ≡ flat_map number_line done;
}

abbrev pub decreases-each : goal.decreases-each
decreases-each g l = l.blocks.blocks
