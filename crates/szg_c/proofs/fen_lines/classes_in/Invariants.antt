use Rattle.std.proofs.Common.{◌≡◌, length}
use Rattle.szg_c.specs.FenLines.{AreProbed, text_from}
use Rattle.szg_c.proofs.fen_lines.classes_in.Given as goal

abbrev pub invariant-loop-i : goal.invariant-loop-i
invariant-loop-i l = record {
  kept : l.set ≡ l.fn.set;
  rest : l.rest ≡ text_from l.fens l.i;
  many : length l.classes ≡ length l.fn.classes;
  probed : AreProbed l.fn.set l.fens l.classes l.i l.first;
}
