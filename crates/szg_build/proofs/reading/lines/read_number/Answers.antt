use Rattle.std.proofs.Common.{rules}
use Rattle.szg_build.specs.Fronts.{lines_after}
use Rattle.szg_build.specs.Grammar.{number_line}
use Rattle.szg_build.proofs.Readers.LineParses.{known_reads}
use Rattle.szg_build.proofs.reading.lines.read_number.Goals as goal

pub returns-clause-lines : goal.returns-clause-lines
returns-clause-lines g c = λ pattern is. known_reads (lines_after (number_line pattern c.args.limit)) (λ number. number) (λ text stated gave. search rules) c.read_parsed.ensures.lines
