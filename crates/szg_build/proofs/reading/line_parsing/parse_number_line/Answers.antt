use Rattle.std.proofs.Common.{◌≡◌, ◌++◌, ◌∙◌, ℕ, List, sym, ap, Some, None, Ok, Err}
use Rattle.std.specs.Prelude.{Result, MatchResult}
use Rattle.szg_build.specs.declared.dump.DumpFault.{DumpFault}
use Rattle.szg_build.specs.declared.dump.DumpFault.TheVariants.{Field, Number}
use Rattle.szg_build.specs.Fronts.{IsFront, IsWord, lines_after}
use Rattle.szg_build.specs.Grammar.{Word, number_in, number_line}
use Rattle.szg_build.specs.Lines.{refuses, of_line, words_of}
use Rattle.szg_build.specs.Reading.{IsParsed}
use Rattle.szg_build.proofs.Readers.LineParses.{parsed_fault}
use Rattle.szg_build.proofs.Readers.SayingLaws.{number_unparsed, number_parsed}
use Rattle.szg_build.proofs.reading.line_parsing.parse_number_line.Goals as goal

-- the meaning of a line of one number is that of its word
number_meant : (pattern : List Word) (front : List ℕ) (limit : ℕ) (text word : List ℕ) (r : Result ℕ DumpFault) → IsFront pattern front → IsWord word → text ≡ front ++ word →
    MatchResult r (λ n. number_in limit word ≡ Some n) (λ fault. (fault ≡ Number) × (number_in limit word ≡ None)) → IsParsed (lines_after (number_line pattern limit) (words_of text)) (λ (n : ℕ). n) r
number_meant pattern front limit text word (Ok n) is h e parses = number_parsed pattern front limit text word (Some n) is h e parses
number_meant pattern front limit text word (Err fault) is h e parses =
    number_parsed pattern front limit text word None is h e parses.1 ∙ ap (λ (z : DumpFault). refuses (of_line z)) (sym parses.0)

pub returns-in_err-word-clause-number : goal.returns-in_err-word-clause-number
returns-in_err-word-clause-number c = λ pattern is.
    parsed_fault (lines_after (number_line pattern c.args.limit) (words_of c.args.text.now)) c.from_residual.result (λ n. n) c.in_err-word.field-0.0 Field c.from_residual.ensures.1 c.in_err-word.ensures.0
    (number_unparsed pattern c.args.front.now c.args.limit c.args.text.now is c.in_err-word.ensures.1)

pub returns-clause-number : goal.returns-clause-number
returns-clause-number c = λ pattern is.
    number_meant pattern c.args.front.now c.args.limit c.args.text.now c.in_ok-word.word.now c.number_of.result is c.in_ok-word.ensures.0 c.in_ok-word.ensures.1 c.number_of.ensures.value
