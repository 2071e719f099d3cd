use Rattle.std.proofs.Common.{◌≡◌, ◌∙◌, ◌<◌, ℕ, List, Option, Some, None, suc, zero, refl, ap, arith}
use Rattle.szg_build.specs.declared.dump.DumpFault.TheVariants.{Field, Number, Run}
use Rattle.szg_build.specs.Fronts.{lines_after}
use Rattle.szg_build.specs.Grammar.{or_fault, number_in, greatest_count, greatest_item, positive, run_line}
use Rattle.szg_build.specs.Lines.{words_of}
use Rattle.szg_build.proofs.Readers.LineParses.{parsed_fault}
use Rattle.szg_build.proofs.Readers.SayingLaws.{run_parsed, run_unparsed, fits, too_long}
use Rattle.szg_build.proofs.Readers.NumberWords.{run_length}
use Rattle.szg_build.proofs.reading.line_parsing.parse_run.Goals as goal

no_count : (n : ℕ) (word : List ℕ) → number_in greatest_count word ≡ Some n → n ≡ 0 → positive (number_in greatest_count word) ≡ None
no_count n word e is = ap positive (e ∙ ap Some is)

some_count : (n : ℕ) (word : List ℕ) → number_in greatest_count word ≡ Some n → 0 < n → positive (number_in greatest_count word) ≡ Some n
some_count zero word e some = absurd (omega (arith, some))
some_count (suc n) word e some = ap positive e

pub returns-in_err-count_word-clause-run : goal.returns-in_err-count_word-clause-run
returns-in_err-count_word-clause-run c =
    parsed_fault (lines_after (run_line c.args.left) (words_of c.args.text.now)) c.from_residual.result (λ run. run) c.in_err-count_word.field-0.0 Field c.from_residual.ensures.1 c.in_err-count_word.ensures.0
    (run_unparsed c.args.left c.args.text.now c.in_err-count_word.ensures.1)

pub returns-in_err-count-clause-run : goal.returns-in_err-count-clause-run
returns-in_err-count-clause-run c =
    parsed_fault (lines_after (run_line c.args.left) (words_of c.args.text.now)) c.from_residual-in_err-count.result (λ run. run) c.in_err-count.field-0.0 Number c.from_residual-in_err-count.ensures.1 c.in_err-count.ensures.value.0
    (run_parsed c.args.left c.args.text.now c.in_ok-count_word.count_word.now c.in_ok-count_word.value_word.now None (number_in greatest_item c.in_ok-count_word.value_word.now) c.in_ok-count_word.ensures.0 c.in_ok-count_word.ensures.1 c.in_ok-count_word.ensures.2 (ap positive c.in_err-count.ensures.value.1) refl)

pub returns-then-count-eq0-clause-run : goal.returns-then-count-eq0-clause-run
returns-then-count-eq0-clause-run c =
    run_parsed c.args.left c.args.text.now c.in_ok-count_word.count_word.now c.in_ok-count_word.value_word.now None (number_in greatest_item c.in_ok-count_word.value_word.now)
    c.in_ok-count_word.ensures.0 c.in_ok-count_word.ensures.1 c.in_ok-count_word.ensures.2 (no_count c.in_ok-count.count c.in_ok-count_word.count_word.now c.in_ok-count.ensures.value (omega (arith, c.if-count-eq0.true))) refl

pub returns-in_err-value-clause-run : goal.returns-in_err-value-clause-run
returns-in_err-value-clause-run c =
    parsed_fault (lines_after (run_line c.args.left) (words_of c.args.text.now)) c.from_residual-in_err-value.result (λ run. run) c.in_err-value.field-0.0 Number c.from_residual-in_err-value.ensures.1 c.in_err-value.ensures.value.0
    (run_parsed c.args.left c.args.text.now c.in_ok-count_word.count_word.now c.in_ok-count_word.value_word.now (Some c.in_ok-count.count) None c.in_ok-count_word.ensures.0 c.in_ok-count_word.ensures.1 c.in_ok-count_word.ensures.2 (some_count c.in_ok-count.count c.in_ok-count_word.count_word.now c.in_ok-count.ensures.value (omega (arith, c.if-count-eq0.false))) c.in_err-value.ensures.value.1)

pub returns-then-count-left-clause-run : goal.returns-then-count-left-clause-run
returns-then-count-left-clause-run c =
    run_parsed c.args.left c.args.text.now c.in_ok-count_word.count_word.now c.in_ok-count_word.value_word.now (Some c.in_ok-count.count) (Some c.in_ok-value.value)
    c.in_ok-count_word.ensures.0 c.in_ok-count_word.ensures.1 c.in_ok-count_word.ensures.2 (some_count c.in_ok-count.count c.in_ok-count_word.count_word.now c.in_ok-count.ensures.value (omega (arith, c.if-count-eq0.false))) c.in_ok-value.ensures.value
    ∙ ap (λ (o : Option (ℕ × ℕ)). or_fault Run o) (too_long c.args.left (c.in_ok-count.count, c.in_ok-value.value) (omega arith))

pub returns-clause-run : goal.returns-clause-run
returns-clause-run c =
    run_parsed c.args.left c.args.text.now c.in_ok-count_word.count_word.now c.in_ok-count_word.value_word.now (Some c.in_ok-count.count) (Some c.in_ok-value.value)
    c.in_ok-count_word.ensures.0 c.in_ok-count_word.ensures.1 c.in_ok-count_word.ensures.2 (some_count c.in_ok-count.count c.in_ok-count_word.count_word.now c.in_ok-count.ensures.value (omega (arith, c.if-count-eq0.false))) c.in_ok-value.ensures.value
    ∙ ap (λ (o : Option (ℕ × ℕ)). or_fault Run o) (fits c.args.left (c.in_ok-count.count, c.in_ok-value.value) (omega arith))

pub returns-clause-long : goal.returns-clause-long
returns-clause-long c =
    run_length c.args.text.now c.in_ok-count_word.count_word.now c.in_ok-count_word.value_word.now c.in_ok-count.count c.in_ok-value.value
    c.in_ok-count_word.ensures.2 (some_count c.in_ok-count.count c.in_ok-count_word.count_word.now c.in_ok-count.ensures.value (omega (arith, c.if-count-eq0.false))) c.in_ok-value.ensures.value
