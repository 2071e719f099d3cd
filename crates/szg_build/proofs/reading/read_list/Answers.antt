use Rattle.std.proofs.Common.{ℕ, [], ◌∷◌, map, arith}
use Rattle.std.proofs.lemmas.Result.{err_from_is_err_and}
use Rattle.szg_build.specs.Grammar.{value, number_line, repeated, greatest_count}
use Rattle.szg_build.proofs.Readers.ReadingLaws.{passed_on, reads_then, reads_stopped}
use Rattle.szg_build.proofs.Readers.SayingLaws.{map_pattern, map_front}
use Rattle.szg_build.proofs.Readers.LackLaws.{lacks_then}
use Rattle.szg_build.proofs.reading.read_list.Goals as goal

pub returns-in_err-count-clause-lines : goal.returns-in_err-count-clause-lines
returns-in_err-count-clause-lines g c =
    let p = err_from_is_err_and c.from_residual.result c.from_residual.ensures.1 in
    rw (p.1, p.2) (reads_stopped (number_line (map_pattern c.args.j) greatest_count) (λ n. repeated n (number_line (value ∷ []) g.T.Item.GREATEST)) (λ (n : ℕ). n) (λ list. map g.T.Item.number list.items) c.in_err-count.field-0.0
    (c.in_err-count.ensures.lines (map_pattern c.args.j) (map_front c.args.j (omega (arith, c.requires.list)))))

pub returns-clause-lines : goal.returns-clause-lines
returns-clause-lines g c =
    reads_then (number_line (map_pattern c.args.j) greatest_count) (λ n. repeated n (number_line (value ∷ []) g.T.Item.GREATEST)) (λ (n : ℕ). n) (λ list. map g.T.Item.number list.items) c.in_ok-count.count
    (c.in_ok-count.ensures.lines (map_pattern c.args.j) (map_front c.args.j (omega (arith, c.requires.list)))) c.read_items.ensures.lines

pub returns-in_err-count-clause-memory : goal.returns-in_err-count-clause-memory
returns-in_err-count-clause-memory g c = passed_on c.from_residual.ensures.1 c.in_err-count.ensures.memory

pub returns-clause-memory : goal.returns-clause-memory
returns-clause-memory g c = λ e.
    lacks_then (number_line (map_pattern c.args.j) greatest_count) (λ n. repeated n (number_line (value ∷ []) g.T.Item.GREATEST)) c.args.following (λ (n : ℕ). n) c.in_ok-count.count
    (c.in_ok-count.ensures.lines (map_pattern c.args.j) (map_front c.args.j (omega (arith, c.requires.list)))) (c.read_items.ensures.memory e)
