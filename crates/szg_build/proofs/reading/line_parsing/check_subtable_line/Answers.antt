use Rattle.std.proofs.Common.{◌≡◌, ◌∙◌, true, false, sym, arith}
use Rattle.std.proofs.lemmas.Slice.Eq.{bytes_eq-Decides}
use Rattle.szg_build.proofs.Readers.SayingLaws.{place_parsed, place_unparsed, same_word}
use Rattle.szg_build.proofs.reading.line_parsing.check_subtable_line.Goals as goal

pub returns-then-eq : goal.returns-then-eq
returns-then-eq c =
    place_parsed c.args.place c.args.text.now (omega arith) (same_word c.args.text.now c.as_slice.result.now (sym c.eq.ensures ∙ c.if-eq.true) ∙ c.as_slice.ensures)

pub returns-else-eq : goal.returns-else-eq
returns-else-eq c =
    place_unparsed c.args.place c.args.text.now (omega arith)
    (λ e. let yes : c.eq.result ≡ true = c.eq.ensures ∙ (bytes_eq-Decides c.args.text.now c.as_slice.result.now).1 (e ∙ sym c.as_slice.ensures) in
    let other : c.eq.result ≡ false = c.if-eq.false in
    cc)
