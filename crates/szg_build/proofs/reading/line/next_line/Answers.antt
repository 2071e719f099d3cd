use Rattle.std.proofs.lemmas.Bool.Decides.{nat_tests}
use Rattle.std.proofs.Common.{rules}
use Rattle.std.proofs.Common.{◌≡◌, add-one, ap, ◌∙◌, drop, length, arith}
use Rattle.szg_build.specs.Held.{held_of}
use Rattle.szg_build.specs.Lines.{words_of}
use Rattle.szg_build.proofs.Readers.LineRead.{reads_whole, reads_long, reads_ended}
use Rattle.szg_build.proofs.reading.line.next_line.Goals as goal

pub returns-in-Some-clause-line : goal.returns-in-Some-clause-line
returns-in-Some-clause-line g c =
    let held = held_of c.chunks.incoming in
    let n = c.in-Some.size in
    let v = c.chunks.invariant in
    reads_whole (λ text. words_of text.items) c.split_line.result held v.0 n (ap words_of c.split_line.ensures.text) v.2
    (c.split_line.ensures.held ∙ ap (λ k. drop k held) (add-one n)) (c.split_line.ensures.line ∙ v.4 ∙ c.saturating_add-line.ensures)
    c.in-Some.ensures.none.0 (omega (arith, c.in-Some.ensures.none.1, ap length c.held.ensures)) (rw c.held.ensures at c.in-Some.ensures.newline) (rw c.held.ensures at c.in-Some.ensures.before) v.1 v.3

pub returns-then-held-gt-LINE_ROOM-clause-line : goal.returns-then-held-gt-LINE_ROOM-clause-line
returns-then-held-gt-LINE_ROOM-clause-line g c =
    let held = held_of c.chunks.incoming in
    let v = c.chunks.invariant in
    let none = rw c.in_default.is at c.line_len.ensures.none in
    reads_long (λ text. words_of text.items) held v.0 c.saturating_add-line.result v.2 c.saturating_add-line.ensures
    (omega (arith, c.if-held-gt-LINE_ROOM.true, ap length c.held-in-chunks.ensures)) (rw c.held.ensures at none) v.1 v.3

pub returns-in-Ok-eq0-clause-line : goal.returns-in-Ok-eq0-clause-line
returns-in-Ok-eq0-clause-line g c =
    let held = held_of c.chunks.incoming in
    let v = c.chunks.invariant in
    let none = rw c.in_default.is at c.line_len.ensures.none in
    let zeroed : c.in-Ok-eq0.field-0 ≡ 0 = first_of (omega (arith, c.in-Ok-eq0.field-0-test), cc, omega arith, search (rules, nat_tests), grind (arith, nat_tests)) in
    let last = c.in-Ok-eq0.ensures.end zeroed in
    reads_ended (λ text. words_of text.items) held v.0 c.saturating_add-line.result v.2 c.saturating_add-line.ensures
    (omega (arith, c.if-held-gt-LINE_ROOM.false, ap length c.held-in-chunks.ensures)) (rw c.held.ensures at none) v.1 v.3 last.0 last.1 c.in-Ok-eq0.ensures.quiet
