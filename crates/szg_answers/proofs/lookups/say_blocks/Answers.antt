use Rattle.std.proofs.Common.{◌≡◌, ℕ, List, [], ◌++◌, flat_map, append_assoc, ap, refl, sym, ◌∙◌}
use Rattle.std.proofs.lemmas.Result.{err_from_is_err_and}
use Rattle.szg_io.proofs.DeviceLaws.{Gives-none, Gives-on}
use Rattle.szg_build.proofs.Readers.ReadingLaws.{same_error}
use Rattle.szg_answers.specs.Answers.{number_line}
use Rattle.szg_answers.proofs.SinkLines.{begun, joined_lines, lines_cut}
use Rattle.szg_answers.proofs.lookups.say_blocks.Goals as goal

pub each-init : goal.each-init
each-init g c = record { quiet = refl; done = []; whole = refl; out = []; given = Gives-none _ _ 0; lines = c.new-text.ensures.items }

pub each-preserved : goal.each-preserved
each-preserved g c =
    let v = c.each.invariant in
    let here = c.decode_next.new.values.items in
    let piece = c.in_ok-add_lines.ensures.given in
    record {
      quiet = c.in_ok-add_lines.ensures.quiet ∙ v.quiet;
      done = v.done ++ here;
      whole = append_assoc v.done here c.decode_next.new.self.values ∙ ap (λ (z : List ℕ). v.done ++ z) (sym (c.in_ok-decode_next.ensures.values c.if-branch.true)) ∙ v.whole;
      out = v.out ++ piece.0;
      given = Gives-on _ _ 0 v.given piece.1;
      lines = joined_lines v.done here [] v.out c.each.text.items piece.0 c.add_lines.new.text.items v.lines
          (piece.2 ∙ ap (λ (z : List ℕ). c.each.text.items ++ flat_map number_line z) c.deref.ensures.value);
    }

pub returns-in_err-decode_next-clause-memory : goal.returns-in_err-decode_next-clause-memory
returns-in_err-decode_next-clause-memory g c = λ is.
    let v = c.each.invariant in
    (v.out, c.each.text.items ++ flat_map number_line c.each.blocks.values, begun [] v.out c.each.text.items v.done c.each.blocks.values c.args.blocks.now.values v.whole v.lines, v.given)

pub returns-in_err-add_lines-clause-memory : goal.returns-in_err-add_lines-clause-memory
returns-in_err-add_lines-clause-memory g c =
    let p = err_from_is_err_and c.from_residual-in_err-add_lines.result c.from_residual-in_err-add_lines.ensures.1 in
    let v = c.each.invariant in
    let here = c.decode_next.new.values.items in
    let left = c.decode_next.new.self.values in
    let whole : v.done ++ (here ++ left) ≡ c.args.blocks.now.values = ap (λ (z : List ℕ). v.done ++ z) (sym (c.in_ok-decode_next.ensures.values c.if-branch.true)) ∙ v.whole in
    rw (p.1, p.2) (λ e.
    let cut = c.in_err-add_lines.ensures.memory (same_error e) in (
      v.out ++ cut.0,
      cut.1 ++ flat_map number_line left,
      lines_cut v.done here left c.args.blocks.now.values v.out c.each.text.items cut.0 cut.1 whole v.lines
          (cut.2 ∙ ap (λ (z : List ℕ). c.each.text.items ++ flat_map number_line z) c.deref.ensures.value),
      Gives-on _ _ 0 v.given cut.3,
    ))
