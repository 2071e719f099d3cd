use Rattle.std.proofs.Common.{[], ◌++◌, refl, rules, sym, append-nil, ◌∙◌}
use Rattle.szg_io.proofs.DeviceLaws.{Gives-on, Gives-none}
use Rattle.szg_answers.proofs.SinkLines.{same_begun, same_on}
use Rattle.szg_answers.proofs.streaming.add_same.Goals as goal

pub values-init : goal.values-init
values-init g c = record { quiet = refl; out = []; given = Gives-none _ _ 0; lines = sym (append-nil c.args.text.now.items) }

pub values-preserved : goal.values-preserved
values-preserved g c =
    let chunk = c.in_ok-say_chunk.ensures.given in
    record {
      quiet = search rules;
      out = c.values.invariant.out ++ chunk.0;
      given = Gives-on _ _ 0 c.values.invariant.given chunk.1;
      lines = same_on _ _ _ _ _ _ _ c.values.invariant.lines (chunk.2 ∙ c.in_ok-add_line.ensures);
    }

pub returns-in_err-add_line-clause-memory : goal.returns-in_err-add_line-clause-memory
returns-in_err-add_line-clause-memory g c = λ is. (c.values.invariant.out, _, same_begun c.args.text.now.items c.values.invariant.out c.values.text.items c.args.value c.values._done c.args.count (search rules) c.values.invariant.lines, c.values.invariant.given)
