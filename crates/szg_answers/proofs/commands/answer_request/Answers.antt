use Rattle.std.proofs.Common.{ℕ, List, ap, inr, rules, subst, sym, ◌∙◌}
use Rattle.std.proofs.lemmas.Result.{on_ok_weaker}
use Rattle.szg_io.specs.Moved.{Gives}
use Rattle.szg_build.specs.Built.{IsDumpOf}
use Rattle.szg_build.specs.Dump.{Dump}
use Rattle.szg_build.specs.Shown.{form_of}
use Rattle.szg_build.specs.Text.{dump_text}
use Rattle.szg_answers.specs.Answers.{IsAnswer}
use Rattle.szg_words.specs.declared.request.Action.{Action}
use Rattle.szg_answers.proofs.commands.answer_request.Goals as goal

-- a beginning of the dump was written
pub returns-in_err-dump_table-in-Dump-clause-memory : goal.returns-in_err-dump_table-in-Dump-clause-memory
returns-in_err-dump_table-in-Dump-clause-memory g c =
    let begun = c.in_err-dump_table-in-Dump.ensures.memory in
    rw (c.in-Dump.is) (λ is. inr (tt, begun.2, begun.3, (begun.0, begun.1, begun.4 ∙ ap (λ (n : ℕ). dump_text (form_of n) begun.0) c.number.ensures.number), begun.5))

-- the dump was written
pub returns-in_ok-dump_table-in-Dump-clause-stated : goal.returns-in_ok-dump_table-in-Dump-clause-stated
returns-in_ok-dump_table-in-Dump-clause-stated g c =
    let t = c.args.table.now in
    let form = c.number.result in
    on_ok_weaker c.map_err-in-Dump.result (λ (dumped : (dump : Dump) × IsDumpOf dump t.contents × Gives g.W.Output c.args.writer.now c.dump_table.new.output (dump_text (form_of form) dump) 0).
    let text : List ℕ = dump_text (form_of form) dumped.0 in (
      text,
      subst (λ (a : Action). IsAnswer a c.args.request.now.part c.args.request.now.side t text) (sym c.in-Dump.is) (dumped.0, dumped.1, ap (λ (n : ℕ). dump_text (form_of n) dumped.0) c.number.ensures.number),
      dumped.2,
    )) (search rules)
