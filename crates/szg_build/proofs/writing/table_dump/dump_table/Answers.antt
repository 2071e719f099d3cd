use Rattle.std.proofs.Common.{◌∙◌, ℕ, List, [], ◌++◌, rules}
use Rattle.std.proofs.lemmas.Result.{IfOk-at_ok, err_from_is_err_and, on_ok_weaker}
use Rattle.szg_io.specs.Moved.{Gives}
use Rattle.szg_build.specs.Stored.{all_values}
use Rattle.szg_build.specs.Streaming.{text_left}
use Rattle.szg_build.proofs.Texts.OwnDumps.{own_dump}
use Rattle.szg_build.proofs.Writers.StreamSteps.{goes_as}
use Rattle.szg_file.specs.Streaming.{wanted_of}
use Rattle.szg_build.proofs.Writers.StreamLaws.{all_wanted}
use Rattle.szg_build.proofs.Writers.StreamedDumps.{own_dump_is, streamed_text}
use Rattle.szg_build.proofs.Writers.TableDumps.{all_are_wanted, begun_text}
use Rattle.szg_build.proofs.writing.table_dump.dump_table.Goals as goal

pub returns-in_err-put_subtables-clause-memory : goal.returns-in_err-put_subtables-clause-memory
returns-in_err-put_subtables-clause-memory g c =
    let t = c.args.table.now in
    let p = err_from_is_err_and c.from_residual.result c.from_residual.ensures.1 in
    let begun = c.in_err-put_subtables.ensures.memory in
    let wrote = begun_text g.W.Output c.args.form c.index.result.now c.last.result.now t c.in-Ok.sink c.put_subtables.new.sink c.args.output.now c.begin_dump.new.output c.put_subtables.new.output begun.0 begun.1
    c.in-Ok.ensures.index c.in-Ok.ensures.begun c.in-Ok.ensures.given (begun.2 ∙ all_are_wanted t.contents) begun.3 c.index.ensures.index c.last.ensures c.index.ensures.accepted in
    rw (p.1) (own_dump t.contents, own_dump_is t, wrote.0, wrote.1, wrote.2, wrote.3)

pub returns-clause-dumped : goal.returns-clause-dumped
returns-clause-dumped g c =
    let t = c.args.table.now in
    let goes = IfOk-at_ok _ c.in-Ok-2.is c.in_ok-put_subtables.ensures.goes in
    let end : List ℕ = c.put_subtables.new.sink.text.held.items ++ text_left c.put_subtables.new.sink [] in
    on_ok_weaker c.map_err.result (λ (given : Gives g.W.Output c.put_subtables.new.output c.end_dump.new.output end 0). (
      own_dump t.contents,
      own_dump_is t,
      streamed_text g.W.Output c.args.form c.index.result.now c.last.result.now t c.in-Ok.sink c.put_subtables.new.sink c.args.output.now c.begin_dump.new.output c.put_subtables.new.output c.end_dump.new.output
          c.in-Ok.ensures.index c.in-Ok.ensures.begun c.in-Ok.ensures.given (goes_as (all_values t.contents) (wanted_of all_wanted t.contents) (all_are_wanted t.contents) goes) given
          c.index.ensures.index c.last.ensures c.index.ensures.accepted,
    )) (search rules)
