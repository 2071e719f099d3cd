use Rattle.szg_results.specs.Folders.{words_of}
use Rattle.szg_results.proofs.After.{answer_is}
use Rattle.szg_results.proofs.folders.Folders.line.Goals as goal

pub returns-clause-line : goal.returns-clause-line
returns-clause-line g c =
    let a = c.in_ok-answer.answer in
    let h = answer_is (g.S.FileSystem.content c.args.system.now) (words_of c.args.self.now) (words_of c.forget.new.self) c.answer.new.self.tables.items c.args.fen.now c.parse_fen.result c.in-Ok.record a
    c.parse_fen.ensures.accepted c.parse_fen.ensures.refused c.in-Ok.is c.forget.ensures.words c.in_ok-answer.ensures.answer c.in_ok-answer.ensures.distances in
    (h.0, a, h.2, c.in_ok-line_of.ensures)

pub returns-clause-fetched : goal.returns-clause-fetched
returns-clause-fetched g c = λ all. c.answer.ensures.fetched (c.forget.ensures.fetched (g.S.FileSystem.content c.args.system.now) all)

pub returns-in_err-line_of-clause-fetched : goal.returns-in_err-line_of-clause-fetched
returns-in_err-line_of-clause-fetched g c = λ all. c.answer.ensures.fetched (c.forget.ensures.fetched (g.S.FileSystem.content c.args.system.now) all)
