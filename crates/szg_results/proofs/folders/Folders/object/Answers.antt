use Rattle.std.proofs.Common.{◌∙◌, List, Vec, Global, All, Contains, string_bytes, sym, subst}
use Rattle.szg_chess.specs.Moves.{legal_moves}
use Rattle.szg_chess.specs.Position.{Position}
use Rattle.szg_probe.specs.declared.assessments.RankedMove.{RankedMove}
use Rattle.szg_tables.specs.declared.fetched.FetchedTable.{FetchedTable}
use Rattle.szg_results.specs.Folders.{words_of}
use Rattle.szg_results.specs.Objects.{AreAfter, IfFound, IsObjectOf}
use Rattle.szg_results.specs.declared.objects.MoveAfter.{MoveAfter}
use Rattle.szg_results.specs.declared.objects.OrPiece.{OrPiece}
use Rattle.szg_results.proofs.After.{object_is, piece_is}
use Rattle.szg_results.proofs.Kept.{moved, still}
use Rattle.szg_results.proofs.folders.Folders.object.Goals as goal

pub object_of-requires : goal.object_of-requires
object_of-requires g c =
    let Legal = λ (s : MoveAfter). Contains (legal_moves c.in-Ok.record.position) s.ranked.m in
    subst (All Legal) (sym c.as_slice-in-Found.ensures.value)
    (subst (λ (f : OrPiece (Vec MoveAfter Global)). IfFound f (λ (ss : Vec MoveAfter Global). All Legal ss.items)) c.in-Found.is c.in_ok-moves.ensures.legal)

pub returns-in-Found-clause-object : goal.returns-in-Found-clause-object
returns-in-Found-clause-object g c =
    let p : Position = c.in-Ok.record.position in
    let files = g.S.FileSystem.content c.answer.new.system in
    let words = words_of c.answer.new.self in
    let tables = c.answer.new.self.tables.items in
    let moves : List MoveAfter = c.as_slice-in-Found.result.now in
    let found = subst (λ (f : OrPiece (Vec MoveAfter Global)). IfFound f (λ (ss : Vec MoveAfter Global). AreAfter files words tables p c.as_slice.result.now ss.items)) c.in-Found.is c.in_ok-moves.ensures.after in
    let after : AreAfter files words tables p c.in_ok-answer.answer.moves.items moves =
    subst (λ (rs : List RankedMove). AreAfter files words tables p rs moves) c.as_slice.ensures.value
    (subst (λ (ss : List MoveAfter). AreAfter files words tables p c.as_slice.result.now ss) (sym c.as_slice-in-Found.ensures.value) found) in
    subst (λ (ts : List FetchedTable). IsObjectOf (g.S.FileSystem.content c.args.system.now) (words_of c.args.self.now) ts c.args.fen.now (string_bytes c.in_ok-object_of-in-Found.field-0)) (sym c.moves_after.ensures.tables)
    (object_is (g.S.FileSystem.content c.args.system.now) (g.S.FileSystem.content c.pieces.system) files (words_of c.args.self.now) (words_of c.pieces.self) words tables
    c.args.fen.now (string_bytes c.in_ok-object_of-in-Found.field-0) c.parse_fen.result c.in-Ok.record c.in_ok-answer.answer moves
    c.parse_fen.ensures.accepted c.parse_fen.ensures.refused c.in-Ok.is c.pieces.invariant.content c.pieces.invariant.words c.in_ok-answer.ensures.content c.answer.ensures.words
    c.in_ok-answer.ensures.answer c.in_ok-answer.ensures.distances after c.in_ok-object_of-in-Found.ensures)

pub moves_after-requires : goal.moves_after-requires
moves_after-requires g c =
    let Legal = λ (r : RankedMove). Contains (legal_moves c.in-Ok.record.position) r.m in
    subst (All Legal) (sym c.as_slice.ensures.value) c.in_ok-answer.ensures.answer.legal

pub returns-in_err-answer-clause-fetched : goal.returns-in_err-answer-clause-fetched
returns-in_err-answer-clause-fetched g c = λ all.
    moved (g.S.FileSystem.content c.args.system.now) (g.S.FileSystem.content c.pieces.system) (words_of c.pieces.self) (words_of c.answer.new.self) c.pieces.self.tables.items c.answer.new.self.tables.items c.pieces.invariant.content c.answer.ensures.fetched
    (c.pieces.invariant.fetched (c.forget.ensures.fetched (g.S.FileSystem.content c.args.system.now) all))

pub returns-in_err-moves-clause-fetched : goal.returns-in_err-moves-clause-fetched
returns-in_err-moves-clause-fetched g c = λ all.
    still (g.S.FileSystem.content c.args.system.now) (words_of c.answer.new.self) (words_of c.moves_after.new.self) c.answer.new.self.tables.items c.moves_after.new.self.tables.items c.moves_after.ensures.words c.moves_after.ensures.tables
    (moved (g.S.FileSystem.content c.args.system.now) (g.S.FileSystem.content c.pieces.system) (words_of c.pieces.self) (words_of c.answer.new.self) c.pieces.self.tables.items c.answer.new.self.tables.items c.pieces.invariant.content c.answer.ensures.fetched
    (c.pieces.invariant.fetched (c.forget.ensures.fetched (g.S.FileSystem.content c.args.system.now) all)))

pub returns-in_err-object_of-in-Found-clause-fetched : goal.returns-in_err-object_of-in-Found-clause-fetched
returns-in_err-object_of-in-Found-clause-fetched g c = λ all.
    still (g.S.FileSystem.content c.args.system.now) (words_of c.answer.new.self) (words_of c.moves_after.new.self) c.answer.new.self.tables.items c.moves_after.new.self.tables.items c.moves_after.ensures.words c.moves_after.ensures.tables
    (moved (g.S.FileSystem.content c.args.system.now) (g.S.FileSystem.content c.pieces.system) (words_of c.pieces.self) (words_of c.answer.new.self) c.pieces.self.tables.items c.answer.new.self.tables.items c.pieces.invariant.content c.answer.ensures.fetched
    (c.pieces.invariant.fetched (c.forget.ensures.fetched (g.S.FileSystem.content c.args.system.now) all)))

pub returns-in-Found-clause-fetched : goal.returns-in-Found-clause-fetched
returns-in-Found-clause-fetched g c = λ all.
    still (g.S.FileSystem.content c.args.system.now) (words_of c.answer.new.self) (words_of c.moves_after.new.self) c.answer.new.self.tables.items c.moves_after.new.self.tables.items c.moves_after.ensures.words c.moves_after.ensures.tables
    (moved (g.S.FileSystem.content c.args.system.now) (g.S.FileSystem.content c.pieces.system) (words_of c.pieces.self) (words_of c.answer.new.self) c.pieces.self.tables.items c.answer.new.self.tables.items c.pieces.invariant.content c.answer.ensures.fetched
    (c.pieces.invariant.fetched (c.forget.ensures.fetched (g.S.FileSystem.content c.args.system.now) all)))

pub returns-in_err-keep-in-Read-clause-fetched : goal.returns-in_err-keep-in-Read-clause-fetched
returns-in_err-keep-in-Read-clause-fetched g c = λ all.
    c.keep.ensures.fetched (g.S.FileSystem.content c.args.system.now)
    (piece_is {A = Vec MoveAfter Global} (g.S.FileSystem.content c.args.system.now) (g.S.FileSystem.content c.answer.new.system) (words_of c.moves_after.new.self) (words_of c.answer.new.self) c.moves_after.new.self.tables.items c.answer.new.self.tables.items _ c.in-Read.piece
    (c.answer.ensures.content ∙ c.pieces.invariant.content) (sym c.moves_after.ensures.words) (sym c.moves_after.ensures.tables) c.in-Read.is c.in_ok-moves.ensures.read)
    (still (g.S.FileSystem.content c.args.system.now) (words_of c.answer.new.self) (words_of c.moves_after.new.self) c.answer.new.self.tables.items c.moves_after.new.self.tables.items c.moves_after.ensures.words c.moves_after.ensures.tables
    (moved (g.S.FileSystem.content c.args.system.now) (g.S.FileSystem.content c.pieces.system) (words_of c.pieces.self) (words_of c.answer.new.self) c.pieces.self.tables.items c.answer.new.self.tables.items c.pieces.invariant.content c.answer.ensures.fetched
    (c.pieces.invariant.fetched (c.forget.ensures.fetched (g.S.FileSystem.content c.args.system.now) all))))

pub pieces-preserved : goal.pieces-preserved
pieces-preserved g c = record {
  words = c.keep.ensures.words ∙ c.moves_after.ensures.words ∙ c.answer.ensures.words ∙ c.pieces.invariant.words;
  content = c.in_ok-moves.ensures.content ∙ c.answer.ensures.content ∙ c.pieces.invariant.content;
  fetched = λ all.
      c.keep.ensures.fetched (g.S.FileSystem.content c.args.system.now)
      (piece_is {A = Vec MoveAfter Global} (g.S.FileSystem.content c.args.system.now) (g.S.FileSystem.content c.answer.new.system) (words_of c.moves_after.new.self) (words_of c.answer.new.self) c.moves_after.new.self.tables.items c.answer.new.self.tables.items _ c.in-Read.piece
      (c.answer.ensures.content ∙ c.pieces.invariant.content) (sym c.moves_after.ensures.words) (sym c.moves_after.ensures.tables) c.in-Read.is c.in_ok-moves.ensures.read)
      (still (g.S.FileSystem.content c.args.system.now) (words_of c.answer.new.self) (words_of c.moves_after.new.self) c.answer.new.self.tables.items c.moves_after.new.self.tables.items c.moves_after.ensures.words c.moves_after.ensures.tables
      (moved (g.S.FileSystem.content c.args.system.now) (g.S.FileSystem.content c.pieces.system) (words_of c.pieces.self) (words_of c.answer.new.self) c.pieces.self.tables.items c.answer.new.self.tables.items c.pieces.invariant.content c.answer.ensures.fetched
      (c.pieces.invariant.fetched all)));
}
