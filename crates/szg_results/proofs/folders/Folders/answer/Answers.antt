use Rattle.std.proofs.Common.{◌≡◌, ◌∙◌, Option, rules, subst, sym}
use Rattle.std.specs.Prelude.{IfSome}
use Rattle.szg_results.specs.Folders.{AreFetched, IsPieceOf, words_of}
use Rattle.szg_results.specs.declared.pieces.Piece.{Piece}
use Rattle.szg_results.proofs.Absent.{lacking, same_lacking}
use Rattle.szg_results.proofs.Kept.{carried, moved}
use Rattle.szg_results.proofs.folders.Folders.answer.Goals as goal

pub pieces-preserved : goal.pieces-preserved
pieces-preserved g c =
    let files = g.S.FileSystem.content c.args.system.now in let there = g.S.FileSystem.content c.pieces.system in
    let words = words_of c.pieces.self in let kept = c.answer_over.new.tables.items in let new = c.keep.new.self.tables.items in
    let same : kept ≡ c.pieces.self.tables.items = c.answer_over.ensures.tables in
    let piece = subst (λ (o : Option Piece). IfSome o (IsPieceOf there words kept)) c.in-Some.is c.in_ok-piece.ensures.read in
    record {
      lacks = c.pieces.invariant.lacks;
      words = c.read_ahead.ensures.words ∙ c.keep.ensures.words ∙ c.pieces.invariant.words;
      content = c.read_ahead.ensures.content ∙ c.read_piece.ensures.content ∙ c.pieces.invariant.content;
      fetched = λ all. moved files (g.S.FileSystem.content c.read_piece.new.system) (words_of c.keep.new.self) (words_of c.read_ahead.new.self) new c.read_ahead.new.self.tables.items (c.read_piece.ensures.content ∙ c.pieces.invariant.content) c.read_ahead.ensures.fetched
          (carried files there words (words_of c.keep.new.self) kept new c.in-Some.piece c.pieces.invariant.content piece c.keep.ensures.fetched (subst (AreFetched files words) (sym same) (c.pieces.invariant.fetched all)));
    }

pub returns-in_err-keep-clause-fetched : goal.returns-in_err-keep-clause-fetched
returns-in_err-keep-clause-fetched g c = λ all.
    let files = g.S.FileSystem.content c.args.system.now in let there = g.S.FileSystem.content c.pieces.system in
    let words = words_of c.pieces.self in let kept = c.answer_over.new.tables.items in let new = c.keep.new.self.tables.items in
    let same : kept ≡ c.pieces.self.tables.items = c.answer_over.ensures.tables in
    let piece = subst (λ (o : Option Piece). IfSome o (IsPieceOf there words kept)) c.in-Some.is c.in_ok-piece.ensures.read in
    carried files there words (words_of c.keep.new.self) kept new c.in-Some.piece c.pieces.invariant.content piece c.keep.ensures.fetched (subst (AreFetched files words) (sym same) (c.pieces.invariant.fetched all))

pub returns-in-Ok-clause-distances : goal.returns-in-Ok-clause-distances
returns-in-Ok-clause-distances g c = λ none. c.pieces.invariant.lacks (sym c.in-Ok.ensures.has_distances ∙ none)

pub pieces-preserved-in_default : goal.pieces-preserved-in_default
pieces-preserved-in_default g c =
    let files = g.S.FileSystem.content c.args.system.now in
    let words = words_of c.pieces.self in let kept = c.answer_over.new.tables.items in
    let same : kept ≡ c.pieces.self.tables.items = c.answer_over.ensures.tables in
    record {
      words = c.pieces.invariant.words;
      content = c.read_piece.ensures.content ∙ c.pieces.invariant.content;
      lacks = λ _. same_lacking files (g.S.FileSystem.content c.pieces.system) (words_of c.args.self.now) words c.args.fen.now.position c.pieces.invariant.content c.pieces.invariant.words
          (lacking (g.S.FileSystem.content c.pieces.system) words c.in-Err-Tables.missing.material c.in-Err-Tables.missing.kind c.args.fen.now.position (search rules) (search rules));
      fetched = λ all. subst (AreFetched files words) (sym same) (c.pieces.invariant.fetched all);
    }
