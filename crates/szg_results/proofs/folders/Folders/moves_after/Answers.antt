use Rattle.std.proofs.Common.{◌≡◌, ◌∙◌, ◌++◌, [], ◌∷◌, ℤ, Bool, List, Option, All, Contains, map, ap, sym, subst}
use Rattle.std.specs.Prelude.{if◌then◌else◌}
use Rattle.std.proofs.lemmas.List.Elements.{All-push}
use Rattle.szg_chess.specs.Position.{Position}
use Rattle.szg_chess.specs.Moves.{after, legal_moves}
use Rattle.szg_probe.specs.declared.assessments.RankedMove.{RankedMove}
use Rattle.szg_results.specs.Folders.{words_of}
use Rattle.szg_results.specs.Objects.{IfFound, IsDtz}
use Rattle.szg_results.specs.declared.objects.MoveAfter.{MoveAfter}
use Rattle.szg_results.specs.declared.objects.OrPiece.{OrPiece}
use Rattle.szg_results.proofs.After.{more_moves, piece_is, same_dtz}
use Rattle.szg_results.proofs.folders.Folders.moves_after.Goals as goal

pub after-requires : goal.after-requires
after-requires g c =
    let legal = λ (r : RankedMove). Contains (legal_moves c.args.position.now) r.m in
    subst legal (sym c.ranked-item.is) (c.requires c.moves.ranked-index c.ranked-item.result c.moves-test.true)

pub moves-preserved : goal.moves-preserved
moves-preserved g c =
    let p : Position = c.args.position.now in
    let files = g.S.FileSystem.content c.args.system.now in
    let words = words_of c.args.self.now in
    let tables = c.args.self.now.tables.items in
    let before : List MoveAfter = c.moves.found.items in
    let s : MoveAfter = record { ranked = c.ranked-item.result; dtz = c.in-Found.dtz } in
    let pushed : c.push.new.self.items ≡ before ++ s ∷ [] =
    c.push.ensures.items ∙ ap (λ (b : Bool). if b then before ++ s ∷ [] else before) c.if-is_err.ensures.negation in
    let Legal = λ (r : RankedMove). Contains (legal_moves p) r.m in
    let legal : Legal c.ranked-item.result = subst Legal (sym c.ranked-item.is) (c.requires c.moves.ranked-index c.ranked-item.result c.moves-test.true) in
    let IsAfter = λ (t : MoveAfter). IsDtz files words tables (after p t.ranked.m) t.dtz in
    let there = g.S.FileSystem.content c.moves.system in
    let words-there = words_of c.moves.self in
    let tables-there = c.moves.self.tables.items in
    let found = subst (λ (f : OrPiece (Option ℤ)). IfFound f (λ (dtz : Option ℤ). IsDtz there words-there tables-there c.after.result dtz)) c.in-Found.is c.in_ok-dtz.ensures.dtz in
    let dtz : IsAfter s = same_dtz files there words words-there tables tables-there (after p c.ranked-item.result.m) c.in-Found.dtz c.moves.invariant.content c.moves.invariant.words c.moves.invariant.tables
    (subst (λ (q : Position). IsDtz there words-there tables-there q c.in-Found.dtz) c.after.ensures found) in
    record {
      words = c.dtz.ensures.words ∙ c.moves.invariant.words;
      tables = c.dtz.ensures.tables ∙ c.moves.invariant.tables;
      content = c.in_ok-dtz.ensures.content ∙ c.moves.invariant.content;
      same = ap (map (λ (t : MoveAfter). t.ranked)) pushed ∙ more_moves c.args.moves.now c.moves.ranked-index c.ranked-item.result before s c.moves-test.true c.moves.invariant.same c.ranked-item.is;
      legal = subst (All (λ (t : MoveAfter). Legal t.ranked)) (sym pushed) (All-push (λ (t : MoveAfter). Legal t.ranked) before s c.moves.invariant.legal legal);
      dtz = subst (All IsAfter) (sym pushed) (All-push IsAfter before s c.moves.invariant.dtz dtz);
    }

pub returns-in-Read-clause-read : goal.returns-in-Read-clause-read
returns-in-Read-clause-read g c =
    piece_is {A = Option ℤ} (g.S.FileSystem.content c.args.system.now) (g.S.FileSystem.content c.moves.system) (words_of c.args.self.now) (words_of c.moves.self) c.args.self.now.tables.items c.moves.self.tables.items _ c.in-Read.piece
    c.moves.invariant.content c.moves.invariant.words c.moves.invariant.tables c.in-Read.is c.in_ok-dtz.ensures.read
