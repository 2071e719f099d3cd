use Rattle.std.proofs.Common.{◌≡◌, ◌∙◌, subst, sym}
use Rattle.szg_results.specs.Folders.{AreFetched, words_of}
use Rattle.szg_results.proofs.Kept.{carried, moved}
use Rattle.szg_results.proofs.folders.Folders.read_ahead.Goals as goal

pub wanted-preserved : goal.wanted-preserved
wanted-preserved g c = record {
  words = c.keep.ensures.words ∙ c.wanted.invariant.words;
  content = c.read_piece.ensures.content ∙ c.wanted.invariant.content;
  fetched = λ all. carried (g.S.FileSystem.content c.passes.system) (g.S.FileSystem.content c.wanted.system) (words_of c.wanted.self) (words_of c.keep.new.self) c.wanted.self.tables.items c.keep.new.self.tables.items
      c.in-Ok-Some.piece c.wanted.invariant.content (rw (c.in-Ok-Some.field-0-is) at c.in-Ok-Some.ensures.read) c.keep.ensures.fetched (c.wanted.invariant.fetched all);
}

pub returns-then-is_err-clause-fetched : goal.returns-then-is_err-clause-fetched
returns-then-is_err-clause-fetched g c = λ all.
    let files = g.S.FileSystem.content c.passes.system in
    let same : c.wanted_values-wanted.new.tables.items ≡ c.passes.self.tables.items = c.wanted_values-wanted.ensures in
    let before : AreFetched files (words_of c.passes.self) c.passes.self.tables.items → AreFetched files (words_of c.wanted.self) c.wanted.self.tables.items =
    λ here. c.wanted.invariant.fetched (subst (AreFetched files (words_of c.passes.self)) (sym same) here) in
    moved (g.S.FileSystem.content c.args.system.now) files (words_of c.passes.self) (words_of c.keep.new.self) c.passes.self.tables.items c.keep.new.self.tables.items c.passes.invariant.content
    (λ here. carried files (g.S.FileSystem.content c.wanted.system) (words_of c.wanted.self) (words_of c.keep.new.self) c.wanted.self.tables.items c.keep.new.self.tables.items c.in-Ok-Some.piece
    c.wanted.invariant.content (rw (c.in-Ok-Some.field-0-is) at c.in-Ok-Some.ensures.read) c.keep.ensures.fetched (before here)) (c.passes.invariant.fetched all)

pub returns-in_default-clause-fetched : goal.returns-in_default-clause-fetched
returns-in_default-clause-fetched g c = λ all.
    let files = g.S.FileSystem.content c.passes.system in
    let same : c.wanted_values-wanted.new.tables.items ≡ c.passes.self.tables.items = c.wanted_values-wanted.ensures in
    moved (g.S.FileSystem.content c.args.system.now) files (words_of c.passes.self) (words_of c.wanted.self) c.passes.self.tables.items c.wanted.self.tables.items c.passes.invariant.content
    (λ here. c.wanted.invariant.fetched (subst (AreFetched files (words_of c.passes.self)) (sym same) here)) (c.passes.invariant.fetched all)

pub passes-preserved : goal.passes-preserved
passes-preserved g c =
    let files = g.S.FileSystem.content c.passes.system in
    let same : c.wanted_values-wanted.new.tables.items ≡ c.passes.self.tables.items = c.wanted_values-wanted.ensures in
    record {
      words = c.wanted.invariant.words ∙ c.passes.invariant.words;
      content = c.wanted.invariant.content ∙ c.passes.invariant.content;
      fetched = λ all.
          moved (g.S.FileSystem.content c.args.system.now) files (words_of c.passes.self) (words_of c.wanted.self) c.passes.self.tables.items c.wanted.self.tables.items c.passes.invariant.content
          (λ here. c.wanted.invariant.fetched (subst (AreFetched files (words_of c.passes.self)) (sym same) here)) (c.passes.invariant.fetched all);
    }
