use Rattle.std.proofs.Common.{◌≡◌, false}
use Rattle.szg_results.specs.Folders.{AreFetched, LacksDistances, words_of}
use Rattle.szg_results.proofs.folders.Folders.answer.Given as goal

abbrev pub invariant-pieces : goal.invariant-pieces
invariant-pieces g l = record {
  words : words_of l.self ≡ words_of l.initial.self;
  content : g.S.FileSystem.content l.system ≡ g.S.FileSystem.content l.initial.system;
  lacks : l.has_distances ≡ false → LacksDistances (g.S.FileSystem.content l.initial.system) (words_of l.initial.self) l.fen.position;
  fetched : AreFetched (g.S.FileSystem.content l.initial.system) (words_of l.initial.self) l.initial.self.tables.items → AreFetched (g.S.FileSystem.content l.initial.system) (words_of l.self) l.self.tables.items;
}
