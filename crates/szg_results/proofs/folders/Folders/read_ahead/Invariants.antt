use Rattle.std.proofs.Common.{◌≡◌}
use Rattle.szg_results.specs.Folders.{AreFetched, words_of}
use Rattle.szg_results.proofs.folders.Folders.read_ahead.Given as goal

abbrev pub invariant-passes : goal.invariant-passes
invariant-passes g l = record {
  words : words_of l.self ≡ words_of l.initial.self;
  content : g.S.FileSystem.content l.system ≡ g.S.FileSystem.content l.initial.system;
  fetched : AreFetched (g.S.FileSystem.content l.initial.system) (words_of l.initial.self) l.initial.self.tables.items → AreFetched (g.S.FileSystem.content l.initial.system) (words_of l.self) l.self.tables.items;
}

abbrev pub invariant-wanted : goal.invariant-wanted
invariant-wanted g l = record {
  words : words_of l.self ≡ words_of l.initial.self;
  content : g.S.FileSystem.content l.system ≡ g.S.FileSystem.content l.initial.system;
  fetched : AreFetched (g.S.FileSystem.content l.initial.system) (words_of l.initial.self) l.initial.self.tables.items → AreFetched (g.S.FileSystem.content l.initial.system) (words_of l.self) l.self.tables.items;
}
