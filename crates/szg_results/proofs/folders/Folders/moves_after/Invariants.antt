use Rattle.std.proofs.Common.{◌≡◌, map, take}
use Rattle.std.specs.Prelude.{All, Contains}
use Rattle.szg_chess.specs.Moves.{after, legal_moves}
use Rattle.szg_results.specs.Folders.{words_of}
use Rattle.szg_results.specs.Objects.{IsDtz}
use Rattle.szg_results.proofs.folders.Folders.moves_after.Given as goal

-- the moves so far, each with the DTZ after it
abbrev pub invariant-moves : goal.invariant-moves
invariant-moves g l = record {
  words : words_of l.self ≡ words_of l.initial.self;
  tables : l.self.tables.items ≡ l.initial.self.tables.items;
  content : g.S.FileSystem.content l.system ≡ g.S.FileSystem.content l.initial.system;
  same : map (λ s. s.ranked) l.found.items ≡ take l.ranked-index l.moves;
  legal : All (λ s. Contains (legal_moves l.position) s.ranked.m) l.found.items;
  dtz : All (λ s. IsDtz (g.S.FileSystem.content l.initial.system) (words_of l.initial.self) l.initial.self.tables.items (after l.position s.ranked.m) s.dtz) l.found.items;
}
