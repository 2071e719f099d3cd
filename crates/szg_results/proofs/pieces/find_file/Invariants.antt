use Rattle.std.proofs.Common.{◌≡◌, map, take}
use Rattle.szg_results.specs.Folders.{IsAbsent}
use Rattle.szg_results.proofs.pieces.find_file.Given as goal

-- the table is absent by the words so far
abbrev pub invariant-words : goal.invariant-words
invariant-words g l = record {
  content : g.S.FileSystem.content l.system ≡ g.S.FileSystem.content l.initial.system;
  absent : IsAbsent (g.S.FileSystem.content l.initial.system) (map (λ word. word.now) (take l.word-index l.words)) l.missing.material l.missing.kind;
}
