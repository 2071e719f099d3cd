use Rattle.std.proofs.Common.{◌≡◌, take}
use Rattle.szg_verified.specs.Verified.{AreReadFrom}
use Rattle.szg_verified.proofs.folder.tables_in.Given as goal

-- the tables of the materials so far
abbrev pub invariant-materials : goal.invariant-materials
invariant-materials g l = record {
  content : g.S.FileSystem.content l.system ≡ g.S.FileSystem.content l.initial.system;
  read : AreReadFrom (g.S.FileSystem.content l.initial.system) l.folder (take l.material-index l.materials) l.tables.items;
}
