-- Images of positions in tables in memory.
use Rattle.std.specs.Prelude.{◌≡◌, true}
use Rattle.szg_game.specs.declared.Class.{Class}
use Rattle.szg_chess.specs.Position.{Position, IsPosition}
use Rattle.szg_chess.specs.Images.{Symmetry, IsImage}
use Rattle.szg_probe.specs.Distances.{StoredNumbers}
use Rattle.szg_probe.specs.Images.{shares_value}

-- the tables store one number for a position and for the images that share its value, whatever the order of the men
abbrev pub HaveSymmetricNumbers : StoredNumbers → Type 0
HaveSymmetricNumbers numbers = (f : Symmetry) (p q : Position) (k : Class) → IsPosition p → IsImage f p q → shares_value f p.placed_men ≡ true →
    numbers q.placed_men q.mover k ≡ numbers p.placed_men p.mover k
