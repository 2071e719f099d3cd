-- What a set of tables says of the images of a position.
use Rattle.std.specs.Prelude.{◌≡◌, ◌↔◌, ◌&&◌, nat_le, Bool, true, false, not, List}
use Rattle.std.specs.List.{list_any}
use Rattle.szg_values.specs.Men.{is_man}
use Rattle.szg_values.specs.Placement.{PlacedMan, number_of}
use Rattle.szg_values.specs.declared.Man.TheVariants.{Pawn}
use Rattle.szg_values.specs.declared.Color.TheVariants.{White, Black}
use Rattle.szg_game.specs.declared.Class.{Class}
use Rattle.szg_chess.specs.Position.{Position, IsPosition}
use Rattle.szg_chess.specs.Images.{Symmetry, Same, FlipFiles, FlipRanks, FlipDiagonal, ExchangeColors, IsImage}
use Rattle.szg_probe.specs.Chess.{ChessClass}
use Rattle.szg_probe.specs.Probing.{StoredClasses, probed}

abbrev pub has_no_pawn : List PlacedMan → Bool
has_no_pawn men = not (list_any (λ s. is_man Pawn s.0) men)

-- each side has one pawn at most
abbrev pub has_lone_pawns : List PlacedMan → Bool
has_lone_pawns men = nat_le (number_of Pawn White men) 1 && nat_le (number_of Pawn Black men) 1

-- The images of men that have the same value in each table. A reflection in the diagonal is not among them: if all lead
-- men are on the diagonal, a table has two values, one for the men and one for their reflection. So it is with a flip of
-- the files if two pawns of a side are mirror images.
abbrev pub shares_value : Symmetry → List PlacedMan → Bool
shares_value Same men = true
shares_value FlipFiles men = has_lone_pawns men
shares_value FlipRanks men = has_no_pawn men
shares_value FlipDiagonal men = false
shares_value ExchangeColors men = true

-- The tables store one class for a position and for the images that share its value, whatever the order of the men.
abbrev pub AreSymmetric : StoredClasses → Type 0
AreSymmetric tables = (f : Symmetry) (p q : Position) → IsPosition p → IsImage f p q → shares_value f p.placed_men ≡ true →
    tables q.placed_men q.mover ≡ tables p.placed_men p.mover

-- then they say one class of both
abbrev pub ProbedAtImages : Type 0
ProbedAtImages = (tables : StoredClasses) (f : Symmetry) (p q : Position) → AreSymmetric tables → IsPosition p → IsImage f p q → shares_value f p.placed_men ≡ true →
    probed tables q ≡ probed tables p

-- a position and its images have one class in chess
abbrev pub ImagesHaveClasses : Type 0
ImagesHaveClasses = (f : Symmetry) (p q : Position) (k : Class) → IsPosition p → IsImage f p q → ChessClass p k ↔ ChessClass q k
