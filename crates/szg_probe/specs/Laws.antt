-- Laws over the definitions.
use Rattle.std.specs.Prelude.{◌≡◌, ◌<◌, ◌≤◌, false, not, length, map, filter, Some, None, IsSome}
use Rattle.szg_game.specs.Classes.{better, best_after}
use Rattle.szg_game.specs.declared.Class.{Class}
use Rattle.szg_game.specs.declared.Class.TheVariants.{Draw}
use Rattle.szg_chess.specs.Position.{Position, IsPosition}
use Rattle.szg_chess.specs.Moves.{after, is_en_passant, legal_captures, legal_moves}
use Rattle.szg_chess.specs.declared.Move.{Move}
use Rattle.szg_probe.specs.Chess.{ChessClass, step_of, without_right}
use Rattle.szg_probe.specs.Probing.{StoredClasses, AreTrue, best_capture, has_only_en_passant, class_from, probed, stored_class}

-- what true tables say of a position is its class
abbrev pub ProbedIsTrue : Type 0
ProbedIsTrue = (tables : StoredClasses) (p : Position) (k : Class) → AreTrue tables → IsPosition p → probed tables p ≡ Some k → ChessClass p k

-- A position is probed by probing what its captures lead to.
abbrev pub ProbedByCaptures : Type 0
ProbedByCaptures = (tables : StoredClasses) (p : Position) → IsPosition p →
    probed tables p ≡ class_from (has_only_en_passant p) (best_capture (map (λ m. probed tables (after p m)) (legal_captures p))) (stored_class tables p)

-- the legal moves without the right to capture en passant are the other ones, and lead to the same positions
abbrev pub MovesWithoutRight : Type 0
MovesWithoutRight = (p : Position) → IsPosition p →
    (legal_moves (without_right p) ≡ filter (λ m. not (is_en_passant p m)) (legal_moves p))
    × ((m : Move) → is_en_passant p m ≡ false → step_of (without_right p) m ≡ step_of p m)

-- two kings alone are a draw
abbrev pub KingsDraw : Type 0
KingsDraw = (p : Position) → IsPosition p → length p.placed_men ≡ 2 → ChessClass p Draw

-- Tables are true if each position has a class, and each stored class gives the class of its position together with
-- the classes that the captures lead to.
abbrev pub TrueByClasses : Type 0
TrueByClasses = (tables : StoredClasses) (truth : Position → Class) → ((p : Position) → IsPosition p → ChessClass p (truth p)) →
    ((p : Position) (k : Class) → IsPosition p → p.en_passant ≡ None → tables p.placed_men p.mover ≡ Some k → truth p ≡ better k (best_after (map (λ m. truth (after p m)) (legal_captures p)))) →
    AreTrue tables

-- The tables say a class of a position if they store one for each position of as many men or fewer, without an en
-- passant square.
abbrev pub ProbedIsKnown : Type 0
ProbedIsKnown = (tables : StoredClasses) (p : Position) → IsPosition p →
    ((q : Position) → IsPosition q → q.en_passant ≡ None → 2 < length q.placed_men → length q.placed_men ≤ length p.placed_men → IsSome (tables q.placed_men q.mover)) →
    IsSome (probed tables p)
