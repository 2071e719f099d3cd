-- What a set of tables says of a position.
use Rattle.std.specs.Prelude.{ℕ, zero, suc, ◌≡◌, ◌||◌, ◌&&◌, ◌==◌, not, ⊤, Bool, false, List, [], ◌∷◌, length, map, All, Contains, Option, Some, None, option_map, if◌then◌else◌}
use Rattle.std.specs.List.{list_any, list_all}
use Rattle.szg_values.specs.Placement.{PlacedMan}
use Rattle.szg_values.specs.declared.Color.{Color}
use Rattle.szg_game.specs.Classes.{better, best_after}
use Rattle.szg_game.specs.Certified.{is_win, is_loss}
use Rattle.szg_game.specs.declared.Class.{Class}
use Rattle.szg_game.specs.declared.Class.TheVariants.{Draw, Win}
use Rattle.szg_chess.specs.Position.{Position, IsPosition}
use Rattle.szg_chess.specs.declared.Move.{Move}
use Rattle.szg_chess.specs.Moves.{after, is_capture, legal_moves, legal_captures, has_no_move, has_move_beside_en_passant}
use Rattle.szg_probe.specs.Chess.{ChessClass}

-- The class that a set of tables stores for these men and this side to move. None if there is no table for the men,
-- or no class. Tables know no right to capture en passant.
abbrev pub StoredClasses : Type 0
StoredClasses = List PlacedMan → Color → Option Class

-- the stored class; two kings alone are a draw and need no table
abbrev pub stored_class : StoredClasses → Position → Option Class
stored_class tables p = if length p.placed_men == 2 then Some Draw else tables p.placed_men p.mover

-- ---- captures

abbrev pub is_known_loss : Option Class → Bool
is_known_loss None = false
is_known_loss (Some k) = is_loss k

-- all of them. None if one is not known.
abbrev pub all_known : {A : Type 0} → List (Option A) → Option (List A)
all_known [] = Some []
all_known (None ∷ ks) = None
all_known (Some k ∷ ks) = option_map (λ js. k ∷ js) (all_known ks)

-- The best that captures give, if they lead to these classes. One that is known to win is best whatever the others are.
-- Else all have to be known. Of no capture a loss.
abbrev pub best_capture : List (Option Class) → Option Class
best_capture ks = if list_any is_known_loss ks then Some Win else option_map best_after (all_known ks)

-- there is a legal move, and each is a capture
abbrev pub has_only_captures : Position → Bool
has_only_captures p = not (has_no_move p) && list_all (is_capture p) (legal_moves p)

-- There is a legal move, and each is a capture en passant. What tables store is then for a mate or a stalemate, since
-- they know no right to capture en passant.
abbrev pub has_only_en_passant : Position → Bool
has_only_en_passant p = not (has_no_move p || has_move_beside_en_passant p)

-- ---- probing

-- The class of a position, from the best of its captures and from the stored class. The stored class does not count if
-- a capture wins, or if the captures en passant are the only moves.
abbrev pub class_from : Bool → Option Class → Option Class → Option Class
class_from only_en_passant None stored = None
class_from only_en_passant (Some best) stored = if is_win best || only_en_passant then Some best else option_map (λ k. better k best) stored

-- what the tables say of a position, if it has this many men: a capture takes one
unfoldable pub probed_at : ℕ → StoredClasses → Position → Option Class
probed_at zero tables p = None
probed_at (suc n) tables p = class_from (has_only_en_passant p) (best_capture (map (λ m. probed_at n tables (after p m)) (legal_captures p))) (stored_class tables p)

-- What the tables say of a position. None if a table that it takes is not there.
abbrev pub probed : StoredClasses → Position → Option Class
probed tables p = probed_at (length p.placed_men) tables p

-- ---- when tables are true

-- each legal capture leads to a position of the class that `class` says
abbrev pub HaveClasses : (Position → Class) → Position → Type 0
HaveClasses class p = All (λ m. ChessClass (after p m) (class (after p m))) (legal_captures p)

-- The class of the position is the better one of the stored class and of the best class that its captures give. So the
-- stored class may be anything not better if a capture decides.
abbrev pub IsTrueFor : Class → Position → Type 0
IsTrueFor k p = (class : Position → Class) → HaveClasses class p → ChessClass p (better k (best_after (map (λ m. class (after p m)) (legal_captures p))))

-- what the tables store is true for each position without an en passant square
abbrev pub AreTrue : StoredClasses → Type 0
AreTrue tables = (p : Position) (k : Class) → IsPosition p → p.en_passant ≡ None → tables p.placed_men p.mover ≡ Some k → IsTrueFor k p

-- ---- faults

-- the position after these moves in turn
abbrev pub after_all : Position → List Move → Position
after_all p [] = p
after_all p (m ∷ ms) = after_all (after p m) ms

-- each of these moves in turn is a legal capture
abbrev pub AreCaptures : Position → List Move → Type 0
AreCaptures p [] = ⊤
AreCaptures p (m ∷ ms) = Contains (legal_captures p) m × AreCaptures (after p m) ms

-- a fault may come for p, and for each position that captures lead to from p
abbrev pub MayFail : (List PlacedMan → Color → Type 0) → Position → Type 0
MayFail fails p = (ms : List Move) × AreCaptures p ms × fails (after_all p ms).placed_men (after_all p ms).mover
