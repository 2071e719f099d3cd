-- The distance of a position in plies, as tables count it: to the next zeroing move or to mate, and 100 more if the
-- fifty-move rule spoils a win or saves a loss.
use Rattle.std.specs.Prelude.{ℕ, ℤ, pos, neg_ℤ, ◌⊎◌, ◌+◌, ◌-◌, ◌*◌, ◌^◌, ◌||◌, ◌==◌, not, Bool, true, false, IsTrue, IsFalse, List, [], ◌∷◌, map, Contains, min, max, Option, Some, None, option_map, option_and_then, if◌then◌else◌, nat_le}
use Rattle.std.specs.List.{list_any}
use Rattle.szg_values.specs.Placement.{PlacedMan}
use Rattle.szg_values.specs.declared.Color.{Color}
use Rattle.szg_game.specs.Classes.{level, negate}
use Rattle.szg_game.specs.Certified.{is_won, is_lost}
use Rattle.szg_game.specs.declared.Class.{Class}
use Rattle.szg_game.specs.declared.Class.TheVariants.{Loss, BlessedLoss, Draw, CursedWin, Win}
use Rattle.szg_chess.specs.Position.{Position}
use Rattle.szg_chess.specs.Moves.{after, is_zeroing, legal_moves, has_no_move, is_mate, is_stalemate}
use Rattle.szg_chess.specs.declared.Move.{Move}
use Rattle.szg_probe.specs.declared.distances.Distance.{Distance}
use Rattle.szg_probe.specs.declared.distances.DistanceFault.{DistanceFault}
use Rattle.szg_probe.specs.declared.distances.DistanceFault.TheVariants.{Tables, Contradiction}
use Rattle.szg_probe.specs.declared.assessments.RankedMove.{RankedMove}
use Rattle.szg_probe.specs.Chess.{without_right}
use Rattle.szg_probe.specs.Probing.{StoredClasses, all_known, has_only_captures, probed, MayFail}

-- For men, the side to move and a class: the number that a set of tables stores, in plies. None if there is no table,
-- Some None if the table stores numbers for the other side to move alone.
abbrev pub StoredNumbers : Type 0
StoredNumbers = List PlacedMan → Color → Class → Option (Option ℕ)

-- what the fifty-move rule adds
abbrev pub offset_of : Class → ℕ
offset_of Win = 0
offset_of CursedWin = 100
offset_of Draw = 0
offset_of BlessedLoss = 100
offset_of Loss = 0

abbrev pub is_drawn : Class → Bool
is_drawn k = not (is_won k || is_lost k)

abbrev pub is_known_true : Option Bool → Bool
is_known_true None = false
is_known_true (Some b) = b

-- Whether some of these is true. One that is known to be is enough; else all have to be known.
abbrev pub any_known : List (Option Bool) → Option Bool
any_known bs = if list_any is_known_true bs then Some true else option_map (λ all. false) (all_known bs)

-- whether a move is zeroing and leads to a position of the negated class
unfoldable pub keeps_by_zeroing : StoredClasses → Position → Class → Move → Option Bool
keeps_by_zeroing classes p k m = if is_zeroing p m then option_map (λ j. level j == level (negate k)) (probed classes (after p m)) else Some false

-- whether some zeroing move keeps the class
abbrev pub has_zeroing : StoredClasses → Position → Class → Option Bool
has_zeroing classes p k = any_known (map (keeps_by_zeroing classes p k) (legal_moves p))

-- whether the class is another one without the right to capture en passant
abbrev pub differs_without_right : StoredClasses → Position → Class → Option Bool
differs_without_right classes p k = option_map (λ j. not (level j == level k)) (probed classes (without_right p))

-- Whether the distance of a position of this class is 1 and the offset: it has no move, or captures alone, or has its
-- class only by the right to capture en passant, or is won by a zeroing move.
abbrev pub is_next : StoredClasses → Position → Class → Option Bool
is_next classes p k =
    if has_no_move p || has_only_captures p then Some true else
    option_and_then (λ differs. if differs then Some true else if is_won k then has_zeroing classes p k else Some false) (differs_without_right classes p k)

-- The distance of a position of this class without a search: 0 for a draw, and if the next move does not settle it, one
-- more than the stored number. Some None if the table stores the other side.
unfoldable pub stored_distance : StoredClasses → StoredNumbers → Position → Class → Option (Option ℕ)
stored_distance classes numbers p k =
    if is_drawn k then Some (Some 0) else
    option_and_then (λ next. if next then Some (Some (1 + offset_of k)) else option_map (option_map (λ n. 1 + n + offset_of k)) (numbers p.placed_men p.mover k)) (is_next classes p k)

-- the distance by a move to q, of class j: one more than that of q, but 1 for a move that mates
unfoldable pub distance_by : StoredClasses → StoredNumbers → Class → Position → Option ℕ
distance_by classes numbers j q = if is_mate q then Some 1 else option_map (λ d. 1 + d) (option_and_then (λ d. d) (stored_distance classes numbers q j))

-- A move from class k to class j stays won or stays lost, if the fifty-move rule does not count: a cursed win may lead to
-- a loss that is as long as the rule allows.
abbrev pub stays : Class → Class → Bool
stays k j = if is_won k then is_lost j else is_won j

-- The distance by a move that is not zeroing. Some None if the move is zeroing, or does not stay won or lost.
unfoldable pub quiet_distance : StoredClasses → StoredNumbers → Position → Class → Move → Option (Option ℕ)
quiet_distance classes numbers p k m =
    if is_zeroing p m then Some None else
    option_and_then (λ j. if stays k j then option_map (λ d. Some d) (distance_by classes numbers j (after p m)) else Some None) (probed classes (after p m))

-- the smaller of a number and one that may be there; the greater
abbrev pub choose : Bool → ℕ → Option ℕ → ℕ
choose smaller d None = d
choose smaller d (Some e) = if smaller then min d e else max d e

-- the same, if there is a number
abbrev pub choose_some : Bool → Option ℕ → Option ℕ → Option ℕ
choose_some smaller None found = found
choose_some smaller (Some d) found = Some (choose smaller d found)

abbrev pub least : List (Option ℕ) → Option ℕ
least [] = None
least (d ∷ ds) = choose_some true d (least ds)

abbrev pub greatest : ℕ → List (Option ℕ) → ℕ
greatest n [] = n
greatest n (None ∷ ds) = greatest n ds
greatest n (Some d ∷ ds) = max d (greatest n ds)

-- A win takes the least of the distances by quiet moves. A loss takes the greatest, and 1 with the offset at least, as
-- by a zeroing move.
abbrev pub chosen : Class → List (Option ℕ) → Option ℕ
chosen k ds = if is_won k then least ds else Some (greatest (1 + offset_of k) ds)

-- the distance of a position of this class by its moves
unfoldable pub searched_distance : StoredClasses → StoredNumbers → Position → Class → Option ℕ
searched_distance classes numbers p k = option_and_then (chosen k) (all_known (map (quiet_distance classes numbers p k) (legal_moves p)))

-- the stored distance, else the one by moves
abbrev pub stored_or : Option (Option ℕ) → Option ℕ → Option ℕ
stored_or None searched = None
stored_or (Some None) searched = searched
stored_or (Some (Some d)) searched = Some d

abbrev pub distance_of : StoredClasses → StoredNumbers → Position → Class → Option ℕ
distance_of classes numbers p k = stored_or (stored_distance classes numbers p k) (searched_distance classes numbers p k)

-- What the tables say of a position: its class, and its distance. A loss is counted by negative numbers.
abbrev pub probed_distance : StoredClasses → StoredNumbers → Position → Option (Class × ℕ)
probed_distance classes numbers p = option_and_then (λ k. option_map (λ d. (k, d)) (distance_of classes numbers p k)) (probed classes p)

-- the distance as a number with a sign: negative for a loss
abbrev pub signed_distance : Class → ℕ → ℤ
signed_distance k d = if is_lost k then neg_ℤ (pos d) else pos d

-- The distance by a legal move, to a position of class j: 0 for a draw, 1 and the offset if the move is zeroing, 1 if it
-- mates, else one more than the distance after it.
unfoldable pub move_distance : StoredClasses → StoredNumbers → Position → Move → Class → Option ℕ
move_distance classes numbers p m j =
    if is_drawn j then Some 0 else
    if is_zeroing p m then Some (1 + offset_of j) else
    if is_mate (after p m) then Some 1 else
    option_map (λ d. 1 + d) (distance_of classes numbers (after p m) j)

-- ---- the fifty-move counter

-- The class with the fifty-move counter: a win or a loss of more plies than the counter leaves is spoilt. (`dtz_to_wdl`
-- in Fathom.)
abbrev pub class_at : ℕ → Class → ℕ → Class
class_at counter Win d = if nat_le (d + counter) 100 then Win else CursedWin
class_at counter CursedWin d = CursedWin
class_at counter Draw d = Draw
class_at counter BlessedLoss d = BlessedLoss
class_at counter Loss d = if nat_le (d + counter) 100 then Loss else BlessedLoss

abbrev pub at_counter : ℕ → Class → ℕ → Distance
at_counter counter k d = record { class = class_at counter k d; plies = d }

-- a move with what it gives the player who makes it
abbrev pub ranked : StoredClasses → StoredNumbers → ℕ → Position → Move → Option RankedMove
ranked classes numbers counter p m =
    option_and_then (λ j. option_map (λ d. record { m = m; distance = at_counter counter (negate j) d; zeroing = is_zeroing p m; mate = is_mate (after p m); stalemate = is_stalemate (after p m) })
    (move_distance classes numbers p m j)) (probed classes (after p m))

-- ---- the order of moves

abbrev pub class_rank : Class → ℕ
class_rank Win = 0
class_rank CursedWin = 1
class_rank Draw = 2
class_rank BlessedLoss = 3
class_rank Loss = 4

-- The best move has the least number: by class, then a win by the least distance and a loss by the greatest.
abbrev pub rank_at : Class → ℕ → ℕ
rank_at k d = class_rank k * 2 ^ 33 + (if is_lost k then 2 ^ 32 - d else d)

abbrev pub rank_of : RankedMove → ℕ
rank_of m = rank_at m.distance.class m.distance.plies

-- ---- faults

-- as in a probe of p, or of the position after a zeroing move
abbrev pub MayFailByZeroing : (List PlacedMan → Color → Type 0) → Position → Type 0
MayFailByZeroing fails p = MayFail fails p ⊎ ((m : Move) × Contains (legal_moves p) m × IsTrue (is_zeroing p m) × MayFail fails (after p m))

-- the same, or that for the position after a move that is not zeroing
abbrev pub MayFailBySearch : (List PlacedMan → Color → Type 0) → Position → Type 0
MayFailBySearch fails p = MayFailByZeroing fails p ⊎ ((m : Move) × Contains (legal_moves p) m × IsFalse (is_zeroing p m) × MayFailByZeroing fails (after p m))

-- that for the position after a legal move
abbrev pub MayFailByMove : (List PlacedMan → Color → Type 0) → Position → Type 0
MayFailByMove fails p = (m : Move) × Contains (legal_moves p) m × MayFailBySearch fails (after p m)

-- Why there is no answer for a position: the tables may fail, or contradict themselves, and then there is none.
abbrev pub MayLack : {F : Type 0} → (F → Type 0) → Type 0 → DistanceFault F → Type 0
MayLack fails none (Tables fault) = fails fault
MayLack fails none Contradiction = none
