-- What WDL and DTZ tables say of a position: its class, and bounds on the plies to mate or to the next zeroing move.
use Rattle.std.specs.Prelude.{ℕ, ◌+◌, ◌*◌, Bool, true, false, not, ◌&&◌, ◌||◌, List, [], ◌∷◌, map, filter, Option, Some, None, option_map, unwrap_or, if◌then◌else◌, min, max}
use Rattle.std.specs.Option.{option_and_then}
use Rattle.std.specs.List.{list_any, list_all}
use Rattle.szg_values.specs.Placement.{PlacedMan}
use Rattle.szg_values.specs.declared.Color.{Color}
use Rattle.szg_game.specs.Game.{Move as Step, is_empty}
use Rattle.szg_game.specs.Classes.{from_zeroing, with_zeroing}
use Rattle.szg_game.specs.Certified.{is_loss, is_lost, is_won}
use Rattle.szg_game.specs.declared.Class.{Class}
use Rattle.szg_game.specs.declared.Class.TheVariants.{Loss, BlessedLoss, Draw, CursedWin, Win}
use Rattle.szg_game.specs.declared.Entry.{Entry}
use Rattle.szg_chess.specs.declared.Move.{Move}
use Rattle.szg_chess.specs.Position.{Position}
use Rattle.szg_chess.specs.Moves.{after, is_en_passant, is_zeroing, legal_moves, legal_captures, has_no_move}
use Rattle.szg_probe.specs.Chess.{without_right}
use Rattle.szg_probe.specs.Probing.{StoredClasses, probed}
use Rattle.szg_verify.specs.declared.Distance.{Distance}
use Rattle.szg_verify.specs.declared.Distance.TheVariants.{Plies, Moves}

-- ---- what is stored

-- The number that a set of DTZ tables stores for these men, this side to move and this class. None if there is no table
-- for the men, or if it stores the other side.
abbrev pub StoredDistances : Type 0
StoredDistances = List PlacedMan → Color → Class → Option Distance

pub record StoredTables : Type 0 where
  pub classes : StoredClasses
  pub distances : StoredDistances

abbrev pub tables_of : StoredClasses → StoredDistances → StoredTables
tables_of classes distances = record { classes = classes; distances = distances }

-- The distance is at least this many plies. The stored number does not count the first one.
abbrev pub least_plies : Distance → ℕ
least_plies (Plies n) = n + 1
least_plies (Moves n) = 2 * n + 1

-- It is at most this many. A number of moves may have lost one ply.
abbrev pub most_plies : Distance → ℕ
most_plies (Plies n) = n + 1
most_plies (Moves n) = 2 * n + 2

-- ---- a position without an en passant square

-- the probed class; a draw if it is not known
abbrev pub class_at : StoredClasses → Position → Class
class_at classes p = unwrap_or (probed classes p) Draw

abbrev pub is_drawn : Class → Bool
is_drawn Loss = false
is_drawn BlessedLoss = false
is_drawn Draw = true
is_drawn CursedWin = false
is_drawn Win = false

-- a move to a position of class j keeps a win or a cursed win k
abbrev pub keeps : Class → Class → Bool
keeps Loss j = false
keeps BlessedLoss j = false
keeps Draw j = false
keeps CursedWin j = is_lost j
keeps Win j = is_loss j

-- the move is zeroing and keeps the win
abbrev pub wins_at_once : StoredClasses → Class → Position → Move → Bool
wins_at_once classes k p m = is_zeroing p m && keeps k (class_at classes (after p m))

-- The next zeroing move is one ply away: some zeroing move keeps the win, or each move of a loss is zeroing.
abbrev pub is_one_ply : StoredClasses → Class → Position → Bool
is_one_ply classes k p = if is_won k then list_any (wins_at_once classes k p) (legal_moves p) else list_all (is_zeroing p) (legal_moves p)

-- The stored number of a cursed win and of a blessed loss counts from the limit of the fifty-move rule on.
abbrev pub plies_before : Class → ℕ
plies_before Loss = 0
plies_before BlessedLoss = 100
plies_before Draw = 0
plies_before CursedWin = 100
plies_before Win = 0

abbrev pub entry_by_distance : Class → Distance → Entry
entry_by_distance k d = record { class = k; lower = plies_before k + least_plies d; upper = plies_before k + most_plies d }

-- the entry of a position of class k, from its class and the stored number alone
abbrev pub near_as : StoredTables → Position → Class → Option Entry
near_as tables p k =
    if is_drawn k || has_no_move p then Some (record { class = k; lower = 0; upper = 0 }) else
    if is_one_ply tables.classes k p then Some (record { class = k; lower = 1; upper = 1 }) else
    option_map (entry_by_distance k) (tables.distances p.placed_men p.mover k)

unfoldable pub near_entry : StoredTables → Position → Option Entry
near_entry tables p = option_and_then (near_as tables p) (probed tables.classes p)

abbrev pub near_after : StoredTables → Position → Move → Option Entry
near_after tables p m = near_entry tables (after p m)

-- the moves that are not zeroing
abbrev pub quiet_moves : Position → List Move
quiet_moves p = filter (λ m. not (is_zeroing p m)) (legal_moves p)

-- a list of steps
pub record StepList : Type 0 where
  pub items : List (Step Entry)

-- The entries after these moves, and whether each is zeroing, if `entry` says them. None if one is not there.
unfoldable pub steps_to : (Move → Option Entry) → Position → List Move → Option (List (Step Entry))
steps_to entry p [] = Some []
steps_to entry p (m ∷ ms) = option_and_then (λ e. option_map (λ next. (e, is_zeroing p m) ∷ next) (steps_to entry p ms)) (entry m)

-- more than any distance
abbrev pub farthest : ℕ
farthest = 1000000

-- the greatest of a bound
abbrev pub greatest : (Entry → ℕ) → List (Step Entry) → ℕ
greatest bound [] = 0
greatest bound (m ∷ next) = max (bound m.0) (greatest bound next)

-- the least of a bound, of the moves that keep the win k
abbrev pub least : (Entry → ℕ) → Class → List (Step Entry) → ℕ
least bound k [] = farthest
least bound k (m ∷ next) = if keeps k m.0.class then min (bound m.0) (least bound k next) else least bound k next

-- The entry of a position of class k, from those after its moves that are not zeroing. The winner takes the shortest way,
-- and the loser the longest.
unfoldable pub entry_before : Class → List (Step Entry) → Entry
entry_before k next =
    if is_won k
    then record { class = k; lower = 1 + least (λ e. e.lower) k next; upper = 1 + least (λ e. e.upper) k next }
    else record { class = k; lower = 1 + min farthest (greatest (λ e. e.lower) next); upper = 1 + min farthest (greatest (λ e. e.upper) next) }

-- the entry of a position of class k one ply before the stored side
abbrev pub far_as : StoredTables → Position → Class → Option Entry
far_as tables p k = option_map (entry_before k) (steps_to (near_after tables p) p (quiet_moves p))

abbrev pub near_or_far : StoredTables → Position → Option Entry → Option Entry
near_or_far tables p (Some e) = Some e
near_or_far tables p None = option_and_then (far_as tables p) (probed tables.classes p)

-- the entry of a position without an en passant square
unfoldable pub plain_entry : StoredTables → Position → Option Entry
plain_entry tables p = near_or_far tables p (near_entry tables p)

-- ---- a position with an en passant square

-- what stands for an entry that is not there
abbrev pub missing : Entry
missing = record { class = Draw; lower = 0; upper = 0 }

-- the legal captures en passant
unfoldable pub passing_captures : Position → List Move
passing_captures p = filter (is_en_passant p) (legal_captures p)

-- the entries after captures en passant, which are zeroing
unfoldable pub after_passing : StoredTables → Position → List (Step Entry)
after_passing tables p = map (λ m. (unwrap_or (plain_entry tables (after p m)) missing, true)) (passing_captures p)

-- The entry with captures en passant, from the entry without them. If they are the only moves, they alone count.
unfoldable pub with_passing : StoredTables → Position → Entry → Entry
with_passing tables p e =
    if has_no_move (without_right p) && not (is_empty (passing_captures p))
    then from_zeroing (after_passing tables p)
    else with_zeroing e (after_passing tables p)

abbrev pub entry_as : StoredTables → Position → Option ℕ → Option Entry
entry_as tables p None = plain_entry tables p
entry_as tables p (Some square) = option_map (with_passing tables p) (plain_entry tables (without_right p))

-- the entry that the tables say of a position. None if a class or a number that it takes is not there.
unfoldable pub entry_of : StoredTables → Position → Option Entry
entry_of tables p = entry_as tables p p.en_passant

abbrev pub entry_at : StoredTables → Position → Entry
entry_at tables p = unwrap_or (entry_of tables p) missing
