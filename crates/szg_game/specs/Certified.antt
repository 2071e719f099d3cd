-- The local conditions on a table: each is about the entry of one position and the entries of its successors, the positions after
-- its moves. An entry is a class, and a lower and an upper bound on the plies to mate or to the next zeroing move.
use Rattle.std.specs.Prelude.{ℕ, ◌+◌, Bool, true, false, cond, not, ◌&&◌, ◌||◌, ltb, leb, ◌≤◌, List, map, All, IsTrue}
use Rattle.std.specs.List.{list_any, list_all}
use Rattle.szg_game.specs.Game.{Move, Game, is_empty}
use Rattle.szg_game.specs.declared.Class.{Class}
use Rattle.szg_game.specs.declared.Class.TheVariants.{Loss, BlessedLoss, Draw, CursedWin, Win}
use Rattle.szg_game.specs.declared.Entry.{Entry}

-- a win within the limit
abbrev pub is_win : Class → Bool
is_win Win = true
is_win CursedWin = false
is_win Draw = false
is_win BlessedLoss = false
is_win Loss = false

-- a loss within the limit
abbrev pub is_loss : Class → Bool
is_loss Win = false
is_loss CursedWin = false
is_loss Draw = false
is_loss BlessedLoss = false
is_loss Loss = true

-- a win, if the counter had no limit
abbrev pub is_won : Class → Bool
is_won Win = true
is_won CursedWin = true
is_won Draw = false
is_won BlessedLoss = false
is_won Loss = false

-- a loss, if the counter had no limit
abbrev pub is_lost : Class → Bool
is_lost Win = false
is_lost CursedWin = false
is_lost Draw = false
is_lost BlessedLoss = true
is_lost Loss = true

-- The move makes progress: it is zeroing, or the upper bound on the distance falls.
abbrev pub makes_progress : Entry → Move Entry → Bool
makes_progress entry (f, zeroing) = zeroing || ltb f.upper entry.upper

-- The move is not zeroing, and with it the win or loss takes at least `bound` plies: one for the move, and at least the lower
-- bound of the entry after it.
abbrev pub lasts : ℕ → Move Entry → Bool
lasts bound (f, zeroing) = not zeroing && leb bound (f.lower + 1)

-- Some move leads to a loss for the opponent, with progress.
abbrev pub wins_by : (Class → Bool) → Entry → List (Move Entry) → Bool
wins_by loss entry successors = list_any (λ m. loss m.0.class && makes_progress entry m) successors

-- There is a move, and each leads to a win for the opponent, with progress.
abbrev pub loses_by : (Class → Bool) → Entry → List (Move Entry) → Bool
loses_by win entry successors = not (is_empty successors) && list_all (λ m. win m.0.class && makes_progress entry m) successors

-- No move wins in fewer than `bound` plies.
abbrev pub wins_no_sooner : ℕ → List (Move Entry) → Bool
wins_no_sooner bound successors = list_all (λ m. not (is_loss m.0.class) || lasts bound m) successors

-- Some move does not lose in fewer than `bound` plies.
abbrev pub loses_no_sooner : ℕ → List (Move Entry) → Bool
loses_no_sooner bound successors = list_any (λ m. not (is_win m.0.class) || lasts bound m) successors

-- A win takes from 1 to `limit` plies: some move leads to a loss with progress, and none wins sooner than `lower`.
abbrev pub accepts_win : ℕ → Entry → List (Move Entry) → Bool
accepts_win limit entry successors =
    leb 1 entry.upper && leb entry.upper limit && wins_by is_loss entry successors && (leb entry.lower 1 || wins_no_sooner entry.lower successors)

-- A loss is a mate, of lower bound 0, or takes from 1 to `limit` plies: each move leads to a win with progress, and
-- some move does not lose sooner than `lower`.
abbrev pub accepts_loss : ℕ → Entry → Bool → List (Move Entry) → Bool
accepts_loss limit entry in_check successors =
    leb entry.upper limit
    && ((is_empty successors && in_check && leb entry.lower 0)
    || (leb 1 entry.upper && loses_by is_win entry successors && (leb entry.lower 1 || loses_no_sooner entry.lower successors)))

-- In a draw no move wins; and there is no move but no check either, or some move does not lose.
abbrev pub accepts_draw : Bool → List (Move Entry) → Bool
accepts_draw in_check successors =
    list_all (λ m. not (is_lost m.0.class)) successors && cond (is_empty successors) (not in_check) (list_any (λ m. not (is_won m.0.class)) successors)

-- The table's entry of a position is accepted, given whether the player to move is in check, and the entries of the
-- successors.
abbrev pub accepts_as : Class → ℕ → Entry → Bool → List (Move Entry) → Bool
accepts_as Win limit entry in_check successors = accepts_win limit entry successors
accepts_as Loss limit entry in_check successors = accepts_loss limit entry in_check successors
-- won without the limit; and no move wins within it
accepts_as CursedWin limit entry in_check successors = wins_by is_lost entry successors && wins_no_sooner (limit + 1) successors
-- lost without the limit; and some move does not lose within it
accepts_as BlessedLoss limit entry in_check successors = loses_by is_won entry successors && loses_no_sooner (limit + 1) successors
accepts_as Draw limit entry in_check successors = accepts_draw in_check successors

abbrev pub accepts : ℕ → Entry → Bool → List (Move Entry) → Bool
accepts limit entry in_check successors = accepts_as entry.class limit entry in_check successors

-- the entries of the successors of p
abbrev pub successors_of : {P : Type 0} → Game P → (P → Entry) → P → List (Move Entry)
successors_of game entry p = map (λ (q, zeroing). (entry q, zeroing)) (game.moves p)

-- the entry of p is accepted
abbrev pub accepts_at : {P : Type 0} → Game P → ℕ → (P → Entry) → P → Bool
accepts_at game limit entry p = accepts limit (entry p) (game.in_check p) (successors_of game entry p)

-- A table passes the conditions: `entry` gives the entries of the positions that are `good`, those that the table is about, and
-- `rank` a number that zeroing moves lower.
pub record Certified {P : Type 0} (game : Game P) (limit : ℕ) (good : P → Bool) (rank : P → ℕ) (entry : P → Entry) : Type 0 where
  -- each successor of a good position is good
  pub closed : (p : P) → IsTrue (good p) → All (λ (q, zeroing). IsTrue (good q)) (game.moves p)
  -- a zeroing move lowers the rank, and no other move raises it
  pub ranked : (p : P) → IsTrue (good p) → All (λ (q, zeroing). cond zeroing (rank q + 1) (rank q) ≤ rank p) (game.moves p)
  -- each entry is accepted
  pub accepted : (p : P) → IsTrue (good p) → IsTrue (accepts_at game limit entry p)
