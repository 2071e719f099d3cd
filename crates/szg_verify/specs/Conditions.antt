-- The conditions on the entry of a position, by what breaks them.
use Rattle.std.specs.Prelude.{ℕ, ◌+◌, ◌==◌, nat_lt, Bool, true, false, not, ◌&&◌, ◌||◌, List, Option, Some, None, if◌then◌else◌}
use Rattle.std.specs.List.{list_all, list_any}
use Rattle.szg_game.specs.Game.{Move as Step, is_empty}
use Rattle.szg_game.specs.Certified.{is_loss, is_lost, is_win, is_won, lasts, makes_progress, wins_no_sooner, loses_no_sooner}
use Rattle.szg_game.specs.declared.Class.{Class}
use Rattle.szg_game.specs.declared.Class.TheVariants.{Loss, BlessedLoss, Draw, CursedWin, Win}
use Rattle.szg_game.specs.declared.Entry.{Entry}
use Rattle.szg_chess.specs.Position.{Position}
use Rattle.szg_chess.specs.Moves.{is_check, legal_moves}
use Rattle.szg_probe.specs.Chess.{ply_limit}
use Rattle.szg_verify.specs.Entries.{StoredTables, is_drawn, keeps, plain_entry, steps_to}
use Rattle.szg_verify.specs.Verified.{entry_after}
use Rattle.szg_verify.specs.declared.conditions.Condition.{Condition}
use Rattle.szg_verify.specs.declared.conditions.Condition.TheVariants.{NoNumber, NoNumberAfter, Distance, Mate, Stalemate, BetterMove, NoMoveKeeps, NoProgress, Sooner}

-- A win or a loss takes more plies than the limit, or none although there is a move.
abbrev pub is_out_of_range : ℕ → Entry → List (Step Entry) → Bool
is_out_of_range limit e next = (is_win e.class || is_loss e.class) && (nat_lt limit e.upper || e.upper == 0 && not (is_empty next))

-- the move ends the game within the limit: its win or loss does not last beyond it
abbrev pub is_within : ℕ → Step Entry → Bool
is_within limit m = not (lasts (limit + 1) m)

-- some move gives more than the class
abbrev pub has_better_move : ℕ → Class → List (Step Entry) → Bool
has_better_move limit Win next = false
has_better_move limit CursedWin next = list_any (λ m. is_loss m.0.class && is_within limit m) next
has_better_move limit Draw next = list_any (λ m. is_lost m.0.class) next
has_better_move limit BlessedLoss next = not (list_all (λ m. is_won m.0.class) next)
has_better_move limit Loss next = not (list_all (λ m. is_win m.0.class) next)

-- each move gives less than the class
abbrev pub has_no_move_that_keeps : ℕ → Class → List (Step Entry) → Bool
has_no_move_that_keeps limit Win next = not (list_any (λ m. is_loss m.0.class) next)
has_no_move_that_keeps limit CursedWin next = not (list_any (λ m. is_lost m.0.class) next)
has_no_move_that_keeps limit Draw next = list_all (λ m. is_won m.0.class) next
has_no_move_that_keeps limit BlessedLoss next = list_all (λ m. is_win m.0.class && is_within limit m) next
has_no_move_that_keeps limit Loss next = false

-- No move that keeps a win brings it nearer; or some move of a loss does not.
abbrev pub is_still : Entry → List (Step Entry) → Bool
is_still e next =
    if is_won e.class then not (list_any (λ m. keeps e.class m.0.class && makes_progress e m) next)
    else not (is_drawn e.class) && not (list_all (makes_progress e) next)

-- Some move wins, or each loses, in fewer plies than the lower bound.
abbrev pub comes_sooner : Entry → List (Step Entry) → Bool
comes_sooner e next = is_win e.class && not (wins_no_sooner e.lower next) || is_loss e.class && not (loses_no_sooner e.lower next)

-- the entry breaks the condition, given whether the player to move is in check, and the entries after the moves
abbrev pub breaks_at : ℕ → Entry → Bool → List (Step Entry) → Condition → Bool
breaks_at limit e in_check next NoNumber = false
breaks_at limit e in_check next NoNumberAfter = false
breaks_at limit e in_check next Distance = is_out_of_range limit e next
breaks_at limit e in_check next Mate = is_empty next && in_check && not (is_loss e.class && e.lower == 0)
breaks_at limit e in_check next Stalemate = is_empty next && not in_check && not (is_drawn e.class)
breaks_at limit e in_check next BetterMove = has_better_move limit e.class next
breaks_at limit e in_check next NoMoveKeeps = has_no_move_that_keeps limit e.class next
breaks_at limit e in_check next NoProgress = is_still e next
breaks_at limit e in_check next Sooner = comes_sooner e next

abbrev pub breaks_from : Bool → Option Entry → Option (List (Step Entry)) → Condition → Bool
breaks_from in_check None next NoNumber = true
breaks_from in_check None next c = false
breaks_from in_check (Some e) None NoNumberAfter = true
breaks_from in_check (Some e) None c = false
breaks_from in_check (Some e) (Some next) c = breaks_at ply_limit e in_check next c

-- the position breaks the condition
unfoldable pub breaks : StoredTables → Position → Condition → Bool
breaks tables p c = breaks_from (is_check p) (plain_entry tables p) (steps_to (entry_after tables p) p (legal_moves p)) c
