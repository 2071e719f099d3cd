-- The numbers that DTZ tables in memory store, with how they count.
use Rattle.std.specs.Prelude.{ℕ, ◌/◌, ◌||◌, ◌&&◌, nat_lt, Bool, false, List, length, map, slice_index, Option, None, option_map, option_and_then, unwrap_or, if◌then◌else◌}
use Rattle.szg_values.specs.Men.{is_color}
use Rattle.szg_values.specs.Placement.{PlacedMan, Board}
use Rattle.szg_values.specs.declared.Color.{Color}
use Rattle.szg_values.specs.declared.Color.TheVariants.{Black}
use Rattle.szg_values.specs.declared.Kind.TheVariants.{Dtz}
use Rattle.szg_file.specs.Contents.{Contents, has_bit}
use Rattle.szg_file.specs.File.{flags_of}
use Rattle.szg_file.specs.Held.{Shown}
use Rattle.szg_place.specs.Spots.{spot_of}
use Rattle.szg_place.specs.Tables.{numbering_of}
use Rattle.szg_game.specs.declared.Class.{Class}
use Rattle.szg_game.specs.declared.Class.TheVariants.{Loss, BlessedLoss, Draw, CursedWin, Win}
use Rattle.szg_verify.specs.Entries.{StoredDistances}
use Rattle.szg_verify.specs.Verified.{has_equal_sides}
use Rattle.szg_verify.specs.declared.Distance.{Distance}
use Rattle.szg_verify.specs.declared.Distance.TheVariants.{Plies, Moves}
use Rattle.szg_tables.specs.Stored.{board_of, table_for, number_in}

-- whether the numbers of a class are exact plies: those of wins with flag 4, those of losses with flag 8; others count moves
abbrev pub is_exact : Class → ℕ → Bool
is_exact Loss flags = has_bit 3 flags
is_exact BlessedLoss flags = false
is_exact Draw flags = false
is_exact CursedWin flags = false
is_exact Win flags = has_bit 2 flags

-- a number of plies, as it is stored
abbrev pub as_stored : Bool → ℕ → Distance
as_stored exact plies = if exact then Plies plies else Moves (plies / 2)

-- the flags of the part that has a placement
abbrev pub flags_at : Board → Contents → ℕ
flags_at board t = slice_index (map flags_of t.subtables) (spot_of (numbering_of t) board).part

-- the number of a placement in a class, in one table
abbrev pub distance_in : Board → Class → Contents → Option Distance
distance_in board k t = option_map (as_stored (is_exact k (flags_at board t))) (unwrap_or (number_in board k t) None)

-- Two kings have no number. The table of a symmetric material has numbers for both sides to move; those for White count.
abbrev pub is_left_out : List PlacedMan → Color → Bool
is_left_out men mover = nat_lt (length men) 3 || (is_color Black mover && has_equal_sides men)

-- the number that the tables store, if they store this side to move
abbrev pub stored_distances : List Shown → StoredDistances
stored_distances tables men mover k =
    if is_left_out men mover then None else
    option_and_then (λ t. distance_in (board_of men mover) k t.contents) (table_for Dtz (board_of men mover) tables)
