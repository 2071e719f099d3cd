-- A small set of tables in memory, as a list.
use Rattle.std.specs.Prelude.{Bool, ◌&&◌, ◌==◌, List, length, find, option_map}
use Rattle.std.specs.List.{list_all, zip}
use Rattle.szg_values.specs.Men.{is_man, is_color}
use Rattle.szg_values.specs.Placement.{PlacedMan}
use Rattle.szg_values.specs.declared.Color.{Color}
use Rattle.szg_chess.specs.Position.{Position}
use Rattle.szg_game.specs.declared.Class.{Class}
use Rattle.szg_probe.specs.Probing.{StoredClasses}

abbrev pub is_same : PlacedMan → PlacedMan → Bool
is_same s t = is_man s.0 t.0 && is_color s.1 t.1 && s.2 == t.2

-- the men are the same, in the same order
abbrev pub same_men : List PlacedMan → List PlacedMan → Bool
same_men men others = length men == length others && list_all (λ pair. is_same pair.0 pair.1) (zip men others)

-- the entry is for these men and this side to move
abbrev pub is_for : List PlacedMan → Color → Position × Class → Bool
is_for men mover entry = same_men entry.0.placed_men men && is_color entry.0.mover mover

-- the class of the first entry for the men and the side to move
abbrev pub listed : List (Position × Class) → StoredClasses
listed entries men mover = option_map (λ entry. entry.1) (find (is_for men mover) entries)
