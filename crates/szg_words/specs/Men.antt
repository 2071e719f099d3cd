-- The men that words name.
use Rattle.std.specs.Prelude.{ℕ, Bool, not, ◌+◌, ◌-◌, ◌*◌, ◌&&◌, nat_le, List, [], ◌∷◌, map, Option, Some, None, Result, Ok, Err, is_some, unwrap_or, option_map, option_and_then, if◌then◌else◌}
use Rattle.std.specs.Borrow.{Bor}
use Rattle.std.specs.List.{list_all}
use Rattle.std.specs.Char.{to_ascii_uppercase}
use Rattle.szg_values.specs.Men.{man_of}
use Rattle.szg_values.specs.Placement.{PlacedMan, Board, placement_fault}
use Rattle.szg_values.specs.declared.Man.TheVariants.{King}
use Rattle.szg_values.specs.declared.PlacementFault.{PlacementFault}
use Rattle.szg_values.specs.declared.Color.{Color}
use Rattle.szg_values.specs.declared.Color.TheVariants.{White, Black}

-- upper case letters are White's
abbrev pub parsed_color : ℕ → Color
parsed_color letter = if nat_le 65 letter && nat_le letter 90 then White else Black

-- a file from a to h and a rank from 1 to 8
abbrev pub parsed_square : ℕ → ℕ → Option ℕ
parsed_square file rank = if nat_le 97 file && nat_le file 104 && nat_le 49 rank && nat_le rank 56 then Some ((rank - 49) * 8 + (file - 97)) else None

-- a man's letter, upper case for White and lower case for Black, his file and his rank
abbrev pub parsed_man : List ℕ → Option PlacedMan
parsed_man (letter ∷ file ∷ rank ∷ []) = option_and_then (λ square. option_map (λ man. (man, parsed_color letter, square)) (man_of (to_ascii_uppercase letter))) (parsed_square file rank)
parsed_man word = None

-- ---- placements

abbrev pub is_man_word : List ℕ → Bool
is_man_word word = is_some (parsed_man word)

-- the man of a word, if it is one
abbrev pub placed_man_of : List ℕ → PlacedMan
placed_man_of word = unwrap_or (parsed_man word) (King, White, 0)

-- a board, unless its men have a fault
abbrev pub board_unless : Option PlacementFault → Board → Result Board (Option PlacementFault)
board_unless None board = Ok board
board_unless (Some fault) board = Err (Some fault)

-- the men of all words
abbrev pub placed_men_in : List (Bor (List ℕ)) → List PlacedMan
placed_men_in words = map (λ word. placed_man_of word.now) words

-- the placement of these men, or the men's fault; None if a word is no man's
unfoldable pub parsed_placement : List (Bor (List ℕ)) → Color → Result Board (Option PlacementFault)
parsed_placement words mover =
    if not (list_all (λ word. is_man_word word.now) words) then Err None else
    board_unless (placement_fault (placed_men_in words)) (record { placed_men = placed_men_in words; mover = mover })
