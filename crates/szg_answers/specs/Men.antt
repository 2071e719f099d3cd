-- Men as words.
use Rattle.std.specs.Prelude.{ℕ, Bool, ◌+◌, ◌&&◌, ◌/◌, ◌%◌, ◌++◌, ◌==◌, codes, decimal, encode_utf8, flat_map, List, [], ◌∷◌, if◌then◌else◌}
use Rattle.std.specs.List.{list_any, range_with_len}
use Rattle.std.specs.Char.{to_ascii_lowercase}
use Rattle.szg_values.specs.Men.{letter_of, is_man, is_color, name_order}
use Rattle.szg_values.specs.Placement.{PlacedMan}
use Rattle.szg_values.specs.declared.Man.{Man}
use Rattle.szg_values.specs.declared.Color.{Color}
use Rattle.szg_values.specs.declared.Color.TheVariants.{White, Black}

-- a man's letter as it is written
abbrev pub letter_shown : Man → Color → ℕ
letter_shown man White = letter_of man
letter_shown man Black = to_ascii_lowercase (letter_of man)

-- whether this man is on this square
abbrev pub is_placed_man : Man → Color → ℕ → PlacedMan → Bool
is_placed_man kind color square man = is_man man.0 kind && (is_color man.1 color && man.2 == square)

-- a man's word, after a space: his letter, the letter of the file and the number of the rank
abbrev pub man_word : Man → Color → ℕ → List ℕ
man_word kind color square = codes " " ++ (encode_utf8 (letter_shown kind color) ++ (encode_utf8 (97 + square % 8) ++ decimal (1 + square / 8)))

-- the word of this man on a square, if he is there
abbrev pub square_word : List PlacedMan → Man → Color → ℕ → List ℕ
square_word placed_men kind color square = if list_any (is_placed_man kind color square) placed_men then man_word kind color square else []

-- the squares of the board
unfoldable pub squares : List ℕ
squares = range_with_len 0 64

-- the words of all men of a kind and a colour, by square
abbrev pub kind_words : List PlacedMan → Color → Man → List ℕ
kind_words placed_men color kind = flat_map (square_word placed_men kind color) squares

-- the words of a colour's men, in the order of a name
abbrev pub side_words : List PlacedMan → Color → List ℕ
side_words placed_men color = flat_map (kind_words placed_men color) name_order

-- the words of all men, White's before Black's
abbrev pub men_words : List PlacedMan → List ℕ
men_words placed_men = flat_map (side_words placed_men) (White ∷ Black ∷ [])
