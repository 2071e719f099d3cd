-- The text of a move, as chess programs exchange it (UCI): e2e4, e7e8q.
use Rattle.std.specs.Prelude.{ℕ, ◌+◌, List, [], ◌∷◌, ◌++◌, Option, Some, None}
use Rattle.szg_values.specs.Men.{letter_of, file_of, rank_of}
use Rattle.szg_values.specs.declared.Man.{Man}
use Rattle.szg_chess.specs.declared.Move.{Move}

-- a square by its file, a to h, and its rank, 1 to 8
abbrev pub square_text : ℕ → List ℕ
square_text square = (97 + file_of square) ∷ (49 + rank_of square) ∷ []

-- the lower case letter of what a pawn is promoted to
abbrev pub promotion_text : Option Man → List ℕ
promotion_text None = []
promotion_text (Some man) = (32 + letter_of man) ∷ []

-- the square that the man leaves, the one that it goes to, and the promotion
abbrev pub uci_text : Move → List ℕ
uci_text m = square_text m.from ++ square_text m.to ++ promotion_text m.promotion
