-- The text of an answer.
use Rattle.std.specs.Prelude.{ℕ, ◌≡◌, IsNone, Bool, List, [], ◌∷◌, ◌++◌, flat_map, codes, if◌then◌else◌}
use Rattle.std.specs.Fmt.{signed_decimal}
use Rattle.szg_game.specs.declared.Class.{Class}
use Rattle.szg_game.specs.declared.Class.TheVariants.{Loss, BlessedLoss, Draw, CursedWin, Win}
use Rattle.szg_chess.specs.Position.{Position}
use Rattle.szg_chess.specs.Fen.{fen_fault, record_of}
use Rattle.szg_chess.specs.Uci.{uci_text}
use Rattle.szg_chess.specs.San.{san_text}
use Rattle.szg_chess.specs.declared.FenRecord.{FenRecord}
use Rattle.szg_probe.specs.Distances.{signed_distance}
use Rattle.szg_probe.specs.declared.distances.Distance.{Distance}
use Rattle.szg_probe.specs.declared.assessments.RankedMove.{RankedMove}
use Rattle.szg_tables.specs.Stored.{number_of_class}
use Rattle.szg_results.specs.declared.results.Answer.{Answer}

abbrev pub class_word : Class → List ℕ
class_word Win = codes "win"
class_word CursedWin = codes "cursed win"
class_word Draw = codes "draw"
class_word BlessedLoss = codes "blessed loss"
class_word Loss = codes "loss"

-- the distance with its sign, or a dash if it is not known
abbrev pub plies_text : Bool → Distance → List ℕ
plies_text is_known d = if is_known then signed_decimal (signed_distance d.class d.plies) else codes "-"

-- the best move, or a dash
abbrev pub best_text : List RankedMove → List ℕ
best_text [] = codes "-"
best_text (r ∷ rs) = uci_text r.m

-- One line: the text that was asked for, the class from -2 to 2, the distance, the best move, with tabs between.
abbrev pub answer_line : List ℕ → Answer → List ℕ
answer_line fen a = fen ++ (codes "\t" ++ (signed_decimal (number_of_class a.distance.class) ++ (codes "\t" ++ (plies_text a.has_distances a.distance ++ (codes "\t" ++ (best_text a.moves.items ++ codes "\n"))))))

abbrev pub flag : Bool → List ℕ → List ℕ
flag b word = if b then word else []

-- a move: UCI, SAN, class, distance, and what it does, with tabs between
abbrev pub move_line : Position → Bool → RankedMove → List ℕ
move_line p is_known r = uci_text r.m ++ (codes "\t" ++ (san_text p r.m ++ (codes "\t" ++ (class_word r.distance.class ++ (codes "\t" ++ (plies_text is_known r.distance
    ++ (flag r.zeroing (codes "\tzeroing") ++ (flag r.mate (codes "\tmate") ++ (flag r.stalemate (codes "\tstalemate") ++ codes "\n")))))))))

abbrev pub head_lines : Bool → Distance → List ℕ
head_lines is_known d = codes "result " ++ (class_word d.class ++ (codes "\ndtz " ++ (plies_text is_known d ++ codes "\n")))

-- the result, the distance, and a line for each move
abbrev pub answer_text : Position → Answer → List ℕ
answer_text p a = head_lines a.has_distances a.distance ++ flat_map (move_line p a.has_distances) a.moves.items

-- the text is the lines of the answer for a position's text; the text is its one line
abbrev pub IsTextOf : (FenRecord → Answer → Type 0) → List ℕ → List ℕ → Type 0
IsTextOf Is fen text = IsNone (fen_fault fen) × (a : Answer) × Is (record_of fen) a × (text ≡ answer_text (record_of fen).position a)

abbrev pub IsLineOf : (FenRecord → Answer → Type 0) → List ℕ → List ℕ → Type 0
IsLineOf Is fen text = IsNone (fen_fault fen) × (a : Answer) × Is (record_of fen) a × (text ≡ answer_line fen a)
