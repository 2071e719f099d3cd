-- The JSON object of an answer, with the fields, the names and the viewpoint of lichess's tablebase: what is said of a move
-- is said of the position after it, for the player to move there.
use Rattle.std.specs.Prelude.{ℕ, ℤ, ◌≡◌, ◌==◌, ◌+◌, ◌%◌, ◌||◌, ◌&&◌, IsNone, Bool, List, [], ◌∷◌, ◌++◌, length, map, flat_map, codes, All, Option, Some, None, IfSome, option_map, if◌then◌else◌}
use Rattle.std.specs.Fmt.{signed_decimal}
use Rattle.std.specs.List.{list_all, list_any}
use Rattle.szg_values.specs.Men.{is_man, file_of, rank_of}
use Rattle.szg_values.specs.Placement.{PlacedMan}
use Rattle.szg_values.specs.declared.Man.TheVariants.{King, Knight, Bishop}
use Rattle.szg_game.specs.Classes.{negate}
use Rattle.szg_game.specs.declared.Class.{Class}
use Rattle.szg_game.specs.declared.Class.TheVariants.{Loss, BlessedLoss, Draw, CursedWin, Win}
use Rattle.szg_chess.specs.Position.{Position}
use Rattle.szg_chess.specs.Moves.{after, is_mate, is_stalemate}
use Rattle.szg_chess.specs.Fen.{fen_fault, record_of}
use Rattle.szg_chess.specs.Uci.{uci_text}
use Rattle.szg_chess.specs.San.{san_text}
use Rattle.szg_file.specs.Held.{Shown}
use Rattle.szg_probe.specs.Probing.{StoredClasses}
use Rattle.szg_probe.specs.Distances.{StoredNumbers, probed_distance, signed_distance}
use Rattle.szg_probe.specs.declared.assessments.RankedMove.{RankedMove}
use Rattle.szg_tables.specs.Fetched.{IsOfTable, fetched_classes, fetched_numbers}
use Rattle.szg_tables.specs.Stored.{stored_classes, stored_numbers}
use Rattle.szg_tables.specs.declared.fetched.FetchedTable.{FetchedTable}
use Rattle.szg_results.specs.Folders.{IsAnswerIn, LacksDistances}
use Rattle.szg_results.specs.declared.objects.MoveAfter.{MoveAfter}
use Rattle.szg_results.specs.declared.objects.OrPiece.{OrPiece}
use Rattle.szg_results.specs.declared.objects.OrPiece.TheVariants.{Found, Read}
use Rattle.szg_results.specs.declared.pieces.Piece.{Piece}
use Rattle.szg_results.specs.declared.results.Answer.{Answer}

-- ---- what the fields say

abbrev pub truth : Bool → List ℕ
truth b = if b then codes "true" else codes "false"

abbrev pub number_or_null : Option ℤ → List ℕ
number_or_null None = codes "null"
number_or_null (Some n) = signed_decimal n

abbrev pub category : Class → List ℕ
category Win = codes "win"
category CursedWin = codes "cursed-win"
category Draw = codes "draw"
category BlessedLoss = codes "blessed-loss"
category Loss = codes "loss"

-- a king, or a bishop on a square of one color: 0 is the color of a1
abbrev pub is_king_or_bishop_on : ℕ → PlacedMan → Bool
is_king_or_bishop_on color s = is_man King s.0 || (is_man Bishop s.0 && (rank_of s.2 + file_of s.2) % 2 == color)

-- Nobody can be mated: beside the kings there are only bishops on squares of one color, or one knight alone.
abbrev pub is_insufficient : List PlacedMan → Bool
is_insufficient men =
    list_all (is_king_or_bishop_on 0) men || list_all (is_king_or_bishop_on 1) men || (length men == 3 && list_any (λ s. is_man Knight s.0) men)

-- a position of this class and DTZ for the player to move
abbrev pub state_text : Position → Class → Option ℤ → List ℕ
state_text p k dtz =
    codes "\"category\":\"" ++ (category k ++ (codes "\",\"dtz\":" ++ (number_or_null dtz
    ++ (codes ",\"checkmate\":" ++ (truth (is_mate p) ++ (codes ",\"stalemate\":" ++ (truth (is_stalemate p)
    ++ (codes ",\"insufficient_material\":" ++ truth (is_insufficient p.placed_men)))))))))

-- ---- the object

-- a move, and what the position after it is
abbrev pub move_object : Position → MoveAfter → List ℕ
move_object p s =
    codes "{\"uci\":\"" ++ (uci_text s.ranked.m ++ (codes "\",\"san\":\"" ++ (san_text p s.ranked.m ++ (codes "\",\"zeroing\":" ++ (truth s.ranked.zeroing
    ++ (codes "," ++ (state_text (after p s.ranked.m) (negate s.ranked.distance.class) s.dtz ++ codes "}")))))))

-- moves, each after a comma
abbrev pub others_text : Position → List MoveAfter → List ℕ
others_text p ss = flat_map (λ s. codes "," ++ move_object p s) ss

-- the moves, the best first, with commas between
abbrev pub moves_text : Position → List MoveAfter → List ℕ
moves_text p [] = []
moves_text p (s ∷ ss) = move_object p s ++ others_text p ss

-- the DTZ with its sign, if it is known
abbrev pub dtz_of : Answer → Option ℤ
dtz_of a = if a.has_distances then Some (signed_distance a.distance.class a.distance.plies) else None

abbrev pub head_text : Position → Answer → List ℕ
head_text p a = codes "{" ++ (state_text p a.distance.class (dtz_of a) ++ codes ",\"moves\":[")

-- an object is a line
abbrev pub object_text : Position → Answer → List MoveAfter → List ℕ
object_text p a ss = (head_text p a ++ moves_text p ss) ++ codes "]}\n"

-- ---- what it says

-- the DTZ of a position with its sign, over stored classes and numbers. None if one that it takes is not known.
abbrev pub dtz_over : StoredClasses → StoredNumbers → Position → Option ℤ
dtz_over classes numbers p = option_map (λ found. signed_distance found.0 found.1) (probed_distance classes numbers p)

-- The DTZ is that of the position over what was fetched of tables. It is unknown only if a DTZ table that it may take is
-- absent.
abbrev pub IsDtz : (List ℕ → Option (List ℕ)) → List (List ℕ) → List FetchedTable → Position → Option ℤ → Type 0
IsDtz files words tables p (Some n) = dtz_over (fetched_classes tables) (fetched_numbers tables) p ≡ Some n
IsDtz files words tables p None = LacksDistances files words p

-- these ranked moves, each with the DTZ of the position after it
abbrev pub AreAfter : (List ℕ → Option (List ℕ)) → List (List ℕ) → List FetchedTable → Position → List RankedMove → List MoveAfter → Type 0
AreAfter files words tables p rs ss = (map (λ s. s.ranked) ss ≡ rs) × All (λ s. IsDtz files words tables (after p s.ranked.m) s.dtz) ss

-- the text is the object of the answer for a position's text
abbrev pub IsObjectOf : (List ℕ → Option (List ℕ)) → List (List ℕ) → List FetchedTable → List ℕ → List ℕ → Type 0
IsObjectOf files words tables fen text = IsNone (fen_fault fen) × (a : Answer) × IsAnswerIn files words tables (record_of fen) a
    × (ss : List MoveAfter) × AreAfter files words tables (record_of fen).position a.moves.items ss × (text ≡ object_text (record_of fen).position a ss)

-- Each DTZ of the moves of an object over what was fetched of the files of tables is that of the position after the move over
-- the tables.
abbrev pub FetchedDtzs : Type 0
FetchedDtzs = (parts : List FetchedTable) (tables : List Shown) (files : List ℕ → Option (List ℕ)) (words : List (List ℕ)) (p : Position) (rs : List RankedMove) (ss : List MoveAfter) → All (IsOfTable tables) parts →
    AreAfter files words parts p rs ss → All (λ s. IfSome s.dtz (λ n. dtz_over (stored_classes tables) (stored_numbers tables) (after p s.ranked.m) ≡ Some n)) ss

-- ---- while tables are read

-- what was found over what was fetched; nothing if one more piece was read
abbrev pub IfFound : {A : Type 0} → OrPiece A → (A → Type 0) → Type 0
IfFound (Found a) P = P a
IfFound (Read piece) P = Unit {0}

-- nothing if all was found
abbrev pub IfRead : {A : Type 0} → OrPiece A → (Piece → Type 0) → Type 0
IfRead (Found a) P = Unit {0}
IfRead (Read piece) P = P piece
