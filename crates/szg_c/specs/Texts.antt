-- The texts that C gets: the version, and the names of statuses and reasons.
use Rattle.std.specs.Prelude.{ℕ, ◌==◌, ◌++◌, List, [], ◌∷◌, length, take, drop, min, codes, if◌then◌else◌}
use Rattle.szg_c_positions.specs.declared.status.TheConstants.{DONE, NAME, REFUSED, MEMORY, RANGE, CLOSED, MAN, MEN, SAME_SQUARE, PAWN_RANK, OTHER_MATERIAL, IRREGULAR, KINGS_TOUCH, WRONG_SIDE, NO_CLASS, DRAW, OUTSIDE_MAP, CHANGED, BAD_BLOCK, EN_PASSANT, IN_CHECK, MISSING, CONTRADICTION}

-- a text as snprintf writes it to a buffer: as much of it as leaves room for a zero byte, then this byte; the rest of the
-- buffer stays, and so does an empty buffer
abbrev pub printed : List ℕ → List ℕ → List ℕ
printed text [] = []
printed text (first ∷ rest) = take (min (length text) (length rest)) text ++ 0 ∷ drop (min (length text) (length rest)) rest

-- the version of the library and of its header
abbrev pub version_text : List ℕ
version_text = codes "2.0.0"

-- the name of a status; a number that is no status has the empty name
unfoldable pub status_text : ℕ → List ℕ
status_text status =
    if status == DONE then codes "Done" else
    if status == NAME then codes "Name" else
    if status == REFUSED then codes "Refused" else
    if status == MEMORY then codes "Memory" else
    if status == RANGE then codes "Range" else
    if status == CLOSED then codes "Closed" else
    if status == MAN then codes "Man" else
    if status == MEN then codes "Men" else
    if status == SAME_SQUARE then codes "SameSquare" else
    if status == PAWN_RANK then codes "PawnRank" else
    if status == OTHER_MATERIAL then codes "OtherMaterial" else
    if status == IRREGULAR then codes "Irregular" else
    if status == KINGS_TOUCH then codes "KingsTouch" else
    if status == WRONG_SIDE then codes "WrongSide" else
    if status == NO_CLASS then codes "NoClass" else
    if status == DRAW then codes "Draw" else
    if status == OUTSIDE_MAP then codes "OutsideMap" else
    if status == CHANGED then codes "Changed" else
    if status == BAD_BLOCK then codes "BadBlock" else
    if status == EN_PASSANT then codes "EnPassant" else
    if status == IN_CHECK then codes "InCheck" else
    if status == MISSING then codes "Missing" else
    if status == CONTRADICTION then codes "Contradiction" else []

-- the name of a reason by its number, as the program prints it; a number that is no reason's has the empty name
unfoldable pub reason_text : ℕ → List ℕ
reason_text number =
    if number == 1 then codes "Truncated" else
    if number == 2 then codes "Magic" else
    if number == 3 then codes "SplitBit" else
    if number == 4 then codes "PawnBit" else
    if number == 5 then codes "Pieces" else
    if number == 6 then codes "PawnsFirst" else
    if number == 7 then codes "OrderPlace" else
    if number == 8 then codes "BlockBits" else
    if number == 9 then codes "SpanBits" else
    if number == 10 then codes "CodeLengths" else
    if number == 11 then codes "LowestOrder" else
    if number == 12 then codes "TooFull" else
    if number == 13 then codes "Child" else
    if number == 14 then codes "Cycle" else
    if number == 15 then codes "LongSymbol" else
    if number == 16 then codes "ShortTotal" else
    if number == 17 then codes "SparseEntry" else
    if number == 18 then codes "Word" else []
