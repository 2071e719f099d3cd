-- What the program writes for a request on a table.
use Rattle.std.specs.Prelude.{◌≡◌, ℕ, ◌<◌, ◌==◌, if◌then◌else◌, ℤ, List, [], ◌∷◌, ◌++◌, length, flat_map, codes, decimal, Option, Some, None, IsNone, Ok, IsSomeAnd}
use Rattle.std.specs.Fmt.{signed_decimal}
use Rattle.szg_block.specs.declared.probing.Steps.{Steps}
use Rattle.szg_file.specs.Contents.{Contents}
use Rattle.szg_file.specs.Held.{Shown, file_bytes}
use Rattle.szg_file.specs.Values.{item, subtable_at, values_of}
use Rattle.szg_file.specs.Steps.{steps_of}
use Rattle.szg_build.specs.Built.{IsDumpOf}
use Rattle.szg_build.specs.Dump as stated
use Rattle.szg_build.specs.Shown.{form_of}
use Rattle.szg_build.specs.Text.{dump_text}
use Rattle.szg_values.specs.Material.{Sides, name_of}
use Rattle.szg_values.specs.Placement.{Board}
use Rattle.szg_values.specs.declared.Color.{Color}
use Rattle.szg_values.specs.declared.Color.TheVariants.{White, Black}
use Rattle.szg_values.specs.declared.Kind.{Kind}
use Rattle.szg_values.specs.declared.Kind.TheVariants.{Wdl, Dtz}
use Rattle.szg_place.specs.Spots.{board_at, place_fault, placement_refusal, spot_of}
use Rattle.szg_place.specs.Tables.{numbering_of, value_at, class_of, mapped_number}
use Rattle.szg_place.specs.declared.Spot.{Spot}
use Rattle.szg_words.specs.Words.{number_of_class, number_of_form}
use Rattle.szg_answers.specs.Men.{men_words}
use Rattle.szg_words.specs.declared.request.AskedClass.{AskedClass}
use Rattle.szg_words.specs.declared.request.DumpForm.{DumpForm}
use Rattle.szg_words.specs.declared.request.Action.{Action}
use Rattle.szg_words.specs.declared.request.Action.TheVariants.{Check, Show, Get, GetCounted, Values, Copy, Dump, Index, Probe, Placement, Unplaced}

-- a number's decimal digits, and the end of the line
abbrev pub number_line : ℕ → List ℕ
number_line number = decimal number ++ 10 ∷ []

-- a value, and the steps to it
abbrev pub counted_line : ℕ → Steps → List ℕ
counted_line value steps = decimal value ++ (codes " moves " ++ (decimal steps.moves ++ (codes " words " ++ (decimal steps.words
    ++ (codes " descents " ++ (decimal steps.descents ++ (codes " fetches " ++ number_line steps.fetches)))))))

-- ---- descriptions

abbrev pub kind_word : Kind → List ℕ
kind_word Wdl = codes "wdl"
kind_word Dtz = codes "dtz"

-- a description's first lines: the table's name, its kind and its file's length
abbrev pub front_lines : Sides → Kind → ℕ → List ℕ
front_lines material kind count = codes "name " ++ (name_of material ++ (codes "\nkind " ++ (kind_word kind ++ (codes "\nbytes " ++ number_line count))))

-- ---- dumps

-- the text of the table's dump
abbrev pub IsDumpText : DumpForm → Contents → List ℕ → Type 0
IsDumpText form t text = (dump : stated.Dump) × IsDumpOf dump t × (text ≡ dump_text (form_of (number_of_form form)) dump)

-- ---- placements

-- the letters of the parts
abbrev pub part_letter : ℕ → List ℕ
part_letter part = if part == 0 then codes "a" else if part == 1 then codes "b" else if part == 2 then codes "c" else codes "d"

-- the spot of a placement: the part, the side and the index
abbrev pub spot_line : Spot → List ℕ
spot_line spot = codes "part " ++ (part_letter spot.part ++ (codes " side " ++ (decimal spot.side ++ (codes " index " ++ number_line spot.index))))

abbrev pub IsSpotLine : Contents → Board → List ℕ → Type 0
IsSpotLine t board text = IsNone (place_fault (numbering_of t) board) × (text ≡ spot_line (spot_of (numbering_of t) board))

abbrev pub class_line : Option ℤ → List ℕ
class_line None = codes "none" ++ 10 ∷ []
class_line (Some class) = signed_decimal class ++ 10 ∷ []

-- the class of a placement in a WDL table
abbrev pub IsClassLine : Contents → Board → List ℕ → Type 0
IsClassLine t board text = IsNone (place_fault (numbering_of t) board)
    × IsSomeAnd (value_at t (spot_of (numbering_of t) board)) (λ v. text ≡ class_line (class_of v))

-- the number of a placement in a class in a DTZ table
abbrev pub IsNumberLine : Contents → Board → AskedClass → List ℕ → Type 0
IsNumberLine t board class text = IsNone (place_fault (numbering_of t) board)
    × IsSomeAnd (value_at t (spot_of (numbering_of t) board)) (λ v. (number : ℕ)
    × (mapped_number t (spot_of (numbering_of t) board).part (number_of_class class) v ≡ Ok number) × (text ≡ number_line number))

abbrev pub IsOutcomeLine : Kind → Contents → Board → AskedClass → List ℕ → Type 0
IsOutcomeLine Wdl t board class text = IsClassLine t board text
IsOutcomeLine Dtz t board class text = IsNumberLine t board class text

abbrev pub mover_word : Color → List ℕ
mover_word White = codes "w"
mover_word Black = codes "b"

-- a placement: who moves, and the men
abbrev pub placement_line : Board → List ℕ
placement_line board = mover_word board.mover ++ (men_words board.placed_men ++ 10 ∷ [])

-- ---- all actions

-- This text is the answer to an action on a table's part and side. What `show` prints after the first three lines
-- is left to tests. Words that make no placement have no answer.
abbrev pub IsAnswer : Action → ℕ → ℕ → Shown → List ℕ → Type 0
IsAnswer Check part side t text = text ≡ codes "ok " ++ number_line (length (file_bytes t))
IsAnswer Show part side t text = (rest : List ℕ) × (text ≡ front_lines t.contents.material t.contents.kind (length (file_bytes t)) ++ rest)
IsAnswer (Get index) part side t text =
    IsSomeAnd (subtable_at t.contents part side) (λ found. IsSomeAnd (item (values_of t.contents.kind found) index) (λ value. text ≡ number_line value))
IsAnswer (GetCounted index) part side t text =
    IsSomeAnd (subtable_at t.contents part side) (λ found. IsSomeAnd (item (values_of t.contents.kind found) index)
    (λ value. text ≡ counted_line value (steps_of found index)))
IsAnswer Values part side t text =
    IsSomeAnd (subtable_at t.contents part side) (λ found. text ≡ flat_map number_line (values_of t.contents.kind found))
IsAnswer Copy part side t text = text ≡ file_bytes t
IsAnswer (Dump form) part side t text = IsDumpText form t.contents text
IsAnswer (Index board) part side t text = IsSpotLine t.contents board text
IsAnswer (Probe board class) part side t text = IsOutcomeLine t.contents.kind t.contents board class text
IsAnswer (Placement index) part side t text =
    IsSomeAnd (subtable_at t.contents part side) (λ found. index < found.0.size) × IsNone (placement_refusal (numbering_of t.contents) part side)
    × (text ≡ placement_line (board_at (numbering_of t.contents) part side index))
IsAnswer (Unplaced fault) part side t text = ⊥
