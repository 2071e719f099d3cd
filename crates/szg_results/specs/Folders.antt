-- Where the files of tables are looked for, what was read of them, and when an answer has no distances.
use Rattle.std.specs.Prelude.{ℕ, ◌≡◌, ◌≤◌, ◌&&◌, Bool, false, nat_le, List, ◌∷◌, ◌++◌, length, map, codes, slice_get, string_bytes, All, Option, Some, None, IfSome, if◌then◌else◌}
use Rattle.std.specs.Str.{bytes_eq}
use Rattle.szg_values.specs.Material.{Sides, man_codes, name_of}
use Rattle.szg_values.specs.declared.Kind.{Kind}
use Rattle.szg_values.specs.declared.Kind.TheVariants.{Wdl, Dtz}
use Rattle.szg_file.specs.FrontTable.{IsFrontOf}
use Rattle.szg_file.specs.Held.{Shown}
use Rattle.szg_file.specs.Opened.{table_in}
use Rattle.szg_file.specs.WholeRead.{IsTable}
use Rattle.szg_place.specs.Layout.{is_dtz}
use Rattle.szg_chess.specs.Position.{Position}
use Rattle.szg_chess.specs.declared.FenRecord.{FenRecord}
use Rattle.szg_named.specs.Named.{named_by}
use Rattle.szg_tables.specs.Fetched.{IsOfFile, IsValueIn, fetched_classes, fetched_numbers}
use Rattle.szg_tables.specs.declared.fetched.FetchedTable.{FetchedTable}
use Rattle.szg_tables.specs.declared.fetched.FetchedValue.{FetchedValue}
use Rattle.szg_results.specs.Results.{IsAnswerOf}
use Rattle.szg_results.specs.declared.folders.Folders.{Folders}
use Rattle.szg_results.specs.declared.pieces.Piece.{Piece}
use Rattle.szg_results.specs.declared.pieces.Piece.TheVariants.{Front, Value}
use Rattle.szg_results.specs.declared.results.Answer.{Answer}

abbrev pub words_of : Folders → List (List ℕ)
words_of folders = map (λ word. word.now) folders.words.now

abbrev pub ending_of : Kind → List ℕ
ending_of Wdl = codes "rtbw"
ending_of Dtz = codes "rtbz"

-- a table's path in a folder
abbrev pub path_in : List ℕ → Sides → Kind → List ℕ
path_in folder material kind = folder ++ (codes "/" ++ (name_of material ++ (codes "." ++ ending_of kind)))

-- The path of a table by a word: a word that ends as a table's file does is the path of that table alone, any other one is
-- a folder.
abbrev pub path_by : Option (List ℕ × Kind) → Sides → Kind → List ℕ → Option (List ℕ)
path_by None material kind word = Some (path_in word material kind)
path_by (Some named) material kind word = if bytes_eq named.0 (name_of material) && bytes_eq (ending_of named.1) (ending_of kind) then Some word else None

abbrev pub path_of : Sides → Kind → List ℕ → Option (List ℕ)
path_of material kind word = path_by (named_by word) material kind word

-- Among these files, by path, there is none of the table by the word; by any of the words.
abbrev pub IsAbsentAt : (List ℕ → Option (List ℕ)) → Sides → Kind → List ℕ → Type 0
IsAbsentAt files material kind word = IfSome (path_of material kind word) (λ path. files path ≡ None)

abbrev pub IsAbsent : (List ℕ → Option (List ℕ)) → List (List ℕ) → Sides → Kind → Type 0
IsAbsent files words material kind = All (IsAbsentAt files material kind) words

-- The path is that of the table by one of the words, and by the words before it there is none of the table.
pub record IsFirstPath (files : List ℕ → Option (List ℕ)) (words : List (List ℕ)) (material : Sides) (kind : Kind) (path : List ℕ) : Type 0 where
  pub before : List (List ℕ)
  pub word : List ℕ
  pub later : List (List ℕ)
  pub words_are : words ≡ before ++ word ∷ later
  pub absent : IsAbsent files before material kind
  pub path_is : path_of material kind word ≡ Some path

-- a DTZ table of as many men as the position or fewer
abbrev pub may_do_without : Kind → Sides → Position → Bool
may_do_without kind material p = is_dtz kind && nat_le (length (man_codes material)) (length p.placed_men)

-- such a table is absent
abbrev pub LacksDistances : (List ℕ → Option (List ℕ)) → List (List ℕ) → Position → Type 0
LacksDistances files words p = (material : Sides) × (length (man_codes material) ≤ length p.placed_men) × IsAbsent files words material Dtz

-- The answer over what was fetched of tables. It has distances, unless a DTZ table that it may take is absent.
abbrev pub IsAnswerIn : (List ℕ → Option (List ℕ)) → List (List ℕ) → List FetchedTable → FenRecord → Answer → Type 0
IsAnswerIn files words tables fen a =
    IsAnswerOf (fetched_classes tables) (fetched_numbers tables) fen a × (a.has_distances ≡ false → LacksDistances files words fen.position)

-- ---- what was read

-- The table's path is the first by the words for its material and kind. Where the bytes of that file are among these files,
-- the front and each value that was fetched are theirs.
pub record IsFetched (files : List ℕ → Option (List ℕ)) (words : List (List ℕ)) (t : FetchedTable) : Type 0 where
  pub first : IsFirstPath files words t.front.index.material t.front.index.kind (string_bytes t.path)
  pub there : IfSome (files (string_bytes t.path)) (IsOfFile t)

abbrev pub AreFetched : (List ℕ → Option (List ℕ)) → List (List ℕ) → List FetchedTable → Type 0
AreFetched files words tables = All (IsFetched files words) tables

-- An accepted table of this material and kind, from the first path by the words. Where the bytes of that file are among these
-- files, they begin with the table's file.
pub record IsReadFrom (files : List ℕ → Option (List ℕ)) (words : List (List ℕ)) (material : Sides) (kind : Kind) (t : Shown) : Type 0 where
  pub path : List ℕ
  pub first : IsFirstPath files words material kind path
  pub table : IsTable material kind t
  pub there : IfSome (files path) (λ content. table_in material kind content ≡ Some t.contents)

-- the value is the file's, where the front is
abbrev pub IsValueOf : (List ℕ → Option (List ℕ)) → FetchedValue → FetchedTable → Type 0
IsValueOf files v t = IfSome (files (string_bytes t.path)) (λ content. IsFrontOf t.front content → IsValueIn t.front content v)

-- a table that was opened, or a value of the table with this number
abbrev pub IsPieceOf : (List ℕ → Option (List ℕ)) → List (List ℕ) → List FetchedTable → Piece → Type 0
IsPieceOf files words tables (Front t) = IsFetched files words t
IsPieceOf files words tables (Value number v) = IfSome (slice_get tables number) (IsValueOf files v)
