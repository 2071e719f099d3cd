-- The lines of a report.
use Rattle.std.specs.Prelude.{◌≡◌, ℕ, ◌+◌, ◌/◌, ◌%◌, ◌==◌, ◌||◌, nat_lt, Bool, true, false, if◌then◌else◌, List, [], ◌∷◌, ◌++◌, flat_map, codes, decimal}
use Rattle.szg_named.specs.Texts.{name_word}
use Rattle.szg_archive.specs.ReasonWords.{reason_word}
use Rattle.szg_archive.specs.declared.file_verdict.FileVerdict.{FileVerdict}
use Rattle.szg_archive.specs.declared.file_verdict.FileVerdict.TheVariants.{Whole, Ending, Name, At, Trailing, Unopened, Unread, NoText, Empty, Skipped, Kept, Differs, Unlisted, Missing}
use Rattle.szg_archive.specs.declared.file_verdict.Skip.{Skip}
use Rattle.szg_archive.specs.declared.file_verdict.Skip.TheVariants as skips
use Rattle.szg_archive.specs.declared.counts.CheckCounts.{CheckCounts}

-- ---- paths

abbrev pub hex_digit : ℕ → ℕ
hex_digit n = if nat_lt n 10 then n + 48 else n + 87

-- control characters and the backslash
abbrev pub is_escaped : ℕ → Bool
is_escaped byte = nat_lt byte 32 || (byte == 127 || byte == 92)

-- a byte of a path, as `\x` and two digits if it is escaped
abbrev pub escaped_byte : ℕ → List ℕ
escaped_byte byte =
    if is_escaped byte then 92 ∷ 120 ∷ hex_digit (byte / 16) ∷ hex_digit (byte % 16) ∷ [] else byte ∷ []

abbrev pub escaped : List ℕ → List ℕ
escaped path = flat_map escaped_byte path

-- the path in a line; where its name is not UTF-8, it is escaped already
abbrev pub path_text : FileVerdict → List ℕ → List ℕ
path_text NoText path = path
path_text verdict path = escaped path

-- ---- lines

-- a refusal of a name
abbrev pub name_text : List ℕ → List ℕ
name_text word = codes ": refused name: " ++ (word ++ 10 ∷ [])

-- a refusal at an offset
abbrev pub refused_text : ℕ → List ℕ → List ℕ
refused_text offset word = codes ": refused at " ++ (decimal offset ++ (codes ": " ++ (word ++ 10 ∷ [])))

-- why a path is unread
abbrev pub reason_text : List ℕ → List ℕ
reason_text reason = codes ": " ++ (reason ++ 10 ∷ [])

abbrev pub no_text : List ℕ
no_text = codes "its name is not UTF-8"

abbrev pub empty : List ℕ
empty = codes "no table file is below it"

-- why a path is not checked
abbrev pub skip_reason : Skip → List ℕ
skip_reason skips.Ending = codes "it looks like a table, and ends in neither .rtbw nor .rtbz"
skip_reason skips.Loop = codes "it leads to a folder that it is in"
skip_reason skips.Again = codes "another link led to this folder"

-- what lists of sums say against a file
abbrev pub sum_text : List ℕ → List ℕ
sum_text word = codes ": refused sum: " ++ (word ++ 10 ∷ [])

-- a reason of the system
abbrev pub IsReasonText : List ℕ → Type 0
IsReasonText text = (reason : List ℕ) × (text ≡ reason_text reason)

-- The text of a verdict, up to the end of its line.
abbrev pub IsVerdictText : Bool → FileVerdict → List ℕ → Type 0
IsVerdictText allow_trailing (Whole size) text = text ≡ codes ": ok " ++ (decimal size ++ 10 ∷ [])
IsVerdictText allow_trailing (Kept size) text = text ≡ codes ": kept " ++ (decimal size ++ 10 ∷ [])
IsVerdictText allow_trailing Ending text = text ≡ name_text (codes "Ending")
IsVerdictText allow_trailing (Name fault) text = text ≡ name_text (name_word fault)
IsVerdictText allow_trailing (At offset reason) text = text ≡ refused_text offset (reason_word reason)
IsVerdictText true (Trailing size) text = text ≡ codes ": ok " ++ (decimal size ++ codes ", more bytes follow\n")
IsVerdictText false (Trailing size) text = text ≡ refused_text size (codes "Trailing")
IsVerdictText allow_trailing (Unopened fault) text = IsReasonText text
IsVerdictText allow_trailing (Unread error) text = IsReasonText text
IsVerdictText allow_trailing NoText text = text ≡ reason_text no_text
IsVerdictText allow_trailing Empty text = text ≡ reason_text empty
IsVerdictText allow_trailing (Skipped skip) text = text ≡ codes ": skipped: " ++ (skip_reason skip ++ 10 ∷ [])
IsVerdictText allow_trailing Differs text = text ≡ sum_text (codes "Differs")
IsVerdictText allow_trailing Unlisted text = text ≡ sum_text (codes "Unlisted")
IsVerdictText allow_trailing Missing text = text ≡ sum_text (codes "Missing")

-- The line of a path and its verdict.
abbrev pub IsLine : Bool → List ℕ → FileVerdict → List ℕ → Type 0
IsLine allow_trailing path verdict line = (text : List ℕ) × IsVerdictText allow_trailing verdict text × (line ≡ path_text verdict path ++ text)

-- the number of those that there may be none of, if there are any
abbrev pub more_text : List ℕ → ℕ → List ℕ
more_text word count = if count == 0 then [] else codes ", " ++ (word ++ (codes " " ++ decimal count))

-- the last line: the number of files, and how many of them are good, refused, unread and left out; and that of skipped paths
abbrev pub summary_text : CheckCounts → List ℕ
summary_text tally = codes "files " ++ (decimal (tally.good + tally.refused + tally.unread + tally.kept) ++ (codes ": ok " ++ (decimal tally.good ++ (codes ", refused "
    ++ (decimal tally.refused ++ (codes ", unread " ++ (decimal tally.unread ++ (more_text (codes "kept") tally.kept ++ (more_text (codes "skipped") tally.skipped ++ 10 ∷ [])))))))))
