-- The records of a report for programs.
use Rattle.std.specs.Prelude.{◌≡◌, ℕ, ◌+◌, ◌/◌, ◌%◌, ◌==◌, ◌||◌, nat_lt, Bool, true, false, if◌then◌else◌, List, [], ◌∷◌, ◌++◌, flat_map, codes, decimal, Option, Some, None, IsSome}
use Rattle.std.specs.List.{concat}
use Rattle.std.specs.Str.{bytes_eq}
use Rattle.hex.specs.Hex.{encode_lower}
use Rattle.szg_named.specs.Texts.{name_word}
use Rattle.szg_archive.specs.ReasonWords.{reason_word}
use Rattle.szg_archive.specs.Lines.{IsLine, empty, escaped_byte, hex_digit, no_text, path_text, skip_reason, summary_text}
use Rattle.szg_archive.specs.declared.file_verdict.FileVerdict.{FileVerdict}
use Rattle.szg_archive.specs.declared.file_verdict.FileVerdict.TheVariants.{Whole, Ending, Name, At, Trailing, Unopened, Unread, NoText, Empty, Skipped, Kept, Differs, Unlisted, Missing}
use Rattle.szg_named.specs.declared.checks.ReportFormat.{ReportFormat}
use Rattle.szg_named.specs.declared.checks.ReportFormat.TheVariants.{Text, Tsv, Json}
use Rattle.szg_archive.specs.declared.counts.CheckCounts.{CheckCounts}

-- ---- fields

-- ok for a table and nothing else, or a table where trailing bytes are allowed
abbrev pub verdict_word : Bool → FileVerdict → List ℕ
verdict_word allow_trailing (Whole size) = codes "ok"
verdict_word true (Trailing size) = codes "ok"
verdict_word allow_trailing (Unopened fault) = codes "unread"
verdict_word allow_trailing (Unread error) = codes "unread"
verdict_word allow_trailing NoText = codes "unread"
verdict_word allow_trailing Empty = codes "unread"
verdict_word allow_trailing (Kept size) = codes "kept"
verdict_word allow_trailing (Skipped skip) = codes "skipped"
verdict_word allow_trailing verdict = codes "refused"

-- the table's length
abbrev pub bytes_field : FileVerdict → Option ℕ
bytes_field (Whole size) = Some size
bytes_field (Trailing size) = Some size
bytes_field (Kept size) = Some size
bytes_field verdict = None

-- the offset of the first check that fails
abbrev pub offset_field : FileVerdict → Option ℕ
offset_field (At offset reason) = Some offset
offset_field (Trailing size) = Some size
offset_field verdict = None

-- Why a file isn't just a table; what the system says is left open.
abbrev pub IsReasonField : FileVerdict → Option (List ℕ) → Type 0
IsReasonField (Whole size) field = field ≡ None
IsReasonField (Kept size) field = field ≡ None
IsReasonField Ending field = field ≡ Some (codes "Ending")
IsReasonField (Name fault) field = field ≡ Some (name_word fault)
IsReasonField (At offset reason) field = field ≡ Some (reason_word reason)
IsReasonField (Trailing size) field = field ≡ Some (codes "Trailing")
IsReasonField (Unopened fault) field = IsSome field
IsReasonField (Unread error) field = IsSome field
IsReasonField NoText field = field ≡ Some no_text
IsReasonField Empty field = field ≡ Some empty
IsReasonField (Skipped skip) field = field ≡ Some (skip_reason skip)
IsReasonField Differs field = field ≡ Some (codes "Differs")
IsReasonField Unlisted field = field ≡ Some (codes "Unlisted")
IsReasonField Missing field = field ≡ Some (codes "Missing")

abbrev pub number_or : List ℕ → Option ℕ → List ℕ
number_or absent None = absent
number_or absent (Some number) = decimal number

-- a number of nanoseconds in seconds, with six digits after the point
abbrev pub seconds_text : ℕ → List ℕ
seconds_text nanos =
    let micros = nanos % 1_000_000_000 / 1_000 in
    decimal (nanos / 1_000_000_000) ++ (codes "." ++ (decimal (micros / 100000 % 10) ++ (decimal (micros / 10000 % 10) ++ (decimal (micros / 1000 % 10)
    ++ (decimal (micros / 100 % 10) ++ (decimal (micros / 10 % 10) ++ decimal (micros % 10)))))))

abbrev pub seconds_or : List ℕ → Option ℕ → List ℕ
seconds_or absent None = absent
seconds_or absent (Some nanos) = seconds_text nanos

-- ---- escapes

-- a byte of a JSON string: quotes and backslashes behind a backslash, control characters by their number
abbrev pub json_byte : ℕ → List ℕ
json_byte byte =
    if byte == 34 || byte == 92 then 92 ∷ byte ∷ [] else
    if nat_lt byte 32 || byte == 127 then codes "\\u00" ++ (hex_digit (byte / 16) ∷ hex_digit (byte % 16) ∷ []) else byte ∷ []

abbrev pub escaped_byte_in : ReportFormat → ℕ → List ℕ
escaped_byte_in Text byte = escaped_byte byte
escaped_byte_in Tsv byte = escaped_byte byte
escaped_byte_in Json byte = json_byte byte

abbrev pub escaped_in : ReportFormat → List ℕ → List ℕ
escaped_in format text = flat_map (λ byte. escaped_byte_in format byte) text

-- a JSON string
abbrev pub quoted : List ℕ → List ℕ
quoted text = concat (codes "\"" ∷ escaped_in Json text ∷ codes "\"" ∷ [])

abbrev pub tsv_reason : Option (List ℕ) → List ℕ
tsv_reason None = []
tsv_reason (Some reason) = escaped_in Tsv reason

abbrev pub json_reason : Option (List ℕ) → List ℕ
json_reason None = concat (codes "null" ∷ [])
json_reason (Some reason) = quoted reason

-- ---- records

abbrev pub tab : List ℕ
tab = codes "\t"

-- the path's text, verdict, bytes, reason, offset, seconds and time of the last change, separated by tabs
abbrev pub tsv_text : List ℕ → List ℕ → Option ℕ → Option (List ℕ) → Option ℕ → Option ℕ → Option ℕ → List ℕ
tsv_text path word bytes reason offset nanos modified =
    concat (path ∷ tab ∷ word ∷ tab ∷ number_or [] bytes ∷ tab ∷ tsv_reason reason
    ∷ tab ∷ number_or [] offset ∷ tab ∷ seconds_or [] nanos ∷ tab ∷ number_or [] modified ∷ codes "\n" ∷ [])

abbrev pub null : List ℕ
null = codes "null"

-- the times in a JSON object, and its end
abbrev pub json_times : Option ℕ → Option ℕ → List ℕ
json_times nanos modified =
    concat (codes ",\"seconds\":" ∷ seconds_or null nanos ∷ codes ",\"modified\":" ∷ number_or null modified ∷ codes "}\n" ∷ [])

-- the same as a JSON object
abbrev pub json_text : List ℕ → List ℕ → Option ℕ → Option (List ℕ) → Option ℕ → Option ℕ → Option ℕ → List ℕ
json_text path word bytes reason offset nanos modified =
    concat (codes "{\"path\":" ∷ quoted path ∷ codes ",\"verdict\":\"" ∷ word ∷ codes "\",\"bytes\":" ∷ number_or null bytes
    ∷ codes ",\"reason\":" ∷ json_reason reason ∷ codes ",\"offset\":" ∷ number_or null offset ∷ json_times nanos modified ∷ [])

-- The record of a path and what its check says, of some time, and of some time of the file.
abbrev pub IsTsvRecord : Bool → List ℕ → FileVerdict → List ℕ → Type 0
IsTsvRecord allow_trailing path verdict line =
    (reason : Option (List ℕ)) × IsReasonField verdict reason × (nanos : Option ℕ) × (modified : Option ℕ)
    × (line ≡ tsv_text (path_text verdict path) (verdict_word allow_trailing verdict) (bytes_field verdict) reason (offset_field verdict) nanos modified)

abbrev pub IsJsonRecord : Bool → List ℕ → FileVerdict → List ℕ → Type 0
IsJsonRecord allow_trailing path verdict line =
    (reason : Option (List ℕ)) × IsReasonField verdict reason × (nanos : Option ℕ) × (modified : Option ℕ)
    × (line ≡ json_text path (verdict_word allow_trailing verdict) (bytes_field verdict) reason (offset_field verdict) nanos modified)

-- What a report in a format has of a file.
abbrev pub IsReportLine : ReportFormat → Bool → List ℕ → FileVerdict → List ℕ → Type 0
IsReportLine Text allow_trailing path verdict line = IsLine allow_trailing path verdict line
IsReportLine Tsv allow_trailing path verdict line = IsTsvRecord allow_trailing path verdict line
IsReportLine Json allow_trailing path verdict line = IsJsonRecord allow_trailing path verdict line

-- not a table, or one with trailing bytes if these are not allowed, or unread
abbrev pub is_bad : Bool → FileVerdict → Bool
is_bad allow_trailing (Whole size) = false
is_bad true (Trailing size) = false
is_bad allow_trailing (Kept size) = false
is_bad allow_trailing (Skipped skip) = false
is_bad allow_trailing verdict = true

-- What a report of bad files has of a file that is bad, or isn't.
abbrev pub IsBadLine : Bool → ReportFormat → Bool → List ℕ → FileVerdict → List ℕ → Type 0
IsBadLine true format allow_trailing path verdict line = IsReportLine format allow_trailing path verdict line
IsBadLine false format allow_trailing path verdict line = line ≡ []

-- What a report has of a file: if only bad ones are wanted, nothing of the others.
abbrev pub IsShownLine : Bool → ReportFormat → Bool → List ℕ → FileVerdict → List ℕ → Type 0
IsShownLine false format allow_trailing path verdict line = IsReportLine format allow_trailing path verdict line
IsShownLine true format allow_trailing path verdict line = IsBadLine (is_bad allow_trailing verdict) format allow_trailing path verdict line

-- the end of the summary as a JSON object
abbrev pub json_others : CheckCounts → List ℕ
json_others tally =
    codes ",\"unread\":" ++ (decimal tally.unread ++ (codes ",\"kept\":" ++ (decimal tally.kept ++ (codes ",\"skipped\":" ++ (decimal tally.skipped ++ codes "}\n")))))

-- the numbers of the summary as a JSON object
abbrev pub json_summary : CheckCounts → List ℕ
json_summary tally =
    codes "{\"files\":" ++ (decimal (tally.good + tally.refused + tally.unread + tally.kept) ++ (codes ",\"ok\":" ++ (decimal tally.good
    ++ (codes ",\"refused\":" ++ (decimal tally.refused ++ json_others tally)))))

-- What follows the last file: the summary.
abbrev pub report_end : ReportFormat → CheckCounts → List ℕ
report_end Text tally = summary_text tally
report_end Tsv tally = summary_text tally
report_end Json tally = json_summary tally

-- ---- lists of sums

-- a byte of a name: line feeds, carriage returns and backslashes are escaped
abbrev pub listed_byte : ℕ → List ℕ
listed_byte byte = if byte == 10 then codes "\\n" else if byte == 13 then codes "\\r" else if byte == 92 then codes "\\\\" else byte ∷ []

abbrev pub listed_name : List ℕ → List ℕ
listed_name name = flat_map listed_byte name

-- a line begins with a backslash if its name has escapes
abbrev pub sum_mark : List ℕ → List ℕ → List ℕ
sum_mark name text = if bytes_eq text name then [] else codes "\\"

-- a line, as sha256sum writes it
abbrev pub sum_line : List ℕ → List ℕ → List ℕ
sum_line digest name = concat (sum_mark name (listed_name name) ∷ encode_lower digest ∷ codes "  " ∷ listed_name name ∷ codes "\n" ∷ [])

-- the line of a file whose digest was computed, if it passed
abbrev pub manifest_line : Bool → List ℕ → FileVerdict → Option (List ℕ) → List ℕ
manifest_line allow_trailing path verdict None = []
manifest_line allow_trailing path verdict (Some digest) = if is_bad allow_trailing verdict then [] else sum_line digest path
