-- The verdict on a file by its path, and the effect of the check on the system.
use Rattle.std.specs.Prelude.{◌≡◌, ◌⊎◌, ℕ, ◌^◌, ◌≤◌, Bool, true, false, ◌||◌, List, [], ◌∷◌, ◌++◌, map, string_bytes, is_some, Option, None, Some, Result, Ok, Err, length, if◌then◌else◌}
use Rattle.std.specs.Borrow.{Bor}
use Rattle.std.specs.declared.io.Error.{Error}
use Rattle.std.specs.List.{sum_by}
use Rattle.std.specs.Io.KnownBytes.{IsAtEnd}
use Rattle.szg_io.specs.Device.{HasFailed, raised}
use Rattle.szg_io.specs.Moved.{Takes, Gives}
use Rattle.szg_io.specs.declared.device.Input as input
use Rattle.szg_io.specs.declared.device.Output as output
use Rattle.szg_values.specs.Material.{Sides, parsed}
use Rattle.szg_values.specs.declared.Kind.{Kind}
use Rattle.szg_values.specs.declared.NameFault.{NameFault}
use Rattle.szg_file.specs.Held.{Shown, file_bytes}
use Rattle.szg_file.specs.WholeRead.{IsFileRead}
use Rattle.szg_file.specs.declared.fault.ReadFault.TheVariants.{Refused}
use Rattle.szg_files.specs.FileSystem.{IsOpened}
use Rattle.sha2.specs.Sha256.{sha256}
use Rattle.szg_archive.specs.Logs.{entries_of, last_state}
use Rattle.szg_archive.specs.Records.{IsShownLine, manifest_line, report_end}
use Rattle.szg_archive.specs.Shards.{shard_of}
use Rattle.szg_named.specs.Named.{name_given, named_as, named_by}
use Rattle.szg_archive.specs.declared.file_verdict.FileVerdict.{FileVerdict}
use Rattle.szg_archive.specs.declared.file_verdict.FileVerdict.TheVariants.{Whole, Ending, Name, At, Trailing, Unopened, Unread, NoText, Empty, Skipped, Kept, Differs, Unlisted, Missing}
use Rattle.szg_archive.specs.declared.due.Due.{Due}
use Rattle.szg_archive.specs.declared.due.Due.TheVariants as dues
use Rattle.szg_archive.specs.declared.entries.PathToCheck.{PathToCheck}
use Rattle.szg_sums.specs.Digests.{has_sum}
use Rattle.szg_sums.specs.Names.{names_of, sum_for}
use Rattle.szg_sums.specs.declared.lists.Sums.{Sums}
use Rattle.szg_sums.specs.declared.sum.Sum.{Sum as Digest}
use Rattle.szg_archive.specs.declared.log.Log.{Log}
use Rattle.szg_archive.specs.declared.options.CheckOptions.{CheckOptions}
use Rattle.szg_archive.specs.declared.many.CheckReport.{CheckReport}
use Rattle.szg_archive.specs.declared.one.CheckedFile.{CheckedFile}
use Rattle.szg_named.specs.declared.named.Naming.{Naming}
use Rattle.szg_named.specs.declared.checks.ReportFormat.TheVariants as report_formats
use Rattle.szg_archive.specs.declared.counts.CheckCounts.{CheckCounts}

-- The verdict on an opened file. After a table there is the end of the file, or one more byte, which was read, too.
abbrev pub IsVerdictOn : {F : Type 0} → input.Ghosts F → Sides → Kind → F → F → FileVerdict → Type 0
IsVerdictOn {F = F} device material kind file file' (Whole size) =
    (table : F) × (t : Shown) × IsFileRead device material kind file table (Ok t) × (size ≡ length (file_bytes t)) × Takes device table file' [] 1 × IsAtEnd (device.coming file')
IsVerdictOn {F = F} device material kind file file' (Trailing size) =
    (table : F) × (t : Shown) × IsFileRead device material kind file table (Ok t) × (size ≡ length (file_bytes t)) × (byte : ℕ) × Takes device table file' (byte ∷ []) 0
IsVerdictOn device material kind file file' (At offset reason) = IsFileRead device material kind file file' (Err (Refused offset reason))
IsVerdictOn device material kind file file' (Unread error) = HasFailed (device.failures file) (device.failures file') (device.interrupted file')
IsVerdictOn device material kind file file' verdict = ⊥

-- it begins with a table
abbrev pub is_table : FileVerdict → Bool
is_table (Whole size) = true
is_table (Trailing size) = true
is_table verdict = false

-- A file that was checked up to here was read on to its end, and the result is what its bytes make; or the device failed
-- before (or there were more bytes than 64 bits count), and it is what that makes.
abbrev pub IsReadOn : {F X : Type 0} → input.Ghosts F → F → F → (List ℕ → X) → (Option Error → X) → X → Type 0
IsReadOn device checked read of_bytes of_error result =
    (IsAtEnd (device.coming read) × ((rest : List ℕ) × (device.moved read ≡ device.moved checked ++ rest)) × (result ≡ of_bytes (device.moved read)))
    ⊎ ((error : Option Error) × (result ≡ of_error error) × (HasFailed (device.failures checked) (device.failures read) (device.interrupted read) ⊎ (2 ^ 64 ≤ length (device.moved read))))

-- What begins with a table keeps its verdict if all its bytes have the digest that is due; what doesn't keeps it anyway.
abbrev pub IsComparedTable : {F : Type 0} → Bool → input.Ghosts F → (List ℕ → Bool) → F → F → FileVerdict → FileVerdict → Type 0
IsComparedTable true device has checked read found verdict = IsReadOn device checked read (λ m. if has m then found else Differs) (λ error. Unread error) verdict
IsComparedTable false device has checked read found verdict = verdict ≡ found

-- The verdict on an opened file, of which no byte was read, and its digest, by what has it.
abbrev pub IsHashedVerdictOn : {F : Type 0} → input.Ghosts F → (List ℕ → Bool) → Sides → Kind → F → F → FileVerdict → Type 0
IsHashedVerdictOn {F = F} device has material kind file read verdict =
    (checked : F) × (found : FileVerdict) × IsVerdictOn device material kind file checked found
    × IsComparedTable (is_table found) device has checked read found verdict

-- The same, by what the digest has to be.
abbrev pub IsDueVerdictOn : {F : Type 0} → input.Ghosts F → Due → Sides → Kind → F → F → FileVerdict → Type 0
IsDueVerdictOn device dues.Any material kind file read verdict = IsVerdictOn device material kind file read verdict
IsDueVerdictOn device dues.Unlisted material kind file read verdict =
    (found : FileVerdict) × IsVerdictOn device material kind file read found × (verdict ≡ (if is_table found then Unlisted else found))
IsDueVerdictOn device (dues.Sum sum) material kind file read verdict = IsHashedVerdictOn device (λ m. has_sum sum m) material kind file read verdict

abbrev pub found_as : FileVerdict → Option (List ℕ) → CheckedFile
found_as verdict digest = record { verdict = verdict; digest = digest }

-- With its verdict a table gets the digest of all its bytes; what is no table gets none.
abbrev pub IsDigestedTable : {F : Type 0} → Bool → input.Ghosts F → F → F → FileVerdict → CheckedFile → Type 0
IsDigestedTable true device checked read verdict found = IsReadOn device checked read (λ m. found_as verdict (Some (sha256 m))) (λ error. found_as (Unread error) None) found
IsDigestedTable false device checked read verdict found = found ≡ found_as verdict None

-- The verdict on an opened file, of which no byte was read, and its digest.
abbrev pub IsDigestedOn : {F : Type 0} → input.Ghosts F → Due → Sides → Kind → F → F → CheckedFile → Type 0
IsDigestedOn {F = F} device due material kind file read found =
    (checked : F) × (verdict : FileVerdict) × IsDueVerdictOn device due material kind file checked verdict
    × IsDigestedTable (is_table verdict) device checked read verdict found

-- The same, with a digest only if it is asked for.
abbrev pub IsFoundOn : {F : Type 0} → Bool → input.Ghosts F → Due → Sides → Kind → F → F → CheckedFile → Type 0
IsFoundOn true device due material kind file read found = IsDigestedOn device due material kind file read found
IsFoundOn false device due material kind file read found = IsDueVerdictOn device due material kind file read found.verdict × (found.digest ≡ None)

-- The system opened the path, and this was found on that file.
abbrev pub IsRead : {S F : Type 0} → (S → List ℕ → Option (List ℕ)) → (S → ℕ) → input.Ghosts F → Due → Bool → List ℕ → Sides → Kind → S → S → CheckedFile → Type 0
IsRead {F = F} content failures device due has_digest path material kind system system' found =
    (file : F) × (file' : F) × IsOpened content failures device system system' path file × IsFoundOn has_digest device due material kind file file' found

-- What was found, of this verdict, by a kind and a parsed name. If the name is not a material's, the system is unchanged;
-- otherwise the file was opened, or could not be.
abbrev pub IsNamedVerdict : {S F : Type 0} → (S → List ℕ → Option (List ℕ)) → (S → ℕ) → input.Ghosts F → Due → Bool → List ℕ → Kind → Result Sides NameFault → S → S → CheckedFile → FileVerdict → Type 0
IsNamedVerdict content failures device due has_digest path kind (Err fault) system system' found (Name stated) = (stated ≡ fault) × (system' ≡ system)
IsNamedVerdict content failures device due has_digest path kind (Err fault) system system' found verdict = ⊥
IsNamedVerdict content failures device due has_digest path kind (Ok material) system system' found (Unopened fault) = failures system' ≡ raised (failures system)
IsNamedVerdict content failures device due has_digest path kind (Ok material) system system' found verdict = IsRead content failures device due has_digest path material kind system system' found

abbrev pub IsVerdictBy : {S F : Type 0} → (S → List ℕ → Option (List ℕ)) → (S → ℕ) → input.Ghosts F → Due → Bool → List ℕ → Option (List ℕ × Kind) → S → S → CheckedFile → FileVerdict → Type 0
IsVerdictBy content failures device due has_digest path None system system' found Ending = system' ≡ system
IsVerdictBy content failures device due has_digest path None system system' found verdict = ⊥
IsVerdictBy content failures device due has_digest path (Some named) system system' found verdict = IsNamedVerdict content failures device due has_digest path named.1 (parsed named.0) system system' found verdict

-- What was found on the file at a path, with this name and kind given: the verdict, and the digest if it is asked for.
abbrev pub IsFileVerdict : {S F : Type 0} → (S → List ℕ → Option (List ℕ)) → (S → ℕ) → input.Ghosts F → Naming → Due → Bool → List ℕ → S → S → CheckedFile → Type 0
IsFileVerdict content failures device naming due has_digest path system system' found =
    IsVerdictBy content failures device due has_digest path (named_as (name_given naming) naming.kind path) system system' found found.verdict

-- ---- many files

-- each file by its own name, no trailing bytes, a report for a reader, no lists of sums, all files, no log, no manifest
abbrev pub plain_options : CheckOptions
plain_options = record { naming = record { name = None; kind = None }; allow_trailing = false; format = report_formats.Text; quiet = false; sums = None; shard = None; log = None; has_manifest = false }

-- a path that a report is of, and its verdict if it is known without opening a file
abbrev pub Listed : Type 0
Listed = List ℕ × Option FileVerdict

abbrev pub file_at : List ℕ → Listed
file_at path = (path, None)

abbrev pub listed_of : PathToCheck → Listed
listed_of entry = (string_bytes entry.path, entry.note)

-- What is listed for a path: if it ends as a table's file does, the file. Of what is found below folders nothing is stated.
abbrev pub IsListedAt : List ℕ → List Listed → Type 0
IsListedAt path here = is_some (named_by path) ≡ true → here ≡ file_at path ∷ []

-- What is listed for each path in turn.
abbrev pub AreListed : List (List ℕ) → List Listed → Type 0
AreListed [] listed = listed ≡ []
AreListed (path ∷ paths) listed =
    (here : List Listed) × (rest : List Listed) × IsListedAt path here × (listed ≡ here ++ rest) × AreListed paths rest

-- They are listed as missing.
abbrev pub AllMissing : List Listed → Type 0
AllMissing [] = Unit {0}
AllMissing (one ∷ more) = (one.1 ≡ Some Missing) × AllMissing more

-- What is listed after the files: with lists of sums, missing files; without, nothing.
abbrev pub AreMissing : Option (Bor Sums) → List Listed → Type 0
AreMissing None listed = listed ≡ []
AreMissing (Some sums) listed = AllMissing listed

-- What the digest of the file at a path has to be: without lists anything, else what the lists have for the path.
abbrev pub due_for : Option Digest → Due
due_for None = dues.Unlisted
due_for (Some sum) = dues.Sum sum

abbrev pub due_in : Option (Bor Sums) → List ℕ → Due
due_in None path = dues.Any
due_in (Some sums) path = due_for (sum_for (names_of sums.now) path)

-- By its last record the file at a path was good, and had this length.
abbrev pub IsGoodIn : Option (Bor Log) → List ℕ → ℕ → Type 0
IsGoodIn None path length = ⊥
IsGoodIn (Some log) path length = (modified : ℕ) × (last_state (entries_of log.now) path ≡ Some record { length = length; modified = modified })

-- whether each file has to be read, since its digest is compared or listed
abbrev pub reads_all : CheckOptions → Bool
reads_all options = is_some options.sums || options.has_manifest

-- A file may be left out: no digest is asked for, and by its last record it was good, with this length.
abbrev pub IsLeftOut : CheckOptions → List ℕ → ℕ → Type 0
IsLeftOut options path length = (reads_all options ≡ false) × IsGoodIn options.log path length

-- What was found on the file at a path: it was left out; or it was checked.
abbrev pub IsPathVerdict : {S F : Type 0} → (S → List ℕ → Option (List ℕ)) → (S → ℕ) → input.Ghosts F → CheckOptions → List ℕ → S → S → CheckedFile → Type 0
IsPathVerdict content failures device options path system system' found =
    ((length : ℕ) × IsLeftOut options path length × (found ≡ found_as (Kept length) None) × (system' ≡ system))
    ⊎ IsFileVerdict content failures device options.naming (due_in options.sums path) options.has_manifest path system system' found

-- What was found at a listed path: the known verdict, or what was found on the file.
abbrev pub IsVerdictAt : {S F : Type 0} → (S → List ℕ → Option (List ℕ)) → (S → ℕ) → input.Ghosts F → CheckOptions → List ℕ → Option FileVerdict → S → S → CheckedFile → Type 0
IsVerdictAt content failures device options path (Some known) system system' found = (found ≡ found_as known None) × (system' ≡ system)
IsVerdictAt content failures device options path None system system' found = IsPathVerdict content failures device options path system system' found

-- Of each listed path this was found, and it has its line or record, in its order.
abbrev pub Reports : {S F : Type 0} → (S → List ℕ → Option (List ℕ)) → (S → ℕ) → input.Ghosts F → CheckOptions → List Listed → List CheckedFile → S → S → List ℕ → Type 0
Reports content failures device options [] [] system system' text = (system' ≡ system) × (text ≡ [])
Reports content failures device options [] (found ∷ others) system system' text = ⊥
Reports content failures device options (listed ∷ more) [] system system' text = ⊥
Reports {S = S} content failures device options (listed ∷ more) (found ∷ others) system system' text =
    (next : S) × IsVerdictAt content failures device options listed.0 listed.1 system next found
    × (line : List ℕ) × IsShownLine options.quiet options.format options.allow_trailing listed.0 found.verdict line
    × (rest : List ℕ) × (text ≡ line ++ rest) × Reports content failures device options more others next system' rest

-- the lines of the listed paths that passed, with their digests
abbrev pub manifest_of : Bool → List Listed → List CheckedFile → List ℕ
manifest_of allow_trailing [] found = []
manifest_of allow_trailing (listed ∷ more) [] = []
manifest_of allow_trailing (listed ∷ more) (found ∷ others) = manifest_line allow_trailing listed.0 found.verdict found.digest ++ manifest_of allow_trailing more others

-- a table and nothing else, or a table with trailing bytes if these are allowed
abbrev pub good_of : Bool → FileVerdict → ℕ
good_of allow_trailing (Whole size) = 1
good_of true (Trailing size) = 1
good_of allow_trailing verdict = 0

abbrev pub unread_of : FileVerdict → ℕ
unread_of (Unopened fault) = 1
unread_of (Unread error) = 1
unread_of NoText = 1
unread_of Empty = 1
unread_of verdict = 0

abbrev pub kept_of : FileVerdict → ℕ
kept_of (Kept size) = 1
kept_of verdict = 0

abbrev pub skipped_of : FileVerdict → ℕ
skipped_of (Skipped skip) = 1
skipped_of verdict = 0

-- neither good, nor unread, left out or skipped
abbrev pub refused_of : Bool → FileVerdict → ℕ
refused_of allow_trailing Ending = 1
refused_of allow_trailing (Name fault) = 1
refused_of allow_trailing (At offset reason) = 1
refused_of false (Trailing size) = 1
refused_of allow_trailing Differs = 1
refused_of allow_trailing Unlisted = 1
refused_of allow_trailing Missing = 1
refused_of allow_trailing verdict = 0

-- the numbers of good, refused, unread, left-out and skipped verdicts
pub record Counts (allow_trailing : Bool) (found : List CheckedFile) (tally : CheckCounts) : Type 0 where
  pub good : tally.good ≡ sum_by (λ one. good_of allow_trailing one.verdict) found
  pub refused : tally.refused ≡ sum_by (λ one. refused_of allow_trailing one.verdict) found
  pub unread : tally.unread ≡ sum_by (λ one. unread_of one.verdict) found
  pub kept : tally.kept ≡ sum_by (λ one. kept_of one.verdict) found
  pub skipped : tally.skipped ≡ sum_by (λ one. skipped_of one.verdict) found

-- Of all listed paths this was found, in their order; just their lines or records and what ends the report were written; and
-- the manifest has those that passed.
pub record IsReportOn {S F W : Type 0} (content : S → List ℕ → Option (List ℕ)) (failures : S → ℕ) (device : input.Ghosts F) (writing : output.Ghosts W)
    (options : CheckOptions) (listed : List Listed) (system system' : S) (writer writer' : W) (tally : CheckCounts) (manifest : List ℕ) : Type 0 where
  pub found : List CheckedFile
  pub text : List ℕ
  pub reports : Reports content failures device options listed found system system' text
  pub counts : Counts options.allow_trailing found tally
  pub given : Gives writing writer writer' (text ++ report_end options.format tally) 0
  pub lists : manifest ≡ manifest_of options.allow_trailing listed found

-- The same of the files at these paths.
abbrev pub IsReport : {S F W : Type 0} → (S → List ℕ → Option (List ℕ)) → (S → ℕ) → input.Ghosts F → output.Ghosts W → CheckOptions → List (List ℕ) → S → S → W → W → CheckReport → Type 0
IsReport content failures device writing options paths system system' writer writer' report =
    IsReportOn content failures device writing options (map file_at paths) system system' writer writer' report.counts report.manifest.items

-- The same of the files at these paths, of what was found below folders, and, with lists of sums, of what is missing; or of
-- those of them that are a shard's.
abbrev pub IsFoundReport : {S F W : Type 0} → (S → List ℕ → Option (List ℕ)) → (S → ℕ) → input.Ghosts F → output.Ghosts W → CheckOptions → List (List ℕ) → S → S → W → W → CheckReport → Type 0
IsFoundReport content failures device writing options paths system system' writer writer' report =
    (listed : List Listed) × (missing : List Listed) × AreListed paths listed × AreMissing options.sums missing
    × IsReportOn content failures device writing options (shard_of options.shard (listed ++ missing)) system system' writer writer' report.counts report.manifest.items
