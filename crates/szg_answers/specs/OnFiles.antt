-- What a command on files by their paths does.
use Rattle.std.specs.Borrow.{Bor}
use Rattle.std.specs.Prelude.{◌≡◌, ◌⊎◌, ℕ, List, [], ◌∷◌, map, Option, Some, None, IsSome, is_some, option_map, Result, Ok, Err}
use Rattle.szg_io.specs.declared.device.Input as input
use Rattle.szg_io.specs.declared.device.Output as output
use Rattle.szg_io.specs.Device.{HasFailed}
use Rattle.szg_io.specs.Moved.{Takes, Gives}
use Rattle.szg_file.specs.Accepted.{IsAccepted}
use Rattle.szg_file.specs.Held.{Shown, file_bytes}
use Rattle.szg_build.specs.Dump as stated
use Rattle.szg_files.specs.Draft.{published_target, published_text}
use Rattle.szg_files.specs.FileSystem.{IsOpened}
use Rattle.szg_files.specs.declared.draft.Published.{Published}
use Rattle.szg_files.specs.declared.file_system.FileFault.{FileFault}
use Rattle.szg_sums.specs.declared.lists.Sums.{Sums}
use Rattle.szg_archive.specs.Requested.{files_to_check}
use Rattle.szg_archive.specs.Verdicts.{IsFoundReport, plain_options}
use Rattle.szg_archive.specs.declared.log.Log.{Log}
use Rattle.szg_archive.specs.declared.many.CheckReport.{CheckReport}
use Rattle.szg_archive.specs.declared.options.CheckOptions.{CheckOptions}
use Rattle.szg_answers.specs.Answers.{IsAnswer}
use Rattle.szg_answers.specs.Builds.{choice_of, IsBuiltIn, IsTextOf}
use Rattle.szg_words.specs.Chosen.{AsksFor, AsksForJob, AsksForNoJob, AsksForNone}
use Rattle.szg_answers.specs.Fronts.{AnswersIn, MeetsIn}
use Rattle.szg_answers.specs.Outcome.{OnDone, OnRefused, OnWords}
use Rattle.szg_answers.specs.RefusalLines.{refusal_line}
use Rattle.szg_answers.specs.Requests.{IsBegunBy, IsCarriedOut, IsListed, IsRefusedWith, IsTableOf, Meets}
use Rattle.clap.specs.declared.parser.matches.ArgMatches.{ArgMatches}
use Rattle.szg_words.specs.declared.command_line.CommandForm.{CommandForm}
use Rattle.szg_words.specs.declared.file_words.CheckJob.{CheckJob}
use Rattle.szg_words.specs.declared.file_words.FileJob.TheVariants.{Check, LookUp, Run}
use Rattle.szg_answers.specs.declared.refusal.Refusal.{Refusal}
use Rattle.szg_answers.specs.declared.on_files.Ending.{Ending}
use Rattle.szg_answers.specs.declared.on_files.Ending.TheVariants as endings
use Rattle.szg_answers.specs.declared.outcome.Outcome.{Outcome}
use Rattle.szg_answers.specs.declared.outcome.Outcome.TheVariants as outcomes
use Rattle.szg_words.specs.declared.request.Request.{Request}
use Rattle.szg_words.specs.declared.request.Task.{Task}
use Rattle.szg_words.specs.declared.request.Task.TheVariants.{OnTable, Build}

-- ---- one task

-- Just the file of an accepted table, or the text of a dump, was taken from the reader, and this text is the task's answer.
abbrev pub IsAnswerOf : {R : Type 0} → input.Ghosts R → Task → R → R → List ℕ → Type 0
IsAnswerOf reading (OnTable request) reader reader' text =
    (table : Shown) × IsTableOf request table × Takes reading reader reader' (file_bytes table) 1 × IsAnswer request.action request.part request.side table text
IsAnswerOf reading (Build plan) reader reader' text =
    (dump : stated.Dump) × IsTextOf reading reader reader' dump × (table : Shown) × IsBuiltIn (choice_of plan) dump table.contents
    × IsAccepted table.contents table.filled × (text ≡ file_bytes table)

-- The file that was asked for has just the task's answer.
abbrev pub IsPublishedBy : {R : Type 0} → input.Ghosts R → Task → List ℕ → R → R → Published → Type 0
IsPublishedBy reading task target reader reader' published =
    (published_target published ≡ target) × IsAnswerOf reading task reader reader' (published_text published)

-- The task was carried out: its answer was given to the writer, or is in the file that was asked for.
abbrev pub IsCarriedTo : {R W : Type 0} → input.Ghosts R → output.Ghosts W → Task → Option (List ℕ) → R → R → W → W → Option Published → Type 0
IsCarriedTo reading writing task None reader reader' writer writer' None = IsCarriedOut reading writing task reader reader' writer writer'
IsCarriedTo reading writing task (Some target) reader reader' writer writer' (Some published) =
    (writer' ≡ writer) × IsPublishedBy reading task target reader reader' published
IsCarriedTo reading writing task target reader reader' writer writer' published = ⊥

-- The same, on the file that the system opened at a path.
abbrev pub IsCarriedFrom : {S F W : Type 0} → (S → List ℕ → Option (List ℕ)) → (S → ℕ) → input.Ghosts F → output.Ghosts W → Task → List ℕ → Option (List ℕ) → S → S → W → W → Option Published → Type 0
IsCarriedFrom {F = F} content failures reading writing task source target system system' writer writer' published =
    (file : F) × (file' : F) × IsOpened content failures reading system system' source file
    × IsCarriedTo reading writing task target file file' writer writer' published

-- The task meets a refusal on the file that the system opened at a path.
abbrev pub MeetsFrom : {S F : Type 0} → (S → List ℕ → Option (List ℕ)) → (S → ℕ) → input.Ghosts F → Task → List ℕ → S → S → Refusal → Type 0
MeetsFrom {F = F} content failures reading task source system system' refusal =
    (file : F) × (file' : F) × IsOpened content failures reading system system' source file × Meets reading task file file' refusal

-- Memory was refused: nothing was written, or, by `values`, a beginning of the answer.
abbrev pub IsStarted : {R W : Type 0} → input.Ghosts R → output.Ghosts W → Task → R → R → W → W → Type 0
IsStarted reading writing task reader reader' writer writer' = (writer' ≡ writer) ⊎ IsBegunBy reading writing task reader reader' writer writer'

-- The same, on a file that the system opened at a path.
abbrev pub IsStartedFrom : {S F W : Type 0} → (S → List ℕ → Option (List ℕ)) → (S → ℕ) → input.Ghosts F → output.Ghosts W → Task → List ℕ → S → S → W → W → Type 0
IsStartedFrom {F = F} content failures reading writing task source system system' writer writer' =
    (writer' ≡ writer) ⊎ ((file : F) × (file' : F) × IsOpened content failures reading system system' source file × IsBegunBy reading writing task file file' writer writer')

-- Nothing was written, or the writer failed.
abbrev pub IsUnwritten : {W : Type 0} → output.Ghosts W → W → W → Type 0
IsUnwritten writing writer writer' = (writer' ≡ writer) ⊎ HasFailed (writing.failures writer) (writing.failures writer') (writing.interrupted writer')

-- The task lists a table's values.
abbrev pub ListsValues : Task → Type 0
ListsValues (OnTable request) = IsListed request.action
ListsValues (Build plan) = ⊥

-- It lists those of a file: they are written while it is read.
abbrev pub ListsFile : {S : Type 0} → Task → Option S → Type 0
ListsFile task source = ListsValues task × IsSome source

-- It lists them for the writer.
abbrev pub IsListing : {S T : Type 0} → Task → Option S → Option T → Type 0
IsListing task source target = ListsFile task source × (target ≡ None)

-- ---- how a command line ends

-- A task that names files was carried out, or refused, or a device failed or memory was refused.
abbrev pub EndsTask : Ending → (Option Published → Type 0) → Type 0 → Type 0 → Type 0 → Type 0
EndsTask (endings.Done published) Done Refused Failed Short = Done published
EndsTask endings.Refused Done Refused Failed Short = Refused
EndsTask (endings.Failed failure) Done Refused Failed Short = Failed
EndsTask endings.Device Done Refused Failed Short = Failed
EndsTask endings.Memory Done Refused Failed Short = Short
EndsTask (endings.Checked stated) Done Refused Failed Short = ⊥
EndsTask (endings.Listed report target written) Done Refused Failed Short = ⊥
EndsTask (endings.BadLine path line due) Done Refused Failed Short = ⊥
EndsTask (endings.Words outcome) Done Refused Failed Short = ⊥

-- Files were checked: all of them, or the writer failed, or memory was refused.
abbrev pub AreChecked : Ending → (CheckReport → Type 0) → Type 0 → Type 0
AreChecked (endings.Checked (Ok (Some report))) Report Failed = Report report
AreChecked (endings.Checked (Ok None)) Report Failed = Failed
AreChecked (endings.Checked (Err error)) Report Failed = Unit {0}
AreChecked ending Report Failed = ⊥

-- The manifest of what was checked is in the file that was asked for, or that could not be written.
abbrev pub IsManifest : (Option (List ℕ) → Type 0) → CheckReport → Result Published FileFault → Type 0
IsManifest IsTarget report (Ok published) = IsTarget (Some (published_target published)) × (published_text published ≡ report.manifest.items)
IsManifest IsTarget report (Err fault) = Unit {0}

-- Files were checked so, and a manifest was written if one was asked for; or a list of sums or a log can't be read, a manifest can't be
-- begun, or memory was refused for them.
abbrev pub EndsCheck : Ending → (CheckReport → Type 0) → (Option (List ℕ) → Type 0) → Type 0 → Type 0 → Type 0
EndsCheck (endings.Checked stated) Report IsTarget Failed Unread = AreChecked (endings.Checked stated) (λ report. Report report × IsTarget None) Failed
EndsCheck (endings.Listed report target written) Report IsTarget Failed Unread = Report report × IsManifest IsTarget report written
EndsCheck (endings.Failed failure) Report IsTarget Failed Unread = Unread
EndsCheck (endings.BadLine path line due) Report IsTarget Failed Unread = Unread
EndsCheck endings.Memory Report IsTarget Failed Unread = Unread
EndsCheck ending Report IsTarget Failed Unread = ⊥

-- What a run on a reader does: the clauses of `run`. The words may as well ask for no job on files.
pub record HasRun {R W : Type 0} (finds : CommandForm → List (List ℕ) → ArgMatches → Type 0) (refuses : CommandForm → List (List ℕ) → Type 0) (reading : input.Ghosts R) (writing : output.Ghosts W)
    (words : List (List ℕ)) (outcome : Outcome) (reader reader' : R) (writer writer' : W) : Type 0 where
  pub stated : OnDone outcome ((task : Task) × AsksFor finds words task × IsCarriedOut reading writing task reader reader' writer writer')
  pub refused : OnRefused outcome ((task : Task) × AsksFor finds words task × IsRefusedWith reading writing task reader reader' writer writer')
  pub none : OnWords outcome ((reader' ≡ reader) × (writer' ≡ writer) × (AsksForNone finds refuses words ⊎ AsksForNoJob finds refuses words))
  pub calls : (bytes : List ℕ) × Takes reading reader reader' bytes 1
  pub device : (outcome ≡ outcomes.Device) → (HasFailed (reading.failures reader) (reading.failures reader') (reading.interrupted reader') × (writer' ≡ writer))
      ⊎ HasFailed (writing.failures writer) (writing.failures writer') (writing.interrupted writer')
  pub memory : (outcome ≡ outcomes.Memory) → (writer' ≡ writer) ⊎ ((task : Task) × AsksFor finds words task × IsBegunBy reading writing task reader reader' writer writer')

-- A look-up was answered by the front of the file at a path: just its line was given to the writer.
abbrev pub HasLookedUp : {S F W : Type 0} → (S → List ℕ → Option (List ℕ)) → (S → ℕ) → input.Ghosts F → output.Ghosts W → Request → List ℕ → S → S → W → W → Type 0
HasLookedUp {F = F} content failures filing writing request source system system' writer writer' =
    (file : F) × IsOpened content failures filing system system' source file
    × (text : List ℕ) × AnswersIn filing request file text × Gives writing writer writer' text 0

-- It met a refusal, and just its line was given to the writer.
abbrev pub HasRefusedLookUp : {S F W : Type 0} → (S → List ℕ → Option (List ℕ)) → (S → ℕ) → input.Ghosts F → output.Ghosts W → Request → List ℕ → S → S → W → W → Type 0
HasRefusedLookUp {F = F} content failures filing writing request source system system' writer writer' =
    (file : F) × IsOpened content failures filing system system' source file
    × (refusal : Refusal) × MeetsIn filing request file refusal × Gives writing writer writer' (refusal_line refusal) 0

-- A task was carried out on the file at a path, and the reader stays; or on the reader, and the system stays.
abbrev pub HasDoneTask : {S F R W : Type 0} → (S → List ℕ → Option (List ℕ)) → (S → ℕ) → input.Ghosts F → input.Ghosts R → output.Ghosts W → Task → Option (Bor (List ℕ)) → Option (Bor (List ℕ)) → S → S → R → R → W → W → Option Published → Type 0
HasDoneTask content failures filing reading writing task (Some source) target system system' reader reader' writer writer' published =
    (reader' ≡ reader) × IsCarriedFrom content failures filing writing task source.now (option_map (λ path. path.now) target) system system' writer writer' published
HasDoneTask content failures filing reading writing task None target system system' reader reader' writer writer' published =
    (system' ≡ system) × IsCarriedTo reading writing task (option_map (λ path. path.now) target) reader reader' writer writer' published

-- A task met a refusal so.
abbrev pub MeetsTask : {S F R : Type 0} → (S → List ℕ → Option (List ℕ)) → (S → ℕ) → input.Ghosts F → input.Ghosts R → Task → Option (Bor (List ℕ)) → S → S → R → R → Refusal → Type 0
MeetsTask content failures filing reading task (Some source) system system' reader reader' refusal =
    (reader' ≡ reader) × MeetsFrom content failures filing task source.now system system' refusal
MeetsTask content failures filing reading task None system system' reader reader' refusal = (system' ≡ system) × Meets reading task reader reader' refusal

-- Just the line of the refusal that it met was given to the writer.
abbrev pub HasRefusedTask : {S F R W : Type 0} → (S → List ℕ → Option (List ℕ)) → (S → ℕ) → input.Ghosts F → input.Ghosts R → output.Ghosts W → Task → Option (Bor (List ℕ)) → S → S → R → R → W → W → Type 0
HasRefusedTask content failures filing reading writing task source system system' reader reader' writer writer' =
    (refusal : Refusal) × MeetsTask content failures filing reading task source system system' reader reader' refusal × Gives writing writer writer' (refusal_line refusal) 0

-- Memory was refused to a task so.
abbrev pub IsShortOfMemory : {S F R W : Type 0} → (S → List ℕ → Option (List ℕ)) → (S → ℕ) → input.Ghosts F → input.Ghosts R → output.Ghosts W → Task → Option (Bor (List ℕ)) → S → S → R → R → W → W → Type 0
IsShortOfMemory content failures filing reading writing task (Some source) system system' reader reader' writer writer' =
    (reader' ≡ reader) × IsStartedFrom content failures filing writing task source.now system system' writer writer'
IsShortOfMemory content failures filing reading writing task None system system' reader reader' writer writer' =
    (system' ≡ system) × IsStarted reading writing task reader reader' writer writer'

-- ---- what the words ask for

-- A check that is asked for: its options, by the sums and the records that are read; the files of lists of sums and of logs, the
-- file for a manifest, and the paths.
pub record Asked : Type 0 where
  pub options : Option (Bor Sums) → Option (Bor Log) → CheckOptions
  pub lists : List (Bor (List ℕ))
  pub logs : List (Bor (List ℕ))
  pub target : Option (List ℕ)
  pub paths : List (List ℕ)

abbrev pub asked_of : CheckJob → Asked
asked_of job = record {
  options = λ sums log. record {
    naming = job.naming;
    allow_trailing = job.allow_trailing;
    format = job.format;
    quiet = job.quiet;
    sums = sums;
    shard = job.shard;
    log = log;
    has_manifest = is_some job.manifest;
  };
  lists = job.lists.items;
  logs = job.logs.items;
  target = option_map (λ path. path.now) job.manifest;
  paths = map (λ path. path.now) job.paths.items;
}

-- the check of these files without options
abbrev pub plain_check : List (List ℕ) → Asked
plain_check paths = record { options = λ sums log. plain_options; lists = []; logs = []; target = None; paths = paths }

-- The words ask for this check.
abbrev pub AsksToCheck : (CommandForm → List (List ℕ) → ArgMatches → Type 0) → List (List ℕ) → Asked → Type 0
AsksToCheck finds words asked =
    ((paths : List (List ℕ)) × (files_to_check words ≡ Some paths) × (asked ≡ plain_check paths)) ⊎ ((job : CheckJob) × AsksForJob finds words (Check job) × (asked ≡ asked_of job))

-- What was read from files, if any are named.
abbrev pub IsGiven : {X Y : Type 0} → List X → Option Y → Type 0
IsGiven [] given = given ≡ None
IsGiven (file ∷ files) given = IsSome given

-- The options that are asked for, with the sums of the lists and the records of the logs.
abbrev pub IsComplete : Asked → CheckOptions → Type 0
IsComplete asked complete = (sums : Option (Bor Sums)) × (log : Option (Bor Log)) × IsGiven asked.lists sums × IsGiven asked.logs log × (complete ≡ asked.options sums log)

-- The files were checked as it is asked for.
abbrev pub IsAskedReport : {S F W : Type 0} → (S → List ℕ → Option (List ℕ)) → (S → ℕ) → input.Ghosts F → output.Ghosts W → Asked → S → S → W → W → CheckReport → Type 0
IsAskedReport content failures filing writing asked system system' writer writer' report =
    (complete : CheckOptions) × IsComplete asked complete × IsFoundReport content failures filing writing complete asked.paths system system' writer writer' report

-- A file for a manifest is the one that is asked for, or there is none.
abbrev pub IsTargetOf : Asked → Option (List ℕ) → Type 0
IsTargetOf asked target = target ≡ asked.target

-- The task that the words ask for was carried out; or the look-up was answered by a front, no file was written, and the
-- reader stays.
abbrev pub HasDone : {S F R W : Type 0} → (CommandForm → List (List ℕ) → ArgMatches → Type 0) → (S → List ℕ → Option (List ℕ)) → (S → ℕ) → input.Ghosts F → input.Ghosts R → output.Ghosts W → List (List ℕ) → S → S → R → R → W → W → Option Published → Type 0
HasDone finds content failures filing reading writing words system system' reader reader' writer writer' published =
    ((task : Task) × (source : Option (Bor (List ℕ))) × (target : Option (Bor (List ℕ))) × AsksForJob finds words (Run task source target)
    × HasDoneTask content failures filing reading writing task source target system system' reader reader' writer writer' published)
    ⊎ ((request : Request) × (source : Bor (List ℕ)) × AsksForJob finds words (LookUp request source) × (published ≡ None) × (reader' ≡ reader)
    × HasLookedUp content failures filing writing request source.now system system' writer writer')

-- The task that they ask for met a refusal; or the look-up by a front did, and the reader stays.
abbrev pub HasRefused : {S F R W : Type 0} → (CommandForm → List (List ℕ) → ArgMatches → Type 0) → (S → List ℕ → Option (List ℕ)) → (S → ℕ) → input.Ghosts F → input.Ghosts R → output.Ghosts W → List (List ℕ) → S → S → R → R → W → W → Type 0
HasRefused finds content failures filing reading writing words system system' reader reader' writer writer' =
    ((task : Task) × (source : Option (Bor (List ℕ))) × (target : Option (Bor (List ℕ))) × AsksForJob finds words (Run task source target)
    × HasRefusedTask content failures filing reading writing task source system system' reader reader' writer writer')
    ⊎ ((request : Request) × (source : Bor (List ℕ)) × AsksForJob finds words (LookUp request source) × (reader' ≡ reader)
    × HasRefusedLookUp content failures filing writing request source.now system system' writer writer')

-- The words ask for the values or the dump of a file, for the writer: they are written while the file is read.
abbrev pub AsksToList : (CommandForm → List (List ℕ) → ArgMatches → Type 0) → List (List ℕ) → Type 0
AsksToList finds words = (task : Task) × (source : Option (Bor (List ℕ))) × (target : Option (Bor (List ℕ))) × AsksForJob finds words (Run task source target) × IsListing task source target

-- A file or a device failed: nothing was written, or the writer failed. Of values that are written while a file is read
-- a part may be written; which, it doesn't say.
abbrev pub HasStopped : {W : Type 0} → (CommandForm → List (List ℕ) → ArgMatches → Type 0) → output.Ghosts W → List (List ℕ) → W → W → Type 0
HasStopped finds writing words writer writer' = AsksToList finds words ⊎ IsUnwritten writing writer writer'

-- Memory was refused: nothing was written, or, by `values`, a beginning of the answer; with the same exception.
abbrev pub HasShort : {S F R W : Type 0} → (CommandForm → List (List ℕ) → ArgMatches → Type 0) → (S → List ℕ → Option (List ℕ)) → (S → ℕ) → input.Ghosts F → input.Ghosts R → output.Ghosts W → List (List ℕ) → S → S → R → R → W → W → Type 0
HasShort finds content failures filing reading writing words system system' reader reader' writer writer' =
    AsksToList finds words ⊎ ((writer' ≡ writer)
    ⊎ ((task : Task) × (source : Option (Bor (List ℕ))) × (target : Option (Bor (List ℕ))) × AsksForJob finds words (Run task source target)
    × IsShortOfMemory content failures filing reading writing task source system system' reader reader' writer writer'))

-- What was done, by the ending.
abbrev pub EndsWell : {S F R W : Type 0} → (CommandForm → List (List ℕ) → ArgMatches → Type 0) → (CommandForm → List (List ℕ) → Type 0) → (S → List ℕ → Option (List ℕ)) → (S → ℕ) → input.Ghosts F → input.Ghosts R → output.Ghosts W → List (List ℕ) → Ending → S → S → R → R → W → W → Type 0
EndsWell finds refuses content failures filing reading writing words (endings.Checked stated) system system' reader reader' writer writer' =
    (asked : Asked) × AsksToCheck finds words asked × (reader' ≡ reader)
    × AreChecked (endings.Checked stated) (λ report. IsAskedReport content failures filing writing asked system system' writer writer' report × IsTargetOf asked None)
    (HasFailed (writing.failures writer) (writing.failures writer') (writing.interrupted writer'))
EndsWell finds refuses content failures filing reading writing words (endings.Listed report target written) system system' reader reader' writer writer' =
    (asked : Asked) × AsksToCheck finds words asked × (reader' ≡ reader)
    × IsAskedReport content failures filing writing asked system system' writer writer' report × IsManifest (IsTargetOf asked) report written
EndsWell finds refuses content failures filing reading writing words (endings.Done published) system system' reader reader' writer writer' =
    HasDone finds content failures filing reading writing words system system' reader reader' writer writer' published
EndsWell finds refuses content failures filing reading writing words endings.Refused system system' reader reader' writer writer' =
    HasRefused finds content failures filing reading writing words system system' reader reader' writer writer'
EndsWell finds refuses content failures filing reading writing words (endings.Words outcome) system system' reader reader' writer writer' =
    (system' ≡ system) × HasRun finds refuses reading writing words outcome reader reader' writer writer'
EndsWell finds refuses content failures filing reading writing words (endings.Failed failure) system system' reader reader' writer writer' = HasStopped finds writing words writer writer'
EndsWell finds refuses content failures filing reading writing words (endings.BadLine path line due) system system' reader reader' writer writer' = writer' ≡ writer
EndsWell finds refuses content failures filing reading writing words endings.Device system system' reader reader' writer writer' = HasStopped finds writing words writer writer'
EndsWell finds refuses content failures filing reading writing words endings.Memory system system' reader reader' writer writer' =
    HasShort finds content failures filing reading writing words system system' reader reader' writer writer'
