-- Facts under an ending.
use Rattle.std.specs.Borrow.{Bor}
use Rattle.std.proofs.Common.{◌≡◌, ◌⊎◌, ◌==◌, ℕ, Bool, true, false, List, [], ◌∷◌, length, Option, None, Some, Result, Ok, Err, IfNone, IfOk, IfSome, inl, inr, refl, sym, subst, arith}
use Rattle.std.proofs.lemmas.Bool.{eqb-true}
use Rattle.clap.specs.declared.parser.matches.ArgMatches.{ArgMatches}
use Rattle.szg_files.specs.Draft.{published_target, published_text}
use Rattle.szg_files.specs.FileSystem.{IsOpened}
use Rattle.szg_files.specs.declared.draft.Published.{Published}
use Rattle.szg_files.specs.declared.file_system.FileFault.{FileFault}
use Rattle.std.specs.Io.KnownBytes.{Appends}
use Rattle.szg_file.specs.Held.{file_bytes}
use Rattle.szg_answers.specs.Answers.{IsAnswer}
use Rattle.szg_answers.specs.Requests.{IsCarriedOut}
use Rattle.szg_answers.specs.declared.refusal.Refusal.{Refusal}
use Rattle.szg_words.specs.declared.request.Task.{Task}
use Rattle.szg_words.specs.declared.request.Task.TheVariants.{OnTable, Build}
use Rattle.szg_io.specs.Device.{HasFailed}
use Rattle.szg_io.specs.declared.device.Input as input
use Rattle.szg_io.specs.declared.device.Output as output
use Rattle.szg_archive.specs.Verdicts.{IsFoundReport}
use Rattle.szg_archive.specs.declared.options.CheckOptions.{CheckOptions}
use Rattle.std.specs.declared.alloc.AllocError.{AllocError}
use Rattle.szg_archive.specs.declared.many.CheckReport.{CheckReport}
use Rattle.szg_answers.specs.OnFiles.{AreChecked, Asked, AsksToCheck, EndsCheck, EndsTask, EndsWell, HasDone, HasDoneTask, HasRefused, HasShort, HasStopped, IsAskedReport, IsComplete, IsManifest, IsPublishedBy, IsShortOfMemory, IsTargetOf, MeetsTask}
use Rattle.szg_words.specs.declared.command_line.CommandForm.{CommandForm}
use Rattle.szg_answers.specs.declared.on_files.Ending.{Ending}
use Rattle.szg_answers.specs.declared.on_files.Ending.TheVariants.{Checked, Listed, Done, Refused, Failed, BadLine, Device, Memory, Words}

-- what follows from the facts of a task's ending holds where they do
pub EndsTask-then : {P Q : Option Published → Type 0} {R T F G M N : Type 0} (ending : Ending) → ((published : Option Published) → P published → Q published) → (R → T) → (F → G) → (M → N) →
    EndsTask ending P R F M → EndsTask ending Q T G N
EndsTask-then (Done published) done refused failed short h = done published h
EndsTask-then Refused done refused failed short h = refused h
EndsTask-then (Failed failure) done refused failed short h = failed h
EndsTask-then Device done refused failed short h = failed h
EndsTask-then Memory done refused failed short h = short h
EndsTask-then (Listed report target written) done refused failed short h = h
EndsTask-then (BadLine path line due) done refused failed short h = h
EndsTask-then (Checked stated) done refused failed short h = h
EndsTask-then (Words outcome) done refused failed short h = h

-- what follows where the task lists no values
pub listed_or : {L K P Q : Type 0} → (L → K) → (P → Q) → L ⊎ P → K ⊎ Q
listed_or f g (inl l) = inl (f l)
listed_or f g (inr p) = inr (g p)

-- what follows from a fact of a result holds of it
pub if_ok_then : {A E : Type 0} {P Q : A → Type 0} (result : Result A E) → ((a : A) → P a → Q a) → IfOk result P → IfOk result Q
if_ok_then (Ok a) f p = f a p
if_ok_then (Err e) f p = p

-- the ending of files that were checked, or not up to their end
pub checked_so : (P Q : CheckReport → Type 0) (F : Type 0) (result : Result (Option CheckReport) AllocError) → ((report : CheckReport) → P report → Q report) → IfOk result (λ report. IfSome report P) → IfOk result (λ report. IfNone report F) →
    AreChecked (Checked result) Q F
checked_so P Q F (Ok (Some report)) is found failed = is report found
checked_so P Q F (Ok None) is found failed = failed
checked_so P Q F (Err error) is found failed = tt

-- the same, where no manifest was asked for
pub checked_without : (P : CheckReport → Type 0) (T : Option (List ℕ) → Type 0) (F : Type 0) (result : Result (Option CheckReport) AllocError) → IfOk result (λ report. IfSome report P) → T None → IfOk result (λ report. IfNone report F) →
    AreChecked (Checked result) (λ report. P report × T None) F
checked_without P T F result found none failed = checked_so P (λ report. P report × T None) F result (λ report p. (p, none)) found failed

-- the manifest that was written, or could not be
pub manifest_is : (T : Option (List ℕ) → Type 0) (report : CheckReport) (written : Result Published FileFault) → IfOk written (λ published. published_text published ≡ report.manifest.items) → IfOk written (λ published. T (Some (published_target published))) →
    IsManifest T report written
manifest_is T report (Ok published) text target = (target, text)
manifest_is T report (Err fault) text target = tt

-- what follows from the facts of a check's ending holds where they do
pub EndsCheck-then : {P Q : CheckReport → Type 0} {T U : Option (List ℕ) → Type 0} {F G M N : Type 0} (ending : Ending) → ((report : CheckReport) → P report → Q report) → ((given : Option (List ℕ)) → T given → U given) → (F → G) → (M → N) →
    EndsCheck ending P T F M → EndsCheck ending Q U G N
EndsCheck-then (Checked (Ok (Some report))) has is failed unread h = (has report h.0, is None h.1)
EndsCheck-then (Checked (Ok None)) has is failed unread h = failed h
EndsCheck-then (Checked (Err error)) has is failed unread h = h
EndsCheck-then (Listed report target (Ok published)) has is failed unread h = (has report h.0, (is _ h.1.0, h.1.1))
EndsCheck-then (Listed report target (Err fault)) has is failed unread h = (has report h.0, h.1)
EndsCheck-then (Failed failure) has is failed unread h = unread h
EndsCheck-then (BadLine path line due) has is failed unread h = unread h
EndsCheck-then Memory has is failed unread h = unread h
EndsCheck-then (Done published) has is failed unread h = h
EndsCheck-then Refused has is failed unread h = h
EndsCheck-then Device has is failed unread h = h
EndsCheck-then (Words outcome) has is failed unread h = h

-- a check that ended before its first file
pub unread_ending : (P : CheckReport → Type 0) (T : Option (List ℕ) → Type 0) (F : Type 0) {M : Type 0} (ending : Ending) → M → EndsCheck ending (λ report. ⊥) (λ given. ⊥) ⊥ (Unit {0}) → EndsCheck ending P T F M
unread_ending P T F ending stays h = EndsCheck-then ending (λ report x. absurd x) (λ given x. absurd x) (λ x. absurd x) (λ u. stays) h

-- what was checked by complete options was checked as it is asked for
pub asked_ending : {S F W : Type 0} (content : S → List ℕ → Option (List ℕ)) (failures : S → ℕ) (filing : input.Ghosts F) (writing : output.Ghosts W) (system system' : S) (writer writer' : W) (G M : Type 0) (asked : Asked) (complete : CheckOptions) →
    IsComplete asked complete → (ending : Ending) → EndsCheck ending (λ report. IsFoundReport content failures filing writing complete asked.paths system system' writer writer' report) (IsTargetOf asked) G M →
    EndsCheck ending (λ report. IsAskedReport content failures filing writing asked system system' writer writer' report) (IsTargetOf asked) G M
asked_ending content failures filing writing system system' writer writer' G M asked complete has ending h = EndsCheck-then ending (λ report found. (complete, has, found)) (λ given same. same) (λ f. f) (λ m. m) h

-- a task's ending is one of a command line
module _ {S F R W : Type 0} (finds : CommandForm → List (List ℕ) → ArgMatches → Type 0) (refuses : CommandForm → List (List ℕ) → Type 0) (content : S → List ℕ → Option (List ℕ)) (failures : S → ℕ)
    (filing : input.Ghosts F) (reading : input.Ghosts R) (writing : output.Ghosts W) (words : List (List ℕ)) (system system' : S) (reader reader' : R) (writer writer' : W) where
  pub ends_well : (ending : Ending) →
      EndsTask ending (HasDone finds content failures filing reading writing words system system' reader reader' writer writer')
      (HasRefused finds content failures filing reading writing words system system' reader reader' writer writer') (HasStopped finds writing words writer writer')
      (HasShort finds content failures filing reading writing words system system' reader reader' writer writer') →
      EndsWell finds refuses content failures filing reading writing words ending system system' reader reader' writer writer'
  ends_well (Done published) h = h
  ends_well Refused h = h
  ends_well (Failed failure) h = h
  ends_well Device h = h
  ends_well Memory h = h
  ends_well (Listed report target written) h = absurd h
  ends_well (BadLine path line due) h = absurd h
  ends_well (Checked stated) h = absurd h
  ends_well (Words outcome) h = absurd h

  -- the ending of a check is one of a command line
  pub check_ends_well : (ending : Ending) (asked : Asked) → AsksToCheck finds words asked → reader' ≡ reader →
      EndsCheck ending (IsAskedReport content failures filing writing asked system system' writer writer') (IsTargetOf asked)
      (HasFailed (writing.failures writer) (writing.failures writer') (writing.interrupted writer')) (writer' ≡ writer) →
      EndsWell finds refuses content failures filing reading writing words ending system system' reader reader' writer writer'
  check_ends_well (Checked stated) asked asks same h = (asked, asks, same, h)
  check_ends_well (Listed report target written) asked asks same h = (asked, asks, same, h.0, h.1)
  check_ends_well (Failed failure) asked asks same h = inr (inl h)
  check_ends_well (BadLine path line due) asked asks same h = h
  check_ends_well Memory asked asks same h = inr (inl h)
  check_ends_well (Done published) asked asks same h = absurd h
  check_ends_well Refused asked asks same h = absurd h
  check_ends_well Device asked asks same h = absurd h
  check_ends_well (Words outcome) asked asks same h = absurd h

-- the text that was given to what was empty
text_given : (old new : Option (List ℕ)) (start whole text : List ℕ) → old ≡ Some start → start ≡ [] → new ≡ Some whole → Appends old new text → whole ≡ text
text_given old new start whole text was empty is grown = (rw (was, is, empty) at grown)

-- the answer that a draft was given is in the file that is published of it
module _ {R W : Type 0} (reading : input.Ghosts R) (drafting : output.Ghosts W) (reader reader' : R) (draft draft' : W) (start : List ℕ) (published : Published) (target : List ℕ) where
  pub answer_in : (task : Task) → drafting.written draft ≡ Some start → start ≡ [] → drafting.written draft' ≡ Some (published_text published) → published_target published ≡ target → IsCarriedOut reading drafting task reader reader' draft draft' →
      IsPublishedBy reading task target reader reader' published
  answer_in (OnTable request) was empty is named h =
      let same = text_given (drafting.written draft) (drafting.written draft') start (published_text published) h.text was empty is h.given.bytes_out in
      (named, (h.table, h.queried, h.taken, subst (λ (text : List ℕ). IsAnswer request.action request.part request.side h.table text) (sym same) h.answers))
  answer_in (Build packing) was empty is named h =
      (named, (h.dump, h.text, h.table, h.built, h.accepted, text_given (drafting.written draft) (drafting.written draft') start (published_text published) (file_bytes h.table) was empty is h.given.bytes_out))

-- the same of a task on a file or on the reader
module _ {S F R W X : Type 0} (content : S → List ℕ → Option (List ℕ)) (failures : S → ℕ) (filing : input.Ghosts F) (reading : input.Ghosts R) (drafting : output.Ghosts W) (writing : output.Ghosts X)
    (task : Task) (target : Bor (List ℕ)) (system system' : S) (reader reader' : R) (draft draft' : W) (writer : X) (start : List ℕ) (published : Published) where
  pub done_in : (source : Option (Bor (List ℕ))) → drafting.written draft ≡ Some start → start ≡ [] → drafting.written draft' ≡ Some (published_text published) → published_target published ≡ target.now →
      HasDoneTask content failures filing reading drafting task source None system system' reader reader' draft draft' None →
      HasDoneTask content failures filing reading writing task source (Some target) system system' reader reader' writer writer (Some published)
  done_in (Some source) was empty is named h =
      (h.0, (h.1.0, h.1.1, h.1.2, (refl, answer_in filing drafting h.1.0 h.1.1 draft draft' start published target.now task was empty is named h.1.3)))
  done_in None was empty is named h = (h.0, (refl, answer_in reading drafting reader reader' draft draft' start published target.now task was empty is named h.1))

-- memory was refused where the line of a task's refusal was due
module _ {S F R W : Type 0} (content : S → List ℕ → Option (List ℕ)) (failures : S → ℕ) (filing : input.Ghosts F) (reading : input.Ghosts R) (writing : output.Ghosts W)
    (task : Task) (system system' : S) (reader reader' : R) (writer writer' : W) where
  pub short_refused : (source : Option (Bor (List ℕ))) (refusal : Refusal) → MeetsTask content failures filing reading task source system system' reader reader' refusal → writer' ≡ writer →
      IsShortOfMemory content failures filing reading writing task source system system' reader reader' writer writer'
  short_refused (Some source) refusal met same = (met.0, inl same)
  short_refused None refusal met same = (met.0, inl same)

-- a task on the file that was opened as its reader
module _ {S F R W : Type 0} (content : S → List ℕ → Option (List ℕ)) (failures : S → ℕ) (filing : input.Ghosts F) (reading : input.Ghosts R) (writing : output.Ghosts W)
    (task : Task) (source : Bor (List ℕ)) (system before after : S) (reader : R) (file file' : F) where
  pub done_from : (target : Option (Bor (List ℕ))) (writer writer' : W) (published : Option Published) → IsOpened content failures filing system before source.now file →
      HasDoneTask content failures filing filing writing task None target before after file file' writer writer' published →
      HasDoneTask content failures filing reading writing task (Some source) target system after reader reader writer writer' published
  done_from target writer writer' published opened h = (refl, (file, file', subst (λ (s : S). IsOpened content failures filing system s source.now file) (sym h.0) opened, h.1))

  pub meets_from : (refusal : Refusal) → IsOpened content failures filing system before source.now file → MeetsTask content failures filing filing task None before after file file' refusal →
      MeetsTask content failures filing reading task (Some source) system after reader reader refusal
  meets_from refusal opened h = (refl, (file, file', subst (λ (s : S). IsOpened content failures filing system s source.now file) (sym h.0) opened, h.1))

  pub short_from : (writer writer' : W) → IsOpened content failures filing system before source.now file → IsShortOfMemory content failures filing filing writing task None before after file file' writer writer' →
      IsShortOfMemory content failures filing reading writing task (Some source) system after reader reader writer writer'
  short_from writer writer' opened h =
      (refl, listed_or (λ same. same) (λ begun. (file, file', subst (λ (s : S). IsOpened content failures filing system s source.now file) (sym h.0) opened, begun)) h.1)
