-- A report, extended by one file.
use Rattle.std.proofs.Common.{IfOk, IfSome, Result, Ok, Err, ◌≡◌, ℕ, ◌+◌, ◌<◌, length, get_or, map, take, Bool, true, false, List, [], ◌∷◌, ◌++◌, Option, Some, None, inr, refl, sym, ap, subst, ◌∙◌, append_assoc, append-nil, arith}
use Rattle.std.specs.List.{sum_by}
use Rattle.std.proofs.lemmas.List.{map-append, take_more}
use Rattle.std.proofs.lemmas.List.Sums.{sum_by-append}
use Rattle.szg_io.specs.declared.device.Input as input
use Rattle.szg_io.specs.declared.device.Output as output
use Rattle.szg_archive.specs.Verdicts.{AreListed, AreMissing, Counts, IsFileVerdict, IsFoundReport, IsPathVerdict, IsReportOn, IsVerdictAt, Listed, Reports, due_in, file_at, good_of, kept_of, listed_of, manifest_of, plain_options, refused_of, skipped_of, unread_of}
use Rattle.szg_archive.specs.Records.{IsShownLine, manifest_line}
use Rattle.szg_archive.specs.Shards.{shard_of}
use Rattle.szg_archive.specs.declared.one.CheckedFile.{CheckedFile}
use Rattle.szg_archive.specs.declared.many.CheckReport.{CheckReport}
use Rattle.szg_archive.specs.declared.file_verdict.FileVerdict.{FileVerdict}
use Rattle.szg_archive.specs.declared.file_verdict.FileVerdict.TheVariants.{Whole, Ending, Name, At, Trailing, Unopened, Unread, NoText, Empty, Skipped, Kept, Differs, Unlisted, Missing}
use Rattle.szg_archive.specs.declared.entries.PathToCheck.{PathToCheck}
use Rattle.szg_archive.specs.declared.options.CheckOptions.{CheckOptions}
use Rattle.szg_archive.specs.declared.due.Due.{Due}
use Rattle.szg_archive.specs.declared.counts.CheckCounts.{CheckCounts}
use Rattle.szg_archive.proofs.Listing.{files_are_listed, none_missing}

pub reports_more : {S F : Type 0} (content : S → List ℕ → Option (List ℕ)) (failures : S → ℕ) (device : input.Ghosts F) (options : CheckOptions)
    (listed : List Listed) (found : List CheckedFile) (one : Listed) (at : CheckedFile) (first mid last : S) (text line : List ℕ) →
    Reports content failures device options listed found first mid text → IsVerdictAt content failures device options one.0 one.1 mid last at → IsShownLine options.quiet options.format options.allow_trailing one.0 at.verdict line →
    Reports content failures device options (listed ++ one ∷ []) (found ++ at ∷ []) first last (text ++ line)
reports_more content failures device options [] [] one at first mid last text line h says shows =
    (last, subst (λ (s : _). IsVerdictAt content failures device options one.0 one.1 s last at) h.0 says, line, shows, [], ap (λ (z : List ℕ). z ++ line) h.1 ∙ sym (append-nil line), (refl, refl))
reports_more content failures device options [] (f ∷ fs) one at first mid last text line h says shows = absurd h
reports_more content failures device options (p ∷ ps) [] one at first mid last text line h says shows = absurd h
reports_more content failures device options (p ∷ ps) (f ∷ fs) one at first mid last text line h says shows = (
  h.0,
  h.1,
  h.2,
  h.3,
  h.4 ++ line,
  ap (λ (z : List ℕ). z ++ line) h.5 ∙ append_assoc h.2 h.4 line,
  reports_more content failures device options ps fs one at h.0 mid last h.4 line h.6 says shows,
)

-- the manifest of files that have a report, extended by one
manifest_more : {S F : Type 0} (content : S → List ℕ → Option (List ℕ)) (failures : S → ℕ) (device : input.Ghosts F) (options : CheckOptions) (allow : Bool)
    (listed : List Listed) (found : List CheckedFile) (one : Listed) (at : CheckedFile) (first mid : S) (text : List ℕ) → Reports content failures device options listed found first mid text →
    manifest_of allow (listed ++ one ∷ []) (found ++ at ∷ []) ≡ manifest_of allow listed found ++ manifest_line allow one.0 at.verdict at.digest
manifest_more content failures device options allow [] [] one at first mid text h = append-nil (manifest_line allow one.0 at.verdict at.digest)
manifest_more content failures device options allow [] (f ∷ fs) one at first mid text h = absurd h
manifest_more content failures device options allow (p ∷ ps) [] one at first mid text h = absurd h
manifest_more content failures device options allow (p ∷ ps) (f ∷ fs) one at first mid text h =
    ap (λ (z : List ℕ). manifest_line allow p.0 f.verdict f.digest ++ z) (manifest_more content failures device options allow ps fs one at h.0 mid h.4 h.6)
    ∙ sym (append_assoc (manifest_line allow p.0 f.verdict f.digest) (manifest_of allow ps fs) (manifest_line allow one.0 at.verdict at.digest))

-- each verdict is counted once
pub counts_once : (allow : Bool) (verdict : FileVerdict) → good_of allow verdict + refused_of allow verdict + unread_of verdict + kept_of verdict + skipped_of verdict ≡ 1
counts_once allow (Whole size) = refl
counts_once allow Ending = refl
counts_once allow (Name fault) = refl
counts_once allow (At offset reason) = refl
counts_once true (Trailing size) = refl
counts_once false (Trailing size) = refl
counts_once allow (Unopened fault) = refl
counts_once allow (Unread error) = refl
counts_once allow NoText = refl
counts_once allow Empty = refl
counts_once allow (Kept size) = refl
counts_once allow (Skipped skip) = refl
counts_once allow Differs = refl
counts_once allow Unlisted = refl
counts_once allow Missing = refl

pub sum_more : {X : Type 0} (f : X → ℕ) (xs : List X) (x : X) → sum_by f (xs ++ x ∷ []) ≡ sum_by f xs + f x
sum_more f xs x = omega (arith, sum_by-append f xs (x ∷ []))

pub counts_more : (allow : Bool) (found : List CheckedFile) (at : CheckedFile) (old new : CheckCounts) → Counts allow found old → new.good ≡ old.good + good_of allow at.verdict → new.refused ≡ old.refused + refused_of allow at.verdict → new.unread ≡ old.unread + unread_of at.verdict → new.kept ≡ old.kept + kept_of at.verdict →
    new.skipped ≡ old.skipped + skipped_of at.verdict → Counts allow (found ++ at ∷ []) new
counts_more allow found at old new h good refused unread kept skipped = record {
  good = let m = sum_more (λ (one : CheckedFile). good_of allow one.verdict) found at in omega (arith, h.good, m, good);
  refused = let m = sum_more (λ (one : CheckedFile). refused_of allow one.verdict) found at in omega (arith, h.refused, m, refused);
  unread = let m = sum_more (λ (one : CheckedFile). unread_of one.verdict) found at in omega (arith, h.unread, m, unread);
  kept = let m = sum_more (λ (one : CheckedFile). kept_of one.verdict) found at in omega (arith, h.kept, m, kept);
  skipped = let m = sum_more (λ (one : CheckedFile). skipped_of one.verdict) found at in omega (arith, h.skipped, m, skipped);
}

-- the first entries, extended by the next
entries_next : (entries : List PathToCheck) (i : ℕ) (item : PathToCheck) → i < length entries → item ≡ get_or entries i item → map listed_of (take (i + 1) entries) ≡ map listed_of (take i entries) ++ listed_of item ∷ []
entries_next entries i item below is =
    ap (map listed_of) (take_more entries i item below) ∙ map-append listed_of (take i entries) (get_or entries i item ∷ [])
    ∙ ap (λ (e : PathToCheck). map listed_of (take i entries) ++ listed_of e ∷ []) (sym is)

-- the report of the first entries, extended by the next
module _ {S F : Type 0} (content : S → List ℕ → Option (List ℕ)) (failures : S → ℕ) (device : input.Ghosts F) (options : CheckOptions)
    (entries : List PathToCheck) (i : ℕ) (item : PathToCheck) (found : List CheckedFile) (at : CheckedFile) (first mid : S) (text : List ℕ) where
  pub reports_next : (last : S) (line : List ℕ) → i < length entries → item ≡ get_or entries i item →
      Reports content failures device options (map listed_of (take i entries)) found first mid text → IsVerdictAt content failures device options (listed_of item).0 (listed_of item).1 mid last at →
      IsShownLine options.quiet options.format options.allow_trailing (listed_of item).0 at.verdict line →
      Reports content failures device options (map listed_of (take (i + 1) entries)) (found ++ at ∷ []) first last (text ++ line)
  reports_next last line below is h says shows =
      subst (λ (z : List Listed). Reports content failures device options z (found ++ at ∷ []) first last (text ++ line)) (sym (entries_next entries i item below is))
      (reports_more content failures device options (map listed_of (take i entries)) found (listed_of item) at first mid last text line h says shows)

  pub manifest_next : (allow : Bool) (old new line : List ℕ) → i < length entries → item ≡ get_or entries i item → Reports content failures device options (map listed_of (take i entries)) found first mid text →
      old ≡ manifest_of allow (map listed_of (take i entries)) found → new ≡ old ++ line → line ≡ manifest_line allow (listed_of item).0 at.verdict at.digest →
      new ≡ manifest_of allow (map listed_of (take (i + 1) entries)) (found ++ at ∷ [])
  manifest_next allow old new line below is h so_far grown same =
      grown ∙ ap (λ (z : List ℕ). z ++ line) so_far ∙ ap (λ (z : List ℕ). manifest_of allow (map listed_of (take i entries)) found ++ z) same
      ∙ sym (ap (λ (z : List Listed). manifest_of allow z (found ++ at ∷ [])) (entries_next entries i item below is)
      ∙ manifest_more content failures device options allow (map listed_of (take i entries)) found (listed_of item) at first mid text h)

-- what was found, and what is missing
module _ {S F W : Type 0} (content : S → List ℕ → Option (List ℕ)) (failures : S → ℕ) (device : input.Ghosts F) (writing : output.Ghosts W)
    (paths : List (List ℕ)) (system system' : S) (writer writer' : W) where
  pub found_report : {E : Type 0} (options : CheckOptions) (entries more all chosen : List PathToCheck) (result : Result (Option CheckReport) E) → AreListed paths (map listed_of entries) → AreMissing options.sums (map listed_of more) → all ≡ entries ++ more →
      map listed_of chosen ≡ shard_of options.shard (map listed_of all) →
      IfOk result (λ report. IfSome report (λ r. IsReportOn content failures device writing options (map listed_of chosen) system system' writer writer' r.counts r.manifest.items)) →
      IfOk result (λ report. IfSome report (IsFoundReport content failures device writing options paths system system' writer writer'))
  found_report options entries more all chosen (Ok (Some report)) listed missing joined are h = (
    map listed_of entries,
    map listed_of more,
    listed,
    missing,
    subst (λ (z : List Listed). IsReportOn content failures device writing options z system system' writer writer' report.counts report.manifest.items)
        (are ∙ ap (λ (z : List PathToCheck). shard_of options.shard (map listed_of z)) joined ∙ ap (shard_of options.shard) (map-append listed_of entries more)) h,
  )
  found_report options entries more all chosen (Ok None) listed missing joined are h = tt
  found_report options entries more all chosen (Err stop) listed missing joined are h = tt

  pub files_report : {E : Type 0} (entries : List PathToCheck) (result : Result (Option CheckReport) E) → map listed_of entries ≡ map file_at paths →
      IfOk result (λ report. IfSome report (λ r. IsReportOn content failures device writing plain_options (map listed_of entries) system system' writer writer' r.counts r.manifest.items)) →
      IfOk result (λ report. IfSome report (IsFoundReport content failures device writing plain_options paths system system' writer writer'))
  files_report entries (Ok (Some report)) are h = (
    map file_at paths,
    [],
    files_are_listed paths,
    none_missing plain_options.sums,
    subst (λ (z : List Listed). IsReportOn content failures device writing plain_options z system system' writer writer' report.counts report.manifest.items) (are ∙ sym (append-nil (map file_at paths))) h,
  )
  files_report entries (Ok None) are h = tt
  files_report entries (Err stop) are h = tt

-- what was found by what the lists have for a path
pub due_is : {S F : Type 0} (content : S → List ℕ → Option (List ℕ)) (failures : S → ℕ) (device : input.Ghosts F) (options : CheckOptions) (path : List ℕ) (due : Due)
    (system system' : S) (found : CheckedFile) → due ≡ due_in options.sums path → IsFileVerdict content failures device options.naming due options.has_manifest path system system' found →
    IsPathVerdict content failures device options path system system' found
due_is content failures device options path due system system' found is h = inr (subst (λ (z : Due). IsFileVerdict content failures device options.naming z options.has_manifest path system system' found) is h)
