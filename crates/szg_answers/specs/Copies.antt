-- What a copy of a table has.
use Rattle.std.specs.Prelude.{◌≡◌, ℕ, List, Option, Some, None, true}
use Rattle.sha2.specs.Sha256.{sha256}
use Rattle.szg_io.specs.declared.device.Input as input
use Rattle.szg_files.specs.Draft.{published_target, published_text}
use Rattle.szg_files.specs.declared.draft.Published.{Published}
use Rattle.szg_archive.specs.Verdicts.{IsFileVerdict, plain_options}
use Rattle.szg_archive.specs.declared.due.Due.{Due}
use Rattle.szg_archive.specs.declared.file_verdict.FileVerdict.{FileVerdict}
use Rattle.szg_archive.specs.declared.file_verdict.FileVerdict.TheVariants.{Whole}
use Rattle.szg_archive.specs.declared.one.CheckedFile.{CheckedFile}
use Rattle.szg_answers.specs.declared.copying.Copied.{Copied}

-- The file at a path was checked: it is a table and nothing else, and its digest is the one that is due. The copy is at the
-- target, and its bytes have the digest of those that were checked. Only a file without a copy has another verdict.
abbrev pub IsCopyOf : {S F : Type 0} → (S → List ℕ → Option (List ℕ)) → (S → ℕ) → input.Ghosts F → Due → List ℕ → List ℕ → S → FileVerdict → Option Published → Type 0
IsCopyOf {S = S} content failures device due path target system verdict (Some copy) =
    (found : CheckedFile) × (checked : S) × (size : ℕ) × IsFileVerdict content failures device plain_options.naming due true path system checked found
    × (found.verdict ≡ Whole size) × (verdict ≡ Whole size) × (found.digest ≡ Some (sha256 (published_text copy))) × (published_target copy ≡ target)
IsCopyOf content failures device due path target system verdict None = (size : ℕ) → verdict ≡ Whole size → ⊥

abbrev pub IsCopied : {S F : Type 0} → (S → List ℕ → Option (List ℕ)) → (S → ℕ) → input.Ghosts F → Due → List ℕ → List ℕ → S → Copied → Type 0
IsCopied content failures device due path target system copied = IsCopyOf content failures device due path target system copied.verdict copied.copy
