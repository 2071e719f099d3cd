-- The program's status, by the ending of a run.
use Rattle.std.specs.Prelude.{◌≡◌, ◌⊎◌, ℕ, nat_lt, Some, None, Ok, Err, if◌then◌else◌}
use Rattle.szg_archive.specs.declared.counts.CheckCounts.{CheckCounts}
use Rattle.szg_answers.specs.Outcome.{OnDone, OnRefused, status_of}
use Rattle.szg_answers.specs.declared.on_files.Ending.{Ending}
use Rattle.szg_answers.specs.declared.on_files.Ending.TheVariants.{Checked, Listed, Done, Refused, Failed, BadLine, Device, Memory, Words}

-- of files that were checked: 1 where one is refused, else 3 where one can't be read
abbrev pub tally_status : CheckCounts → ℕ
tally_status tally = if nat_lt 0 tally.refused then 1 else if nat_lt 0 tally.unread then 3 else 0

-- An ending has a status: where a text is printed on standard error that fails, 3.
abbrev pub HasStatus : Ending → ℕ → Type 0
HasStatus (Checked (Ok (Some report))) status = status ≡ tally_status report.counts
HasStatus (Checked (Ok None)) status = status ≡ 3
HasStatus (Checked (Err error)) status = (status ≡ 4) ⊎ (status ≡ 3)
HasStatus (Done published) status = status ≡ 0
HasStatus Refused status = status ≡ 1
HasStatus (Failed failure) status = (status ≡ 3) ⊎ (status ≡ 4)
HasStatus (Listed report target (Ok published)) status = status ≡ tally_status report.counts
HasStatus (Listed report target (Err fault)) status = (status ≡ 3) ⊎ (status ≡ 4)
HasStatus (BadLine path line due) status = status ≡ 3
HasStatus Device status = status ≡ 3
HasStatus Memory status = (status ≡ 4) ⊎ (status ≡ 3)
HasStatus (Words outcome) status = ((status ≡ status_of outcome) ⊎ (status ≡ 3)) × OnDone outcome (status ≡ 0) × OnRefused outcome (status ≡ 1)
