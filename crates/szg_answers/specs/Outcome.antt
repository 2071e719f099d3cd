-- What clauses say of the outcomes of a run.
use Rattle.std.specs.Prelude.{ℕ}
use Rattle.szg_answers.specs.declared.outcome.Outcome.{Outcome}
use Rattle.szg_answers.specs.declared.outcome.Outcome.TheVariants.{Done, Refused, Words, Device, Memory}

-- the program's status
abbrev pub status_of : Outcome → ℕ
status_of Done = 0
status_of Refused = 1
status_of (Words error) = 2
status_of Device = 3
status_of Memory = 4

-- what holds where the command was carried out
abbrev pub OnDone : Outcome → Type 0 → Type 0
OnDone Done P = P
OnDone _ P = Unit {0}

-- what holds where the command was refused
abbrev pub OnRefused : Outcome → Type 0 → Type 0
OnRefused Refused P = P
OnRefused _ P = Unit {0}

-- what holds where the words made no command
abbrev pub OnWords : Outcome → Type 0 → Type 0
OnWords (Words error) P = P
OnWords _ P = Unit {0}
