-- Facts under an outcome.
use Rattle.std.proofs.Common.{◌≡◌, ◌⊎◌, ℕ, List, [], inl, inr, refl}
use Rattle.clap.specs.declared.parser.matches.ArgMatches.{ArgMatches}
use Rattle.szg_io.proofs.DeviceLaws.{Takes-none}
use Rattle.szg_io.specs.declared.device.Input as input
use Rattle.szg_io.specs.declared.device.Output as output
use Rattle.szg_words.specs.Chosen.{AsksForNoJob}
use Rattle.szg_answers.specs.OnFiles.{HasRun}
use Rattle.szg_answers.specs.Outcome.{OnDone, OnRefused, OnWords}
use Rattle.szg_words.specs.declared.command_line.CommandForm.{CommandForm}
use Rattle.szg_answers.specs.declared.outcome.Outcome.{Outcome}
use Rattle.szg_answers.specs.declared.outcome.Outcome.TheVariants.{Done, Refused, Words, Device, Memory}

-- what follows from a fact holds where the fact does
pub OnRefused-then : {P Q : Type 0} (outcome : Outcome) → (P → Q) → OnRefused outcome P → OnRefused outcome Q
OnRefused-then Done f p = p
OnRefused-then Refused f p = f p
OnRefused-then (Words error) f p = p
OnRefused-then Device f p = p
OnRefused-then Memory f p = p

OnDone-then : {P Q : Type 0} (outcome : Outcome) → (P → Q) → OnDone outcome P → OnDone outcome Q
OnDone-then Done f p = f p
OnDone-then Refused f p = p
OnDone-then (Words error) f p = p
OnDone-then Device f p = p
OnDone-then Memory f p = p

OnWords-then : {P Q : Type 0} (outcome : Outcome) → (P → Q) → OnWords outcome P → OnWords outcome Q
OnWords-then Done f p = p
OnWords-then Refused f p = p
OnWords-then (Words error) f p = f p
OnWords-then Device f p = p
OnWords-then Memory f p = p

no_other : {X N : Type 0} → (X → ⊥) → X ⊎ N → N
no_other never (inl x) = absurd (never x)
no_other never (inr n) = n

-- words that ask for no job on files are a run that does nothing
pub has_run_none : {R W : Type 0} {X : Type 0} (finds : CommandForm → List (List ℕ) → ArgMatches → Type 0) (refuses : CommandForm → List (List ℕ) → Type 0) (reading : input.Ghosts R) (writing : output.Ghosts W)
    (words : List (List ℕ)) (outcome : Outcome) (reader : R) (writer : W) →
    OnDone outcome ⊥ → OnRefused outcome ⊥ → OnWords outcome (X → ⊥) → (outcome ≡ Device → ⊥) → X ⊎ AsksForNoJob finds refuses words →
    HasRun finds refuses reading writing words outcome reader reader writer writer
has_run_none finds refuses reading writing words outcome reader writer done refused never device none = record {
  stated = OnDone-then outcome (λ e. absurd e) done;
  refused = OnRefused-then outcome (λ e. absurd e) refused;
  none = OnWords-then outcome (λ kind. (refl, refl, inr (no_other kind none))) never;
  calls = ([], Takes-none reading reader 1);
  device = λ e. absurd (device e);
  memory = λ e. inl refl;
}
