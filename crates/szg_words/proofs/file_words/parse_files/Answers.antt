use Rattle.std.proofs.Common.{◌≡◌, ◌⊎◌, ℕ, List, inl, inr, sym}
use Rattle.std.proofs.lemmas.Result.{err_from_is_err_and}
use Rattle.clap.specs.Matches.{found_of}
use Rattle.clap.specs.Values.{kind_of}
use Rattle.clap.specs.declared.error.Error.{Error}
use Rattle.clap.specs.declared.error.kind.ErrorKind.TheVariants.{OutOfMemory}
use Rattle.clap.specs.declared.parser.matches.ArgMatches.{ArgMatches}
use Rattle.clap.specs.declared.parser.matches.Found.{Found}
use Rattle.szg_words.specs.Chosen.{IsChosen, IsJobError, NamesNoJob}
use Rattle.szg_words.proofs.Words.{if_err_then, if_ok_then}
use Rattle.szg_words.proofs.file_words.parse_files.Goals as goal

pub returns-in_err-check_plan-clause-none : goal.returns-in_err-check_plan-clause-none
returns-in_err-check_plan-clause-none g c =
    let chosen : IsChosen c.in_ok-matches.matches c.in-Some.command.now (found_of c.in-Some.chosen.now) = record { named = sym c.in-Some.ensures.name; values = sym c.in-Some.ensures.rows } in
    let p = err_from_is_err_and c.from_residual-in_err-check_plan.result c.from_residual-in_err-check_plan.ensures.1 in
    rw (p.1, p.2)
    (inr (inr (c.in_ok-matches.matches, c.in_ok-matches.ensures.found, inr (c.in-Some.command.now, found_of c.in-Some.chosen.now, chosen, inl c.in_err-check_plan.ensures.none.1))))

pub returns-clause-queried : goal.returns-clause-queried
returns-clause-queried g c =
    if_ok_then c.job_in.result
    (λ job is. record {
      matches = c.in_ok-matches.matches;
      are_found = c.in_ok-matches.ensures.found;
      command = c.in-Some.command.now;
      values = found_of c.in-Some.chosen.now;
      chosen = record { named = sym c.in-Some.ensures.name; values = sym c.in-Some.ensures.rows };
      used = c.in_ok-check_plan.ensures.used;
      job_is = is;
    })
    c.job_in.ensures.job

-- what follows from words that name no job, unless memory was refused
no_job : {A : Type 0} (matches : ArgMatches) (command : List ℕ) (found : Found) (error : Error) → IsChosen matches command found → (NamesNoJob matches → A) → IsJobError command found error → (kind_of error ≡ OutOfMemory) ⊎ A
no_job matches command found error chosen then (inl memory) = inl memory
no_job matches command found error chosen then (inr (inl number)) = inr (then (inr (command, found, chosen, inr (inl number.1))))
no_job matches command found error chosen then (inr (inr (inl shard))) = inr (then (inr (command, found, chosen, inr (inr (inr shard.2)))))
no_job matches command found error chosen then (inr (inr (inr kind))) = inr (then (inr (command, found, chosen, inr (inr (inl kind.1)))))

pub returns-clause-none : goal.returns-clause-none
returns-clause-none g c =
    let chosen : IsChosen c.in_ok-matches.matches c.in-Some.command.now (found_of c.in-Some.chosen.now) = record { named = sym c.in-Some.ensures.name; values = sym c.in-Some.ensures.rows } in
    if_err_then c.job_in.result
    (λ error. no_job c.in_ok-matches.matches c.in-Some.command.now (found_of c.in-Some.chosen.now) error chosen (λ none. inr (c.in_ok-matches.matches, c.in_ok-matches.ensures.found, none)))
    c.job_in.ensures.none
