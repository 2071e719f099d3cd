use Rattle.std.proofs.Common.{ℕ, List, inl, inr, subst, sym}
use Rattle.std.proofs.lemmas.Result.{err_from_is_err_and}
use Rattle.clap.specs.Matches.{found_of}
use Rattle.szg_words.specs.Chosen.{IsChosen}
use Rattle.szg_words.specs.declared.command_line.CommandForm.TheVariants.{Streams}
use Rattle.szg_words.proofs.Words.{if_err_then, if_ok_then}
use Rattle.szg_words.proofs.request.parse.Goals as goal

pub returns-in_err-check_plan-clause-none : goal.returns-in_err-check_plan-clause-none
returns-in_err-check_plan-clause-none g c =
    let found = subst (λ (words : List (List ℕ)). g.F.Finder.finds Streams words c.in_ok-matches.matches) c.line_of-words.ensures c.in_ok-matches.ensures.found in
    let chosen : IsChosen c.in_ok-matches.matches c.in-Some.command.now (found_of c.in-Some.chosen.now) = record { named = sym c.in-Some.ensures.name; values = sym c.in-Some.ensures.rows } in
    let p = err_from_is_err_and c.from_residual-in_err-check_plan.result c.from_residual-in_err-check_plan.ensures.1 in
    rw (p.1, p.2)
    (inr (inr (c.in_ok-matches.matches, found, inr (c.in-Some.command.now, found_of c.in-Some.chosen.now, chosen, inl c.in_err-check_plan.ensures.none.1))))

pub returns-clause-queried : goal.returns-clause-queried
returns-clause-queried g c =
    if_ok_then c.task_in.result
    (λ task is. record {
      matches = c.in_ok-matches.matches;
      are_found = subst (λ (words : List (List ℕ)). g.F.Finder.finds Streams words c.in_ok-matches.matches) c.line_of-words.ensures c.in_ok-matches.ensures.found;
      command = c.in-Some.command.now;
      values = found_of c.in-Some.chosen.now;
      chosen = record { named = sym c.in-Some.ensures.name; values = sym c.in-Some.ensures.rows };
      used = c.in_ok-check_plan.ensures.used;
      task_is = is;
    })
    c.task_in.ensures.task

pub returns-clause-none : goal.returns-clause-none
returns-clause-none g c =
    let found = subst (λ (words : List (List ℕ)). g.F.Finder.finds Streams words c.in_ok-matches.matches) c.line_of-words.ensures c.in_ok-matches.ensures.found in
    let chosen : IsChosen c.in_ok-matches.matches c.in-Some.command.now (found_of c.in-Some.chosen.now) = record { named = sym c.in-Some.ensures.name; values = sym c.in-Some.ensures.rows } in
    if_err_then c.task_in.result
    (λ error none. inr (inr (c.in_ok-matches.matches, found, inr (c.in-Some.command.now, found_of c.in-Some.chosen.now, chosen, inr none.1))))
    c.task_in.ensures.none
