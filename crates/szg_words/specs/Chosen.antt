-- What the words of a command line ask for, by the values that are found in them.
use Rattle.std.specs.Prelude.{◌≡◌, ◌⊎◌, ℕ, Bool, true, false, ◌&&◌, ◌||◌, List, [], ◌∷◌, codes, Option, Some, is_some, option_map, option_and_then, if◌then◌else◌}
use Rattle.std.specs.Str.{bytes_eq}
use Rattle.clap.specs.Matches.{has_subcommand, matched_of, subcommand_name_of, first_value}
use Rattle.clap.specs.Simple.{HasMatchesOf, app_of, subcommand_rows_of}
use Rattle.clap.specs.Values.{kind_of}
use Rattle.clap.specs.Walk.{rows_of}
use Rattle.clap.specs.declared.builder.command.Command.{Command}
use Rattle.clap.specs.declared.error.Error.{Error}
use Rattle.clap.specs.declared.error.kind.ErrorKind.{ErrorKind}
use Rattle.clap.specs.declared.error.kind.ErrorKind.TheVariants.{MissingRequiredArgument, OutOfMemory, ValueValidation}
use Rattle.clap.specs.declared.parser.matches.ArgMatches.{ArgMatches}
use Rattle.clap.specs.declared.parser.matches.Found.{Found}
use Rattle.clap.specs.declared.parser.matches.ValueSource.{ValueSource}
use Rattle.clap.specs.declared.parser.matches.ValueSource.TheVariants.{CommandLine}
use Rattle.szg_named.specs.Named.{named_as}
use Rattle.szg_words.specs.Requested.{IsTaskIn, parsed_action, names_men}
use Rattle.szg_words.specs.Jobs.{IsJobIn, kind_given}
use Rattle.szg_words.specs.Words.{is_word, number_from, parsed_side, word_of}
use Rattle.szg_words.specs.declared.command_line.CommandForm.{CommandForm}
use Rattle.szg_words.specs.declared.command_line.CommandForm.TheVariants.{Streams, Files}
use Rattle.szg_words.specs.declared.file_words.FileJob.{FileJob}
use Rattle.szg_words.specs.declared.request.Task.{Task}

-- ---- what is assumed of clap

-- The matches are those that a command of clap has on these words. That the command is the program's, and what a command
-- with negative numbers among its values has, clap's contract does not say: that is assumed, and tested.
abbrev pub IsFoundByClap : CommandForm → List (List ℕ) → ArgMatches → Type 0
IsFoundByClap form words matches = (command : Command) × HasMatchesOf (app_of command) words matches

-- clap refuses these words: which ones, is assumed, and tested.
abbrev pub IsRefusedByClap : CommandForm → List (List ℕ) → Type 0
IsRefusedByClap form words = Unit {0}

-- ---- the values of a command

-- the command that is named, and the values that were found for its arguments
pub record IsChosen (matches : ArgMatches) (command : List ℕ) (found : Found) : Type 0 where
  pub named : subcommand_name_of matches ≡ Some command
  pub values : option_map (λ p. p.1) (subcommand_rows_of matches) ≡ Some (rows_of found)

abbrev pub is_typed : Option ValueSource → Bool
is_typed (Some CommandLine) = true
is_typed source = false

-- whether an argument's value is among the words, and no default
abbrev pub is_given : Found → List ℕ → Bool
is_given found argument = is_typed (option_and_then (λ a. a.source) (matched_of found argument))

abbrev pub is_small : Found → Bool
is_small found = is_word (first_value found (codes "plan")) (codes "small")

-- whether a number of a fixed plan is given with a small plan
abbrev pub has_unused : Found → Bool
has_unused found = is_small found && (is_given found (codes "block") || (is_given found (codes "span") || is_given found (codes "rounds")))

abbrev pub has_sizes : Found → Bool
has_sizes found = is_some (number_from 5 10 (word_of found (codes "block"))) && (is_some (number_from 1 16 (word_of found (codes "span"))) && is_some (number_from 0 4000 (word_of found (codes "rounds"))))

-- whether each number of a command on a table is one
abbrev pub has_table_numbers : List ℕ → Found → Bool
has_table_numbers command found = (names_men command || is_some (parsed_action command found)) && is_some (parsed_side command found)

-- whether each number that the command takes is one
abbrev pub has_numbers : List ℕ → Found → Bool
has_numbers command found = if bytes_eq command (codes "build") then (is_small found || has_sizes found) else has_table_numbers command found

-- ---- errors

-- The error of words that are refused is of this kind, or memory for it was refused.
abbrev pub IsErrorOf : ErrorKind → Error → Type 0
IsErrorOf kind error = (kind_of error ≡ OutOfMemory) ⊎ (kind_of error ≡ kind)

-- ---- the standard streams

-- the program's name, where there is no word
abbrev pub line_of : List (List ℕ) → List (List ℕ)
line_of [] = codes "szg" ∷ []
line_of (word ∷ words) = word ∷ words

-- The words ask for this task on the standard streams: it is that of the command and of the values that are found in them.
pub record AsksFor (finds : CommandForm → List (List ℕ) → ArgMatches → Type 0) (words : List (List ℕ)) (task : Task) : Type 0 where
  pub matches : ArgMatches
  pub are_found : finds Streams (line_of words) matches
  pub command : List ℕ
  pub values : Found
  pub chosen : IsChosen matches command values
  pub used : has_unused values ≡ false
  pub task_is : IsTaskIn command values task

-- What is found names no command, or it has a number that is none or that the plan doesn't take.
abbrev pub NamesNoTask : ArgMatches → Type 0
NamesNoTask matches = (has_subcommand matches ≡ false)
    ⊎ ((command : List ℕ) × (values : Found) × IsChosen matches command values × ((has_unused values ≡ true) ⊎ (has_numbers command values ≡ false)))

-- The words ask for no task: no values are found in them, or these make none.
abbrev pub AsksForNone : (CommandForm → List (List ℕ) → ArgMatches → Type 0) → (CommandForm → List (List ℕ) → Type 0) → List (List ℕ) → Type 0
AsksForNone finds refuses words = refuses Streams (line_of words) ⊎ ((matches : ArgMatches) × finds Streams (line_of words) matches × NamesNoTask matches)

-- ---- files

-- The words ask for this job on files: it is that of the command and of the values that are found in them.
pub record AsksForJob (finds : CommandForm → List (List ℕ) → ArgMatches → Type 0) (words : List (List ℕ)) (job : FileJob) : Type 0 where
  pub matches : ArgMatches
  pub are_found : finds Files words matches
  pub command : List ℕ
  pub values : Found
  pub chosen : IsChosen matches command values
  pub used : has_unused values ≡ false
  pub job_is : IsJobIn command values job

-- whether the kind of a command's file is known
abbrev pub has_kind : Found → Bool
has_kind found = is_some (named_as (first_value found (codes "name")) (kind_given found) (word_of found (codes "FILE")))

-- Why the values that were found make no job, by the error: memory was refused, a number is none, `check` has a word for a
-- shard, or the file is of no kind.
abbrev pub IsJobError : List ℕ → Found → Error → Type 0
IsJobError command found error = (kind_of error ≡ OutOfMemory)
    ⊎ ((kind_of error ≡ ValueValidation) × (has_numbers command found ≡ false))
    ⊎ ((kind_of error ≡ ValueValidation) × (bytes_eq command (codes "check") ≡ true) × (is_some (first_value found (codes "shard")) ≡ true))
    ⊎ ((kind_of error ≡ MissingRequiredArgument) × (has_kind found ≡ false))

-- What is found names no command, or it has a number that is none or that the plan doesn't take, a file of no kind, or a
-- word for a shard.
abbrev pub NamesNoJob : ArgMatches → Type 0
NamesNoJob matches = (has_subcommand matches ≡ false)
    ⊎ ((command : List ℕ) × (values : Found) × IsChosen matches command values
    × ((has_unused values ≡ true) ⊎ (has_numbers command values ≡ false) ⊎ (has_kind values ≡ false) ⊎ (is_some (first_value values (codes "shard")) ≡ true)))

-- The words ask for no job: no values are found in them, or these make none.
abbrev pub AsksForNoJob : (CommandForm → List (List ℕ) → ArgMatches → Type 0) → (CommandForm → List (List ℕ) → Type 0) → List (List ℕ) → Type 0
AsksForNoJob finds refuses words = refuses Files words ⊎ ((matches : ArgMatches) × finds Files words matches × NamesNoJob matches)
