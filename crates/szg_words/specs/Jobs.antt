-- What a command line that names files asks for, by its command and by the values that were found for its arguments.
use Rattle.std.specs.Prelude.{◌≡◌, ◌≤◌, ◌++◌, ℕ, false, true, List, codes, decimal, map, Option, None, Some, option_map}
use Rattle.std.specs.Str.{bytes_eq}
use Rattle.clap.specs.Matches.{first_value}
use Rattle.clap.specs.declared.parser.matches.Found.{Found}
use Rattle.szg_named.specs.Named.{name_given, named_as}
use Rattle.szg_named.specs.declared.checks.FileShard.{FileShard}
use Rattle.szg_values.specs.declared.Kind.{Kind}
use Rattle.szg_words.specs.Requested.{IsLookUp, IsPlanIn, IsRequestOn, parsed_report_format, words_of}
use Rattle.szg_words.specs.Words.{is_word, parsed_kind, word_of}
use Rattle.szg_words.specs.declared.file_words.FileJob.{FileJob}
use Rattle.szg_words.specs.declared.file_words.FileJob.TheVariants.{Check, LookUp, Run}
use Rattle.szg_words.specs.declared.file_words.CheckJob.{CheckJob}
use Rattle.szg_words.specs.declared.request.Request.{Request}
use Rattle.szg_words.specs.declared.request.Task.{Task}
use Rattle.szg_words.specs.declared.request.Task.TheVariants.{OnTable, Build}

-- the kind that is given in place of the file name's
abbrev pub kind_given : Found → Option Kind
kind_given found = option_map (λ word. parsed_kind (Some word)) (first_value found (codes "kind"))

-- The word is the shard's number, from 1 on, a slash, and how many there are.
abbrev pub IsShardWord : List ℕ → FileShard → Type 0
IsShardWord word shard = (word ≡ decimal shard.number ++ (codes "/" ++ decimal shard.count)) × (1 ≤ shard.number) × (shard.number ≤ shard.count)

abbrev pub IsShardIn : Option (List ℕ) → Option FileShard → Type 0
IsShardIn None shard = shard ≡ None
IsShardIn (Some word) shard = (one : FileShard) × (shard ≡ Some one) × IsShardWord word one

-- The check is that of the values that were found.
pub record IsCheckIn (found : Found) (job : CheckJob) : Type 0 where
  pub name : name_given job.naming ≡ first_value found (codes "name")
  pub kind : job.naming.kind ≡ kind_given found
  pub trailing : job.allow_trailing ≡ is_word (first_value found (codes "allow-trailing")) (codes "true")
  pub format : job.format ≡ parsed_report_format (first_value found (codes "format"))
  pub quiet : job.quiet ≡ is_word (first_value found (codes "quiet")) (codes "true")
  pub shard : IsShardIn (first_value found (codes "shard")) job.shard
  pub lists : map (λ list. list.now) job.lists.items ≡ words_of found (codes "sums")
  pub logs : map (λ log. log.now) job.logs.items ≡ words_of found (codes "resume")
  pub manifest : option_map (λ path. path.now) job.manifest ≡ first_value found (codes "manifest")
  pub paths : map (λ path. path.now) job.paths.items ≡ words_of found (codes "FILE")

-- The request is that of the values that were found, on the table whose name and kind are given or in the file's name.
pub record IsFileRequest (command : List ℕ) (found : Found) (request : Request) : Type 0 where
  pub named : named_as (first_value found (codes "name")) (kind_given found) (word_of found (codes "FILE")) ≡ Some (request.name.now, request.kind)
  pub on : IsRequestOn command found request

-- A task on a dump's file or on standard input, or on a table's file: on this only where a look-up by its front doesn't
-- serve, or where `--verify` is given.
abbrev pub IsFileTask : List ℕ → Found → Task → Option (List ℕ) → Type 0
IsFileTask command found (Build plan) source = (bytes_eq command (codes "build") ≡ true) × IsPlanIn found plan × (source ≡ first_value found (codes "DUMP"))
IsFileTask command found (OnTable request) source = (bytes_eq command (codes "build") ≡ false) × IsFileRequest command found request × (source ≡ Some (word_of found (codes "FILE")))
    × (IsLookUp request.action → is_word (first_value found (codes "verify")) (codes "true") ≡ true)

-- The job is that of the command and of the values that were found. A file is looked up by its front alone only where that
-- serves the action, and where `--verify` is not given.
abbrev pub IsJobIn : List ℕ → Found → FileJob → Type 0
IsJobIn command found (LookUp request source) = (bytes_eq command (codes "build") ≡ false) × IsFileRequest command found request × (source.now ≡ word_of found (codes "FILE"))
    × IsLookUp request.action × (is_word (first_value found (codes "verify")) (codes "true") ≡ false)
IsJobIn command found (Run task source target) = IsFileTask command found task (option_map (λ path. path.now) source)
    × (option_map (λ path. path.now) target ≡ first_value found (codes "output"))
IsJobIn command found (Check job) = (bytes_eq command (codes "check") ≡ true) × IsCheckIn found job
