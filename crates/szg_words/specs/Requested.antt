-- What a command line asks for, by its command and by the values that `clap` found for the command's arguments.
use Rattle.std.specs.Prelude.{◌≡◌, ℕ, Bool, true, false, ◌||◌, List, [], codes, map, Option, Some, option_map, Result, Ok, Err, unwrap_or, if◌then◌else◌}
use Rattle.std.specs.Borrow.{Bor}
use Rattle.std.specs.Str.{bytes_eq}
use Rattle.clap.specs.Matches.{first_value, matched_of, raw_values}
use Rattle.clap.specs.declared.parser.matches.Found.{Found}
use Rattle.szg_values.specs.Placement.{Board}
use Rattle.szg_values.specs.declared.PlacementFault.{PlacementFault}
use Rattle.szg_named.specs.declared.checks.ReportFormat.{ReportFormat}
use Rattle.szg_named.specs.declared.checks.ReportFormat.TheVariants as reports
use Rattle.szg_words.specs.Men.{parsed_placement}
use Rattle.szg_words.specs.Words.{parsed_class, parsed_form, is_word, parsed_kind, parsed_mover, number_from, parsed_part, parsed_side, word_of}
use Rattle.szg_words.specs.declared.request.Action.{Action}
use Rattle.szg_words.specs.declared.request.Action.TheVariants as actions
use Rattle.szg_words.specs.declared.request.AskedClass.{AskedClass}
use Rattle.szg_words.specs.declared.request.BuildPlan.{BuildPlan}
use Rattle.szg_words.specs.declared.request.BuildPlan.TheVariants.{Fixed, Small}
use Rattle.szg_words.specs.declared.request.Request.{Request}
use Rattle.szg_words.specs.declared.request.Task.{Task}
use Rattle.szg_words.specs.declared.request.Task.TheVariants.{OnTable, Build}

-- the form of a report; for a reader where there is no word
abbrev pub parsed_report_format : Option (List ℕ) → ReportFormat
parsed_report_format word = if is_word word (codes "tsv") then reports.Tsv else if is_word word (codes "json") then reports.Json else reports.Text

-- the greatest index that is taken
abbrev pub greatest_index : ℕ
greatest_index = 9223372036854775807

-- ---- actions without men

abbrev pub parsed_look_up : Found → ℕ → Action
parsed_look_up found index = if is_word (first_value found (codes "steps")) (codes "true") then actions.GetCounted index else actions.Get index

abbrev pub parsed_index : Found → Option ℕ
parsed_index found = number_from 0 greatest_index (word_of found (codes "INDEX"))

abbrev pub parsed_dump : Found → Option Action
parsed_dump found = option_map (λ number. actions.Dump (parsed_form number)) (number_from 1 2 (word_of found (codes "form")))

-- what a command asks of a table, where it names no men
abbrev pub parsed_action : List ℕ → Found → Option Action
parsed_action command found =
    if bytes_eq command (codes "check") then Some actions.Check else
    if bytes_eq command (codes "show") then Some actions.Show else
    if bytes_eq command (codes "get") then option_map (parsed_look_up found) (parsed_index found) else
    if bytes_eq command (codes "values") then Some actions.Values else
    if bytes_eq command (codes "placement") then option_map (λ index. actions.Placement index) (parsed_index found) else
    if bytes_eq command (codes "dump") then parsed_dump found else Some actions.Copy

-- ---- actions on men

abbrev pub names_men : List ℕ → Bool
names_men command = bytes_eq command (codes "index") || bytes_eq command (codes "probe")

-- all words of an argument
abbrev pub words_of : Found → List ℕ → List (List ℕ)
words_of found argument = unwrap_or (option_map raw_values (matched_of found argument)) []

abbrev pub action_of_men : Bool → Result Board (Option PlacementFault) → AskedClass → Action
action_of_men is_index (Err fault) class = actions.Unplaced fault
action_of_men true (Ok board) class = actions.Index board
action_of_men false (Ok board) class = actions.Probe board class

-- What a command asks of the placement of its men, or why they make none.
abbrev pub IsActionOnMen : List ℕ → Found → Action → Type 0
IsActionOnMen command found action = (men : List (Bor (List ℕ))) × (map (λ man. man.now) men ≡ words_of found (codes "MAN"))
    × (action ≡ action_of_men (bytes_eq command (codes "index")) (parsed_placement men (parsed_mover (first_value found (codes "MOVER")))) (parsed_class (first_value found (codes "class"))))

-- This is the action of the command and of the values that were found.
pub record IsActionOf (command : List ℕ) (found : Found) (action : Action) : Type 0 where
  pub stated : names_men command ≡ false → parsed_action command found ≡ Some action
  pub men : names_men command ≡ true → IsActionOnMen command found action

-- ---- look-ups

-- a look-up, which needs the front and one block, or the last bytes
abbrev pub IsLookUp : Action → Type 0
IsLookUp actions.Show = Unit {0}
IsLookUp (actions.Get index) = Unit {0}
IsLookUp (actions.Index board) = Unit {0}
IsLookUp (actions.Probe board class) = Unit {0}
IsLookUp action = ⊥

-- ---- requests

-- The request is that of the command and of the values that were found, but for name and kind.
pub record IsRequestOn (command : List ℕ) (found : Found) (request : Request) : Type 0 where
  pub part : request.part ≡ parsed_part (first_value found (codes "part"))
  pub side : parsed_side command found ≡ Some request.side
  pub action : IsActionOf command found request.action

-- The same, with the name and the kind that were found.
pub record IsRequestIn (command : List ℕ) (found : Found) (request : Request) : Type 0 where
  pub name : request.name.now ≡ word_of found (codes "NAME")
  pub kind : request.kind ≡ parsed_kind (first_value found (codes "KIND"))
  pub on : IsRequestOn command found request

-- ---- plans

-- The plan of a build is that of the values that were found.
abbrev pub IsPlanIn : Found → BuildPlan → Type 0
IsPlanIn found (Fixed block_bits span_bits rounds) = (is_word (first_value found (codes "plan")) (codes "small") ≡ false)
    × (number_from 5 10 (word_of found (codes "block")) ≡ Some block_bits)
    × (number_from 1 16 (word_of found (codes "span")) ≡ Some span_bits)
    × (number_from 0 4000 (word_of found (codes "rounds")) ≡ Some rounds)
IsPlanIn found Small = is_word (first_value found (codes "plan")) (codes "small") ≡ true

-- ---- tasks

-- The task is that of the command and of the values that were found.
abbrev pub IsTaskIn : List ℕ → Found → Task → Type 0
IsTaskIn command found (Build plan) = (bytes_eq command (codes "build") ≡ true) × IsPlanIn found plan
IsTaskIn command found (OnTable request) = (bytes_eq command (codes "build") ≡ false) × IsRequestIn command found request
