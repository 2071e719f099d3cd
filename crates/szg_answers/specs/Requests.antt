-- What carrying a task out does to the reader and to the writer.
use Rattle.std.specs.Prelude.{◌≡◌, ◌⊎◌, ◌++◌, List, ℕ, Option, Some, None, Result, Ok, Err}
use Rattle.szg_io.specs.Moved.{Takes, Gives}
use Rattle.szg_io.specs.declared.device.Input as input
use Rattle.szg_io.specs.declared.device.Output as output
use Rattle.szg_values.specs.Material.{IsMaterial, Sides, name_of, parsed}
use Rattle.szg_values.specs.declared.NameFault.{NameFault}
use Rattle.szg_file.specs.Accepted.{IsAccepted}
use Rattle.szg_file.specs.File.{file}
use Rattle.szg_file.specs.Format.{verdict}
use Rattle.szg_file.specs.Held.{Shown, file_bytes}
use Rattle.szg_file.specs.Reading.{IsRefusal}
use Rattle.szg_file.specs.declared.fault.Reason.{Reason}
use Rattle.szg_answers.specs.Answers.{IsAnswer}
use Rattle.szg_answers.specs.Builds.{choice_of, IsMade, IsUnmade}
use Rattle.szg_answers.specs.RefusalLines.{refusal_line}
use Rattle.szg_answers.specs.Refusals.{IsRefused}
use Rattle.szg_answers.specs.declared.refusal.Refusal.{Refusal}
use Rattle.szg_answers.specs.declared.refusal.Refusal.TheVariants as why
use Rattle.szg_words.specs.declared.request.Action.{Action}
use Rattle.szg_words.specs.declared.request.Action.TheVariants.{Dump, Unplaced, Values}
use Rattle.szg_words.specs.declared.request.Request.{Request}
use Rattle.szg_words.specs.declared.request.Task.{Task}
use Rattle.szg_words.specs.declared.request.Task.TheVariants.{OnTable, Build}

-- The table has the name and the kind that are asked, and passes every check.
pub record IsTableOf (request : Request) (t : Shown) : Type 0 where
  pub material : IsMaterial t.contents.material
  pub name : name_of t.contents.material ≡ request.name.now
  pub kind : t.contents.kind ≡ request.kind
  pub accepted : IsAccepted t.contents t.filled

-- Just the file of such a table was taken from the reader, and just the answer was given to the writer.
pub record IsAnswered {R W : Type 0} (reading : input.Ghosts R) (writing : output.Ghosts W) (request : Request)
    (reader reader' : R) (writer writer' : W) : Type 0 where
  pub table : Shown
  pub queried : IsTableOf request table
  pub taken : Takes reading reader reader' (file_bytes table) 1
  pub text : List ℕ
  pub answers : IsAnswer request.action request.part request.side table text
  pub given : Gives writing writer writer' text 0

-- The action lists a table's values, as they are or as a dump.
abbrev pub IsListed : Action → Type 0
IsListed Values = Unit {0}
IsListed (Dump form) = Unit {0}
IsListed action = ⊥

-- The file of such a table was taken from the reader, and the answer lists values: of it a beginning was given to the writer.
pub record IsBegun {R W : Type 0} (reading : input.Ghosts R) (writing : output.Ghosts W) (request : Request)
    (reader reader' : R) (writer writer' : W) : Type 0 where
  pub table : Shown
  pub queried : IsTableOf request table
  pub taken : Takes reading reader reader' (file_bytes table) 1
  pub listed : IsListed request.action
  pub text : List ℕ
  pub rest : List ℕ
  pub answers : IsAnswer request.action request.part request.side table (text ++ rest)
  pub given : Gives writing writer writer' text 0

-- Why a request is refused before anything is read: its name is none, or its words make no placement.
abbrev pub unplaced_refusal : Action → Option Refusal
unplaced_refusal (Unplaced fault) = Some (why.Men fault)
unplaced_refusal action = None

abbrev pub first_check : Result Sides NameFault → Action → Option Refusal
first_check (Err fault) action = Some (why.Name fault)
first_check (Ok material) action = unplaced_refusal action

-- The words are a whole request, the bytes that were taken are no table of that name and kind, and the refusal is
-- the verdict's.
pub record IsRefusedFile {R : Type 0} (reading : input.Ghosts R) (request : Request) (reader reader' : R) (refusal : Refusal) : Type 0 where
  pub placed : unplaced_refusal request.action ≡ None
  pub material : Sides
  pub named : parsed request.name.now ≡ Ok material
  pub place : ℕ
  pub reason : Reason
  pub stated : refusal ≡ why.At place reason
  pub bytes : List ℕ
  pub taken : Takes reading reader reader' bytes 1
  pub refused : IsRefusal (verdict (file material request.kind) 0 bytes) place reason (reading.coming reader')

-- No table was read: nothing was, or the file is refused.
abbrev pub IsUnread : {R : Type 0} → input.Ghosts R → Request → R → R → Refusal → Type 0
IsUnread reading request reader reader' refusal =
    ((first_check (parsed request.name.now) request.action ≡ Some refusal) × (reader' ≡ reader)) ⊎ IsRefusedFile reading request reader reader' refusal

-- The words are a whole request, a table was read, and the request is refused for it.
pub record IsRefusedOf {R : Type 0} (reading : input.Ghosts R) (request : Request) (reader reader' : R) (refusal : Refusal) : Type 0 where
  pub placed : unplaced_refusal request.action ≡ None
  pub table : Shown
  pub queried : IsTableOf request table
  pub taken : Takes reading reader reader' (file_bytes table) 1
  pub refused : IsRefused request.action request.part request.side table.contents refusal

-- The task was carried out.
abbrev pub IsCarriedOut : {R W : Type 0} → input.Ghosts R → output.Ghosts W → Task → R → R → W → W → Type 0
IsCarriedOut reading writing (OnTable request) reader reader' writer writer' = IsAnswered reading writing request reader reader' writer writer'
IsCarriedOut reading writing (Build plan) reader reader' writer writer' = IsMade reading writing (choice_of plan) reader reader' writer writer'

-- A beginning of a task's answer was given to the writer.
abbrev pub IsBegunBy : {R W : Type 0} → input.Ghosts R → output.Ghosts W → Task → R → R → W → W → Type 0
IsBegunBy reading writing (OnTable request) reader reader' writer writer' = IsBegun reading writing request reader reader' writer writer'
IsBegunBy reading writing (Build plan) reader reader' writer writer' = ⊥

-- The task meets this refusal.
abbrev pub Meets : {R : Type 0} → input.Ghosts R → Task → R → R → Refusal → Type 0
Meets reading (OnTable request) reader reader' refusal = IsUnread reading request reader reader' refusal ⊎ IsRefusedOf reading request reader reader' refusal
Meets reading (Build plan) reader reader' refusal = IsUnmade reading (choice_of plan) reader reader' refusal

-- The task meets a refusal, and just its line was given to the writer.
pub record IsRefusedWith {R W : Type 0} (reading : input.Ghosts R) (writing : output.Ghosts W) (task : Task)
    (reader reader' : R) (writer writer' : W) : Type 0 where
  pub refusal : Refusal
  pub met : Meets reading task reader reader' refusal
  pub given : Gives writing writer writer' (refusal_line refusal) 0
