-- What building the table of a dump does to the reader and to the writer.
use Rattle.std.specs.Prelude.{◌≡◌, ◌⊎◌, List, [], ℕ, Option, None, Some}
use Rattle.szg_io.specs.Moved.{Takes, Gives}
use Rattle.szg_io.specs.declared.device.Input as input
use Rattle.szg_io.specs.declared.device.Output as output
use Rattle.szg_file.specs.Accepted.{IsAccepted}
use Rattle.szg_file.specs.Contents.{Contents}
use Rattle.szg_file.specs.Held.{Shown, file_bytes}
use Rattle.szg_build.specs.Chosen.{IsBuiltAs, plan_by}
use Rattle.szg_build.specs.Dump.{Dump}
use Rattle.szg_build.specs.Grammar.{dump_format}
use Rattle.szg_build.specs.Lines.{Verdict, good, verdict}
use Rattle.szg_build.specs.Plan.{Plan, build_fault}
use Rattle.szg_build.specs.Reading.{IsLineFault, IsPlanFault, EndsWith}
use Rattle.szg_build.specs.declared.BuildFault.{BuildFault}
use Rattle.szg_subtable.specs.declared.building.Choice.{Choice}
use Rattle.szg_subtable.specs.declared.building.Choice.TheVariants as choices
use Rattle.szg_words.specs.declared.request.BuildPlan.{BuildPlan}
use Rattle.szg_words.specs.declared.request.BuildPlan.TheVariants.{Fixed, Small}
use Rattle.szg_answers.specs.declared.refusal.Refusal.{Refusal}
use Rattle.szg_answers.specs.declared.refusal.Refusal.TheVariants as why

-- the builder's choice for a plan
abbrev pub choice_of : BuildPlan → Choice
choice_of (Fixed block_bits span_bits rounds) = choices.Fixed (record { block_bits = block_bits; span_bits = span_bits; rounds = rounds })
choice_of Small = choices.Small

-- the table that is built of a dump, if neither the dump nor its plan has a fault
abbrev pub IsBuiltIn : Choice → Dump → Contents → Type 0
IsBuiltIn packing dump t = (build_fault (plan_by packing dump) dump.lists ≡ None) × IsBuiltAs packing (plan_by packing dump) dump.lists t

-- Exactly the text of this dump was taken from the reader.
pub record IsTextOf {R : Type 0} (reading : input.Ghosts R) (reader reader' : R) (dump : Dump) : Type 0 where
  pub bytes : List ℕ
  pub taken : Takes reading reader reader' bytes 1
  pub lines : ℕ
  pub tells : verdict dump_format 0 bytes ≡ good dump lines []

-- Just the text of a dump was taken from the reader, and just the file of an accepted table that is built of it in this
-- packing was given to the writer.
pub record IsMade {R W : Type 0} (reading : input.Ghosts R) (writing : output.Ghosts W) (packing : Choice)
    (reader reader' : R) (writer writer' : W) : Type 0 where
  pub dump : Dump
  pub text : IsTextOf reading reader reader' dump
  pub table : Shown
  pub built : IsBuiltIn packing dump table.contents
  pub accepted : IsAccepted table.contents table.filled
  pub given : Gives writing writer writer' (file_bytes table) 0

-- the verdict on a text refuses it by this
abbrev pub IsTextRefusal : Verdict Dump → Refusal → Option (List ℕ) → Type 0
IsTextRefusal v (why.Line number fault) coming = IsLineFault v number fault × EndsWith v coming
IsTextRefusal v (why.Build fault) coming = IsPlanFault v fault
IsTextRefusal v refusal coming = ⊥

-- The bytes that were taken are no dump, and the refusal is their verdict's.
pub record IsRefusedText {R : Type 0} (reading : input.Ghosts R) (reader reader' : R) (refusal : Refusal) : Type 0 where
  pub bytes : List ℕ
  pub taken : Takes reading reader reader' bytes 1
  pub refused : IsTextRefusal (verdict dump_format 0 bytes) refusal (reading.coming reader')

-- The plan and the lists of values are refused by this.
abbrev pub IsRefusedPlan : Plan → List (List ℕ) → Refusal → Type 0
IsRefusedPlan plan lists refusal = (fault : BuildFault) × (refusal ≡ why.Build fault) × (build_fault plan lists ≡ Some fault)

-- A dump was read, and no table can be built of it.
pub record IsRefusedDump {R : Type 0} (reading : input.Ghosts R) (packing : Choice) (reader reader' : R) (refusal : Refusal) : Type 0 where
  pub dump : Dump
  pub text : IsTextOf reading reader reader' dump
  pub refused : IsRefusedPlan (plan_by packing dump) dump.lists refusal

-- No table was built: the text is refused, or its dump.
abbrev pub IsUnmade : {R : Type 0} → input.Ghosts R → Choice → R → R → Refusal → Type 0
IsUnmade reading packing reader reader' refusal = IsRefusedText reading reader reader' refusal ⊎ IsRefusedDump reading packing reader reader' refusal
