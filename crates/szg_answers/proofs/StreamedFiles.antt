-- A table that was read while a sink accepted its values.
use Rattle.std.proofs.Common.{◌≡◌, ℕ, List, flat_map, sym, ap, subst, ◌∙◌, Option, Some, None}
use Rattle.std.specs.Prelude.{IfSome, IsSomeAnd, option_map}
use Rattle.szg_io.specs.declared.device.Input as input
use Rattle.szg_io.specs.declared.device.Output as output
use Rattle.szg_answers.specs.OnFiles.{IsCarriedFrom}
use Rattle.szg_words.specs.declared.request.Task.{Task}
use Rattle.szg_values.specs.Material.{IsMaterial, Sides, name_of}
use Rattle.szg_file.specs.Accepted.{IsAccepted}
use Rattle.szg_file.specs.Contents.{Contents, Slot, Subtable}
use Rattle.szg_file.specs.Held.{Shown}
use Rattle.szg_file.specs.Index.{Index, index_of, slot_in}
use Rattle.szg_file.specs.Streaming.{only, wanted_of}
use Rattle.szg_file.specs.Values.{subtable_at, values_of}
use Rattle.szg_file.specs.WholeRead.{IsTable}
use Rattle.szg_file.proofs.Tables.IndexLaws.{size_of_table}
use Rattle.szg_file.proofs.Tables.OnlyWanted.{only_one}
use Rattle.szg_answers.specs.Answers.{number_line}
use Rattle.szg_answers.specs.Refusals.{size_at}
use Rattle.szg_answers.specs.Requests.{IsTableOf}
use Rattle.szg_words.specs.declared.request.Request.{Request}

pub is_table_of : (request : Request) (material : Sides) (t : Shown) → IsMaterial material → name_of material ≡ request.name.now → IsTable material request.kind t → IsTableOf request t
is_table_of request material t is named h = record {
  material = subst (λ (m : Sides). IsMaterial m) (sym h.material_is) is;
  name = ap (λ (m : Sides). name_of m) h.material_is ∙ named;
  kind = h.kind_is;
  accepted = h.accepted;
}

-- the size that the index has is the table's
pub size_read : (x : Index) (t : Shown) (size : Option ℕ) (part side : ℕ) → x ≡ index_of t.contents → IsAccepted t.contents t.filled → size ≡ option_map (λ (slot : Slot). slot.size) (slot_in x part side) →
    size ≡ size_at t.contents part side
size_read x t size part side is accepted stated =
    stated ∙ ap (λ (y : Index). option_map (λ (slot : Slot). slot.size) (slot_in y part side)) is ∙ size_of_table t.contents t.filled part side accepted

lines_of_found : (t : Contents) (values text : List ℕ) (size : ℕ) (found : Option (Slot × Subtable)) → Some size ≡ option_map (λ found. found.0.size) found →
    IfSome found (λ f. values ≡ values_of t.kind f) → text ≡ flat_map number_line values → IsSomeAnd found (λ f. text ≡ flat_map number_line (values_of t.kind f))
lines_of_found t values text size None some is stated = absurd (cc some)
lines_of_found t values text size (Some f) some is stated = stated ∙ ap (λ (z : List ℕ). flat_map number_line z) is

-- the lines of the wanted values are the lines of the part and side
pub lines_of_part : (t : Contents) (part side size : ℕ) (text : List ℕ) → Some size ≡ size_at t part side → text ≡ flat_map number_line (wanted_of (only part side) t) →
    IsSomeAnd (subtable_at t part side) (λ f. text ≡ flat_map number_line (values_of t.kind f))
lines_of_part t part side size text there stated = lines_of_found t (wanted_of (only part side) t) text size (subtable_at t part side) there (only_one t part side) stated

-- a file that is opened once more, after the system opened it before
pub carried_on : {S F W : Type 0} (content : S → List ℕ → Option (List ℕ)) (failures : S → ℕ) (reading : input.Ghosts F) (writing : output.Ghosts W) (task : Task) (source : List ℕ) (system between system' : S) (writer writer' : W) →
    content between ≡ content system → failures between ≡ failures system →
    IsCarriedFrom content failures reading writing task source None between system' writer writer' None → IsCarriedFrom content failures reading writing task source None system system' writer writer' None
carried_on content failures reading writing task source system between system' writer writer' kept quiet h = (
  h.0,
  h.1,
  record {
    unread = h.2.unread;
    coming = subst (λ (f : List ℕ → Option (List ℕ)). IfSome (f source) (λ bytes. reading.coming h.0 ≡ Some bytes)) kept h.2.coming;
    kept = h.2.kept ∙ kept;
    quiet = h.2.quiet ∙ quiet;
  },
  h.3,
)
