-- What calls on a tablebase return: the probes of chess positions over the tables that were added.
use Rattle.std.specs.Prelude.{ℕ, ℤ, ◌≡◌, ◌++◌, ◌∷◌, [], ◌⊎◌, ◌<◌, Bool, List, length, drop, map, Option, Some, None, Ok, IsPermutation}
use Rattle.std.specs.List.Sorted.{IsNonDecreasingBy}
use Rattle.szg_values.specs.Men.{code_of}
use Rattle.szg_values.specs.Material.{Sides, name_of, parsed}
use Rattle.szg_values.specs.Placement.{PlacedMan}
use Rattle.szg_values.specs.declared.Color.{Color}
use Rattle.szg_values.specs.declared.Man.{Man}
use Rattle.szg_place.specs.Layout.{is_dtz}
use Rattle.szg_game.specs.declared.Class.{Class}
use Rattle.szg_chess.specs.Position.{Position}
use Rattle.szg_chess.specs.Moves.{legal_moves}
use Rattle.szg_probe.specs.Probing.{MayFail, all_known, probed}
use Rattle.szg_probe.specs.Distances.{MayFailByMove, MayFailBySearch, class_at, probed_distance, rank_of, ranked, signed_distance}
use Rattle.szg_probe.specs.declared.assessments.RankedMove.{RankedMove}
use Rattle.szg_mapped.specs.InPlace.{InPlace}
use Rattle.szg_tables.specs.Mapped.{IsOpenedFrom, mapped_classes, mapped_numbers}
use Rattle.szg_tables.specs.Stored.{IsMissing, number_of_class}
use Rattle.szg_tables.specs.declared.Missing.{Missing}
use Rattle.szg_tables.specs.declared.MissingReason.{MissingReason}
use Rattle.szg_tables.specs.declared.MissingReason.TheVariants as reason
use Rattle.szg_c.specs.Places.{place_status}
use Rattle.szg_c.specs.Reported.{kind_of_flag}
use Rattle.szg_c.specs.Texts.{printed}
use Rattle.szg_c_positions.specs.declared.status.TheConstants.{BAD_BLOCK, CHANGED, CONTRADICTION, MISSING, NO_CLASS, RANGE}
use Rattle.szg_c.specs.declared.tablebase_calls.RawDistance.{RawDistance}
use Rattle.szg_c.specs.declared.tablebase_calls.RawMissing.{RawMissing}
use Rattle.szg_c.specs.declared.tablebase_calls.RawMove.{RawMove}

-- ---- tables

-- the tables of a tablebase; none if its handle holds nothing
abbrev pub files_of : Option (List InPlace) → List InPlace
files_of None = []
files_of (Some files) = files

-- the name is a material's, and this is the table of this name and kind that was opened from these bytes, blocks unchecked
abbrev pub IsTableOf : List ℕ → Bool → List ℕ → InPlace → Type 0
IsTableOf name dtz bytes f = (material : Sides) × (parsed name ≡ Ok material) × IsOpenedFrom material (kind_of_flag dtz) bytes f

-- a file was added behind the others: these bytes, opened as the table of this name and kind
abbrev pub IsAdded : List ℕ → Bool → List ℕ → List InPlace → Option (List InPlace) → Type 0
IsAdded name dtz bytes before after = (f : InPlace) × IsTableOf name dtz bytes f × (after ≡ Some (before ++ f ∷ []))

-- ---- what is missing

abbrev pub missing_status : MissingReason → ℕ
missing_status reason.Table = MISSING
missing_status (reason.Place why) = place_status why
missing_status reason.Value = NO_CLASS
missing_status (reason.Unread spot) = CHANGED
missing_status (reason.Block number offset) = BAD_BLOCK

-- the number and offset of a block that does not decode; else they stay
abbrev pub IsBlockWritten : MissingReason → RawMissing → RawMissing → Type 0
IsBlockWritten (reason.Block number offset) before after = (after.block ≡ number) × (after.offset ≡ offset)
IsBlockWritten other before after = (after.block ≡ before.block) × (after.offset ≡ before.offset)

-- the status says what is missing, and the table is named
pub record IsMissingReported (missing : Missing) (status : ℕ) (before after : RawMissing) : Type 0 where
  pub status_is : status ≡ missing_status missing.reason
  pub name : after.name ≡ printed (name_of missing.material) before.name
  pub kind : after.dtz ≡ is_dtz missing.kind
  pub block : IsBlockWritten missing.reason before after

-- what is reported is missing for a position for which the tables may fail
abbrev pub IsLacking : List InPlace → ((List PlacedMan → Color → Type 0) → Type 0) → ℕ → RawMissing → RawMissing → Type 0
IsLacking files may_fail status before after =
    (missing : Missing) × may_fail (IsMissing (mapped_classes files) (mapped_numbers files) missing) × IsMissingReported missing status before after

-- ---- probes

-- The class of the position by the tables, or what is missing, which else stays.
pub record IsClassProbed (files : List InPlace) (p : Position) (status : ℕ) (class : ℤ) (before after : RawMissing) : Type 0 where
  pub done : status ≡ 0 → (k : Class) × (probed (mapped_classes files) p ≡ Some k) × (class ≡ number_of_class k)
  pub lacking : (status ≡ 0 → ⊥) → IsLacking files (λ fails. MayFail fails p) status before after
  pub stays : status ≡ 0 → after ≡ before

-- The tables contradict themselves where they have no answer; else the status says what is missing.
abbrev pub IsUnanswered : List InPlace → Type 0 → ((List PlacedMan → Color → Type 0) → Type 0) → ℕ → RawMissing → RawMissing → Type 0
IsUnanswered files none may_fail status before after = ((status ≡ CONTRADICTION) × none × (after ≡ before)) ⊎ IsLacking files may_fail status before after

-- The class with the fifty-move counter and the DTZ of the position by the tables, or why there is none.
pub record IsDistanceProbed (files : List InPlace) (counter : ℕ) (p : Position) (status : ℕ) (distance : RawDistance) (before after : RawMissing) : Type 0 where
  pub done : status ≡ 0 → (k : Class) × (plies : ℕ) × (probed_distance (mapped_classes files) (mapped_numbers files) p ≡ Some (k, plies))
      × (distance.class ≡ number_of_class (class_at counter k plies)) × (distance.dtz ≡ signed_distance k plies)
  pub lacking : (status ≡ 0 → ⊥) → IsUnanswered files (probed_distance (mapped_classes files) (mapped_numbers files) p ≡ None) (λ fails. MayFailBySearch fails p) status before after
  pub stays : status ≡ 0 → after ≡ before

-- ---- moves

abbrev pub promotion_code : Option Man → ℕ
promotion_code None = 0
promotion_code (Some man) = code_of man

abbrev pub raw_move : RankedMove → RawMove
raw_move r = record {
  from = r.m.from;
  to = r.m.to;
  promotion = promotion_code r.m.promotion;
  class = number_of_class r.distance.class;
  dtz = signed_distance r.distance.class r.distance.plies;
  zeroing = r.zeroing;
  mate = r.mate;
  stalemate = r.stalemate;
}

-- each legal move with what it gives by the tables; None if that is not known
abbrev pub known_moves : List InPlace → ℕ → Position → Option (List RankedMove)
known_moves files counter p = all_known (map (ranked (mapped_classes files) (mapped_numbers files) counter p) (legal_moves p))

-- the list begins with the legal moves, the best first, and its rest is as before; their number is written
pub record AreRankedIn (files : List InPlace) (counter : ℕ) (p : Position) (before after : List RawMove) (count : ℕ) : Type 0 where
  pub moves : List RankedMove
  pub all : List RankedMove
  pub known : known_moves files counter p ≡ Some all
  pub same : IsPermutation all moves
  pub best_first : IsNonDecreasingBy rank_of moves
  pub written : after ≡ map raw_move moves ++ drop (length moves) before
  pub number : count ≡ length moves

-- the ranked moves; or the list is too short for them; or why there are none
pub record IsRankedWritten (files : List InPlace) (counter : ℕ) (p : Position) (status : ℕ) (before after : List RawMove) (count : ℕ) (lack_before lack_after : RawMissing) : Type 0 where
  pub done : status ≡ 0 → AreRankedIn files counter p before after count
  pub short : status ≡ RANGE → (length before < length (legal_moves p)) × (lack_after ≡ lack_before)
  pub stays : status ≡ 0 → lack_after ≡ lack_before
  pub lacking : (status ≡ 0 → ⊥) → (status ≡ RANGE → ⊥) → IsUnanswered files (known_moves files counter p ≡ None) (λ fails. MayFailByMove fails p) status lack_before lack_after
