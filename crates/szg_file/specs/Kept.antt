-- Subtables without the block lengths that no value needs.
use Rattle.std.specs.Prelude.{ℕ, ◌≡◌, ◌+◌, Bool, true, false, List, length, map, sum_by, Result, Ok, Err}
use Rattle.szg_block.specs.Block.{start}
use Rattle.szg_block.specs.Kept.{kept_lengths}
use Rattle.szg_io.specs.declared.device.Input.{Ghosts}
use Rattle.szg_values.specs.Material.{Sides}
use Rattle.szg_values.specs.declared.Kind.{Kind}
use Rattle.szg_file.specs.Contents.{Contents, Slot, Subtable, constant, pairs, slots}
use Rattle.szg_file.specs.File.{Begun, lengths_field}
use Rattle.szg_file.specs.Format.{Format, means, ◌>>=◌}
use Rattle.szg_file.specs.Reading.{Reading}
use Rattle.szg_file.specs.Unread.{FrontRead, BeginsWithFront}
use Rattle.szg_file.specs.Values.{slotted}
use Rattle.szg_file.specs.declared.fault.ReadFault.{ReadFault}
use Rattle.szg_file.specs.declared.reading.state.ReaderState.{ReaderState}
use Rattle.szg_file.specs.declared.begun.KeptLengths.{KeptLengths}

-- a subtable with the lengths of the blocks that begin below `size`
abbrev pub kept_of : ℕ → Subtable → Subtable
kept_of size (constant flags byte) = constant flags byte
kept_of size (pairs head sparse lengths packed) = pairs head sparse (kept_lengths size lengths) packed

-- a subtable with all block lengths, or with those of the blocks that begin below `size`
abbrev pub kept_sub : Bool → ℕ → Subtable → Subtable
kept_sub true size s = s
kept_sub false size s = kept_of size s

-- the subtables of these slots, each with all block lengths, or with those of the blocks that begin below its number of
-- positions
abbrev pub kept_subs : Bool → List Slot → List Subtable → List Subtable
kept_subs true slots subtables = subtables
kept_subs false slots subtables = map (λ pair. kept_of pair.0.size pair.1) (slotted slots subtables)

-- the same for a table
abbrev pub kept_contents : Bool → Contents → Contents
kept_contents all t = record {
  material = t.material;
  kind = t.kind;
  byte4 = t.byte4;
  parts = t.parts;
  subtables = kept_subs all (slots t.material t.kind t.parts) t.subtables;
  maps = t.maps;
  last = t.last;
}

-- a subtable that is read up to its block lengths, of which it has all, or those of the blocks that begin below its number of
-- positions
abbrev pub kept_begun : Bool → Begun → Begun
kept_begun all begun = record { slot = begun.slot; subtable = kept_sub all begun.slot.size begun.subtable; index = begun.index }

-- the subtables of a front, each with all block lengths, or with those of the blocks that begin below its number of
-- positions
abbrev pub kept_measured : Bool → List Begun → List Begun
kept_measured true list = list
kept_measured false list = map (kept_begun false) list

-- the same for a front
abbrev pub kept_front : Bool → FrontRead → FrontRead
kept_front all f = record { byte4 = f.byte4; parts = f.parts; maps = f.maps; measured = kept_measured all f.measured }

-- the first `place` bytes are a whole front, and `read` is it with all block lengths, or with those of the blocks that begin
-- below their subtable's number of positions
pub record BeginsWithKept (all : Bool) (material : Sides) (kind : Kind) (read : FrontRead) (place : ℕ) (content : List ℕ) : Type 0 where
  pub whole : FrontRead
  pub kept : read ≡ kept_front all whole
  pub begins : BeginsWithFront material kind whole place content

-- all block lengths are read and checked
abbrev pub kept_field : Bool → Begun → Format Begun
kept_field all begun = lengths_field begun >>= λ measured. means (kept_begun all measured)

-- The text of a format was read; what is returned is not all of its meaning, but in this relation to it.
abbrev pub ReadingOf : {A X R : Type 0} → Format A → (A → X → Type 0) → ReaderState → ReaderState → Ghosts R → R → R → Result X ReadFault → Type 0
ReadingOf {A = A} {X = X} f Is old new dev input input' (Ok x) = (a : A) × Is a x × Reading f (λ (_ : X). a) old new dev input input' (Ok x)
ReadingOf {A = A} f Is old new dev input input' (Err fault) = Reading f (λ (a : A). a) old new dev input input' (Err fault)

-- the state of a reader after the block lengths `list`
pub record IsKept (limit last : ℕ) (list : List ℕ) (kept : KeptLengths) : Type 0 where
  pub lengths : kept.lengths.items ≡ kept_lengths limit list
  pub values : kept.values ≡ sum_by (λ n. n + 1) (kept_lengths limit list)
  pub seen : kept.seen ≡ length list
  pub before : kept.before_last ≡ start list last
