-- The sections of a table's file that a sink takes.
use Rattle.std.specs.Prelude.{List, map, option_map}
use Rattle.std.specs.List.{FoldsTo}
use denote.Ref.{Bor, MutBor}
use denote.Param.Members.{Shared}
use Rattle.szg_file.specs.declared.writing.sections.FieldsRef.{FieldsRef}
use Rattle.szg_file.specs.Contents.{Contents}
use Rattle.szg_file.specs.FileOf.{Section}
use Rattle.szg_file.specs.Held.{part_of, subtable_of, map_of}

-- the contents whose fields these are
abbrev pub contents_in : FieldsRef → Contents
contents_in fields = record {
  material = fields.material.now;
  kind = fields.kind;
  byte4 = fields.byte4;
  parts = map part_of fields.parts.now;
  subtables = map subtable_of fields.subs.now;
  maps = map (option_map map_of) fields.maps.now;
  last = fields.last.now;
}

-- A sink took these sections in order. The sink and its output before, and both after.
pub record Took {S W : Type 0} (takes : S → W → Section → S → W → Type 0) (sections : List Section) (sink : S) (out : W) (sink' : S) (out' : W) : Type 0 where
  pub steps : FoldsTo {P = S × W} (λ p section q. takes p.0 p.1 section q.0 q.1) (sink, out) sections (sink', out')

-- Each call hands an item to the sink as these sections.
abbrev pub TakesAs : {F T S W : Type 0} → Shared F (Bor T × (MutBor S × (MutBor W × Unit {0}))) (Unit {0} × (MutBor S × (MutBor W × Unit {0}))) →
    (S → W → Section → S → W → Type 0) → F → (T → List Section) → Type 0
TakesAs {T = T} {S = S} {W = W} calls takes put sections =
    (item : Bor T) (sink rest : MutBor S) (out left : MutBor W) →
    calls.post put (item, (sink, (out, tt))) (tt, (rest, (left, tt))) →
    Took takes (sections item.now) sink.now out.now rest.now left.now
