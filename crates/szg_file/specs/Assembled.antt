-- The table of assembled fields, and what the types of its fields imply.
use Rattle.std.specs.Prelude.{◌<◌, ◌^◌, ℕ, List, length, map, option_map}
use Rattle.std.specs.List.{AllByRecursion}
use Rattle.szg_code.specs.Acceptance.{IsCode}
use Rattle.szg_pairs.specs.Dictionary.{IsDictionary}
use Rattle.szg_block.specs.Layout.{SparseEntry}
use Rattle.szg_file.specs.declared.assembled.Fields.{Fields}
use Rattle.szg_file.specs.Accepted.{AreNumbers, AreBytes, IsEntry}
use Rattle.szg_file.specs.Contents.{Head, Subtable, constant, pairs}
use Rattle.szg_file.specs.Held.{Shown, part_of, subtable_of, map_of}

abbrev pub fields_shown : Fields → Shown
fields_shown fields = record {
  contents = record {
    material = fields.material;
    kind = fields.kind;
    byte4 = fields.byte4;
    parts = map part_of fields.parts.items;
    subtables = map subtable_of fields.subs.items;
    maps = map (option_map map_of) fields.maps.items;
    last = fields.last;
  };
  filled = fields.fill.items;
}

-- the numbers of a subtable that is not constant fit their fields, and its code and its dictionary are accepted
pub record AreTyped (head : Head) (sparse : List SparseEntry) (lengths packed : List ℕ) : Type 0 where
  pub flags : head.flags < 256
  pub extra : head.extra < 256
  pub blocks : head.blocks < 2 ^ 32
  pub code : IsCode head.code
  pub lowest : AreNumbers 2 head.code.lowest
  pub dictionary : IsDictionary head.entries
  pub symbols : length head.entries < 2 ^ 16
  pub entries : AllByRecursion (AreBytes 3) head.entries
  pub sparse_fit : AllByRecursion IsEntry sparse
  pub lengths_fit : AreNumbers 2 lengths
  pub packed_fit : AreNumbers 1 packed

-- what the types of a subtable imply for its numbers
abbrev pub IsTyped : Subtable → Type 0
IsTyped (constant flags byte) = (flags < 256) × (byte < 256)
IsTyped (pairs head sparse lengths packed) = AreTyped head sparse lengths packed
