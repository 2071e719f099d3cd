-- Examples evaluated by the definitions: the 80 bytes of a constant KNvK WDL table.
use Rattle.std.proofs.Common.{◌≡◌, ℕ, List, [], ◌∷◌, ◌++◌, replicate, refl, drop, take, Some, None}
use Rattle.szg_values.specs.declared.Kind.TheVariants.{Wdl, Dtz}
use Rattle.szg_file.specs.declared.fault.Reason.TheVariants as reason
use Rattle.szg_file.specs.Format.{verdict, good, refused, truncated}
use Rattle.szg_values.specs.Material.{Sides}
use Rattle.szg_values.specs.declared.Man.TheVariants.{Pawn, Knight, King}
use Rattle.szg_count.specs.Groups.{order_fault, groups_of, runs_of}
use Rattle.szg_file.specs.Contents.{Contents, constant, Part, Map, narrow, wide}
use Rattle.szg_file.specs.Values.{number_of_value, number_at}
use Rattle.std.specs.Prelude.{length, pos, negsuc}
use Rattle.szg_file.specs.File.{file}
use Rattle.szg_file.specs.FileOf.{file_of, fill_asked}

abbrev pub knvk : Sides
knvk = record { first = King ∷ Knight ∷ []; second = King ∷ [] }

abbrev pub last_bytes : List ℕ
last_bytes = 0 ∷ 1 ∷ 2 ∷ 3 ∷ 4 ∷ 5 ∷ 6 ∷ 7 ∷ 8 ∷ 9 ∷ 10 ∷ 11 ∷ 12 ∷ 13 ∷ 14 ∷ 15 ∷ []

abbrev pub bytes_after_part : List ℕ
bytes_after_part = 0 ∷ 0x80 ∷ 2 ∷ 0x80 ∷ 2 ∷ (replicate 50 0 ++ last_bytes)

abbrev pub knvk_wdl_constant : List ℕ
knvk_wdl_constant = 0x71 ∷ 0xE8 ∷ 0x23 ∷ 0x5D ∷ 1 ∷ 0 ∷ 0x66 ∷ 0x22 ∷ 0xEE ∷ bytes_after_part

abbrev pub knvk_table : Contents
knvk_table = record {
  material = knvk;
  kind = Wdl;
  byte4 = 1;
  parts = record { order = 0 ∷ []; men = 0x66 ∷ 0x22 ∷ 0xEE ∷ [] } ∷ [];
  subtables = constant 0x80 2 ∷ constant 0x80 2 ∷ [];
  maps = [];
  last = last_bytes;
}

accepted : verdict (file knvk Wdl) 0 knvk_wdl_constant ≡ good knvk_table (replicate 51 0) []
unfolding order_fault groups_of runs_of
accepted = refl

followed_by_a_byte : verdict (file knvk Wdl) 0 (knvk_wdl_constant ++ 0xFF ∷ []) ≡ good knvk_table (replicate 51 0) (0xFF ∷ [])
unfolding order_fault groups_of runs_of
followed_by_a_byte = refl

written_back : file_of knvk_table (replicate 51 0) ≡ knvk_wdl_constant
unfolding file_of
written_back = refl

fill_bytes : fill_asked knvk_table ≡ 51
unfolding fill_asked
fill_bytes = refl

cut_to_79 : verdict (file knvk Wdl) 0 (take 79 knvk_wdl_constant) ≡ truncated 79
unfolding order_fault groups_of runs_of
cut_to_79 = refl

empty : verdict (file knvk Wdl) 0 [] ≡ truncated 0
empty = refl

magic_70 : verdict (file knvk Wdl) 0 (0x70 ∷ drop 1 knvk_wdl_constant) ≡ refused 0 reason.Magic (drop 4 knvk_wdl_constant)
magic_70 = refl

magic_70_cut_to_2 : verdict (file knvk Wdl) 0 (0x70 ∷ 0xE8 ∷ []) ≡ truncated 2
magic_70_cut_to_2 = refl

byte4_00 : verdict (file knvk Wdl) 0 (take 4 knvk_wdl_constant ++ 0 ∷ []) ≡ refused 4 reason.SplitBit []
byte4_00 = refl

byte4_03 : verdict (file knvk Wdl) 0 (take 4 knvk_wdl_constant ++ 3 ∷ []) ≡ refused 4 reason.PawnBit []
byte4_03 = refl

byte8_e6 : verdict (file knvk Wdl) 0 (0x71 ∷ 0xE8 ∷ 0x23 ∷ 0x5D ∷ 1 ∷ 0 ∷ 0x66 ∷ 0x22 ∷ 0xE6 ∷ bytes_after_part) ≡ refused 6 reason.Pieces bytes_after_part
unfolding order_fault groups_of runs_of
byte8_e6 = refl

byte5_01 : verdict (file knvk Wdl) 0 (0x71 ∷ 0xE8 ∷ 0x23 ∷ 0x5D ∷ 1 ∷ 1 ∷ 0x66 ∷ 0x22 ∷ 0xEE ∷ bytes_after_part) ≡ refused 5 reason.OrderPlace bytes_after_part
unfolding order_fault groups_of runs_of
byte5_01 = refl

-- ---- a KPvK DTZ file: four parts, two maps, one of them wide

abbrev pub kpvk : Sides
kpvk = record { first = King ∷ Pawn ∷ []; second = King ∷ [] }

abbrev pub kpvk_part : List ℕ
kpvk_part = 0 ∷ 1 ∷ 6 ∷ 0x0E ∷ []

abbrev pub kpvk_dtz_mapped : List ℕ
kpvk_dtz_mapped =
    (0xD7 ∷ 0x66 ∷ 0x0C ∷ 0xA5 ∷ 3 ∷ [])
    ++ kpvk_part ++ kpvk_part ++ kpvk_part ++ kpvk_part
    ++ (0 ∷ 0x82 ∷ 0 ∷ 0x92 ∷ 0 ∷ 0x80 ∷ 0 ∷ 0x80 ∷ 0 ∷ [])
    ++ (1 ∷ 7 ∷ 0 ∷ 0 ∷ 0 ∷ 0 ∷ [])
    ++ (1 ∷ 0 ∷ 0x2C ∷ 1 ∷ 0 ∷ 0 ∷ 0 ∷ 0 ∷ 0 ∷ 0 ∷ [])
    ++ replicate 18 0 ++ last_bytes

abbrev pub kpvk_part_read : Part
kpvk_part_read = record { order = 0 ∷ []; men = 1 ∷ 6 ∷ 0x0E ∷ [] }

abbrev pub map_a : Map
map_a = narrow ((7 ∷ []) ∷ [] ∷ [] ∷ [] ∷ [])

abbrev pub map_b : Map
map_b = wide ((300 ∷ []) ∷ [] ∷ [] ∷ [] ∷ [])

abbrev pub kpvk_table : Contents
kpvk_table = record {
  material = kpvk;
  kind = Dtz;
  byte4 = 3;
  parts = kpvk_part_read ∷ kpvk_part_read ∷ kpvk_part_read ∷ kpvk_part_read ∷ [];
  subtables = constant 0x82 0 ∷ constant 0x92 0 ∷ constant 0x80 0 ∷ constant 0x80 0 ∷ [];
  maps = Some map_a ∷ Some map_b ∷ None ∷ None ∷ [];
  last = last_bytes;
}

eighty_bytes : length kpvk_dtz_mapped ≡ 80
eighty_bytes = refl

mapped_accepted : verdict (file kpvk Dtz) 0 kpvk_dtz_mapped ≡ good kpvk_table (replicate 20 0) []
unfolding order_fault groups_of runs_of
mapped_accepted = refl

mapped_written_back : file_of kpvk_table (replicate 20 0) ≡ kpvk_dtz_mapped
unfolding file_of
mapped_written_back = refl

-- class win: 14 with the lead pawn on the a file, 600 on the b file, 0 on the c file; no blessed loss in the map;
-- no distance of a draw
win_a : number_of_value kpvk_table 0 (pos 2) 0 ≡ Some 14
win_a = refl

win_b : number_of_value kpvk_table 1 (pos 2) 0 ≡ Some 600
win_b = refl

win_c : number_of_value kpvk_table 2 (pos 2) 0 ≡ Some 0
win_c = refl

outside : number_of_value kpvk_table 0 (negsuc 0) 0 ≡ None
outside = refl

-- list 1 of a byte map is 3, 9: it counts a loss in moves, or with flag 8 in plies
loss_in_moves : number_at 0x82 (Some (narrow ([] ∷ (3 ∷ 9 ∷ []) ∷ [] ∷ [] ∷ []))) 1 1 ≡ Some 18
loss_in_moves = refl

loss_in_plies : number_at 0x8A (Some (narrow ([] ∷ (3 ∷ 9 ∷ []) ∷ [] ∷ [] ∷ []))) 1 1 ≡ Some 9
loss_in_plies = refl

past_the_list : number_at 0x82 (Some (narrow ([] ∷ (3 ∷ 9 ∷ []) ∷ [] ∷ [] ∷ []))) 1 2 ≡ None
past_the_list = refl
