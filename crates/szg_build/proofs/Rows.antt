-- Examples of dumps and of refusals, computed through the definitions.
use Rattle.std.proofs.Common.{◌≡◌, ℕ, List, [], ◌∷◌, ◌++◌, length, refl, take, replicate, Option, Some, None}
use Rattle.std.specs.Prelude.{codes}
use Rattle.szg_values.specs.Material.{Sides, parsed}
use Rattle.szg_values.specs.declared.Man.TheVariants.{Knight, Queen, King}
use Rattle.szg_values.specs.declared.Kind.{Kind}
use Rattle.szg_values.specs.declared.Kind.TheVariants.{Wdl, Dtz}
use Rattle.szg_file.specs.Contents.{Part, narrow, wide}
use Rattle.hex.specs.Hex.{encode_with}
use Rattle.std.specs.Fmt.{digits}
use Rattle.szg_build.specs.declared.dump.DumpFault.TheVariants as line
use Rattle.szg_build.specs.declared.BuildFault.TheVariants as plan
use Rattle.szg_subtable.specs.Pairing.{values_below}
use Rattle.szg_build.specs.Plan.{Plan, fault_for}
use Rattle.szg_build.specs.Dump.{Dump}
use Rattle.szg_build.specs.Text.{single, runs, dump_lines, dump_text}
use Rattle.szg_build.specs.Lines.{Verdict, good, refused, ended, verdict, of_line, of_plan}
use Rattle.szg_build.specs.Grammar.{dump_with}

-- ---- a dump of two short lists

abbrev pub knvk : Sides
knvk = record { first = King ∷ Knight ∷ []; second = King ∷ [] }

abbrev pub last_bytes : List ℕ
last_bytes = 0 ∷ 1 ∷ 2 ∷ 3 ∷ 4 ∷ 5 ∷ 6 ∷ 7 ∷ 8 ∷ 9 ∷ 10 ∷ 11 ∷ 12 ∷ 13 ∷ 14 ∷ 15 ∷ []

abbrev pub knvk_dump : Dump
knvk_dump = record {
  material = knvk;
  kind = Wdl;
  parts = record { order = 0 ∷ []; men = 0x66 ∷ 0x22 ∷ 0xEE ∷ [] } ∷ [];
  flags = [];
  maps = [];
  last = last_bytes;
  lists = (2 ∷ 2 ∷ 4 ∷ []) ∷ (0 ∷ 0 ∷ []) ∷ [];
}

abbrev pub three_and_two : Sides → Kind → List Part → Option (List ℕ)
three_and_two material kind parts = Some (3 ∷ 2 ∷ [])

abbrev pub no_sizes : Sides → Kind → List Part → Option (List ℕ)
no_sizes material kind parts = None

abbrev pub front : List ℕ
front = codes "szg-dump 1\nname KNvK\nkind wdl\nend 000102030405060708090a0b0c0d0e0f\n"

abbrev pub runs_front : List ℕ
runs_front = codes "szg-dump 2\nname KNvK\nkind wdl\nend 000102030405060708090a0b0c0d0e0f\n"

abbrev pub part : List ℕ
part = codes "part a order 00 men 6622ee\n"

abbrev pub knvk_text : List ℕ
knvk_text = front ++ part ++ codes "sub a 0\nvalues 3\n2\n2\n4\nsub a 1\nvalues 2\n0\n0\n"

abbrev pub knvk_runs : List ℕ
knvk_runs = runs_front ++ part ++ codes "sub a 0\nvalues 3\n2 2\n1 4\nsub a 1\nvalues 2\n2 0\n"

text_single : dump_text single knvk_dump ≡ knvk_text
unfolding dump_text dump_lines digits encode_with
text_single = refl

text_runs : dump_text runs knvk_dump ≡ knvk_runs
unfolding dump_text dump_lines digits encode_with
text_runs = refl

read_single : verdict (dump_with three_and_two) 0 (knvk_text ++ codes "more") ≡ good knvk_dump 14 (codes "more")
unfolding parsed digits encode_with
read_single = refl

read_runs : verdict (dump_with three_and_two) 0 knvk_runs ≡ good knvk_dump 12 []
unfolding parsed digits encode_with
read_runs = refl

-- ---- what a text is refused for, and at which line

abbrev pub read : List ℕ → Verdict Dump
read text = verdict (dump_with three_and_two) 0 text

empty : read [] ≡ ended 1
empty = refl

version_3 : read (codes "szg-dump 3\n") ≡ refused 1 (of_line line.Version) []
version_3 = refl

another_first_line : read (codes "szg-dumb 1\nname") ≡ refused 1 (of_line line.Field) (codes "name")
another_first_line = refl

first_line_of_three_words : read (codes "szg-dump 3 1\n") ≡ refused 1 (of_line line.Field) []
first_line_of_three_words = refl

two_spaces : read (codes "szg-dump  1\n") ≡ refused 1 (of_line line.Field) []
two_spaces = refl

name_of_two_kings : read (codes "szg-dump 1\nname KvK\n") ≡ refused 2 (of_line line.Name) []
unfolding parsed
name_of_two_kings = refl

another_kind : read (codes "szg-dump 1\nname KNvK\nkind WDL\n") ≡ refused 3 (of_line line.Field) []
unfolding parsed
another_kind = refl

end_of_31_digits : read (codes "szg-dump 1\nname KNvK\nkind wdl\nend 000102030405060708090a0b0c0d0e0\n") ≡ refused 4 (of_line line.Hex) []
unfolding parsed digits encode_with
end_of_31_digits = refl

end_of_15_bytes : read (codes "szg-dump 1\nname KNvK\nkind wdl\nend 000102030405060708090a0b0c0d0e\n") ≡ refused 4 (of_line line.Hex) []
unfolding parsed digits encode_with
end_of_15_bytes = refl

upper_case : read (front ++ codes "part a order 00 men 6622EE\n") ≡ refused 5 (of_line line.Hex) []
unfolding parsed digits encode_with
upper_case = refl

another_side : read (front ++ part ++ codes "sub a 1\n") ≡ refused 6 (of_line line.Field) []
unfolding parsed digits encode_with
another_side = refl

leading_zero : read (front ++ part ++ codes "sub a 0\nvalues 3\n02\n") ≡ refused 8 (of_line line.Number) []
unfolding parsed digits encode_with
leading_zero = refl

value_above_16_bits : read (front ++ part ++ codes "sub a 0\nvalues 3\n65536\n") ≡ refused 8 (of_line line.Number) []
unfolding parsed digits encode_with
value_above_16_bits = refl

count_of_64_bits : read (front ++ part ++ codes "sub a 0\nvalues 9223372036854775808\n") ≡ refused 7 (of_line line.Number) []
unfolding parsed digits encode_with
count_of_64_bits = refl

cut_after_a_great_count : read (front ++ part ++ codes "sub a 0\nvalues 9223372036854775807\n") ≡ ended 8
unfolding parsed digits encode_with
cut_after_a_great_count = refl

cut_within_a_line : read (front ++ part ++ codes "sub a 0\nvalues 3\n2\n2") ≡ ended 9
unfolding parsed digits encode_with
cut_within_a_line = refl

eighty_bytes_cut : read (replicate 80 120) ≡ ended 1
eighty_bytes_cut = refl

eighty_one_bytes : read (replicate 81 120) ≡ refused 1 (of_line line.Field) []
eighty_one_bytes = refl

eighty_one_bytes_and_more : read (replicate 81 120 ++ codes "xx\n") ≡ refused 1 (of_line line.Field) (codes "xx\n")
eighty_one_bytes_and_more = refl

-- ---- runs

abbrev pub runs_after : List ℕ → Verdict Dump
runs_after text = read (runs_front ++ part ++ codes "sub a 0\nvalues 3\n" ++ text)

runs_past_the_count : runs_after (codes "4 2\n") ≡ refused 8 (of_line line.Run) []
unfolding parsed digits encode_with
runs_past_the_count = refl

run_of_none : runs_after (codes "0 2\n") ≡ refused 8 (of_line line.Number) []
unfolding parsed digits encode_with
run_of_none = refl

run_without_value : runs_after (codes "2\n") ≡ refused 8 (of_line line.Field) []
unfolding parsed digits encode_with
run_without_value = refl

number_before_run : runs_after (codes "4 65536\n") ≡ refused 8 (of_line line.Number) []
unfolding parsed digits encode_with
number_before_run = refl

shorter_runs : runs_after (codes "1 2\n1 2\n1 4\nsub a 1\nvalues 2\n2 0\n") ≡ good knvk_dump 13 []
unfolding parsed digits encode_with
shorter_runs = refl

another_length : read (runs_front ++ part ++ codes "sub a 0\nvalues 9223372036854775807\n") ≡ refused 7 (of_plan (plan.Length 0)) []
unfolding parsed digits encode_with
another_length = refl

parts_that_are_not_valid : verdict (dump_with no_sizes) 0 (runs_front ++ part ++ codes "sub a 0\nvalues 3\n") ≡ refused 6 (of_plan plan.Order) (codes "values 3\n")
unfolding parsed digits encode_with
parts_that_are_not_valid = refl

sub_line_before_parts : verdict (dump_with no_sizes) 0 (runs_front ++ part ++ codes "sub a 1\n") ≡ refused 6 (of_line line.Field) []
unfolding parsed digits encode_with
sub_line_before_parts = refl

-- ---- a DTZ dump with a map

abbrev pub kqvk : Sides
kqvk = record { first = King ∷ Queen ∷ []; second = King ∷ [] }

abbrev pub kqvk_dump : Dump
kqvk_dump = record {
  material = kqvk;
  kind = Dtz;
  parts = record { order = 0 ∷ []; men = 6 ∷ 5 ∷ 14 ∷ [] } ∷ [];
  flags = 19 ∷ [];
  maps = Some (wide ((300 ∷ 7 ∷ []) ∷ [] ∷ [] ∷ (1 ∷ []) ∷ [])) ∷ [];
  last = last_bytes;
  lists = (0 ∷ 1 ∷ 1 ∷ []) ∷ [];
}

abbrev pub three : Sides → Kind → List Part → Option (List ℕ)
three material kind parts = Some (3 ∷ [])

abbrev pub kqvk_text : List ℕ
kqvk_text = codes "szg-dump 2\nname KQvK\nkind dtz\nend 000102030405060708090a0b0c0d0e0f\npart a order 00 men 06050e\nsub a 0\nflags 19\nmap 0 2\n300\n7\nmap 1 0\nmap 2 0\nmap 3 1\n1\nvalues 3\n1 0\n2 1\n"

dtz_text : dump_text runs kqvk_dump ≡ kqvk_text
unfolding dump_text dump_lines digits encode_with
dtz_text = refl

dtz_read : verdict (dump_with three) 0 kqvk_text ≡ good kqvk_dump 17 []
unfolding parsed digits encode_with
dtz_read = refl

-- ---- the first refusal of a plan

abbrev pub knvk_plan : Plan
knvk_plan = record {
  material = knvk;
  kind = Wdl;
  parts = record { order = 0 ∷ []; men = 0x66 ∷ 0x22 ∷ 0xEE ∷ [] } ∷ [];
  block_bits = 6;
  span_bits = 12;
  rounds = 0;
  flags = [];
  maps = [];
  last = last_bytes;
}

abbrev pub kqvk_plan : Plan
kqvk_plan = record {
  material = kqvk;
  kind = Dtz;
  parts = record { order = 0 ∷ []; men = 6 ∷ 5 ∷ 14 ∷ [] } ∷ [];
  block_bits = 5;
  span_bits = 16;
  rounds = 0;
  flags = 0 ∷ [];
  maps = None ∷ [];
  last = last_bytes;
}

abbrev pub lists : List (List ℕ)
lists = (2 ∷ 2 ∷ 4 ∷ []) ∷ (0 ∷ 0 ∷ []) ∷ []

order_first : fault_for None (record knvk_plan { block_bits = 4 }) lists ≡ Some plan.Order
unfolding fault_for values_below
order_first = refl

no_refusal : fault_for (Some (3 ∷ 2 ∷ [])) knvk_plan lists ≡ None
unfolding fault_for values_below
no_refusal = refl

bits_before_rounds : fault_for (Some (3 ∷ 2 ∷ [])) (record knvk_plan { block_bits = 4; rounds = 5000 }) lists ≡ Some plan.Bits
unfolding fault_for values_below
bits_before_rounds = refl

rounds_5000 : fault_for (Some (3 ∷ 2 ∷ [])) (record knvk_plan { rounds = 5000 }) lists ≡ Some plan.Rounds
unfolding fault_for values_below
rounds_5000 = refl

one_list : fault_for (Some (3 ∷ 2 ∷ [])) knvk_plan (take 1 lists) ≡ Some plan.Count
unfolding fault_for values_below
one_list = refl

one_value_short : fault_for (Some (4 ∷ 2 ∷ [])) knvk_plan lists ≡ Some (plan.Length 0)
unfolding fault_for values_below
one_value_short = refl

length_before_value : fault_for (Some (3 ∷ 2 ∷ [])) knvk_plan ((5 ∷ 5 ∷ 5 ∷ []) ∷ (0 ∷ []) ∷ []) ≡ Some (plan.Length 1)
unfolding fault_for values_below
length_before_value = refl

value_5 : fault_for (Some (3 ∷ 2 ∷ [])) knvk_plan ((2 ∷ 2 ∷ 4 ∷ []) ∷ (0 ∷ 5 ∷ []) ∷ []) ≡ Some (plan.Value 1)
unfolding fault_for values_below
value_5 = refl

value_5_in_dtz : fault_for (Some (3 ∷ [])) kqvk_plan ((5 ∷ 5 ∷ 5 ∷ []) ∷ []) ≡ None
unfolding fault_for values_below
value_5_in_dtz = refl

flag_without_map : fault_for (Some (3 ∷ [])) (record kqvk_plan { flags = 2 ∷ [] }) ((3 ∷ 3 ∷ 3 ∷ []) ∷ []) ≡ Some plan.Map
unfolding fault_for values_below
flag_without_map = refl

flag_32 : fault_for (Some (3 ∷ [])) (record kqvk_plan { flags = 32 ∷ [] }) ((3 ∷ 3 ∷ 3 ∷ []) ∷ []) ≡ Some plan.Map
unfolding fault_for values_below
flag_32 = refl

narrow_with_flag_16 : fault_for (Some (3 ∷ [])) (record kqvk_plan { flags = 18 ∷ []; maps = Some (narrow ([] ∷ [] ∷ [] ∷ [] ∷ [])) ∷ [] }) ((3 ∷ 3 ∷ 3 ∷ []) ∷ []) ≡ Some plan.Map
unfolding fault_for values_below
narrow_with_flag_16 = refl

list_of_256_bytes : fault_for (Some (3 ∷ [])) (record kqvk_plan { flags = 2 ∷ []; maps = Some (narrow ([] ∷ replicate 256 1 ∷ [] ∷ [] ∷ [])) ∷ [] }) ((3 ∷ 3 ∷ 3 ∷ []) ∷ []) ≡ Some plan.Map
unfolding fault_for values_below
list_of_256_bytes = refl

-- ---- the dump of the constant KNvK table: two subtables of 31,332 draws

abbrev pub knvk_draws : Dump
knvk_draws = record knvk_dump { lists = replicate 31332 2 ∷ replicate 31332 2 ∷ [] }

abbrev pub knvk_draws_text : List ℕ
knvk_draws_text = runs_front ++ part ++ codes "sub a 0\nvalues 31332\n31332 2\nsub a 1\nvalues 31332\n31332 2\n"

draws_text : dump_text runs knvk_draws ≡ knvk_draws_text
unfolding dump_text dump_lines digits encode_with
draws_text = refl

draws_lines : length (dump_lines runs knvk_draws) ≡ 11
unfolding dump_lines digits encode_with
draws_lines = refl

-- its sizes, by its parts (SizeRows)
abbrev pub draw_sizes : Sides → Kind → List Part → Option (List ℕ)
draw_sizes material kind parts = Some (31332 ∷ 31332 ∷ [])

draws_read : verdict (dump_with draw_sizes) 0 knvk_draws_text ≡ good knvk_draws 11 []
unfolding parsed digits encode_with
draws_read = refl

draws_in_two_runs : verdict (dump_with draw_sizes) 0 (runs_front ++ part ++ codes "sub a 0\nvalues 31332\n31331 2\n1 2\nsub a 1\nvalues 31332\n31332 2\n") ≡ good knvk_draws 12 []
unfolding parsed digits encode_with
draws_in_two_runs = refl
