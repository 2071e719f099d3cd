-- A small packed file, evaluated by the definitions: KNvK, constant with White to move, all draws with Black to
-- move, with nine symbols of 1, 2, 4, .. 256 values and code words of one bit.
use Rattle.std.proofs.Common.{◌≡◌, ℕ, ◌+◌, List, [], ◌∷◌, ◌++◌, replicate, refl, drop, take}
use Rattle.std.specs.Prelude.{length}
use Rattle.szg_values.specs.declared.Kind.TheVariants.{Wdl}
use Rattle.szg_count.specs.Leads.{triples, triples_from, lists_by, squares, diagonal, below_diagonal}
use Rattle.szg_count.specs.Sets.{sets_of, numbers_below}
use Rattle.szg_count.specs.Groups.{order_fault, groups_of, runs_of, size_of, counted, lead_sets, lead_ways, group_ways, factors_of}
use Rattle.szg_code.specs.Bits.{bits}
use Rattle.szg_code.specs.Canonical.{base, base_below_max, lowest_of, top, symbol_at, word_lengths, is_word}
use Rattle.szg_code.specs.Spelling.{first_word, symbols_within, symbols_spelled}
use Rattle.szg_code.specs.FirstFault.{first_rise, first_overfull}
use Rattle.szg_pairs.specs.Entry.{left_of, right_of, is_leaf, names_symbols_below}
use Rattle.szg_pairs.specs.Expansion.{values_within, expansion_of}
use Rattle.szg_pairs.specs.FirstFault.{first_child, first_cycle, first_long, lengths_within, length_of_symbol}
use Rattle.szg_block.specs.Block.{start, needed, block_values}
use Rattle.szg_block.specs.Sound.{entry_count, middle_of_span}
use Rattle.szg_block.specs.FirstFault.{has_total, first_bad_entry, spells_needed}
use Rattle.szg_file.specs.declared.fault.Reason.TheVariants as reason
use Rattle.szg_file.specs.Format.{verdict, good, refused, truncated}
use Rattle.szg_file.specs.Contents.{Contents, constant, pairs}
use Rattle.szg_file.specs.File.{file}
use Rattle.szg_file.specs.FileOf.{file_of}
use Rattle.szg_file.proofs.Rows.{knvk, last_bytes}

-- a leaf with value 2, and eight pairs of the previous symbol with itself
abbrev entries : List (List ℕ)
entries =
    (2 ∷ 0xF0 ∷ 0xFF ∷ []) ∷ (0 ∷ 0 ∷ 0 ∷ []) ∷ (1 ∷ 0x10 ∷ 0 ∷ []) ∷ (2 ∷ 0x20 ∷ 0 ∷ []) ∷ (3 ∷ 0x30 ∷ 0 ∷ [])
    ∷ (4 ∷ 0x40 ∷ 0 ∷ []) ∷ (5 ∷ 0x50 ∷ 0 ∷ []) ∷ (6 ∷ 0x60 ∷ 0 ∷ []) ∷ (7 ∷ 0x70 ∷ 0 ∷ []) ∷ []

-- 123 words of symbol 8
abbrev block : List ℕ
block = replicate 15 0xFF ++ 0xE0 ∷ []

abbrev front : List ℕ
front = 0x71 ∷ 0xE8 ∷ 0x23 ∷ 0x5D ∷ 1 ∷ 0 ∷ 0x66 ∷ 0x22 ∷ 0xEE ∷ 0 ∷ 0x80 ∷ 2 ∷ 0 ∷ 4 ∷ 15 ∷ 0 ∷ 1 ∷ 0 ∷ 0 ∷ 0 ∷ 1 ∷ 1 ∷ 7 ∷ 0 ∷ 9 ∷ 0 ∷ []

abbrev symbols : List ℕ
symbols =
    2 ∷ 0xF0 ∷ 0xFF ∷ 0 ∷ 0 ∷ 0 ∷ 1 ∷ 0x10 ∷ 0 ∷ 2 ∷ 0x20 ∷ 0 ∷ 3 ∷ 0x30 ∷ 0
    ∷ 4 ∷ 0x40 ∷ 0 ∷ 5 ∷ 0x50 ∷ 0 ∷ 6 ∷ 0x60 ∷ 0 ∷ 7 ∷ 0x70 ∷ 0 ∷ []

abbrev following : List ℕ
following = replicate 48 0 ++ last_bytes

-- the dictionary's padding byte; the sparse index: block 0, offset 16,384; the block lengths: 31,332 less one;
-- padding up to 64
abbrev packed : List ℕ
packed = front ++ symbols ++ (0 ∷ 0 ∷ 0 ∷ 0 ∷ 0 ∷ 0 ∷ 0x40 ∷ 0x63 ∷ 0x7A ∷ 0 ∷ 0 ∷ []) ++ block ++ following

abbrev packed_table : Contents
packed_table = record {
  material = knvk;
  kind = Wdl;
  byte4 = 1;
  parts = record { order = 0 ∷ []; men = 0x66 ∷ 0x22 ∷ 0xEE ∷ [] } ∷ [];
  subtables = constant 0x80 2 ∷ pairs (record {
    flags = 0;
    block_bits = 4;
    span_bits = 15;
    extra = 0;
    blocks = 1;
    code = record { min_length = 1; max_length = 1; lowest = 7 ∷ []; symbols = 9 };
    entries = entries;
  }) (record { block = 0; offset = 16384 } ∷ []) (31331 ∷ []) block ∷ [];
  maps = [];
  last = last_bytes;
}

number_of_bytes : length packed ≡ 144
number_of_bytes = refl

accepted : verdict (file knvk Wdl) 0 packed ≡ good packed_table (replicate 52 0) []
unfolding order_fault groups_of runs_of size_of counted lead_sets lead_ways group_ways factors_of triples triples_from lists_by squares diagonal below_diagonal sets_of numbers_below first_rise first_overfull base base_below_max lowest_of top symbol_at word_lengths is_word first_word symbols_within symbols_spelled bits first_child first_cycle first_long lengths_within length_of_symbol left_of right_of is_leaf names_symbols_below values_within expansion_of start needed block_values entry_count middle_of_span has_total first_bad_entry spells_needed
accepted = refl

written_back : file_of packed_table (replicate 52 0) ≡ packed
unfolding file_of
written_back = refl

cut_inside_the_block : verdict (file knvk Wdl) 0 (take 79 packed) ≡ truncated 79
unfolding order_fault groups_of runs_of size_of counted lead_sets lead_ways group_ways factors_of triples triples_from lists_by squares diagonal below_diagonal sets_of numbers_below first_rise first_overfull base base_below_max lowest_of top symbol_at word_lengths is_word first_word symbols_within symbols_spelled bits first_child first_cycle first_long lengths_within length_of_symbol left_of right_of is_leaf names_symbols_below values_within expansion_of start needed block_values entry_count middle_of_span has_total first_bad_entry spells_needed
cut_inside_the_block = refl

-- ---- refusals, each with the bytes after the field that fails

-- one byte replaced
abbrev changed : ℕ → ℕ → List ℕ
changed place byte = take place packed ++ byte ∷ drop (place + 1) packed

block_bits_19 : verdict (file knvk Wdl) 0 (changed 13 19) ≡ refused 13 reason.BlockBits (drop 14 packed)
unfolding order_fault groups_of runs_of first_rise first_overfull base base_below_max lowest_of first_child first_cycle first_long lengths_within length_of_symbol left_of right_of is_leaf names_symbols_below
block_bits_19 = refl

span_bits_0 : verdict (file knvk Wdl) 0 (changed 14 0) ≡ refused 14 reason.SpanBits (drop 15 packed)
unfolding order_fault groups_of runs_of first_rise first_overfull base base_below_max lowest_of first_child first_cycle first_long lengths_within length_of_symbol left_of right_of is_leaf names_symbols_below
span_bits_0 = refl

max_33 : verdict (file knvk Wdl) 0 (changed 20 33) ≡ refused 20 reason.CodeLengths (drop 22 packed)
unfolding order_fault groups_of runs_of first_rise first_overfull base base_below_max lowest_of first_child first_cycle first_long lengths_within length_of_symbol left_of right_of is_leaf names_symbols_below
max_33 = refl

-- greatest length 2, lowest symbols 7 and 9: item 1 is above item 0
rising_lowest : verdict (file knvk Wdl) 0 (take 20 packed ++ 2 ∷ 1 ∷ 7 ∷ 0 ∷ 9 ∷ 0 ∷ []) ≡ refused 24 reason.LowestOrder []
unfolding order_fault groups_of runs_of first_rise first_overfull base base_below_max lowest_of first_child first_cycle first_long lengths_within length_of_symbol left_of right_of is_leaf names_symbols_below
rising_lowest = refl

-- greatest length 3, lowest symbols 2, 2, 0: at item 0 the words do not fit
equal_lowest : verdict (file knvk Wdl) 0 (take 20 packed ++ 3 ∷ 1 ∷ 2 ∷ 0 ∷ 2 ∷ 0 ∷ 0 ∷ 0 ∷ []) ≡ refused 22 reason.TooFull []
unfolding order_fault groups_of runs_of first_rise first_overfull base base_below_max lowest_of first_child first_cycle first_long lengths_within length_of_symbol left_of right_of is_leaf names_symbols_below
equal_lowest = refl

-- symbol 8 has child 9
missing_child : verdict (file knvk Wdl) 0 (changed 50 9) ≡ refused 50 reason.Child (drop 53 packed)
unfolding order_fault groups_of runs_of first_rise first_overfull base base_below_max lowest_of first_child first_cycle first_long lengths_within length_of_symbol left_of right_of is_leaf names_symbols_below
missing_child = refl

-- symbol 1 has the children 1 and 0
endless : verdict (file knvk Wdl) 0 (changed 29 1) ≡ refused 29 reason.Cycle (drop 53 packed)
unfolding order_fault groups_of runs_of first_rise first_overfull base base_below_max lowest_of first_child first_cycle first_long lengths_within length_of_symbol left_of right_of is_leaf names_symbols_below
endless = refl

-- a tenth symbol of 512 values
too_long : verdict (file knvk Wdl) 0 (take 24 packed ++ (10 ∷ 0 ∷ []) ++ symbols ++ (8 ∷ 0x80 ∷ 0 ∷ [])) ≡ refused 53 reason.LongSymbol []
unfolding order_fault groups_of runs_of first_rise first_overfull base base_below_max lowest_of first_child first_cycle first_long lengths_within length_of_symbol left_of right_of is_leaf names_symbols_below
too_long = refl

short_total : verdict (file knvk Wdl) 0 (changed 60 0x62) ≡ refused 60 reason.ShortTotal (drop 62 packed)
unfolding order_fault groups_of runs_of size_of counted lead_sets lead_ways group_ways factors_of triples triples_from lists_by squares diagonal below_diagonal sets_of numbers_below first_rise first_overfull base base_below_max lowest_of top symbol_at word_lengths is_word first_word symbols_within symbols_spelled bits first_child first_cycle first_long lengths_within length_of_symbol left_of right_of is_leaf names_symbols_below values_within expansion_of start needed block_values entry_count middle_of_span has_total first_bad_entry spells_needed
short_total = refl

wrong_offset : verdict (file knvk Wdl) 0 (changed 58 1) ≡ refused 54 reason.SparseEntry (drop 62 packed)
unfolding order_fault groups_of runs_of size_of counted lead_sets lead_ways group_ways factors_of triples triples_from lists_by squares diagonal below_diagonal sets_of numbers_below first_rise first_overfull base base_below_max lowest_of top symbol_at word_lengths is_word first_word symbols_within symbols_spelled bits first_child first_cycle first_long lengths_within length_of_symbol left_of right_of is_leaf names_symbols_below values_within expansion_of start needed block_values entry_count middle_of_span has_total first_bad_entry spells_needed
wrong_offset = refl

-- 128 words of symbol 7 have 16,384 values
too_few_values : verdict (file knvk Wdl) 0 (take 64 packed ++ replicate 16 0) ≡ refused 64 reason.Word []
unfolding order_fault groups_of runs_of size_of counted lead_sets lead_ways group_ways factors_of triples triples_from lists_by squares diagonal below_diagonal sets_of numbers_below first_rise first_overfull base base_below_max lowest_of top symbol_at word_lengths is_word first_word symbols_within symbols_spelled bits first_child first_cycle first_long lengths_within length_of_symbol left_of right_of is_leaf names_symbols_below values_within expansion_of start needed block_values entry_count middle_of_span has_total first_bad_entry spells_needed
too_few_values = refl
