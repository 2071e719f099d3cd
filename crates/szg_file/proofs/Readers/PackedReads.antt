-- The steps of the readers of a header and of a dictionary: the format that remains after each.
use Rattle.std.proofs.Common.{◌≡◌, ℕ, ◌/◌, ◌%◌, Bool, true, false, cond, List, [], length, map, sym, ap, ◌∙◌, arith, nat_lt, nat_le, ◌&&◌, inl, inr}
use Rattle.std.proofs.lemmas.Bool.{cases_lt}
use Rattle.std.proofs.lemmas.Bool.Decides.{Decides-eqb}
use Rattle.szg_code.specs.Canonical.{CanonicalCode}
use Rattle.szg_block.specs.declared.Entry.{Entry}
use Rattle.szg_file.specs.declared.fault.Reason.TheVariants as reason
use Rattle.szg_file.specs.declared.reading.heads.HeadSizes.{HeadSizes}
use Rattle.szg_file.specs.Format.{Format, means, fill, ◌>>=◌}
use Rattle.szg_file.specs.Contents.{Subtable, Head, constant, pairs, has_bit}
use Rattle.szg_file.specs.File.{number_field, byte_where, lengths_of_words, lowest_list, code_with, dictionary, packed_head}
use Rattle.szg_file.specs.Held.{sparse_of}
use Rattle.szg_file.specs.HeadPieces.{sizes_field, entries_field}
use Rattle.szg_file.proofs.Grammar.EachLaws.{then-then}

-- the padding byte after `count` entries
abbrev pub after_entries : ℕ → List (List ℕ) → Format (List (List ℕ))
after_entries count entries = fill (count % 2) (means entries)

abbrev pub after_count : ℕ → Format (List (List ℕ))
after_count count = entries_field count >>= after_entries count

abbrev pub block_bits_field : Format ℕ
block_bits_field = byte_where (λ bits. nat_le bits 18) reason.BlockBits

abbrev pub span_bits_field : Format ℕ
span_bits_field = byte_where (λ bits. nat_lt 0 bits && nat_le bits 31) reason.SpanBits

-- the header that was read, with this code
abbrev pub head_with : ℕ → ℕ → ℕ → HeadSizes → List (List ℕ) → CanonicalCode → Head
head_with flags block_bits span_bits sizes entries code = record {
  flags = flags;
  block_bits = block_bits;
  span_bits = span_bits;
  extra = sizes.extra;
  blocks = sizes.blocks;
  code = code;
  entries = entries;
}

-- the subtable of a header that was read
abbrev pub packed_of : ℕ → ℕ → ℕ → HeadSizes → List ℕ → List (List ℕ) → Subtable
packed_of flags block_bits span_bits sizes lowest entries =
    pairs (head_with flags block_bits span_bits sizes entries (code_with sizes.min sizes.max lowest (length entries))) [] [] []

abbrev pub after_lowest : ℕ → ℕ → ℕ → HeadSizes → List ℕ → Format Subtable
after_lowest flags block_bits span_bits sizes lowest = dictionary >>= λ entries. means (packed_of flags block_bits span_bits sizes lowest entries)

abbrev pub after_sizes : ℕ → ℕ → ℕ → HeadSizes → Format Subtable
after_sizes flags block_bits span_bits sizes = lowest_list sizes.min sizes.max >>= after_lowest flags block_bits span_bits sizes

abbrev pub after_span : ℕ → ℕ → ℕ → Format Subtable
after_span flags block_bits span_bits = sizes_field >>= after_sizes flags block_bits span_bits

abbrev pub after_block : ℕ → ℕ → Format Subtable
after_block flags block_bits = span_bits_field >>= after_span flags block_bits

sizes-then : (h : HeadSizes → Format Subtable) → sizes_field >>= h ≡
    number_field 1 >>= (λ extra. number_field 4 >>= λ blocks. lengths_of_words >>= λ words. h (record { extra = extra; blocks = blocks; min = words.0; max = words.1 }))
sizes-then h =
    then-then (number_field 1) (λ extra. number_field 4 >>= λ blocks. lengths_of_words >>= λ words. means (record { extra = extra; blocks = blocks; min = words.0; max = words.1 })) h
    ∙ ap (λ (k : ℕ → Format Subtable). number_field 1 >>= k)
    (λ i extra.
    (then-then (number_field 4) (λ blocks. lengths_of_words >>= λ words. means (record { extra = extra; blocks = blocks; min = words.0; max = words.1 })) h
    ∙ ap (λ (k : ℕ → Format Subtable). number_field 4 >>= k)
    (λ i blocks. then-then lengths_of_words (λ words. means (record { extra = extra; blocks = blocks; min = words.0; max = words.1 })) h i)) i)

-- the header of a subtable that is not constant, step by step
pub packed_steps : (flags : ℕ) → packed_head flags ≡ block_bits_field >>= after_block flags
packed_steps flags =
    ap (λ (k : ℕ → Format Subtable). block_bits_field >>= k)
    (λ i block_bits. ap (λ (k : ℕ → Format Subtable). span_bits_field >>= k)
    (λ i span_bits. sym (sizes-then (after_sizes flags block_bits span_bits)) i) i)

-- the code of the lowest symbols, with one symbol per entry
code_is : (sizes : HeadSizes) (lowest code : CanonicalCode) (symbols : ℕ) (entries : List (List ℕ)) →
    lowest ≡ code_with sizes.min sizes.max lowest.lowest 0 → code ≡ code_with lowest.min_length lowest.max_length lowest.lowest symbols → symbols ≡ length entries →
    code ≡ code_with sizes.min sizes.max lowest.lowest (length entries)
code_is sizes lowest code symbols entries first second count =
    second
    ∙ ap (λ (m : ℕ). code_with m lowest.max_length lowest.lowest symbols) (ap (λ (k : CanonicalCode). k.min_length) first)
    ∙ ap (λ (m : ℕ). code_with sizes.min m lowest.lowest symbols) (ap (λ (k : CanonicalCode). k.max_length) first)
    ∙ ap (λ (n : ℕ). code_with sizes.min sizes.max lowest.lowest n) count

-- the subtable that was read, whose other lists are still empty
pub packed_is : (flags block_bits span_bits : ℕ) (sizes : HeadSizes) (lowest code : CanonicalCode) (symbols : ℕ) (entries : List (List ℕ)) (sparse : List Entry) (lengths packed : List ℕ) →
    lowest ≡ code_with sizes.min sizes.max lowest.lowest 0 → code ≡ code_with lowest.min_length lowest.max_length lowest.lowest symbols → symbols ≡ length entries →
    sparse ≡ [] → lengths ≡ [] → packed ≡ [] →
    packed_of flags block_bits span_bits sizes lowest.lowest entries ≡ pairs (head_with flags block_bits span_bits sizes entries code) (map sparse_of sparse) lengths packed
packed_is flags block_bits span_bits sizes lowest code symbols entries sparse lengths packed first second count s l p =
    let head = head_with flags block_bits span_bits sizes entries in
    ap (λ (k : CanonicalCode). pairs (head k) [] [] []) (sym (code_is sizes lowest code symbols entries first second count))
    ∙ ap (λ (z : List Entry). pairs (head code) (map sparse_of z) [] []) (sym s)
    ∙ ap (λ (z : List ℕ). pairs (head code) (map sparse_of sparse) z []) (sym l)
    ∙ ap (λ (z : List ℕ). pairs (head code) (map sparse_of sparse) lengths z) (sym p)

-- ---- flags

-- the format after the flags
abbrev pub after_flags : ℕ → Format Subtable
after_flags flags = cond (has_bit 7 flags) (number_field 1 >>= (λ byte. means (constant flags byte))) (packed_head flags)

pub constant_after : (flags : ℕ) → has_bit 7 flags ≡ true → after_flags flags ≡ number_field 1 >>= (λ byte. means (constant flags byte))
constant_after flags e = ap (λ (b : Bool). cond b (number_field 1 >>= (λ byte. means (constant flags byte))) (packed_head flags)) e

pub packed_after : (flags : ℕ) → has_bit 7 flags ≡ false → after_flags flags ≡ packed_head flags
packed_after flags e = ap (λ (b : Bool). cond b (number_field 1 >>= (λ byte. means (constant flags byte))) (packed_head flags)) e

pub flag_is_clear : (flags : ℕ) → has_bit 7 flags ≡ false → flags / 128 % 2 ≡ 0
flag_is_clear flags e =
    elim (cases_lt ((flags / 128) % 2) 1) [
      | inl none ↦ omega (arith, none)
      | inr some ↦
          let odd : (flags / 128) % 2 ≡ 1 = omega (arith, some) in
          let set : has_bit 7 flags ≡ true = (Decides-eqb ((flags / 128) % 2) 1).1 odd in
          let no : true ≡ false = sym set ∙ e in absurd cc
    ]
