use Rattle.std.proofs.Common.{arith, ap, ◌∙◌}
use Rattle.std.proofs.lemmas.Result.{err_from_is_err_and}
use lib.Dec.{leb-zero}
use Rattle.szg_code.specs.Canonical.{CanonicalCode}
use Rattle.szg_file.specs.Format.{means}
use Rattle.szg_file.specs.File.{lowest_list, dictionary}
use Rattle.szg_file.specs.HeadPieces.{sizes_field}
use Rattle.szg_file.specs.Held.{subtable_of}
use Rattle.szg_file.proofs.Readers.ReadingLaws.{reads_then, reads_stopped, reads_nothing}
use Rattle.szg_file.proofs.Readers.PackedReads.{packed_steps, packed_of, packed_is, flag_is_clear, block_bits_field, span_bits_field, after_block, after_span, after_sizes, after_lowest}
use Rattle.szg_file.proofs.reading.heads.read_packed_head.Goals as goal

pub returns-in_err-span_bits-clause-head : goal.returns-in_err-span_bits-clause-head
returns-in_err-span_bits-clause-head g c =
    let flags = c.args.flags in
    let p = err_from_is_err_and c.from_residual-in_err-span_bits.result c.from_residual-in_err-span_bits.ensures.1 in
    rw (p.1, p.2, packed_steps flags)
    (reads_then block_bits_field (after_block flags) (λ b. b) subtable_of c.in_ok-block_bits.block_bits (simp leb-zero at c.in_ok-block_bits.ensures.byte)
    (reads_stopped span_bits_field (after_span flags c.in_ok-block_bits.block_bits) (λ b. b) subtable_of c.in_err-span_bits.field-0.0 c.in_err-span_bits.ensures.byte))

pub returns-in_err-sizes-clause-head : goal.returns-in_err-sizes-clause-head
returns-in_err-sizes-clause-head g c =
    let flags = c.args.flags in
    let bb = c.in_ok-block_bits.block_bits in
    let sb = c.in_ok-span_bits.span_bits in
    let p = err_from_is_err_and c.from_residual-in_err-sizes.result c.from_residual-in_err-sizes.ensures.1 in
    rw (p.1, p.2, packed_steps flags)
    (reads_then block_bits_field (after_block flags) (λ b. b) subtable_of bb (simp leb-zero at c.in_ok-block_bits.ensures.byte)
    (reads_then span_bits_field (after_span flags bb) (λ b. b) subtable_of sb c.in_ok-span_bits.ensures.byte
    (reads_stopped sizes_field (after_sizes flags bb sb) (λ z. z) subtable_of c.in_err-sizes.field-0.0 c.in_err-sizes.ensures.sizes)))

pub read_lowest-requires-clause-place : goal.read_lowest-requires-clause-place
read_lowest-requires-clause-place g c =
    let a = c.in_ok-block_bits.ensures.place in
    let b = c.in_ok-span_bits.ensures.place in
    let d = c.in_ok-sizes.ensures.place in
    let place = c.requires.place in
    omega (arith, a, b, d, place)

pub returns-in_err-lowest-clause-head : goal.returns-in_err-lowest-clause-head
returns-in_err-lowest-clause-head g c =
    let flags = c.args.flags in
    let bb = c.in_ok-block_bits.block_bits in
    let sb = c.in_ok-span_bits.span_bits in
    let sizes = c.in_ok-sizes.sizes in
    let p = err_from_is_err_and c.from_residual-in_err-lowest.result c.from_residual-in_err-lowest.ensures.1 in
    rw (p.1, p.2, packed_steps flags)
    (reads_then block_bits_field (after_block flags) (λ b. b) subtable_of bb (simp leb-zero at c.in_ok-block_bits.ensures.byte)
    (reads_then span_bits_field (after_span flags bb) (λ b. b) subtable_of sb c.in_ok-span_bits.ensures.byte
    (reads_then sizes_field (after_sizes flags bb sb) (λ z. z) subtable_of sizes c.in_ok-sizes.ensures.sizes
    (reads_stopped (lowest_list sizes.min sizes.max) (after_lowest flags bb sb sizes) (λ k. k.lowest) subtable_of c.in_err-lowest.field-0.0 c.in_err-lowest.ensures.lowest))))

pub read_dictionary-requires-clause-growth_bound : goal.read_dictionary-requires-clause-growth_bound
read_dictionary-requires-clause-growth_bound g c =
    let a = c.in_ok-block_bits.ensures in
    let b = c.in_ok-span_bits.ensures in
    let d = c.in_ok-sizes.ensures in
    let e = c.in_ok-lowest.ensures in
    omega (arith, a.place, b.place, d.place, e.place, a.growth, b.growth, d.growth, e.growth, c.requires.growth_bound)

pub read_dictionary-requires-clause-place : goal.read_dictionary-requires-clause-place
read_dictionary-requires-clause-place g c =
    let a = c.in_ok-block_bits.ensures.place in
    let b = c.in_ok-span_bits.ensures.place in
    let d = c.in_ok-sizes.ensures.place in
    let e = c.in_ok-lowest.ensures.place in
    let place = c.requires.place in
    omega (arith, a, b, d, e, place)

pub returns-in_err-dict-clause-head : goal.returns-in_err-dict-clause-head
returns-in_err-dict-clause-head g c =
    let flags = c.args.flags in
    let bb = c.in_ok-block_bits.block_bits in
    let sb = c.in_ok-span_bits.span_bits in
    let sizes = c.in_ok-sizes.sizes in
    let lowest = c.in_ok-lowest.lowest in
    let p = err_from_is_err_and c.from_residual-in_err-dict.result c.from_residual-in_err-dict.ensures.1 in
    rw (p.1, p.2, packed_steps flags)
    (reads_then block_bits_field (after_block flags) (λ b. b) subtable_of bb (simp leb-zero at c.in_ok-block_bits.ensures.byte)
    (reads_then span_bits_field (after_span flags bb) (λ b. b) subtable_of sb c.in_ok-span_bits.ensures.byte
    (reads_then sizes_field (after_sizes flags bb sb) (λ z. z) subtable_of sizes c.in_ok-sizes.ensures.sizes
    (reads_then (lowest_list sizes.min sizes.max) (after_lowest flags bb sb sizes) (λ k. k.lowest) subtable_of lowest c.in_ok-lowest.ensures.lowest
    (reads_stopped dictionary (λ entries. means (packed_of flags bb sb sizes lowest.lowest entries)) (λ d. d) subtable_of c.in_err-dict.field-0.0 c.in_err-dict.ensures.dictionary)))))

pub returns-clause-head : goal.returns-clause-head
returns-clause-head g c =
    let flags = c.args.flags in
    let bb = c.in_ok-block_bits.block_bits in
    let sb = c.in_ok-span_bits.span_bits in
    let sizes = c.in_ok-sizes.sizes in
    let lowest = c.in_ok-lowest.lowest in
    let dict = c.in_ok-dict.dict in
    rw (packed_steps flags)
    (reads_then block_bits_field (after_block flags) (λ b. b) subtable_of bb (simp leb-zero at c.in_ok-block_bits.ensures.byte)
    (reads_then span_bits_field (after_span flags bb) (λ b. b) subtable_of sb c.in_ok-span_bits.ensures.byte
    (reads_then sizes_field (after_sizes flags bb sb) (λ z. z) subtable_of sizes c.in_ok-sizes.ensures.sizes
    (reads_then (lowest_list sizes.min sizes.max) (after_lowest flags bb sb sizes) (λ k. k.lowest) subtable_of lowest c.in_ok-lowest.ensures.lowest
    (reads_then dictionary (λ entries. means (packed_of flags bb sb sizes lowest.lowest entries)) (λ d. d) subtable_of dict c.in_ok-dict.ensures.dictionary
    (reads_nothing (means (packed_of flags bb sb sizes lowest.lowest dict)) subtable_of _
    (ap means (packed_is flags bb sb sizes lowest c.with_symbols-code.result c.symbols.result dict c.new.result.items c.new-2.result.items c.new-3.result.items
    c.in_ok-lowest.ensures.code c.with_symbols-code.ensures.code c.symbols.ensures.number c.new.ensures.items c.new-2.ensures.items c.new-3.ensures.items))))))))

pub returns-clause-headed : goal.returns-clause-headed
returns-clause-headed g c = (
  flag_is_clear c.args.flags c.requires.flags,
  (
    c.in_ok-block_bits.ensures.most,
    c.in_ok-span_bits.ensures.least,
    c.in_ok-span_bits.ensures.most,
    ap (λ (k : CanonicalCode). k.symbols) c.with_symbols-code.ensures.code ∙ c.symbols.ensures.number,
  ),
)
