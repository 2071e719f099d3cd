-- The format accepts the headers of an accepted table.
use Rattle.std.proofs.Common.{◌≡◌, ℕ, zero, suc, ◌+◌, ◌-◌, ◌*◌, ◌^◌, ◌/◌, ◌%◌, ◌<◌, ◌≤◌, Bool, true, false, cond, List, [], ◌∷◌, ◌++◌, length, map, take, drop, refl, sym, ap, subst, ◌∙◌, arith, Option, None}
use Rattle.std.specs.Prelude.{flat_map, IsTrue, nat_lt, nat_le, ◌&&◌}
use Rattle.std.specs.List.{AllByRecursion}
use Rattle.std.proofs.lemmas.Bool.{lt-ltb, le-leb, and_from}
use Rattle.std.proofs.lemmas.Bool.Decides.{Decides-eqb}
use Rattle.std.proofs.lemmas.List.{length-append}
use Rattle.szg_code.specs.Canonical.{CanonicalCode}
use Rattle.szg_code.specs.FirstFault.{first_rise, first_overfull}
use Rattle.szg_pairs.specs.FirstFault.{first_child, first_cycle, first_long}
use Rattle.szg_file.specs.declared.fault.Reason.{Reason}
use Rattle.szg_file.specs.declared.fault.Reason.TheVariants as reason
use Rattle.szg_file.specs.Format.{Format, means, fill, placed, ◌>>=◌, ◌>>◌}
use Rattle.szg_file.specs.Contents.{Head, Subtable, constant, pairs, number_of, bytes_of, items, has_bit, Slot}
use Rattle.szg_file.specs.File.{demand, none_fails, number_field, rows_field, byte_where, lengths_of_words, code_with, lowest_check, lowest_list, entries_check, dictionary, packed_head, head_field}
use Rattle.szg_file.specs.FileOf.{Section, written, spare, head_sections}
use Rattle.szg_file.specs.Accepted.{AreNumbers, AreBytes, HasRoom, AllExpand, IsHead}
use Rattle.szg_file.proofs.Grammar.FormatLaws.{take_front, drop_front}
use Rattle.szg_file.proofs.Grammar.FileLaws.{number_of-bytes_of}
use Rattle.szg_file.proofs.Grammar.HeadLaws.{IsBegun, dictionary_sections}
use Rattle.szg_file.proofs.Grammar.CompleteLaws.{complete_field, complete_number, complete_fill}
use Rattle.szg_file.proofs.Grammar.GoodLaws.{At, Is, at_of, at_next, at_means, at_demand, at_placed, at_byte, at_byte_where}

-- ---- rows of numbers

pub bytes_of-bytes : (size n : ℕ) → AreBytes size (bytes_of size n)
bytes_of-bytes zero n = (refl, tt)
bytes_of-bytes (suc size) n =
    let r = bytes_of-bytes size (n / 256) in
    let low : n % 256 < 256 = omega arith in
    (ap suc r.0, (low, r.1))

pub rows_of : (size : ℕ) (list : List ℕ) → AreNumbers size list →
    (flat_map (λ (row : List ℕ). row) (map (bytes_of size) list) ≡ flat_map (bytes_of size) list) × (map number_of (map (bytes_of size) list) ≡ list)
    × (length (map (bytes_of size) list) ≡ length list) × AllByRecursion (AreBytes size) (map (bytes_of size) list)
rows_of size [] h = (refl, refl, refl, tt)
rows_of size (n ∷ list) h =
    let r = rows_of size list h.1 in (
      ap (λ (z : List ℕ). bytes_of size n ++ z) r.0,
      ap (λ (m : ℕ). m ∷ map number_of (map (bytes_of size) list)) (number_of-bytes_of size n h.0) ∙ ap (λ (z : List ℕ). n ∷ z) r.1,
      ap suc r.2,
      (bytes_of-bytes size n, r.3),
    )

items_of_rows : (size count : ℕ) (rows : List (List ℕ)) → length rows ≡ count → AllByRecursion (AreBytes size) rows →
    (items size count (flat_map (λ (row : List ℕ). row) rows) ≡ rows) × (length (flat_map (λ (row : List ℕ). row) rows) ≡ size * count)
items_of_rows size zero [] e h = (refl, omega arith)
items_of_rows size zero (row ∷ rows) e h = absurd (omega (arith, e))
items_of_rows size (suc count) [] e h = absurd (omega (arith, e))
items_of_rows size (suc count) (row ∷ rows) e h =
    let r = items_of_rows size count rows (omega (arith, e)) h.1 in
    let rest : List ℕ = flat_map (λ (row : List ℕ). row) rows in
    let front : take size (row ++ rest) ≡ row = take_front size row rest h.0.0 in
    let back : drop size (row ++ rest) ≡ rest = drop_front size row rest h.0.0 in
    let long : length row ≡ size = h.0.0 in
    let many : length rest ≡ size * count = r.1 in (
      ap (λ (z : List ℕ). z ∷ items size count (drop size (row ++ rest))) front ∙ ap (λ (z : List ℕ). row ∷ items size count z) back ∙ ap (λ (z : List (List ℕ)). row ∷ z) r.0,
      length-append row rest ∙ omega (arith, long, many),
    )

pub at_rows : (size count : ℕ) (rows : List (List ℕ)) → length rows ≡ count → AllByRecursion (AreBytes size) rows →
    At (rows_field size count) (written (flat_map (λ (row : List ℕ). row) rows) ∷ []) (Is rows)
at_rows size count rows long small =
    at_of (rows_field size count) (λ rows. written (flat_map (λ (row : List ℕ). row) rows) ∷ []) (λ rows. (length rows ≡ count) × AllByRecursion (AreBytes size) rows) rows
    (complete_field (size * count) (items size count) (λ rows. flat_map (λ (row : List ℕ). row) rows) (λ rows. (length rows ≡ count) × AllByRecursion (AreBytes size) rows)
    (λ rows p. let r = items_of_rows size count rows p.0 p.1 in (r.1, r.0)))
    (long, small)

pub at_number : (size n : ℕ) → n < 256 ^ size → At (number_field size) (written (bytes_of size n) ∷ []) (Is n)
at_number size n small = at_of (number_field size) (λ n. written (bytes_of size n) ∷ []) (λ n. n < 256 ^ size) n (complete_number size) small

-- ---- checks

pub at_none_fails : (item : Option ℕ) (at : ℕ → ℕ) (why : Reason) → item ≡ None → At (none_fails item at why) [] (Is tt)
at_none_fails item at why e = subst (λ (o : Option ℕ). At (none_fails o at why) [] (Is tt)) (sym e) (at_means tt)

at_lowest_check : (place : ℕ) (code : CanonicalCode) → HasRoom code → At (lowest_check place code) [] (Is tt)
at_lowest_check place code h =
    at_next (none_fails (first_rise code) (λ item. place + 2 * item) reason.LowestOrder) (λ _. none_fails (first_overfull code) (λ item. place + 2 * item) reason.TooFull) [] [] tt (Is tt)
    (at_none_fails (first_rise code) (λ item. place + 2 * item) reason.LowestOrder h.0) (at_none_fails (first_overfull code) (λ item. place + 2 * item) reason.TooFull h.1)

at_entries_check : (place : ℕ) (entries : List (List ℕ)) → AllExpand entries → At (entries_check place entries) [] (Is tt)
at_entries_check place entries h =
    at_next (none_fails (first_child entries) (λ symbol. place + 3 * symbol) reason.Child)
    (λ _. none_fails (first_cycle entries) (λ symbol. place + 3 * symbol) reason.Cycle >> none_fails (first_long entries) (λ symbol. place + 3 * symbol) reason.LongSymbol) [] [] tt (Is tt)
    (at_none_fails (first_child entries) (λ symbol. place + 3 * symbol) reason.Child h.0)
    (at_next (none_fails (first_cycle entries) (λ symbol. place + 3 * symbol) reason.Cycle) (λ _. none_fails (first_long entries) (λ symbol. place + 3 * symbol) reason.LongSymbol) [] [] tt (Is tt)
    (at_none_fails (first_cycle entries) (λ symbol. place + 3 * symbol) reason.Cycle h.1.0) (at_none_fails (first_long entries) (λ symbol. place + 3 * symbol) reason.LongSymbol h.1.1))

-- ---- the code

at_words : (min max : ℕ) → 0 < min → min ≤ max → max ≤ 32 → At lengths_of_words (written (max ∷ []) ∷ written (min ∷ []) ∷ []) (Is (min, max))
at_words min max some ordered few =
    let small_max : max < 256 = omega (arith, few) in
    let small_min : min < 256 = omega (arith, few, ordered) in
    let test : ℕ → ℕ → Bool = λ max min. nat_lt 0 min && nat_le min max && nat_le max 32 in
    let holds : IsTrue (test max min) = and_from (nat_lt 0 min && nat_le min max) (nat_le max 32) (and_from (nat_lt 0 min) (nat_le min max) (lt-ltb 0 min some) (le-leb min max ordered)) (le-leb max 32 few) in
    at_placed (λ place. number_field 1 >>= λ max. number_field 1 >>= λ min. demand (test max min) place reason.CodeLengths >> means (min, max)) (written (max ∷ []) ∷ written (min ∷ []) ∷ []) (Is (min, max))
    (λ place. at_next (number_field 1) (λ max. number_field 1 >>= λ min. demand (test max min) place reason.CodeLengths >> means (min, max)) (written (max ∷ []) ∷ []) (written (min ∷ []) ∷ []) max (Is (min, max)) (at_byte max small_max)
    (at_next (number_field 1) (λ min. demand (test max min) place reason.CodeLengths >> means (min, max)) (written (min ∷ []) ∷ []) [] min (Is (min, max)) (at_byte min small_min)
    (at_next (demand (test max min) place reason.CodeLengths) (λ _. means (min, max)) [] [] tt (Is (min, max)) (at_demand (test max min) place reason.CodeLengths holds) (at_means (min, max)))))

at_lowest : (min max : ℕ) (lowest : List ℕ) → length lowest ≡ max + 1 - min → AreNumbers 2 lowest → HasRoom (code_with min max lowest 0) →
    At (lowest_list min max) (written (flat_map (bytes_of 2) lowest) ∷ []) (Is lowest)
at_lowest min max lowest long fit is_valid =
    let r = rows_of 2 lowest fit in
    let rows : List (List ℕ) = map (bytes_of 2) lowest in
    let next : ℕ → List (List ℕ) → Format (List ℕ) = λ place list. lowest_check place (code_with min max (map number_of list) 0) >> means (map number_of list) in
    at_placed (λ place. rows_field 2 (max + 1 - min) >>= next place) (written (flat_map (bytes_of 2) lowest) ∷ []) (Is lowest)
    (λ place. subst (λ (z : List ℕ). At (rows_field 2 (max + 1 - min) >>= next place) (written z ∷ []) (Is lowest)) r.0
    (at_next (rows_field 2 (max + 1 - min)) (next place) (written (flat_map (λ (row : List ℕ). row) rows) ∷ []) [] rows (Is lowest)
    (at_rows 2 (max + 1 - min) rows (r.2 ∙ long) r.3)
    (subst (λ (l : List ℕ). At (lowest_check place (code_with min max l 0) >> means l) [] (Is lowest)) (sym r.1)
    (at_next (lowest_check place (code_with min max lowest 0)) (λ _. means lowest) [] [] tt (Is lowest) (at_lowest_check place (code_with min max lowest 0) is_valid) (at_means lowest)))))

-- ---- the dictionary

abbrev entries_field : ℕ → Format (List (List ℕ))
entries_field count = placed (λ place. rows_field 3 count >>= λ entries. entries_check place entries >> means entries)

at_entries : (entries : List (List ℕ)) → AllByRecursion (AreBytes 3) entries → AllExpand entries → At (entries_field (length entries)) (written (flat_map (λ (row : List ℕ). row) entries) ∷ []) (Is entries)
at_entries entries bytes expand =
    at_placed (λ place. rows_field 3 (length entries) >>= λ entries. entries_check place entries >> means entries) (written (flat_map (λ (row : List ℕ). row) entries) ∷ []) (Is entries)
    (λ place. at_next (rows_field 3 (length entries)) (λ entries. entries_check place entries >> means entries) (written (flat_map (λ (row : List ℕ). row) entries) ∷ []) [] entries (Is entries)
    (at_rows 3 (length entries) entries refl bytes)
    (at_next (entries_check place entries) (λ _. means entries) [] [] tt (Is entries) (at_entries_check place entries expand) (at_means entries)))

at_dictionary : (entries : List (List ℕ)) → length entries < 2 ^ 16 → AllByRecursion (AreBytes 3) entries → AllExpand entries → At dictionary (dictionary_sections entries) (Is entries)
at_dictionary entries few bytes expand =
    at_next (number_field 2) (λ count. entries_field count >>= λ entries. fill (count % 2) (means entries)) (written (bytes_of 2 (length entries)) ∷ [])
    (written (flat_map (λ (row : List ℕ). row) entries) ∷ spare (length entries % 2) ∷ []) (length entries) (Is entries)
    (at_number 2 (length entries) few)
    (at_next (entries_field (length entries)) (λ list. fill (length entries % 2) (means list)) (written (flat_map (λ (row : List ℕ). row) entries) ∷ []) (spare (length entries % 2) ∷ []) entries (Is entries)
    (at_entries entries bytes expand)
    (at_of (fill (length entries % 2) (means entries)) (λ _. spare (length entries % 2) ∷ []) (λ list. list ≡ entries) entries (complete_fill (length entries % 2) entries) refl))

-- ---- the header of a subtable that is not constant

abbrev head_with : ℕ → ℕ → ℕ → ℕ → ℕ → ℕ × ℕ → List ℕ → List (List ℕ) → ℕ → Subtable
head_with flags block_bits span_bits extra blocks words lowest entries symbols = pairs (record {
  flags = flags;
  block_bits = block_bits;
  span_bits = span_bits;
  extra = extra;
  blocks = blocks;
  code = code_with words.0 words.1 lowest symbols;
  entries = entries;
}) [] [] []

abbrev after_lowest : ℕ → ℕ → ℕ → ℕ → ℕ → ℕ × ℕ → List ℕ → Format Subtable
after_lowest flags block_bits span_bits extra blocks words lowest =
    dictionary >>= λ entries. means (head_with flags block_bits span_bits extra blocks words lowest entries (length entries))

abbrev after_words : ℕ → ℕ → ℕ → ℕ → ℕ → ℕ × ℕ → Format Subtable
after_words flags block_bits span_bits extra blocks words = lowest_list words.0 words.1 >>= λ lowest. after_lowest flags block_bits span_bits extra blocks words lowest

abbrev after_blocks : ℕ → ℕ → ℕ → ℕ → ℕ → Format Subtable
after_blocks flags block_bits span_bits extra blocks = lengths_of_words >>= λ words. after_words flags block_bits span_bits extra blocks words

abbrev after_extra : ℕ → ℕ → ℕ → ℕ → Format Subtable
after_extra flags block_bits span_bits extra = number_field 4 >>= λ blocks. after_blocks flags block_bits span_bits extra blocks

abbrev after_span : ℕ → ℕ → ℕ → Format Subtable
after_span flags block_bits span_bits = number_field 1 >>= λ extra. after_extra flags block_bits span_bits extra

abbrev after_bits : ℕ → ℕ → Format Subtable
after_bits flags block_bits = byte_where (λ bits. nat_lt 0 bits && nat_le bits 31) reason.SpanBits >>= λ span_bits. after_span flags block_bits span_bits

abbrev bare : Head → Subtable
bare head = pairs head [] [] []

at_packed : (head : Head) → IsHead head → At (packed_head head.flags) (drop 1 (head_sections (bare head))) (Is (bare head))
at_packed head h =
    let c : CanonicalCode = head.code in
    let words : ℕ × ℕ = (c.min_length, c.max_length) in
    let n : ℕ = length head.entries in
    let e : List Section = dictionary_sections head.entries in
    let l : List Section = written (flat_map (bytes_of 2) c.lowest) ∷ e in
    let w : List Section = written (c.max_length ∷ []) ∷ written (c.min_length ∷ []) ∷ l in
    let b : List Section = written (bytes_of 4 head.blocks) ∷ w in
    let x : List Section = written (head.extra ∷ []) ∷ b in
    let s : List Section = written (head.span_bits ∷ []) ∷ x in
    let W : Subtable → Type 0 = Is (bare head) in
    let same : head_with head.flags head.block_bits head.span_bits head.extra head.blocks words c.lowest head.entries n ≡ bare head =
    ap (λ (k : ℕ). head_with head.flags head.block_bits head.span_bits head.extra head.blocks words c.lowest head.entries k) (sym h.symbols) in
    let ends : At (means (head_with head.flags head.block_bits head.span_bits head.extra head.blocks words c.lowest head.entries n)) [] W =
    subst (λ (z : Subtable). At (means z) [] W) (sym same) (at_means (bare head)) in
    let p7 : At (after_lowest head.flags head.block_bits head.span_bits head.extra head.blocks words c.lowest) (e ++ []) W =
    at_next dictionary (λ entries. means (head_with head.flags head.block_bits head.span_bits head.extra head.blocks words c.lowest entries (length entries))) e [] head.entries W
    (at_dictionary head.entries h.symbols_fit h.entries h.expand) ends in
    let p6 : At (after_words head.flags head.block_bits head.span_bits head.extra head.blocks words) l W =
    at_next (lowest_list c.min_length c.max_length) (λ lowest. after_lowest head.flags head.block_bits head.span_bits head.extra head.blocks words lowest) (written (flat_map (bytes_of 2) c.lowest) ∷ []) e c.lowest W
    (at_lowest c.min_length c.max_length c.lowest h.code.lengths h.code.fit h.code.is_valid) p7 in
    let p5 : At (after_blocks head.flags head.block_bits head.span_bits head.extra head.blocks) w W =
    at_next lengths_of_words (λ words. after_words head.flags head.block_bits head.span_bits head.extra head.blocks words) (written (c.max_length ∷ []) ∷ written (c.min_length ∷ []) ∷ []) l words W
    (at_words c.min_length c.max_length h.code.shortest h.code.shortest_first h.code.longest) p6 in
    let p4 : At (after_extra head.flags head.block_bits head.span_bits head.extra) b W =
    at_next (number_field 4) (λ blocks. after_blocks head.flags head.block_bits head.span_bits head.extra blocks) (written (bytes_of 4 head.blocks) ∷ []) w head.blocks W
    (at_number 4 head.blocks h.blocks) p5 in
    let p3 : At (after_span head.flags head.block_bits head.span_bits) x W =
    at_next (number_field 1) (λ extra. after_extra head.flags head.block_bits head.span_bits extra) (written (head.extra ∷ []) ∷ []) b head.extra W (at_byte head.extra h.extra) p4 in
    let few_span : head.span_bits ≤ 31 = h.span_bits in
    let few_bits : head.block_bits ≤ 18 = h.block_bits in
    let p2 : At (after_bits head.flags head.block_bits) s W =
    at_next (byte_where (λ bits. nat_lt 0 bits && nat_le bits 31) reason.SpanBits) (λ span_bits. after_span head.flags head.block_bits span_bits) (written (head.span_bits ∷ []) ∷ []) x head.span_bits W
    (at_byte_where (λ bits. nat_lt 0 bits && nat_le bits 31) reason.SpanBits head.span_bits (omega (arith, few_span))
    (and_from (nat_lt 0 head.span_bits) (nat_le head.span_bits 31) (lt-ltb 0 head.span_bits h.span_some) (le-leb head.span_bits 31 h.span_bits))) p3 in
    at_next (byte_where (λ bits. nat_le bits 18) reason.BlockBits) (λ block_bits. after_bits head.flags block_bits) (written (head.block_bits ∷ []) ∷ []) s head.block_bits W
    (at_byte_where (λ bits. nat_le bits 18) reason.BlockBits head.block_bits (omega (arith, few_bits)) (le-leb head.block_bits 18 h.block_bits)) p2

-- ---- a header

pub at_first : {A : Type 0} (b : Bool) (f g : Format A) (z : List Section) (V : A → Type 0) → b ≡ true → At f z V → At (cond b f g) z V
at_first b f g z V e h = subst (λ (c : Bool). At (cond c f g) z V) (sym e) h

pub at_second : {A : Type 0} (b : Bool) (f g : Format A) (z : List Section) (V : A → Type 0) → b ≡ false → At g z V → At (cond b f g) z V
at_second b f g z V e h = subst (λ (c : Bool). At (cond c f g) z V) (sym e) h

set_flag : (flags : ℕ) → 128 ≤ flags → flags < 256 → has_bit 7 flags ≡ true
set_flag flags le small = let odd : (flags / 128) % 2 ≡ 1 = omega (arith, le, small) in (Decides-eqb ((flags / 128) % 2) 1).1 odd

clear_flag : (flags : ℕ) → flags < 128 → has_bit 7 flags ≡ false
clear_flag flags small = let none : flags / 128 ≡ 0 = omega (arith, small) in rw none refl

abbrev after_flags : ℕ → Format Subtable
after_flags flags = cond (has_bit 7 flags) (number_field 1 >>= λ byte. means (constant flags byte)) (packed_head flags)

pub at_head : (slot : Slot) (s : Subtable) → IsBegun s → At (head_field slot) (head_sections s) (Is s)
at_head slot (constant flags byte) h =
    at_next (number_field 1) after_flags (written (flags ∷ []) ∷ []) (written (byte ∷ []) ∷ []) flags (Is (constant flags byte)) (at_byte flags h.1)
    (at_first (has_bit 7 flags) (number_field 1 >>= λ byte. means (constant flags byte)) (packed_head flags) (written (byte ∷ []) ∷ []) (Is (constant flags byte)) (set_flag flags h.0 h.1)
    (at_next (number_field 1) (λ byte. means (constant flags byte)) (written (byte ∷ []) ∷ []) [] byte (Is (constant flags byte)) (at_byte byte h.2) (at_means (constant flags byte))))
at_head slot (pairs head sparse lengths packed) h =
    let same : bare head ≡ pairs head sparse lengths packed =
    ap (λ (z : _). pairs head z [] []) (sym h.1) ∙ ap (λ (z : _). pairs head sparse z []) (sym h.2) ∙ ap (λ (z : _). pairs head sparse lengths z) (sym h.3) in
    let small : head.flags < 128 = h.0.flags in
    subst (λ (z : Subtable). At (head_field slot) (head_sections (pairs head sparse lengths packed)) (Is z)) same
    (at_next (number_field 1) after_flags (written (head.flags ∷ []) ∷ []) (drop 1 (head_sections (bare head))) head.flags (Is (bare head)) (at_byte head.flags (omega (arith, small)))
    (at_second (has_bit 7 head.flags) (number_field 1 >>= λ byte. means (constant head.flags byte)) (packed_head head.flags) (drop 1 (head_sections (bare head))) (Is (bare head)) (clear_flag head.flags small)
    (at_packed head h.0)))
