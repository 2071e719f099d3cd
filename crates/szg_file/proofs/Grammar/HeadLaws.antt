-- The headers: a header that is read is spelled by the sections of its subtable, and satisfies the conditions.
use Rattle.std.proofs.Common.{◌≡◌, ℕ, suc, ◌+◌, ◌-◌, ◌*◌, ◌^◌, ◌/◌, ◌%◌, ◌<◌, ◌≤◌, Bool, true, false, cond, List, [], ◌∷◌, ◌++◌, length, map, drop, refl, sym, ap, subst, ◌∙◌, arith, inl, inr, None}
use Rattle.std.specs.Prelude.{flat_map, IsTrue, nat_lt, nat_le, ◌&&◌}
use Rattle.std.specs.List.{AllByRecursion}
use Rattle.std.proofs.lemmas.Bool.{ltb-true, leb-true, cases_lt, and_parts}
use Rattle.std.proofs.lemmas.Bool.Decides.{Decides-eqb}
use Rattle.szg_file.specs.declared.fault.Reason.{Reason}
use Rattle.szg_file.specs.declared.fault.Reason.TheVariants as reason
use Rattle.szg_file.specs.Format.{Format, means, fill, placed, good, verdict, ◌>>=◌, ◌>>◌}
use Rattle.szg_code.specs.Canonical.{CanonicalCode}
use Rattle.szg_code.specs.FirstFault.{first_rise, first_overfull}
use Rattle.szg_pairs.specs.FirstFault.{first_child, first_cycle, first_long}
use Rattle.szg_file.specs.Contents.{Head, Subtable, constant, pairs, number_of, bytes_of, has_bit, Slot}
use Rattle.szg_file.specs.File.{demand, number_field, rows_field, byte_where, lengths_of_words, none_fails, code_with, lowest_check, lowest_list, entries_check, dictionary, packed_head, head_field}
use Rattle.szg_file.specs.FileOf.{Section, written, spare, head_sections}
use Rattle.szg_file.specs.Accepted.{AreNumbers, AreBytes, HasRoom, AllExpand, IsHead}
use Rattle.szg_file.proofs.Grammar.FileLaws.{Spells, Spells-then, Sound, parts, AreNumbers-split, AreNumbers-join, sound_number, sound_rows, sound_means, sound_demand, sound_none_fails, sound_placed, sound_as, sound_after, sound_value, sound_then, sound_fill, bytes_of-number_of, number_of-small, one_byte}

-- ---- sequences of steps, each with its sections

pub record Read {A : Type 0} (f : Format A) (S : A → List Section → Type 0) : Type 0 where
  pub read : (place : ℕ) (bytes : List ℕ) (a : A) (filled : List ℕ) → AreNumbers 1 bytes → verdict f place bytes ≡ good a filled [] →
      (sections : List Section) × Spells place bytes sections filled × AreNumbers 1 filled × S a sections

pub read_of : {A : Type 0} (f : Format A) (s : A → List Section) (P : A → Type 0) → Sound f s P → Read f (λ a z. (z ≡ s a) × P a)
read_of f s P h = record {
  read = λ place bytes a filled small e. let x = h.sound place bytes a filled small e in (s a, x.0, x.1, (refl, x.2));
}

-- the results of one step and of the remaining ones
pub record Linked {A B : Type 0} (S : A → List Section → Type 0) (T : A → B → List Section → Type 0) (b : B) (sections : List Section) : Type 0 where
  pub value : A
  pub front : List Section
  pub back : List Section
  pub joint : sections ≡ front ++ back
  pub step : S value front
  pub rest : T value b back

pub read_then : {A B : Type 0} (f : Format A) (g : A → Format B) (S : A → List Section → Type 0) (T : A → B → List Section → Type 0) →
    Read f S → ((a : A) → Read (g a) (T a)) → Read (f >>= g) (Linked S T)
read_then f g S T first second = record {
  read = λ place bytes b filled small e.
      let p = parts f g place bytes b filled [] e in
      let halves = AreNumbers-split 1 p.first p.others (subst (λ (z : List ℕ). AreNumbers 1 z) p.bytes_are small) in
      let x = first.read place p.first p.value p.first_fill halves.0 p.is_first in
      let y = (second p.value).read (place + length p.first) p.others b p.other_fill halves.1 p.is_other in (
        x.0 ++ y.0,
        subst (λ (z : List ℕ). Spells place bytes (x.0 ++ y.0) z) (sym p.fill_is)
            (subst (λ (z : List ℕ). Spells place z (x.0 ++ y.0) (p.first_fill ++ p.other_fill)) (sym p.bytes_are)
            (Spells-then place p.first p.others x.0 y.0 p.first_fill p.other_fill x.1 y.1)),
        subst (λ (z : List ℕ). AreNumbers 1 z) (sym p.fill_is) (AreNumbers-join 1 p.first_fill p.other_fill x.2 y.2),
        record { value = p.value; front = x.0; back = y.0; joint = refl; step = x.3; rest = y.3 },
      );
}

pub sound_of : {A : Type 0} (f : Format A) (S : A → List Section → Type 0) (s : A → List Section) (P : A → Type 0) →
    Read f S → ((a : A) (z : List Section) → S a z → (z ≡ s a) × P a) → Sound f s P
sound_of f S s P h agree = record {
  sound = λ place bytes a filled small e.
      let x = h.read place bytes a filled small e in
      let k = agree a x.0 x.3 in
      (subst (λ (z : List Section). Spells place bytes z filled) k.0 x.1, x.2, k.1);
}

-- ---- bytes

pub sound_byte : Sound (number_field 1) (λ byte. written (byte ∷ []) ∷ []) (λ byte. byte < 256)
sound_byte = sound_as (number_field 1) (λ byte. written (bytes_of 1 byte) ∷ []) (λ byte. written (byte ∷ []) ∷ []) (λ byte. byte < 256 ^ 1) (λ byte. byte < 256)
    (sound_number 1) (λ byte small. (ap (λ (z : List ℕ). written z ∷ []) (one_byte byte small), small))

pub sound_byte_where : (test : ℕ → Bool) (why : Reason) → Sound (byte_where test why) (λ byte. written (byte ∷ []) ∷ []) (λ byte. (byte < 256) × IsTrue (test byte))
sound_byte_where test why =
    sound_placed (λ place. number_field 1 >>= λ byte. demand (test byte) place why >> means byte) (λ byte. written (byte ∷ []) ∷ []) (λ byte. (byte < 256) × IsTrue (test byte))
    (λ place. sound_then (number_field 1) (λ byte. demand (test byte) place why >> means byte) (λ byte. written (byte ∷ []) ∷ []) (λ _ _. []) (λ byte. written (byte ∷ []) ∷ [])
    (λ byte. byte < 256) (λ byte b. IsTrue (test byte) × (b ≡ byte)) (λ byte. (byte < 256) × IsTrue (test byte))
    sound_byte
    (λ byte _. sound_after (demand (test byte) place why) (means byte) (λ _. []) (IsTrue (test byte)) (λ b. b ≡ byte) (sound_demand (test byte) place why) (sound_means byte (λ b. b ≡ byte) refl))
    (λ byte b small q. (ap (λ (n : ℕ). written (n ∷ []) ∷ []) (sym q.1), subst (λ (n : ℕ). (n < 256) × IsTrue (test n)) (sym q.1) (small, q.0))))

-- ---- lists of numbers

pub numbers_of_rows : (size : ℕ) (rows : List (List ℕ)) → AllByRecursion (AreBytes size) rows →
    (flat_map (λ (row : List ℕ). row) rows ≡ flat_map (bytes_of size) (map number_of rows)) × AreNumbers size (map number_of rows) × (length (map number_of rows) ≡ length rows)
numbers_of_rows size [] h = (refl, tt, refl)
numbers_of_rows size (row ∷ rows) h =
    let r = numbers_of_rows size rows h.1 in
    let back : bytes_of size (number_of row) ≡ row = ap (λ (k : ℕ). bytes_of k (number_of row)) (sym h.0.0) ∙ bytes_of-number_of row h.0.1 in
    let small : number_of row < 256 ^ size = subst (λ (k : ℕ). number_of row < 256 ^ k) h.0.0 (number_of-small row h.0.1) in (
      ap (λ (z : List ℕ). row ++ z) r.0 ∙ ap (λ (z : List ℕ). z ++ flat_map (bytes_of size) (map number_of rows)) (sym back),
      (small, r.1),
      ap (λ (n : ℕ). suc n) r.2,
    )

-- ---- the code

pub record AreWordLengths (words : ℕ × ℕ) : Type 0 where
  pub some : 0 < words.0
  pub ordered : words.0 ≤ words.1
  pub few : words.1 ≤ 32

word_lengths : (min max : ℕ) → IsTrue (nat_lt 0 min && nat_le min max && nat_le max 32) → AreWordLengths (min, max)
word_lengths min max e =
    let a = and_parts (nat_lt 0 min && nat_le min max) (nat_le max 32) e in
    let b = and_parts (nat_lt 0 min) (nat_le min max) a.0 in
    record { some = ltb-true 0 min b.0; ordered = leb-true min max b.1; few = leb-true max 32 a.1 }

pub sound_words : Sound lengths_of_words (λ words. written (words.1 ∷ []) ∷ written (words.0 ∷ []) ∷ []) AreWordLengths
sound_words =
    sound_placed (λ place. number_field 1 >>= λ max. number_field 1 >>= λ min. demand (nat_lt 0 min && nat_le min max && nat_le max 32) place reason.CodeLengths >> means (min, max))
    (λ words. written (words.1 ∷ []) ∷ written (words.0 ∷ []) ∷ []) AreWordLengths
    (λ place. sound_of (number_field 1 >>= λ max. number_field 1 >>= λ min. demand (nat_lt 0 min && nat_le min max && nat_le max 32) place reason.CodeLengths >> means (min, max))
    (Linked (λ max z. (z ≡ written (max ∷ []) ∷ []) × (max < 256))
    (λ max. Linked (λ min z. (z ≡ written (min ∷ []) ∷ []) × (min < 256)) (λ min words z. (z ≡ []) × (IsTrue (nat_lt 0 min && nat_le min max && nat_le max 32) × (words ≡ (min, max))))))
    (λ words. written (words.1 ∷ []) ∷ written (words.0 ∷ []) ∷ []) AreWordLengths
    (read_then (number_field 1) (λ max. number_field 1 >>= λ min. demand (nat_lt 0 min && nat_le min max && nat_le max 32) place reason.CodeLengths >> means (min, max))
    (λ max z. (z ≡ written (max ∷ []) ∷ []) × (max < 256))
    (λ max. Linked (λ min z. (z ≡ written (min ∷ []) ∷ []) × (min < 256)) (λ min words z. (z ≡ []) × (IsTrue (nat_lt 0 min && nat_le min max && nat_le max 32) × (words ≡ (min, max)))))
    (read_of (number_field 1) (λ byte. written (byte ∷ []) ∷ []) (λ byte. byte < 256) sound_byte)
    (λ max. read_then (number_field 1) (λ min. demand (nat_lt 0 min && nat_le min max && nat_le max 32) place reason.CodeLengths >> means (min, max))
    (λ min z. (z ≡ written (min ∷ []) ∷ []) × (min < 256)) (λ min words z. (z ≡ []) × (IsTrue (nat_lt 0 min && nat_le min max && nat_le max 32) × (words ≡ (min, max))))
    (read_of (number_field 1) (λ byte. written (byte ∷ []) ∷ []) (λ byte. byte < 256) sound_byte)
    (λ min. read_of (demand (nat_lt 0 min && nat_le min max && nat_le max 32) place reason.CodeLengths >> means (min, max)) (λ _. []) (λ words. IsTrue (nat_lt 0 min && nat_le min max && nat_le max 32) × (words ≡ (min, max)))
    (sound_after (demand (nat_lt 0 min && nat_le min max && nat_le max 32) place reason.CodeLengths) (means (min, max)) (λ _. []) (IsTrue (nat_lt 0 min && nat_le min max && nat_le max 32)) (λ words. words ≡ (min, max))
    (sound_demand (nat_lt 0 min && nat_le min max && nat_le max 32) place reason.CodeLengths) (sound_means (min, max) (λ words. words ≡ (min, max)) refl)))))
    (λ words z q.
    let min : ℕ = q.rest.value in
    let max : ℕ = q.value in
    let same : words ≡ (min, max) = q.rest.rest.1.1 in (
      q.joint ∙ ap (λ (x : List Section). x ++ q.back) q.step.0
          ∙ ap (λ (x : List Section). written (max ∷ []) ∷ x) (q.rest.joint ∙ ap (λ (x : List Section). x ++ q.rest.back) q.rest.step.0 ∙ ap (λ (x : List Section). written (min ∷ []) ∷ x) q.rest.rest.0)
          ∙ ap (λ (w : ℕ × ℕ). written (w.1 ∷ []) ∷ written (w.0 ∷ []) ∷ []) (sym same),
      subst AreWordLengths (sym same) (word_lengths min max q.rest.rest.1.0),
    )))

sound_lowest_check : (place : ℕ) (code : CanonicalCode) → Sound (lowest_check place code) (λ _. []) (λ _. HasRoom code)
sound_lowest_check place code =
    sound_after (none_fails (first_rise code) (λ item. place + 2 * item) reason.LowestOrder) (none_fails (first_overfull code) (λ item. place + 2 * item) reason.TooFull) (λ _. [])
    (first_rise code ≡ None) (λ _. first_overfull code ≡ None)
    (sound_none_fails (first_rise code) (λ item. place + 2 * item) reason.LowestOrder) (sound_none_fails (first_overfull code) (λ item. place + 2 * item) reason.TooFull)

-- the conditions on the list of lowest symbols
pub record AreLowest (min max : ℕ) (lowest : List ℕ) : Type 0 where
  pub count : length lowest ≡ max + 1 - min
  pub small : AreNumbers 2 lowest
  pub is_valid : HasRoom (code_with min max lowest 0)

pub sound_lowest : (min max : ℕ) → Sound (lowest_list min max) (λ lowest. written (flat_map (bytes_of 2) lowest) ∷ []) (AreLowest min max)
sound_lowest min max =
    sound_placed (λ place. rows_field 2 (max + 1 - min) >>= λ list. lowest_check place (code_with min max (map number_of list) 0) >> means (map number_of list))
    (λ lowest. written (flat_map (bytes_of 2) lowest) ∷ []) (AreLowest min max)
    (λ place. sound_then (rows_field 2 (max + 1 - min)) (λ list. lowest_check place (code_with min max (map number_of list) 0) >> means (map number_of list))
    (λ list. written (flat_map (λ row. row) list) ∷ []) (λ _ _. []) (λ lowest. written (flat_map (bytes_of 2) lowest) ∷ [])
    (λ list. (length list ≡ max + 1 - min) × AllByRecursion (AreBytes 2) list)
    (λ list lowest. (HasRoom (code_with min max (map number_of list) 0)) × (lowest ≡ map number_of list)) (AreLowest min max)
    (sound_rows 2 (max + 1 - min))
    (λ list _. sound_after (lowest_check place (code_with min max (map number_of list) 0)) (means (map number_of list)) (λ _. [])
    (HasRoom (code_with min max (map number_of list) 0)) (λ lowest. lowest ≡ map number_of list)
    (sound_lowest_check place (code_with min max (map number_of list) 0)) (sound_means (map number_of list) (λ lowest. lowest ≡ map number_of list) refl))
    (λ list lowest p q.
    let n = numbers_of_rows 2 list p.1 in (
      ap (λ (z : List ℕ). written z ∷ []) n.0 ∙ ap (λ (l : List ℕ). written (flat_map (bytes_of 2) l) ∷ []) (sym q.1),
      subst (AreLowest min max) (sym q.1) (record { count = n.2 ∙ p.0; small = n.1; is_valid = q.0 }),
    )))

-- ---- the dictionary

sound_entries_check : (place : ℕ) (entries : List (List ℕ)) → Sound (entries_check place entries) (λ _. []) (λ _. AllExpand entries)
sound_entries_check place entries =
    sound_after (none_fails (first_child entries) (λ symbol. place + 3 * symbol) reason.Child)
    (none_fails (first_cycle entries) (λ symbol. place + 3 * symbol) reason.Cycle >> none_fails (first_long entries) (λ symbol. place + 3 * symbol) reason.LongSymbol) (λ _. [])
    (first_child entries ≡ None) (λ _. (first_cycle entries ≡ None) × (first_long entries ≡ None))
    (sound_none_fails (first_child entries) (λ symbol. place + 3 * symbol) reason.Child)
    (sound_after (none_fails (first_cycle entries) (λ symbol. place + 3 * symbol) reason.Cycle) (none_fails (first_long entries) (λ symbol. place + 3 * symbol) reason.LongSymbol) (λ _. [])
    (first_cycle entries ≡ None) (λ _. first_long entries ≡ None)
    (sound_none_fails (first_cycle entries) (λ symbol. place + 3 * symbol) reason.Cycle) (sound_none_fails (first_long entries) (λ symbol. place + 3 * symbol) reason.LongSymbol))

-- the conditions on the entries
pub record AreEntries (count : ℕ) (entries : List (List ℕ)) : Type 0 where
  pub counted : length entries ≡ count
  pub bytes : AllByRecursion (AreBytes 3) entries
  pub expand : AllExpand entries

sound_entries : (count : ℕ) → Sound (placed (λ place. rows_field 3 count >>= λ entries. entries_check place entries >> means entries))
    (λ entries. written (flat_map (λ entry. entry) entries) ∷ []) (AreEntries count)
sound_entries count =
    sound_placed (λ place. rows_field 3 count >>= λ entries. entries_check place entries >> means entries)
    (λ entries. written (flat_map (λ entry. entry) entries) ∷ []) (AreEntries count)
    (λ place. sound_then (rows_field 3 count) (λ entries. entries_check place entries >> means entries)
    (λ entries. written (flat_map (λ entry. entry) entries) ∷ []) (λ _ _. []) (λ entries. written (flat_map (λ entry. entry) entries) ∷ [])
    (λ entries. (length entries ≡ count) × AllByRecursion (AreBytes 3) entries)
    (λ entries list. (AllExpand entries) × (list ≡ entries)) (AreEntries count)
    (sound_rows 3 count)
    (λ entries _. sound_after (entries_check place entries) (means entries) (λ _. []) (AllExpand entries) (λ list. list ≡ entries)
    (sound_entries_check place entries) (sound_means entries (λ list. list ≡ entries) refl))
    (λ entries list p q. (
      ap (λ (l : List (List ℕ)). written (flat_map (λ (entry : List ℕ). entry) l) ∷ []) (sym q.1),
      subst (AreEntries count) (sym q.1) (record { counted = p.0; bytes = p.1; expand = q.0 }),
    )))

-- the conditions on a dictionary
pub record IsDictionary (entries : List (List ℕ)) : Type 0 where
  pub few : length entries < 2 ^ 16
  pub bytes : AllByRecursion (AreBytes 3) entries
  pub expand : AllExpand entries

abbrev pub dictionary_sections : List (List ℕ) → List Section
dictionary_sections entries = written (bytes_of 2 (length entries)) ∷ written (flat_map (λ entry. entry) entries) ∷ spare (length entries % 2) ∷ []

pub sound_dictionary : Sound dictionary dictionary_sections IsDictionary
sound_dictionary =
    sound_then (number_field 2) (λ count. placed (λ place. rows_field 3 count >>= λ entries. entries_check place entries >> means entries) >>= λ entries. fill (count % 2) (means entries))
    (λ count. written (bytes_of 2 count) ∷ []) (λ count entries. written (flat_map (λ entry. entry) entries) ∷ spare (count % 2) ∷ []) dictionary_sections
    (λ count. count < 256 ^ 2) AreEntries IsDictionary
    (sound_number 2)
    (λ count _. sound_then (placed (λ place. rows_field 3 count >>= λ entries. entries_check place entries >> means entries)) (λ entries. fill (count % 2) (means entries))
    (λ entries. written (flat_map (λ entry. entry) entries) ∷ []) (λ _ _. spare (count % 2) ∷ []) (λ entries. written (flat_map (λ entry. entry) entries) ∷ spare (count % 2) ∷ [])
    (AreEntries count) (λ entries list. entries ≡ list) (AreEntries count)
    (sound_entries count)
    (λ entries _. sound_fill (count % 2) entries)
    (λ entries list p same. (
      ap (λ (l : List (List ℕ)). written (flat_map (λ (entry : List ℕ). entry) l) ∷ spare (count % 2) ∷ []) same,
      subst (AreEntries count) same p,
    )))
    (λ count entries small q. (
      ap (λ (n : ℕ). written (bytes_of 2 n) ∷ written (flat_map (λ (entry : List ℕ). entry) entries) ∷ spare (n % 2) ∷ []) (sym q.counted),
      record { few = omega (arith, small, q.counted); bytes = q.bytes; expand = q.expand },
    ))

-- ---- the header of a subtable that is not constant

abbrev pub packed_rest : ℕ → ℕ → ℕ → ℕ → ℕ → Format Subtable
packed_rest flags block_bits span_bits extra blocks = do
  words ← lengths_of_words
  lowest ← lowest_list words.0 words.1
  entries ← dictionary
  means (pairs (record {
    flags = flags;
    block_bits = block_bits;
    span_bits = span_bits;
    extra = extra;
    blocks = blocks;
    code = code_with words.0 words.1 lowest (length entries);
    entries = entries;
  }) [] [] [])

abbrev pub Step : {A : Type 0} → (A → List Section) → (A → Type 0) → A → List Section → Type 0
Step s P a z = (z ≡ s a) × P a

abbrev pub Ends : {A : Type 0} → A → A → List Section → Type 0
Ends value a z = (z ≡ []) × (a ≡ value)

pub read_means : {A : Type 0} (a : A) → Read (means a) (Ends a)
read_means a = read_of (means a) (λ _. []) (λ b. b ≡ a) (sound_means a (λ b. b ≡ a) refl)

abbrev byte_section : ℕ → List Section
byte_section byte = written (byte ∷ []) ∷ []

abbrev words_sections : ℕ × ℕ → List Section
words_sections words = written (words.1 ∷ []) ∷ written (words.0 ∷ []) ∷ []

abbrev lowest_sections : List ℕ → List Section
lowest_sections lowest = written (flat_map (bytes_of 2) lowest) ∷ []

-- the properties of all sections of the header, step by step
abbrev PackedChain : ℕ → Subtable → List Section → Type 0
PackedChain flags =
    Linked (Step byte_section (λ bits. (bits < 256) × IsTrue (nat_le bits 18))) (λ block_bits.
    Linked (Step byte_section (λ bits. (bits < 256) × IsTrue (nat_lt 0 bits && nat_le bits 31))) (λ span_bits.
    Linked (Step byte_section (λ extra. extra < 256)) (λ extra.
    Linked (Step (λ blocks. written (bytes_of 4 blocks) ∷ []) (λ blocks. blocks < 256 ^ 4)) (λ blocks.
    Linked (Step words_sections AreWordLengths) (λ words.
    Linked (Step lowest_sections (AreLowest words.0 words.1)) (λ lowest.
    Linked (Step dictionary_sections IsDictionary) (λ entries.
    Ends (pairs (record {
      flags = flags;
      block_bits = block_bits;
      span_bits = span_bits;
      extra = extra;
      blocks = blocks;
      code = code_with words.0 words.1 lowest (length entries);
      entries = entries;
    }) [] [] []))))))))

read_packed_head : (flags : ℕ) → Read (packed_head flags) (PackedChain flags)
read_packed_head flags =
    read_then (byte_where (λ bits. nat_le bits 18) reason.BlockBits) _ _ _
    (read_of (byte_where (λ bits. nat_le bits 18) reason.BlockBits) byte_section _ (sound_byte_where (λ bits. nat_le bits 18) reason.BlockBits)) (λ block_bits.
    read_then (byte_where (λ bits. nat_lt 0 bits && nat_le bits 31) reason.SpanBits) _ _ _
    (read_of (byte_where (λ bits. nat_lt 0 bits && nat_le bits 31) reason.SpanBits) byte_section _ (sound_byte_where (λ bits. nat_lt 0 bits && nat_le bits 31) reason.SpanBits)) (λ span_bits.
    read_then (number_field 1) _ _ _ (read_of (number_field 1) byte_section _ sound_byte) (λ extra.
    read_then (number_field 4) (λ blocks. packed_rest flags block_bits span_bits extra blocks) _ _ (read_of (number_field 4) (λ blocks. written (bytes_of 4 blocks) ∷ []) _ (sound_number 4)) (λ blocks.
    read_then lengths_of_words _ _ _ (read_of lengths_of_words words_sections _ sound_words) (λ words.
    read_then (lowest_list words.0 words.1) _ _ _ (read_of (lowest_list words.0 words.1) lowest_sections _ (sound_lowest words.0 words.1)) (λ lowest.
    read_then dictionary _ _ _ (read_of dictionary dictionary_sections _ sound_dictionary) (λ entries. read_means _)))))))

-- a header that was read: sparse index, block lengths and blocks are still empty
abbrev pub IsBegun : Subtable → Type 0
IsBegun (constant flags byte) = (128 ≤ flags) × (flags < 256) × (byte < 256)
IsBegun (pairs head sparse lengths packed) = IsHead head × (sparse ≡ []) × (lengths ≡ []) × (packed ≡ [])

bits_of : (bits : ℕ) → IsTrue (nat_lt 0 bits && nat_le bits 31) → (0 < bits) × (bits ≤ 31)
bits_of bits e = let p = and_parts (nat_lt 0 bits) (nat_le bits 31) e in (ltb-true 0 bits p.0, leb-true bits 31 p.1)

packed_head_is : (flags : ℕ) → flags < 128 → (subtable : Subtable) (z : List Section) → PackedChain flags subtable z →
    (written (flags ∷ []) ∷ z ≡ head_sections subtable) × IsBegun subtable
packed_head_is flags small subtable z q1 =
    let q2 = q1.rest in
    let q3 = q2.rest in
    let q4 = q3.rest in
    let q5 = q4.rest in
    let q6 = q5.rest in
    let q7 = q6.rest in
    let words : ℕ × ℕ = q5.value in
    let lowest : List ℕ = q6.value in
    let entries : List (List ℕ) = q7.value in
    let head : Head = record {
      flags = flags;
      block_bits = q1.value;
      span_bits = q2.value;
      extra = q3.value;
      blocks = q4.value;
      code = code_with words.0 words.1 lowest (length entries);
      entries = entries;
    } in
    let same : subtable ≡ pairs head [] [] [] = q7.rest.1 in
    let e7 : q6.back ≡ dictionary_sections entries = q7.joint ∙ ap (λ (x : List Section). x ++ q7.back) q7.step.0 ∙ ap (λ (x : List Section). dictionary_sections entries ++ x) q7.rest.0 in
    let e6 : q5.back ≡ lowest_sections lowest ++ dictionary_sections entries = q6.joint ∙ ap (λ (x : List Section). x ++ q6.back) q6.step.0 ∙ ap (λ (x : List Section). lowest_sections lowest ++ x) e7 in
    let e5 : q4.back ≡ words_sections words ++ (lowest_sections lowest ++ dictionary_sections entries) = q5.joint ∙ ap (λ (x : List Section). x ++ q5.back) q5.step.0 ∙ ap (λ (x : List Section). words_sections words ++ x) e6 in
    let e4 = q4.joint ∙ ap (λ (x : List Section). x ++ q4.back) q4.step.0 ∙ ap (λ (x : List Section). (written (bytes_of 4 q4.value) ∷ []) ++ x) e5 in
    let e3 = q3.joint ∙ ap (λ (x : List Section). x ++ q3.back) q3.step.0 ∙ ap (λ (x : List Section). byte_section q3.value ++ x) e4 in
    let e2 = q2.joint ∙ ap (λ (x : List Section). x ++ q2.back) q2.step.0 ∙ ap (λ (x : List Section). byte_section q2.value ++ x) e3 in
    let e1 = q1.joint ∙ ap (λ (x : List Section). x ++ q1.back) q1.step.0 ∙ ap (λ (x : List Section). byte_section q1.value ++ x) e2 in
    let span = bits_of q2.value q2.step.1.1 in
    let all : (written (flags ∷ []) ∷ z ≡ head_sections (pairs head [] [] [])) × IsBegun (pairs head [] [] []) = (
      ap (λ (x : List Section). written (flags ∷ []) ∷ x) e1,
      (
        record {
          flags = small;
          block_bits = leb-true q1.value 18 q1.step.1.1;
          span_some = span.0;
          span_bits = span.1;
          extra = q3.step.1;
          blocks = q4.step.1;
          code = record { shortest = q5.step.1.some; shortest_first = q5.step.1.ordered; longest = q5.step.1.few; lengths = q6.step.1.count; fit = q6.step.1.small; is_valid = q6.step.1.is_valid };
          symbols = refl;
          symbols_fit = q7.step.1.few;
          entries = q7.step.1.bytes;
          expand = q7.step.1.expand;
        },
        refl,
        refl,
        refl,
      ),
    ) in
    subst (λ (s : Subtable). (written (flags ∷ []) ∷ z ≡ head_sections s) × IsBegun s) (sym same) all

-- ---- a header

pub sound_if : {A : Type 0} (b : Bool) (f g : Format A) (s : A → List Section) (P : A → Type 0) → (b ≡ true → Sound f s P) → (b ≡ false → Sound g s P) → Sound (cond b f g) s P
sound_if true f g s P h k = h refl
sound_if false f g s P h k = k refl

flag_set : (flags : ℕ) → flags < 256 → has_bit 7 flags ≡ true → 128 ≤ flags
flag_set flags small e = let odd : (flags / 128) % 2 ≡ 1 = (Decides-eqb ((flags / 128) % 2) 1).0 e in omega (arith, odd, small)

flag_clear : (flags : ℕ) → flags < 256 → has_bit 7 flags ≡ false → flags < 128
flag_clear flags small e =
    elim (cases_lt flags 128) [
      | inl lt ↦ lt
      | inr le ↦
          let odd : (flags / 128) % 2 ≡ 1 = omega (arith, le, small) in
          let set : has_bit 7 flags ≡ true = (Decides-eqb ((flags / 128) % 2) 1).1 odd in
          let no : true ≡ false = sym set ∙ e in absurd cc
    ]

pub sound_head : (slot : Slot) → Sound (head_field slot) head_sections IsBegun
sound_head slot =
    sound_then (number_field 1) (λ flags. cond (has_bit 7 flags) (number_field 1 >>= λ byte. means (constant flags byte)) (packed_head flags))
    byte_section (λ flags s. drop 1 (head_sections s)) head_sections (λ flags. flags < 256)
    (λ flags s. (written (flags ∷ []) ∷ drop 1 (head_sections s) ≡ head_sections s) × (flags < 256 → IsBegun s)) IsBegun
    sound_byte
    (λ flags small. sound_if (has_bit 7 flags) (number_field 1 >>= λ byte. means (constant flags byte)) (packed_head flags) (λ s. drop 1 (head_sections s))
    (λ s. (written (flags ∷ []) ∷ drop 1 (head_sections s) ≡ head_sections s) × (flags < 256 → IsBegun s))
    (λ set. sound_value (number_field 1) (λ byte. constant flags byte) byte_section (λ s. drop 1 (head_sections s)) (λ byte. byte < 256)
    (λ s. (written (flags ∷ []) ∷ drop 1 (head_sections s) ≡ head_sections s) × (flags < 256 → IsBegun s))
    sound_byte (λ byte b. (refl, (refl, λ _. (flag_set flags small set, small, b)))))
    (λ clear. sound_of (packed_head flags) (PackedChain flags) (λ s. drop 1 (head_sections s)) (λ s. (written (flags ∷ []) ∷ drop 1 (head_sections s) ≡ head_sections s) × (flags < 256 → IsBegun s))
    (read_packed_head flags)
    (λ s z q. let h = packed_head_is flags (flag_clear flags small clear) s z q in
    let tail : z ≡ drop 1 (head_sections s) = ap (λ (x : List Section). drop 1 x) h.0 in
    (tail, (ap (λ (x : List Section). written (flags ∷ []) ∷ x) (sym tail) ∙ h.0, λ _. h.1)))))
    (λ flags s small q. (q.0, q.1 small))
