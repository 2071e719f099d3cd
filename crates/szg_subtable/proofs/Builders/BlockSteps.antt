-- The steps of filling blocks: one more word, one more whole block, all blocks.
use Rattle.std.proofs.Common.{ℕ, ◌≡◌, ◌+◌, ◌-◌, ◌*◌, ◌%◌, ◌^◌, ◌<◌, ◌≤◌, Bool, List, [], ◌∷◌, ◌++◌, length, replicate, take, refl, sym, ap, subst, ◌∙◌, arith, inl, inr, length-append, append_assoc, append-nil}
use Rattle.std.specs.Prelude.{◌⊎◌}
use Rattle.std.specs.List.{concat}
use Rattle.std.proofs.Math.Nat.{pow-le-pow_right}
use Rattle.std.proofs.lemmas.List.{length-replicate, take_all}
use Rattle.std.proofs.lemmas.Grind.{flat_map-append}
use Rattle.szg_code.specs.Bits.{bits}
use Rattle.szg_code.specs.Canonical.{CanonicalCode, IsWord}
use Rattle.szg_code.specs.Spelling.{Spells}
use Rattle.szg_code.specs.Laws.{Appended}
use Rattle.szg_code.proofs.ByteBits.{bits-append}
use Rattle.szg_code.proofs.Numbers.{mod-small}
use Rattle.szg_code.proofs.ReadBack.{written_list_is_spelled}
use Rattle.szg_pairs.specs.Expansion.{expansion_of}
use Rattle.szg_subtable.specs.Pairing.{values_of}
use Rattle.szg_subtable.specs.Building.{AreFilled, IsBlockOf, IsFilling, IsCut, blocks_layout}
use Rattle.szg_subtable.proofs.Builders.Filling.{filled_none, filled_more}

-- appending one word more to words that were appended
Appended-last : (code : CanonicalCode) (symbols : List ℕ) (old new word : List Bool) (s : ℕ) → Appended code symbols old new → IsWord code word s → Appended code (symbols ++ s ∷ []) old (new ++ word)
Appended-last code [] old new word s h w = (word, w, ap (λ (z : List Bool). z ++ word) h)
Appended-last code (x ∷ symbols) old new word s h w = (h.0, h.1, Appended-last code symbols (old ++ h.0) new word s h.2 w)

concat-last : (lists : List (List ℕ)) (list : List ℕ) → concat (lists ++ list ∷ []) ≡ concat lists ++ list
concat-last [] list = append-nil list
concat-last (x ∷ lists) list = ap (λ (z : List ℕ). x ++ z) (concat-last lists list) ∙ sym (append_assoc x (concat lists) list)

block_spells : (code : CanonicalCode) (symbols : List ℕ) (b : ℕ) (words : List Bool) (block : List ℕ) → Appended code symbols [] words → IsBlockOf b words block → Spells code (bits block) symbols
block_spells code symbols b words block appended h =
    let stated = written_list_is_spelled code symbols [] words appended in
    let all : bits block ≡ stated.0 ++ h.rest = h.joined ∙ ap (λ (z : List Bool). z ++ h.rest) stated.1 in
    subst (λ (z : List Bool). Spells code z symbols) (sym all) (stated.2 h.rest)

-- whole blocks, and no symbol after them
filled_so_far : (code : CanonicalCode) (entries : List (List ℕ)) (b : ℕ) (symbols lengths packed : List ℕ) (lists : List (List ℕ)) → concat lists ≡ symbols →
    AreFilled (blocks_layout b code entries (length lengths) lengths) packed 0 lists → length packed ≡ length lengths * 2 ^ b → 4 * length lengths ≤ length (concat lists) →
    IsFilling code entries b symbols lengths packed [] 0
filled_so_far code entries b symbols lengths packed lists joined filled whole many = record {
  lists = lists;
  current = [];
  joined = append-nil (concat lists) ∙ joined;
  filled = filled;
  whole = whole;
  written = refl;
  stated = refl;
  fits = omega arith;
  most = omega arith;
  short_words = omega arith;
  short_symbols = omega arith;
  some = omega arith;
  many = many;
}

pub filling_none : (code : CanonicalCode) (entries : List (List ℕ)) (b : ℕ) (symbols lengths packed : List ℕ) (words : List Bool) (values : ℕ) → symbols ≡ [] → lengths ≡ [] → packed ≡ [] → words ≡ [] → values ≡ 0 →
    IsFilling code entries b symbols lengths packed words values
filling_none code entries b symbols lengths packed words values e1 e2 e3 e4 e5 =
    rw (e1, e2, e3, e4, e5) (filled_so_far code entries b [] [] [] [] refl (filled_none b code entries) (omega arith) (omega arith))

pub filling_more : (code : CanonicalCode) (entries : List (List ℕ)) (b : ℕ) (symbols lengths packed : List ℕ) (words word : List Bool) (values s n : ℕ) → IsFilling code entries b symbols lengths packed words values →
    IsWord code word s → length word ≤ 32 → n ≡ length (expansion_of entries s) → 1 ≤ n → n ≤ 256 → length words + length word ≤ 8 * 2 ^ b → values + n ≤ 65536 →
    IsFilling code entries b (symbols ++ s ∷ []) lengths packed (words ++ word) (values + n)
filling_more code entries b symbols lengths packed words word values s n h w short is some few fits most =
    let long : length (words ++ word) ≡ length words + length word = length-append words word in
    let count : length (h.current ++ s ∷ []) ≡ length h.current + 1 = length-append h.current (s ∷ []) in
    let apart : values_of entries (h.current ++ s ∷ []) ≡ values_of entries h.current ++ values_of entries (s ∷ []) = flat_map-append (expansion_of entries) h.current (s ∷ []) in
    let one : values_of entries (s ∷ []) ≡ expansion_of entries s = append-nil (expansion_of entries s) in
    let all : length (values_of entries (h.current ++ s ∷ [])) ≡ length (values_of entries h.current) + length (expansion_of entries s) =
    ap length apart ∙ length-append (values_of entries h.current) (values_of entries (s ∷ [])) ∙ ap (λ (z : List ℕ). length (values_of entries h.current) + length z) one in
    record {
      lists = h.lists;
      current = h.current ++ s ∷ [];
      joined = sym (append_assoc (concat h.lists) h.current (s ∷ [])) ∙ ap (λ (z : List ℕ). z ++ s ∷ []) h.joined;
      filled = h.filled;
      whole = h.whole;
      written = Appended-last code h.current [] words word s h.written w;
      stated = omega (arith, all, is, h.stated);
      fits = omega (arith, long, fits);
      most = most;
      short_words = omega (arith, long, count, short, h.short_words);
      short_symbols = omega (arith, count, few, h.short_symbols);
      some = omega (arith, count, some, h.some);
      many = h.many;
    }

-- the blocks after one more is whole
closed : (code : CanonicalCode) (entries : List (List ℕ)) (b : ℕ) (symbols lengths packed : List ℕ) (words : List Bool) (values : ℕ) (block : List ℕ) → (h : IsFilling code entries b symbols lengths packed words values) →
    IsBlockOf b words block → 0 < values → AreFilled (blocks_layout b code entries (length (lengths ++ (values - 1) ∷ [])) (lengths ++ (values - 1) ∷ [])) (packed ++ block) 0 (h.lists ++ h.current ∷ [])
closed code entries b symbols lengths packed words values block h is some =
    let count : length (lengths ++ (values - 1) ∷ []) ≡ length lengths + 1 = length-append lengths ((values - 1) ∷ []) in
    subst (λ (k : ℕ). AreFilled (blocks_layout b code entries k (lengths ++ (values - 1) ∷ [])) (packed ++ block) 0 (h.lists ++ h.current ∷ [])) (sym count)
    (filled_more b (length lengths) code entries lengths packed block h.current (values - 1) refl h.whole is.size
    (block_spells code h.current b words block h.written is) (omega (arith, some, h.stated)) h.filled)

closed_whole : (b : ℕ) (lengths packed block : List ℕ) (n : ℕ) → length packed ≡ length lengths * 2 ^ b → length block ≡ 2 ^ b → length (packed ++ block) ≡ length (lengths ++ n ∷ []) * 2 ^ b
closed_whole b lengths packed block n whole size =
    let count : length (lengths ++ n ∷ []) ≡ length lengths + 1 = length-append lengths (n ∷ []) in
    let one : (length lengths + 1) * 2 ^ b ≡ length lengths * 2 ^ b + 2 ^ b = omega arith in
    length-append packed block ∙ ap (λ (k : ℕ). k + length block) whole ∙ ap (λ (k : ℕ). length lengths * 2 ^ b + k) size ∙ sym one ∙ ap (λ (k : ℕ). k * 2 ^ b) (sym count)

-- A block is whole if a word of 32 bits, or one of 256 values, does not fit any more.
pub filling_closed : (code : CanonicalCode) (entries : List (List ℕ)) (b : ℕ) (symbols lengths packed : List ℕ) (words : List Bool) (values : ℕ) (block : List ℕ) → IsFilling code entries b symbols lengths packed words values →
    IsBlockOf b words block → 32 ≤ 2 ^ b → (8 * 2 ^ b < length words + 32) ⊎ (65536 < values + 256) → IsFilling code entries b symbols (lengths ++ (values - 1) ∷ []) (packed ++ block) [] 0
filling_closed code entries b symbols lengths packed words values block h is large full =
    let four : 4 ≤ length h.current = elim full [
      | inl bits_full ↦ omega (arith, bits_full, large, h.short_words)
      | inr values_full ↦ omega (arith, values_full, h.short_symbols)
    ] in
    let count : length (lengths ++ (values - 1) ∷ []) ≡ length lengths + 1 = length-append lengths ((values - 1) ∷ []) in
    let all : length (concat (h.lists ++ h.current ∷ [])) ≡ length (concat h.lists) + length h.current = ap length (concat-last h.lists h.current) ∙ length-append (concat h.lists) h.current in
    filled_so_far code entries b symbols (lengths ++ (values - 1) ∷ []) (packed ++ block) (h.lists ++ h.current ∷ []) (concat-last h.lists h.current ∙ h.joined)
    (closed code entries b symbols lengths packed words values block h is (omega (arith, four, h.some))) (closed_whole b lengths packed block (values - 1) h.whole is.size)
    (omega (arith, count, all, four, h.many))

-- The last block is whole, however many words it has.
pub filling_done : (code : CanonicalCode) (entries : List (List ℕ)) (b : ℕ) (symbols lengths packed : List ℕ) (words : List Bool) (values : ℕ) (block after blocks : List ℕ) → IsFilling code entries b symbols lengths packed words values →
    IsBlockOf b words block → 0 < values → length symbols < 2 ^ 33 → after ≡ lengths ++ (values - 1) ∷ [] → blocks ≡ packed ++ block →
    IsCut code entries b symbols (length after) after blocks
filling_done code entries b symbols lengths packed words values block after blocks h is some few e1 e2 =
    let count : length after ≡ length lengths + 1 = ap length e1 ∙ length-append lengths ((values - 1) ∷ []) in
    let all : length symbols ≡ length (concat h.lists) + length h.current = ap length (sym h.joined) ∙ length-append (concat h.lists) h.current in
    record {
      lists = h.lists ++ h.current ∷ [];
      joined = concat-last h.lists h.current ∙ h.joined;
      filled = subst (λ (z : List ℕ). AreFilled (blocks_layout b code entries (length z) z) blocks 0 (h.lists ++ h.current ∷ [])) (sym e1)
          (subst (λ (z : List ℕ). AreFilled (blocks_layout b code entries (length (lengths ++ (values - 1) ∷ [])) (lengths ++ (values - 1) ∷ [])) z 0 (h.lists ++ h.current ∷ [])) (sym e2)
          (closed code entries b symbols lengths packed words values block h is some));
      count = refl;
      few = omega (arith, count, all, few, h.many);
      whole = ap length e2 ∙ closed_whole b lengths packed block (values - 1) h.whole is.size ∙ ap (λ (z : List ℕ). length z * 2 ^ b) (sym e1);
    }

-- ---- for the bodies

pub block_large : (b : ℕ) → 5 ≤ b → 32 ≤ 2 ^ b
block_large b h = pow-le-pow_right {n = 2} (omega arith) {i = 5} {j = b} h

-- bytes that begin with the words, followed by zeros, are a block
pub padded_block : (b : ℕ) (words fill : List Bool) (bytes : List ℕ) (n : ℕ) → bits bytes ≡ words ++ fill → length bytes + n ≡ 2 ^ b → IsBlockOf b words (bytes ++ replicate n 0)
padded_block b words fill bytes n is whole = record {
  size = length-append bytes (replicate n 0) ∙ ap (λ (k : ℕ). length bytes + k) (length-replicate n 0) ∙ whole;
  rest = fill ++ bits (replicate n 0);
  joined = bits-append bytes (replicate n 0) ∙ ap (λ (z : List Bool). z ++ bits (replicate n 0)) is ∙ append_assoc words fill (bits (replicate n 0));
}

-- the list of bytes, filled up to the end of the block
pub resized : (old bytes packed all : List ℕ) (size end block : ℕ) → packed ≡ old ++ bytes → size ≡ length packed → length bytes ≤ block → end ≡ length old + block →
    all ≡ take end packed ++ replicate (end - size) 0 → all ≡ old ++ (bytes ++ replicate (block - length bytes) 0)
resized old bytes packed all size end block e sized fits is h =
    let long : length packed ≡ length old + length bytes = ap length e ∙ length-append old bytes in
    let rest : end - size ≡ block - length bytes = omega (arith, long, sized, is, fits) in
    h ∙ ap (λ (z : List ℕ). z ++ replicate (end - size) 0) (take_all end packed (omega (arith, long, is, fits))) ∙ ap (λ (k : ℕ). packed ++ replicate k 0) rest
    ∙ ap (λ (z : List ℕ). z ++ replicate (block - length bytes) 0) e ∙ append_assoc old bytes (replicate (block - length bytes) 0)

-- the number of bits of a block, as the code computes it
pub block_room : (b : ℕ) → b ≤ 10 → 8 * 2 ^ b % 18446744073709551616 ≡ 8 * 2 ^ b
block_room b few =
    let small : 2 ^ b ≤ 2 ^ 10 = pow-le-pow_right {n = 2} (omega arith) {i = b} {j = 10} few in
    mod-small (8 * 2 ^ b) 18446744073709551616 (omega (arith, small))

-- a block into which a symbol does not fit any more is not empty
pub full_some : (code : CanonicalCode) (entries : List (List ℕ)) (b : ℕ) (symbols lengths packed : List ℕ) (words : List Bool) (values k n : ℕ) → IsFilling code entries b symbols lengths packed words values → 32 ≤ 2 ^ b →
    k ≤ 32 → n ≤ 256 → (8 * 2 ^ b < length words + k) ⊎ (65536 < values + n) → 0 < values
full_some code entries b symbols lengths packed words values k n h large short few (inl full) = omega (arith, full, large, short, h.short_words, h.some)
full_some code entries b symbols lengths packed words values k n h large short few (inr full) = omega (arith, full, few)

-- IsFilling for equal lists, words and values
pub filling_is : (code : CanonicalCode) (entries : List (List ℕ)) (b : ℕ) (symbols lengths lengths' packed packed' : List ℕ) (words words' : List Bool) (values values' : ℕ) →
    IsFilling code entries b symbols lengths packed words values → lengths' ≡ lengths → packed' ≡ packed → words' ≡ words → values' ≡ values → IsFilling code entries b symbols lengths' packed' words' values'
filling_is code entries b symbols lengths lengths' packed packed' words words' values values' h e1 e2 e3 e4 =
    subst (λ (z : List ℕ). IsFilling code entries b symbols z packed' words' values') (sym e1)
    (subst (λ (z : List ℕ). IsFilling code entries b symbols lengths z words' values') (sym e2)
    (subst (λ (z : List Bool). IsFilling code entries b symbols lengths packed z values') (sym e3)
    (subst (λ (z : ℕ). IsFilling code entries b symbols lengths packed words z) (sym e4) h)))
