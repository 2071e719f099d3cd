-- One more block: the block's bits spell the words that a buffer got, and the blocks before it stay filled.
use Rattle.std.proofs.Common.{ℕ, zero, suc, ◌≡◌, ◌+◌, ◌-◌, ◌*◌, ◌^◌, ◌<◌, ◌≤◌, Bool, List, [], ◌∷◌, ◌++◌, length, take, drop, refl, sym, ap, subst, ◌∙◌, arith, get_or, append_assoc, length-drop}
use Rattle.std.specs.List.{slice_index}
use Rattle.std.proofs.Math.Nat.{mul-le-mul_right}
use Rattle.std.proofs.Math.Seq.{drop-append_seam, take-length}
use Rattle.std.proofs.lemmas.List.{drop-append-le, take-append-le, get_or-append-add}
use Rattle.szg_code.specs.Bits.{bits}
use Rattle.szg_code.specs.Canonical.{CanonicalCode}
use Rattle.szg_code.specs.Spelling.{Spells}
use Rattle.szg_code.specs.Laws.{Appended}
use Rattle.szg_code.proofs.ByteBits.{bits-append}
use Rattle.szg_code.proofs.ReadBack.{written_list_is_spelled}
use Rattle.szg_block.specs.Layout.{Layout}
use Rattle.szg_block.specs.Block.{block_at}
use Rattle.szg_subtable.specs.Pairing.{values_of}
use Rattle.szg_subtable.specs.Building.{AreFilled, end, next, blocks_layout}

-- If words of these symbols were appended to an empty buffer, and its bytes with more bytes after them are a block,
-- the block's bits begin with the words.
pub block_spells : (code : CanonicalCode) (symbols : List ℕ) (written fill : List Bool) (bytes more : List ℕ) → Appended code symbols [] written → bits bytes ≡ written ++ fill →
    Spells code (bits (bytes ++ more)) symbols
block_spells code symbols written fill bytes more appended whole =
    let stated = written_list_is_spelled code symbols [] written appended in
    let all : bits (bytes ++ more) ≡ stated.0 ++ (fill ++ bits more) =
    bits-append bytes more ∙ ap (λ (z : List Bool). z ++ bits more) (whole ∙ ap (λ (z : List Bool). z ++ fill) stated.1) ∙ append_assoc stated.0 fill (bits more) in
    subst (λ (z : List Bool). Spells code z symbols) (sym all) (stated.2 (fill ++ bits more))

-- ---- a block after others

block_before : (b n j : ℕ) (packed more : List ℕ) → length packed ≡ n * 2 ^ b → j < n → block_at b (packed ++ more) j ≡ block_at b packed j
unfolding block_at
block_before b n j packed more whole lt =
    let k : ℕ = 2 ^ b in
    let room : suc j * k ≤ n * k = mul-le-mul_right k lt in
    let next : suc j * k ≡ j * k + k = omega arith in
    let left : length (drop (j * k) packed) ≡ length packed - j * k = length-drop (j * k) packed in
    ap (take k) (drop-append-le (j * k) packed more (omega (arith, whole, room, next)))
    ∙ take-append-le k (drop (j * k) packed) more (omega (arith, left, whole, room, next))

block_following : (b n : ℕ) (packed block : List ℕ) → length packed ≡ n * 2 ^ b → length block ≡ 2 ^ b → block_at b (packed ++ block) n ≡ block
unfolding block_at
block_following b n packed block whole size =
    ap (take (2 ^ b)) (ap (λ (k : ℕ). drop k (packed ++ block)) (sym whole) ∙ drop-append_seam packed block)
    ∙ ap (λ (k : ℕ). take k block) (sym size) ∙ take-length block

get_or_before : (xs ys : List ℕ) (i : ℕ) → i < length xs → get_or (xs ++ ys) i 0 ≡ get_or xs i 0
get_or_before [] ys i h = absurd (omega arith)
get_or_before (x ∷ xs) ys zero h = refl
get_or_before (x ∷ xs) ys (suc i) h = get_or_before xs ys i (omega arith)

length_after : (lengths : List ℕ) (n count : ℕ) → length lengths ≡ n → slice_index (lengths ++ count ∷ []) n ≡ count
length_after lengths n count e = ap (λ (k : ℕ). get_or (lengths ++ count ∷ []) k 0) (let z : n ≡ length lengths + 0 = omega (arith, e) in z) ∙ get_or-append-add lengths (count ∷ []) 0 0

-- One more block, filled with one more list.
pub filled_more : (b n : ℕ) (code : CanonicalCode) (entries : List (List ℕ)) (lengths packed block symbols : List ℕ) (count : ℕ) → length lengths ≡ n → length packed ≡ n * 2 ^ b → length block ≡ 2 ^ b →
    Spells code (bits block) symbols → count + 1 ≡ length (values_of entries symbols) →
    {j : ℕ} {lists : List (List ℕ)} → AreFilled (blocks_layout b code entries n lengths) packed j lists →
    AreFilled (blocks_layout b code entries (n + 1) (lengths ++ count ∷ [])) (packed ++ block) j (lists ++ symbols ∷ [])
filled_more b n code entries lengths packed block symbols count as_many whole size spelled stated (end {j = j} last) =
    let here : j ≡ n = last in
    next (omega (arith, here))
    (subst (λ (z : List ℕ). Spells code (bits z) symbols) (sym (ap (block_at b (packed ++ block)) here ∙ block_following b n packed block whole size)) spelled)
    (ap (λ (k : ℕ). k + 1) (ap (slice_index (lengths ++ count ∷ [])) here ∙ length_after lengths n count as_many) ∙ stated)
    (end (omega (arith, here)))
filled_more b n code entries lengths packed block symbols count as_many whole size spelled stated (next {j = j} {symbols = first} {lists = lists} lt spells long more) =
    let below : j < n = lt in
    next (omega (arith, below))
    (subst (λ (z : List ℕ). Spells code (bits z) first) (sym (block_before b n j packed block whole below)) spells)
    (ap (λ (k : ℕ). k + 1) (get_or_before lengths (count ∷ []) j (omega (arith, below, as_many))) ∙ long)
    (filled_more b n code entries lengths packed block symbols count as_many whole size spelled stated more)

pub filled_none : (b : ℕ) (code : CanonicalCode) (entries : List (List ℕ)) → AreFilled (blocks_layout b code entries 0 []) [] 0 []
filled_none b code entries = end refl

-- Whether blocks are filled does not depend on the other fields of a layout, nor on lengths after those of the
-- blocks.
pub filled_with : (layout other : Layout) (packed extra : List ℕ) → layout.block_bits ≡ other.block_bits → layout.code ≡ other.code → layout.entries ≡ other.entries → layout.blocks ≡ other.blocks →
    layout.blocks ≡ length layout.lengths → other.lengths ≡ layout.lengths ++ extra → {j : ℕ} {lists : List (List ℕ)} → AreFilled layout packed j lists → AreFilled other packed j lists
filled_with layout other packed extra b c e n whole lengths (end last) = end (last ∙ n)
filled_with layout other packed extra b c e n whole lengths (next {j = j} {symbols = symbols} lt spells long more) =
    let inside : j < length layout.lengths = omega (arith, lt, whole) in
    next (omega (arith, lt, n))
    (subst (λ (code : CanonicalCode). Spells code (bits (block_at other.block_bits packed j)) symbols) c (subst (λ (k : ℕ). Spells layout.code (bits (block_at k packed j)) symbols) b spells))
    (ap (λ (k : ℕ). k + 1) (ap (λ (z : List ℕ). slice_index z j) lengths ∙ get_or_before layout.lengths extra j inside)
    ∙ long ∙ ap (λ (z : List (List ℕ)). length (values_of z symbols)) e)
    (filled_with layout other packed extra b c e n whole lengths more)
