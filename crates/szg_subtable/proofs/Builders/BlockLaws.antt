-- Blocks that the builder fills: the list of a block is the shortest for its values, and the values of the blocks,
-- joined, are the values of the joined lists.
use Rattle.std.proofs.Common.{ℕ, zero, suc, ◌≡◌, ◌+◌, ◌<◌, ◌≤◌, Bool, List, ◌∷◌, ◌++◌, length, take, drop, refl, sym, ap, subst, ◌∙◌, arith, inl, inr, length-append, get_or}
use Rattle.std.specs.List.{flat_map, concat, range_with_len, slice_index}
use Rattle.std.proofs.Math.Seq.{drop-cons, take-length}
use Rattle.std.proofs.lemmas.Bool.{cases_lt}
use Rattle.std.proofs.lemmas.List.{take-append-drop}
use Rattle.std.proofs.lemmas.Grind.{flat_map-append}
use Rattle.szg_pairs.specs.Expansion.{expansion_of}
use Rattle.szg_pairs.specs.Dictionary.{IsDictionary}
use Rattle.szg_pairs.proofs.Accepting.{symbol_of_dictionary}
use Rattle.szg_code.specs.Bits.{bits}
use Rattle.szg_code.specs.Acceptance.{IsCode}
use Rattle.szg_code.specs.Spelling.{Spells}
use Rattle.szg_code.proofs.Spelled.{Spells-there, Spells-unique}
use Rattle.szg_block.specs.Layout.{Layout}
use Rattle.szg_block.specs.Block.{start, needed, block_at, block_values}
use Rattle.szg_block.specs.Expansion.{needed_values, joined_values}
use Rattle.szg_block.proofs.Values.{HasValues-block_values, start-step, start-zero}
use Rattle.szg_subtable.specs.Pairing.{values_of, IsShortest, AreShortest}
use Rattle.szg_subtable.specs.Building.{AreFilled, end, next}

-- every symbol that bits spell has at least one value
some_values : (layout : Layout) → IsDictionary layout.entries → layout.code.symbols ≡ length layout.entries → (x : List Bool) (symbols : List ℕ) → Spells layout.code x symbols →
    (k : ℕ) → k < length symbols → 0 < length (values_of layout.entries (drop k symbols))
some_values layout accepted same x symbols spelled k h =
    let s : ℕ = get_or symbols k 0 in
    let there : s < layout.code.symbols = Spells-there layout.code x symbols spelled k h in
    let some : 0 < length (expansion_of layout.entries s) = (symbol_of_dictionary layout.entries accepted s (omega (arith, there, same))).some in
    let head : drop k symbols ≡ s ∷ drop (suc k) symbols = drop-cons symbols k 0 h in
    let joined : length (expansion_of layout.entries s ++ values_of layout.entries (drop (suc k) symbols)) ≡ length (expansion_of layout.entries s) + length (values_of layout.entries (drop (suc k) symbols)) =
    length-append (expansion_of layout.entries s) (values_of layout.entries (drop (suc k) symbols)) in
    rw head (omega (arith, joined, some))

-- A list whose words begin the block's bits is the shortest one with its number of values.
pub whole_is_shortest : (layout : Layout) → IsCode layout.code → IsDictionary layout.entries → layout.code.symbols ≡ length layout.entries → (block symbols : List ℕ) → Spells layout.code (bits block) symbols →
    IsShortest layout block (length (values_of layout.entries symbols)) symbols
whole_is_shortest layout code_is_valid accepted same block symbols spelled = record {
  spelled = spelled;
  enough = omega arith;
  least = λ others also enough.
      elim (cases_lt (length others) (length symbols)) [
        | inl less ↦
            let front : take (length others) symbols ≡ others = Spells-unique layout.code code_is_valid (bits block) others symbols also spelled (omega (arith, less)) in
            let parts : take (length others) symbols ++ drop (length others) symbols ≡ symbols = take-append-drop (length others) symbols in
            let split : values_of layout.entries symbols ≡ values_of layout.entries others ++ values_of layout.entries (drop (length others) symbols) =
            ap (values_of layout.entries) (sym parts) ∙ flat_map-append (expansion_of layout.entries) (take (length others) symbols) (drop (length others) symbols)
            ∙ ap (λ (z : List ℕ). values_of layout.entries z ++ values_of layout.entries (drop (length others) symbols)) front in
            let long : length (values_of layout.entries symbols) ≡ length (values_of layout.entries others) + length (values_of layout.entries (drop (length others) symbols)) =
            ap length split ∙ length-append (values_of layout.entries others) (values_of layout.entries (drop (length others) symbols)) in
            let some : 0 < length (values_of layout.entries (drop (length others) symbols)) = some_values layout accepted same (bits block) symbols spelled (length others) less in
            absurd (omega (arith, enough, long, some))
        | inr more ↦ more
      ];
}

-- the values of the lists from the j-th block on
abbrev pub values_from : Layout → List (List ℕ) → List ℕ
values_from layout lists = values_of layout.entries (concat lists)

values-cons : (layout : Layout) (symbols : List ℕ) (lists : List (List ℕ)) → values_from layout (symbols ∷ lists) ≡ values_of layout.entries symbols ++ values_from layout lists
values-cons layout symbols lists = flat_map-append (expansion_of layout.entries) symbols (concat lists)

pub length-values : (layout : Layout) (symbols : List ℕ) (lists : List (List ℕ)) → length (values_from layout (symbols ∷ lists)) ≡ length (values_of layout.entries symbols) + length (values_from layout lists)
length-values layout symbols lists = ap length (values-cons layout symbols lists) ∙ length-append (values_of layout.entries symbols) (values_from layout lists)

-- if the blocks before block j and those from it on together have just the subtable's values, block j needs all values
-- that it has
all_needed : (layout : Layout) (size j n rest : ℕ) → slice_index layout.lengths j + 1 ≡ n → start layout.lengths j + (n + rest) ≡ size → needed layout.lengths size j ≡ n
unfolding needed
all_needed layout size j n rest here all = omega (arith, here, all)

-- the values after block j are those from the start of the next block on
next_start : (layout : Layout) (size j n rest : ℕ) → j < length layout.lengths → slice_index layout.lengths j + 1 ≡ n → start layout.lengths j + (n + rest) ≡ size → start layout.lengths (suc j) + rest ≡ size
next_start layout size j n rest inside here all = let s : start layout.lengths (suc j) ≡ start layout.lengths j + (slice_index layout.lengths j + 1) = start-step layout.lengths j inside in omega (arith, s, here, all)

pub filled_are_shortest : (layout : Layout) (packed : List ℕ) (size : ℕ) → IsCode layout.code → IsDictionary layout.entries → layout.code.symbols ≡ length layout.entries → layout.blocks ≤ length layout.lengths →
    {j : ℕ} {lists : List (List ℕ)} → AreFilled layout packed j lists → start layout.lengths j + length (values_from layout lists) ≡ size → AreShortest layout packed size j lists
filled_are_shortest layout packed size code_is_valid accepted same long (end e) all = tt
filled_are_shortest layout packed size code_is_valid accepted same long (next {j = j} {symbols = symbols} {lists = lists} lt spelled count more) all =
    let n : ℕ = length (values_of layout.entries symbols) in
    let rest : ℕ = length (values_from layout lists) in
    let sum : start layout.lengths j + (n + rest) ≡ size = ap (λ (k : ℕ). start layout.lengths j + k) (sym (length-values layout symbols lists)) ∙ all in
    let need : needed layout.lengths size j ≡ n = all_needed layout size j n rest count sum in
    let later : AreShortest layout packed size (suc j) lists = filled_are_shortest layout packed size code_is_valid accepted same long more (next_start layout size j n rest (omega (arith, lt, long)) count sum) in
    let here : j + 1 ≡ suc j = omega arith in (
      subst (λ m. IsShortest layout (block_at layout.block_bits packed j) m symbols) (sym need) (whole_is_shortest layout code_is_valid accepted same (block_at layout.block_bits packed j) symbols spelled),
      subst (λ k. AreShortest layout packed size k lists) (sym here) later,
    )

-- the needed values of a filled block are those of its list
filled_values : (layout : Layout) (packed : List ℕ) (size j : ℕ) (symbols : List ℕ) → IsCode layout.code → Spells layout.code (bits (block_at layout.block_bits packed j)) symbols →
    needed layout.lengths size j ≡ length (values_of layout.entries symbols) → needed_values layout packed size j ≡ values_of layout.entries symbols
unfolding needed_values
filled_values layout packed size j symbols code_is_valid spelled need =
    let all : List ℕ = values_of layout.entries symbols in
    let whole : all ≡ take (length all) all = sym (take-length all) in
    let stated = HasValues-block_values layout code_is_valid (block_at layout.block_bits packed j) (length all) all (record { symbols = symbols; spelled = spelled; enough = omega arith; first = whole }) in
    ap (λ (k : ℕ). take k (block_values layout (block_at layout.block_bits packed j))) need ∙ sym stated.1

-- the needed values of the blocks from the j-th on, joined, are the values of the lists
filled_joined : (layout : Layout) (packed : List ℕ) (size count : ℕ) → IsCode layout.code → layout.blocks ≤ length layout.lengths →
    {j : ℕ} {lists : List (List ℕ)} → AreFilled layout packed j lists → j + count ≡ layout.blocks → start layout.lengths j + length (values_from layout lists) ≡ size →
    flat_map (needed_values layout packed size) (range_with_len j count) ≡ values_from layout lists
filled_joined layout packed size zero code_is_valid long (end e) blocks all = refl
filled_joined layout packed size (suc count) code_is_valid long (end e) blocks all = absurd (omega (arith, e, blocks))
filled_joined layout packed size zero code_is_valid long (next lt spelled here more) blocks all = absurd (omega (arith, lt, blocks))
filled_joined layout packed size (suc count) code_is_valid long (next {j = j} {symbols = symbols} {lists = lists} lt spelled here more) blocks all =
    let n : ℕ = length (values_of layout.entries symbols) in
    let rest : ℕ = length (values_from layout lists) in
    let sum : start layout.lengths j + (n + rest) ≡ size = ap (λ (k : ℕ). start layout.lengths j + k) (sym (length-values layout symbols lists)) ∙ all in
    let need : needed layout.lengths size j ≡ n = all_needed layout size j n rest here sum in
    let step : j + 1 ≡ suc j = omega arith in
    let later : flat_map (needed_values layout packed size) (range_with_len (suc j) count) ≡ values_from layout lists =
    filled_joined layout packed size count code_is_valid long more (omega (arith, blocks)) (next_start layout size j n rest (omega (arith, lt, long)) here sum) in
    ap (λ (k : ℕ). needed_values layout packed size j ++ flat_map (needed_values layout packed size) (range_with_len k count)) step
    ∙ ap (λ (z : List ℕ). needed_values layout packed size j ++ z) later
    ∙ ap (λ (z : List ℕ). z ++ values_from layout lists) (filled_values layout packed size j symbols code_is_valid spelled need)
    ∙ sym (values-cons layout symbols lists)

-- The values of a subtable whose blocks are packed with lists are the values of the joined lists.
pub filled_are_values : (layout : Layout) (packed : List ℕ) (lists : List (List ℕ)) → IsCode layout.code → layout.blocks ≤ length layout.lengths → AreFilled layout packed 0 lists →
    joined_values layout packed (length (values_of layout.entries (concat lists))) ≡ values_of layout.entries (concat lists)
unfolding joined_values
filled_are_values layout packed lists code_is_valid long filled =
    let none : start layout.lengths 0 ≡ 0 = start-zero layout.lengths in
    filled_joined layout packed (length (values_from layout lists)) layout.blocks code_is_valid long filled (omega arith) (omega (arith, none))
