-- A subtable that is made from values is sound, and expands to the values; its pairs are used, and no more are to be
-- made.
use Rattle.std.proofs.Common.{ℕ, zero, suc, ◌≡◌, ◌+◌, ◌-◌, ◌*◌, ◌^◌, ◌<◌, ◌≤◌, List, [], ◌∷◌, ◌++◌, length, take, refl, sym, ap, subst, ◌∙◌, arith, length-append, Some, None, Option, Result, Ok, Err}
use Rattle.std.specs.Prelude.{IfOk, IfSome}
use Rattle.std.specs.List.{slice_get, slice_index, AllByRecursion}
use Rattle.szg_code.specs.Canonical.{CanonicalCode}
use Rattle.szg_pairs.specs.Expansion.{expansion_of}
use Rattle.szg_pairs.specs.Dictionary.{IsDictionary}
use Rattle.szg_pairs.proofs.Accepting.{symbol_of_dictionary}
use Rattle.szg_block.specs.Layout.{Layout, SparseEntry}
use Rattle.szg_block.specs.Block.{start, needed, block_at}
use Rattle.szg_block.specs.Expansion.{joined_values}
use Rattle.szg_block.specs.Sound.{entry_count, middle_of_span, IsSoundLayout, IsGoodEntry}
use Rattle.szg_block.proofs.Values.{start-step, start-zero}
use Rattle.szg_block.specs.Subtable.{layout_from}
use Rattle.szg_block.specs.declared.Sub.{Sub}
use Rattle.szg_block.specs.declared.Sub.TheVariants.{Constant, Pairs}
use Rattle.szg_subtable.specs.declared.building.Packing.{Packing}
use Rattle.szg_subtable.specs.declared.building.Choice.{Choice}
use Rattle.szg_subtable.specs.declared.building.Choice.TheVariants.{Fixed, Small}
use Rattle.szg_subtable.specs.PackedSubtable.{IsInBounds, IsPackedBy, IsCodedAs, IsPackedLayout, IsPackedSub}
use Rattle.szg_subtable.specs.Pairing.{values_of, IsShortest, AreShortest, IsFinished, IsUsed, IsPaired, different_values}
use Rattle.szg_subtable.specs.Building.{AreFilled, end, next, blocks_layout, IsCut, IsIndexOf, extras_for, IsMade, IsMadeSub, HasBinaryCode}
use Rattle.szg_subtable.proofs.Builders.BlockLaws.{filled_are_shortest, filled_are_values, values_from, length-values}
use Rattle.szg_subtable.proofs.Builders.Filling.{filled_with}
use Rattle.szg_subtable.proofs.Builders.Entries.{start-front}
use Rattle.szg_subtable.proofs.Builders.RuleLaws.{index_is}

-- ---- lists that fill blocks

-- the number of lists is the number of blocks
filled_count : (layout : Layout) (packed : List ℕ) {j : ℕ} {lists : List (List ℕ)} → AreFilled layout packed j lists → j + length lists ≡ layout.blocks
filled_count layout packed (end e) = omega (arith, e)
filled_count layout packed (next {j = j} {lists = lists} lt spelled here more) = let later : suc j + length lists ≡ layout.blocks = filled_count layout packed more in omega (arith, later)

-- the blocks' lengths sum to the number of all values
filled_total : (layout : Layout) (packed : List ℕ) → layout.blocks ≤ length layout.lengths → {j : ℕ} {lists : List (List ℕ)} → AreFilled layout packed j lists →
    start layout.lengths j + length (values_from layout lists) ≡ start layout.lengths layout.blocks
filled_total layout packed long (end {j = j} e) = let same : start layout.lengths j ≡ start layout.lengths layout.blocks = ap (start layout.lengths) e in omega (arith, same)
filled_total layout packed long (next {j = j} {symbols = symbols} {lists = lists} lt spelled here more) =
    let later : start layout.lengths (suc j) + length (values_from layout lists) ≡ start layout.lengths layout.blocks = filled_total layout packed long more in
    let step : start layout.lengths (suc j) ≡ start layout.lengths j + (slice_index layout.lengths j + 1) = start-step layout.lengths j (omega (arith, lt, long)) in
    let parts : length (values_from layout (symbols ∷ lists)) ≡ length (values_of layout.entries symbols) + length (values_from layout lists) = length-values layout symbols lists in
    omega (arith, later, step, parts, here)

-- blocks that symbols fill have the number of values of these symbols
pub cut_total : (code : CanonicalCode) (entries : List (List ℕ)) (b : ℕ) (values symbols : List ℕ) (n : ℕ) (lengths packed : List ℕ) → IsCut code entries b symbols n lengths packed → values_of entries symbols ≡ values →
    start lengths (length lengths) ≡ length values
cut_total code entries b values symbols n lengths packed cut same =
    let layout : Layout = blocks_layout b code entries n lengths in
    let total : start lengths 0 + length (values_from layout cut.lists) ≡ start lengths n = filled_total layout packed (omega (arith, cut.count)) cut.filled in
    let all : length (values_from layout cut.lists) ≡ length values = ap (λ (z : List ℕ). length (values_of entries z)) cut.joined ∙ ap length same in
    let none : start lengths 0 ≡ 0 = start-zero lengths in
    let last : start lengths (length lengths) ≡ start lengths n = ap (start lengths) cut.count in
    omega (arith, total, all, none, last)

-- if there are values, there is a block
pub cut_some : (lengths : List ℕ) (size : ℕ) → start lengths (length lengths) ≡ size → 0 < size → 0 < length lengths
cut_some [] size e some = let none : start [] 0 ≡ 0 = start-zero [] in absurd (omega (arith, none, e, some))
cut_some (x ∷ lengths) size e some = omega arith

-- each block has a shortest list
shortest_at : (layout : Layout) (packed : List ℕ) (size j : ℕ) (lists : List (List ℕ)) → AreShortest layout packed size j lists → (k : ℕ) → k < length lists →
    (symbols : List ℕ) × IsShortest layout (block_at layout.block_bits packed (j + k)) (needed layout.lengths size (j + k)) symbols
shortest_at layout packed size j [] all k lt = absurd (omega (arith, lt))
shortest_at layout packed size j (symbols ∷ lists) all zero lt =
    let here : j ≡ j + 0 = omega arith in
    (symbols, subst (λ (m : ℕ). IsShortest layout (block_at layout.block_bits packed m) (needed layout.lengths size m) symbols) here all.0)
shortest_at layout packed size j (symbols ∷ lists) all (suc k) lt =
    let later = shortest_at layout packed size (j + 1) lists all.1 k (omega (arith, lt)) in
    let next : (j + 1) + k ≡ j + suc k = omega arith in
    (later.0, subst (λ (m : ℕ). IsShortest layout (block_at layout.block_bits packed m) (needed layout.lengths size m) later.0) next later.1)

-- ---- symbols and values

-- there are no more symbols than values, and if there are values there is a symbol
pub symbols_few : (entries : List (List ℕ)) → IsDictionary entries → (symbols : List ℕ) → AllByRecursion (λ s. s < length entries) symbols → length symbols ≤ length (values_of entries symbols)
symbols_few entries accepted [] below = omega arith
symbols_few entries accepted (s ∷ symbols) below =
    let some : 0 < length (expansion_of entries s) = (symbol_of_dictionary entries accepted s below.0).some in
    let more = symbols_few entries accepted symbols below.1 in
    let parts : length (expansion_of entries s ++ values_of entries symbols) ≡ length (expansion_of entries s) + length (values_of entries symbols) = length-append (expansion_of entries s) (values_of entries symbols) in
    omega (arith, some, more, parts)

pub symbols_some : (entries : List (List ℕ)) (values symbols : List ℕ) → values_of entries symbols ≡ values → 0 < length values → 0 < length symbols
symbols_some entries values [] e some = let none : 0 ≡ length values = ap length e in absurd (omega (arith, none, some))
symbols_some entries values (s ∷ symbols) e some = omega arith

pub entries_some : (entries : List (List ℕ)) (symbols : List ℕ) → AllByRecursion (λ s. s < length entries) symbols → 0 < length symbols → 0 < length entries
entries_some entries [] below some = absurd (omega (arith, some))
entries_some entries (s ∷ symbols) below some = omega (arith, below.0)

-- the same for equal lists
pub below_as : (entries dict : List (List ℕ)) (symbols some : List ℕ) → dict ≡ entries → some ≡ symbols → AllByRecursion (λ s. s < length entries) symbols → AllByRecursion (λ s. s < length dict) some
below_as entries dict symbols some e1 e2 h =
    subst (λ (z : List (List ℕ)). AllByRecursion (λ s. s < length z) some) (sym e1) (subst (λ (z : List ℕ). AllByRecursion (λ s. s < length entries) z) (sym e2) h)

-- ---- what is made

module _ (values : List ℕ) (block_bits span_bits rounds : ℕ) (layout : Layout) (packed : List ℕ) (made : IsMade values block_bits span_bits rounds layout packed) where
  abbrev extras : List ℕ
  extras = extras_for (length made.own) (slice_get layout.sparse (length layout.sparse - 1))

  own_front : (j : ℕ) → j ≤ length made.own → start layout.lengths j ≡ start made.own j
  own_front j h = ap (λ (z : List ℕ). start z j) made.extended.1 ∙ start-front made.own extras j h

  long : length layout.lengths ≡ layout.blocks + layout.extra
  long = let all : length layout.lengths ≡ length made.own + length extras = ap length made.extended.1 ∙ length-append made.own extras in
      omega (arith, all, made.cut.count, made.extended.0)

  filled : AreFilled layout packed 0 made.cut.lists
  filled = filled_with (blocks_layout block_bits layout.code layout.entries layout.blocks made.own) layout packed extras (sym made.block_bits_kept) refl refl refl (sym made.cut.count) made.extended.1 made.cut.filled

  -- the lists expand to the values
  values_are : values_from layout made.cut.lists ≡ values
  values_are = ap (values_of layout.entries) made.cut.joined ∙ made.pairing.round.same

  size_is : start layout.lengths 0 + length (values_from layout made.cut.lists) ≡ length values
  size_is = let none : start layout.lengths 0 ≡ 0 = start-zero layout.lengths in let all : length (values_from layout made.cut.lists) ≡ length values = ap length values_are in omega (arith, none, all)

  total_is : start layout.lengths layout.blocks ≡ length values
  total_is = let t : start layout.lengths 0 + length (values_from layout made.cut.lists) ≡ start layout.lengths layout.blocks = filled_total layout packed (omega (arith, long)) filled in omega (arith, t, size_is)

  shortest : AreShortest layout packed (length values) 0 made.cut.lists
  shortest = filled_are_shortest layout packed (length values) made.chosen.accepted made.pairing.round.dictionary made.chosen.symbols (omega (arith, long)) filled size_is

  made_values : joined_values layout packed (length values) ≡ values
  made_values =
      ap (λ (k : ℕ). joined_values layout packed k) (sym (ap length values_are))
      ∙ filled_are_values layout packed made.cut.lists made.chosen.accepted (omega (arith, long)) filled
      ∙ values_are

  pub made_pairs : IsPaired layout packed (length values) rounds
  made_pairs = record {
    lists = made.cut.lists;
    count = omega (arith, filled_count layout packed filled);
    shortest = shortest;
    finished = subst (λ (z : List ℕ). IsFinished layout.entries z rounds) (sym made.cut.joined) made.pairing.finished;
    used = subst (λ (z : List ℕ). IsUsed layout.entries z) (sym made.cut.joined) made.pairing.round.used;
    leaves = made.pairing.round.leaves ∙ ap (λ (z : List ℕ). length (different_values z) + made.pairing.done) (sym made_values)
        ∙ ap (λ (k : ℕ). length (different_values (joined_values layout packed (length values))) + k) (sym made.pairing.round.pairs);
  }

  good : (j : ℕ) (o : Option SparseEntry) → slice_get layout.sparse j ≡ o → IfSome o (IsGoodEntry layout j)
  good j None e = tt
  good j (Some entry) e =
      let stated = made.index j entry e in
      let front : start layout.lengths entry.block ≡ start made.own entry.block = own_front entry.block stated.block in
      let middle : start made.own entry.block + entry.offset ≡ middle_of_span layout.span_bits j = stated.place ∙ ap (λ (k : ℕ). middle_of_span k j) (sym made.span_bits_kept) in
      record {
        there = omega (arith, stated.block, made.cut.count);
        location = ap (λ (k : ℕ). k + entry.offset) front ∙ middle;
      }

  sound : IsSoundLayout layout packed (length values)
  sound = record {
    total = omega (arith, total_is);
    entries = λ j. good j (slice_get layout.sparse j) refl;
    words = λ j lt.
        let s = shortest_at layout packed (length values) 0 made.cut.lists shortest j (let n : 0 + length made.cut.lists ≡ layout.blocks = filled_count layout packed filled in omega (arith, n, lt)) in
        let here : 0 + j ≡ j = omega arith in
        let h = subst (λ (m : ℕ). IsShortest layout (block_at layout.block_bits packed m) (needed layout.lengths (length values) m) s.0) here s.1 in
        (take (needed layout.lengths (length values) j) (values_of layout.entries s.0), record { symbols = s.0; spelled = h.spelled; enough = h.enough; first = refl });
  }

  -- a subtable that is made and packed as chosen
  pub made_is_packed : (choice : Choice) → 0 < length values → 5 ≤ block_bits → block_bits ≤ 10 → 1 ≤ span_bits → span_bits ≤ 16 → IsPackedBy choice layout packed (length values) →
      IsCodedAs choice layout → IsPackedLayout values choice layout packed
  made_is_packed choice some a b c d chosen code = record {
    shaped = record {
      block_bits = omega (arith, made.block_bits_kept, b);
      some_span = omega (arith, made.span_bits_kept, c);
      span_bits = omega (arith, made.span_bits_kept, d);
      symbols = made.chosen.symbols;
      sparse = made.index_count ∙ ap (λ (k : ℕ). entry_count k (length values)) (sym made.span_bits_kept);
      lengths = long;
    };
    whole = made.cut.whole ∙ ap (λ (k : ℕ). layout.blocks * 2 ^ k) (sym made.block_bits_kept);
    sound = sound;
    expands = made_values;
    chosen = chosen;
    code = code;
    index = index_is layout made.own (length values) (subst (λ (k : ℕ). IsIndexOf made.own k layout.sparse) (sym made.span_bits_kept) made.index)
        (made.index_count ∙ ap (λ (k : ℕ). entry_count k (length values)) (sym made.span_bits_kept))
        (cut_total layout.code layout.entries block_bits values made.symbols layout.blocks made.own packed made.cut made.pairing.round.same) some (sym made.cut.count) made.extended;
  }

-- the same of a subtable
pub fixed_is_packed : (values : List ℕ) (flags : ℕ) (packing : Packing) (sub : Sub) → 0 < length values → IsInBounds (Fixed packing) →
    IsMadeSub values flags packing.block_bits packing.span_bits packing.rounds sub → HasBinaryCode sub → IsPackedSub values flags (Fixed packing) sub
fixed_is_packed values flags packing (Constant f byte) some bounds made code = absurd made
fixed_is_packed values flags packing (Pairs own_flags block_bits span_bits extra blocks own_code dict sparse lengths packed) some bounds made code =
    let layout = layout_from block_bits span_bits extra blocks own_code dict sparse.items lengths.items in (
      made.0,
      made_is_packed values packing.block_bits packing.span_bits packing.rounds layout packed.items made.1 (Fixed packing) some bounds.0 bounds.1 bounds.2 bounds.3
          (made.1.block_bits_kept, made.1.span_bits_kept, made_pairs values packing.block_bits packing.span_bits packing.rounds layout packed.items made.1) code,
    )

pub small_is_packed : (values : List ℕ) (flags block_bits span_bits rounds : ℕ) (sub : Sub) → 0 < length values → 5 ≤ block_bits → block_bits ≤ 10 → 1 ≤ span_bits → span_bits ≤ 16 →
    IsMadeSub values flags block_bits span_bits rounds sub → IsPackedSub values flags Small sub
small_is_packed values flags block_bits span_bits rounds (Constant f byte) some a b c d made = absurd made
small_is_packed values flags block_bits span_bits rounds (Pairs own_flags own_block_bits own_span_bits extra blocks code dict sparse lengths packed) some a b c d made =
    let layout = layout_from own_block_bits own_span_bits extra blocks code dict sparse.items lengths.items in
    (made.0, made_is_packed values block_bits span_bits rounds layout packed.items made.1 Small some a b c d (rounds, made_pairs values block_bits span_bits rounds layout packed.items made.1) tt)

-- if P and Q together imply R for each value, they do for the value of a result
pub if_both : {A E : Type 0} {P Q R : A → Type 0} (r : Result A E) → ((x : A) → P x → Q x → R x) → IfOk r P → IfOk r Q → IfOk r R
if_both (Ok x) f p q = f x p q
if_both (Err e) f p q = tt
