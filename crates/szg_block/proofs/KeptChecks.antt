-- The check of an index of which some block lengths are kept says what the check of the whole index says.
use Rattle.std.proofs.Common.{ℕ, Bool, true, false, suc, ◌≡◌, ◌+◌, ◌^◌, ◌<◌, ◌≤◌, inl, inr, min, List, Option, Some, None, length, map, take, refl, ap, sym, ◌∙◌, subst, arith, get_or}
use Rattle.std.specs.Prelude.{IfSome}
use Rattle.std.specs.List.{slice_get, sum_by}
use Rattle.std.specs.Option.{option_map}
use Rattle.std.proofs.lemmas.Bool.{cases_lt}
use Rattle.std.proofs.lemmas.Nat.{pow_pos}
use Rattle.std.proofs.lemmas.Option.{slice_get-get_or, slice_get-map}
use Rattle.szg_code.specs.Canonical.{CanonicalCode}
use Rattle.szg_pairs.specs.Dictionary.{FailsFirst}
use Rattle.szg_block.specs.Block.{start}
use Rattle.szg_block.specs.Kept.{kept_if, IsKeptOf}
use Rattle.szg_block.specs.Layout.{SparseEntry}
use Rattle.szg_block.specs.Parts.{IsGoodAt, HasGoodAt}
use Rattle.szg_block.specs.Sound.{entry_count, middle_of_span, HasGoodEntry, HasTotal}
use Rattle.szg_block.specs.Subtable.{layout_from}
use Rattle.szg_block.specs.declared.Entry.{Entry}
use Rattle.szg_block.proofs.Kept.{start-end, kept_below, kept_past, kept_shorter, kept_start, kept_total}
use Rattle.szg_block.proofs.KeptLayouts.{middle_inside}
use Rattle.szg_block.proofs.Parts.{bad_entry-from, good_entry-from, good_past, good_at, length-entries, start-total}
use Rattle.szg_block.proofs.Powers.{spans_few}
use Rattle.szg_block.proofs.Values.{start-monotone}

-- there are no more entries than values
pub few_entries : (span_bits size : ℕ) → entry_count span_bits size ≤ size
unfolding entry_count
few_entries span_bits size = spans_few size (2 ^ span_bits) (pow_pos span_bits)

-- the sum of at most the lengths that there are
pub start-min : (lengths : List ℕ) (n : ℕ) → start lengths (min (length lengths) n) ≡ start lengths n
start-min lengths n =
    elim (cases_lt n (length lengths)) [
      | inl fewer ↦ let e : min (length lengths) n ≡ n = omega arith in ap (λ (k : ℕ). start lengths k) e
      | inr all ↦ let e : min (length lengths) n ≡ length lengths = omega arith in ap (λ (k : ℕ). start lengths k) e ∙ sym (start-end lengths n all)
    ]

pub start-all : (sum : ℕ) (xs lengths : List ℕ) (count blocks : ℕ) → sum ≡ sum_by (λ n. n + 1) (take count xs) → xs ≡ lengths → count ≡ min (length lengths) blocks → sum ≡ start lengths blocks
start-all sum xs lengths count blocks h e m = start-total sum xs lengths count h e ∙ ap (λ (k : ℕ). start lengths k) m ∙ start-min lengths blocks

-- an entry that is not good exists
pub bad_there : (lengths : List ℕ) (span_bits : ℕ) (sparse : List Entry) (k : ℕ) → ¬ HasGoodAt lengths span_bits sparse k → k < length sparse
bad_there lengths span_bits sparse k bad =
    elim (cases_lt k (length sparse)) [
      | inl there ↦ there
      | inr past ↦ absurd (bad (good_past lengths span_bits sparse k past))
    ]

-- the value of the last entry's block in the list of a layout
pub before_at : (all : Bool) (block_bits span_bits extra blocks : ℕ) (code : CanonicalCode) (dict : List (List ℕ)) (sparse : List Entry) (lengths : List ℕ) (size before_last : ℕ) (whole : List ℕ) →
    IsKeptOf all (layout_from block_bits span_bits extra blocks code dict sparse lengths) size before_last whole → (k : ℕ) (d : Entry) → k < length sparse → suc k ≡ length sparse →
    before_last ≡ start whole (get_or sparse k d).block
before_at all block_bits span_bits extra blocks code dict sparse lengths size before_last whole kept k d there last =
    let f : Entry → SparseEntry = λ entry. record { block = entry.block; offset = entry.offset } in
    let is : slice_get (map f sparse) k ≡ Some (f (get_or sparse k d)) = slice_get-map f sparse k ∙ ap (λ (o : Option Entry). option_map f o) (slice_get-get_or sparse k d there) in
    let before = kept.before k (last ∙ sym (length-entries sparse)) in
    rw is at before

-- the kept lengths are the first of all, and if they are fewer, no value below the size comes after them
pub record AreKept (size : ℕ) (whole kept : List ℕ) : Type 0 where
  pub shorter : length kept ≤ length whole
  pub starts : (j : ℕ) → j ≤ length kept → start kept j ≡ start whole j
  pub past : length kept < length whole → size ≤ start whole (length kept)
  pub total : (blocks : ℕ) → size ≤ start whole blocks → size ≤ start kept blocks
  pub below : (blocks : ℕ) → start kept blocks ≤ start whole blocks

are_kept : (all : Bool) (size : ℕ) (whole : List ℕ) → AreKept size whole (kept_if all size whole)
are_kept true size whole = record {
  shorter = omega arith;
  starts = λ j h. refl;
  past = λ less. absurd (omega (arith, less));
  total = λ blocks h. h;
  below = λ blocks. omega arith;
}
are_kept false size whole = record {
  shorter = kept_shorter size whole;
  starts = kept_start size whole;
  past = kept_past size whole;
  total = kept_total size whole;
  below = kept_below size whole;
}

module _ (sparse : List Entry) (kept whole : List ℕ) (size span_bits : ℕ) (are : AreKept size whole kept) (count : length sparse ≡ entry_count span_bits size) where
  good_up : (j : ℕ) (o : Option Entry) → IfSome o (IsGoodAt kept span_bits j) → IfSome o (IsGoodAt whole span_bits j)
  good_up j None good = tt
  good_up j (Some entry) good = (omega (arith, good.0, are.shorter), omega (arith, good.1, are.starts entry.block good.0))

  pub good_in_whole : (j : ℕ) → HasGoodAt kept span_bits sparse j → HasGoodAt whole span_bits sparse j
  good_in_whole j good = good_up j (slice_get sparse j) good

  module _ (k : ℕ) (d : Entry) (first : FailsFirst (HasGoodAt kept span_bits sparse) k) where
    there : k < length sparse
    there = bad_there kept span_bits sparse k first.here

    -- the entry fails in the whole lists too, unless it is the last and leads past the kept lengths
    pub fails_in_whole : (suc k ≡ length sparse → length kept < (get_or sparse k d).block → (get_or sparse k d).block ≤ length whole →
        start whole (get_or sparse k d).block + (get_or sparse k d).offset ≡ middle_of_span span_bits k → ⊥) → FailsFirst (HasGoodAt whole span_bits sparse) k
    fails_in_whole bad = record {
      before = λ j below. good_in_whole j (first.before j below);
      here = λ good.
          let entry : Entry = get_or sparse k d in
          let g = rw (slice_get-get_or sparse k d there) at good in
          elim (cases_lt (length kept) entry.block) [
            | inl past ↦
                let after : size ≤ start whole (length kept) = are.past (omega (arith, past, g.0)) in
                let on : start whole (length kept) ≤ start whole entry.block = start-monotone whole (length kept) entry.block (omega (arith, past)) g.0 in
                elim (cases_lt (suc k) (entry_count span_bits size)) [
                  | inl inner ↦ absurd (omega (arith, middle_inside span_bits size k inner, after, on, g.1))
                  | inr last ↦ bad (omega (arith, last, there, count)) past g.0 g.1
                ]
            | inr within ↦ first.here (good_at kept span_bits sparse k d there (within, omega (arith, g.1, are.starts entry.block within)))
          ];
    }

    -- the last entry leads past the kept lengths: then all are good in the whole lists
    pub good_past_kept : length sparse ≤ suc k → (get_or sparse k d).block ≤ length whole → start whole (get_or sparse k d).block + (get_or sparse k d).offset ≡ middle_of_span span_bits k →
        (j : ℕ) → HasGoodAt whole span_bits sparse j
    good_past_kept last within leads j =
        elim (cases_lt j k) [
          | inl before ↦ good_in_whole j (first.before j before)
          | inr here ↦ elim (cases_lt k j) [
            | inl after ↦ good_past whole span_bits sparse j (omega (arith, last, after))
            | inr same ↦
                let e : k ≡ j = omega arith in
                subst (λ (n : ℕ). HasGoodAt whole span_bits sparse n) e (good_at whole span_bits sparse k d there (within, leads))
          ]
        ]

-- ---- the results of the check

module _ (block_bits span_bits extra blocks : ℕ) (code : CanonicalCode) (dict : List (List ℕ)) (sparse : List Entry) (lengths : List ℕ) (size before_last : ℕ) (count : length sparse ≡ entry_count span_bits size)
    (all : Bool) (whole : List ℕ) (kept : IsKeptOf all (layout_from block_bits span_bits extra blocks code dict sparse lengths) size before_last whole) where
  are : AreKept size whole lengths
  are = subst (AreKept size whole) (sym kept.lengths) (are_kept all size whole)

  pub short_in_whole : start lengths blocks < size → ¬ HasTotal (layout_from block_bits span_bits extra blocks code dict sparse whole) size
  short_in_whole short = λ total. omega (arith, short, are.total blocks total)

  pub total_in_whole : size ≤ start lengths blocks → HasTotal (layout_from block_bits span_bits extra blocks code dict sparse whole) size
  total_in_whole total = omega (arith, total, are.below blocks)

  pub all_in_whole : ((j : ℕ) → HasGoodAt lengths span_bits sparse j) → (j : ℕ) → HasGoodEntry (layout_from block_bits span_bits extra blocks code dict sparse whole) j
  all_in_whole good j =
      good_entry-from block_bits span_bits extra blocks code dict sparse whole kept.many j (good_in_whole sparse lengths whole size span_bits are count j (good j))

  module _ (k : ℕ) (d : Entry) (first : FailsFirst (HasGoodAt lengths span_bits sparse) k) where
    is_before : suc k ≡ length sparse → before_last ≡ start whole (get_or sparse k d).block
    is_before last = before_at all block_bits span_bits extra blocks code dict sparse lengths size before_last whole kept k d (omega (arith, last)) last

    -- the entry is not good, unless it is the last and leads past the kept lengths
    pub bad_in_whole : (suc k ≡ length sparse → length lengths < (get_or sparse k d).block → (get_or sparse k d).block ≤ blocks + extra → before_last + (get_or sparse k d).offset ≡ middle_of_span span_bits k → ⊥) →
        FailsFirst (HasGoodEntry (layout_from block_bits span_bits extra blocks code dict sparse whole)) k
    bad_in_whole bad =
        bad_entry-from block_bits span_bits extra blocks code dict sparse whole kept.many k
        (fails_in_whole sparse lengths whole size span_bits are count k d first (λ last past within leads.
        bad last past (omega (arith, within, kept.many)) (omega (arith, leads, is_before last))))

    pub last_in_whole : length sparse ≤ suc k → (get_or sparse k d).block ≤ blocks + extra → before_last + (get_or sparse k d).offset ≡ middle_of_span span_bits k →
        (j : ℕ) → HasGoodEntry (layout_from block_bits span_bits extra blocks code dict sparse whole) j
    last_in_whole last within leads j =
        let there : k < length sparse = bad_there lengths span_bits sparse k first.here in
        let is : before_last ≡ start whole (get_or sparse k d).block = is_before (omega (arith, last, there)) in
        good_entry-from block_bits span_bits extra blocks code dict sparse whole kept.many j
        (good_past_kept sparse lengths whole size span_bits are count k d first last (omega (arith, within, kept.many)) (omega (arith, leads, is)) j)
