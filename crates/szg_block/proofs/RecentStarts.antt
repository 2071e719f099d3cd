-- Starts that are stored while a sparse index is checked.
use Rattle.std.proofs.Common.{ℕ, ◌≡◌, ◌+◌, ◌-◌, ◌*◌, ◌/◌, ◌%◌, ◌^◌, ◌<◌, ◌≤◌, inl, inr, max, List, length, replicate, refl, ap, sym, ◌∙◌, subst, arith, get_or, set}
use Rattle.std.specs.List.{sum_by, slice_index, slice_range}
use Rattle.std.proofs.lemmas.Bool.{cases_lt}
use Rattle.std.proofs.lemmas.List.{get_or-set_same, get_or-set_other, length-set}
use Rattle.szg_block.specs.Block.{start}
use Rattle.szg_block.specs.Sound.{middle_of_span}
use Rattle.szg_block.specs.Starts.{AreRecentStarts}
use Rattle.szg_block.proofs.Values.{start-zero, start-below}
use Rattle.szg_block.proofs.Parts.{start-between}

pub recent_none : (lengths : List ℕ) → AreRecentStarts lengths 0 0 (replicate 257 0)
recent_none lengths = record {
  there = omega arith;
  reached = sym (start-zero lengths);
  buffer_len = refl;
  starts = λ k h l.
      let z : 0 ≡ k = omega arith in
      subst (λ n. slice_index (replicate 257 0) (n % 257) ≡ start lengths (256 * n)) z (sym (start-zero lengths));
}

-- the indexes of two numbers less than 257 apart are different
apart : (a b : ℕ) → a < b → b < a + 257 → ¬ (b % 257 ≡ a % 257)
apart a b h l e = omega arith

module _ (lengths : List ℕ) (block before : ℕ) (recent : List ℕ) (h : AreRecentStarts lengths block before recent) where
  -- the start of a later block
  pub reached_on : (next : ℕ) → block ≤ next → before + sum_by (λ n. n + 1) (slice_range lengths block next) ≡ start lengths next
  reached_on next l = omega (arith, h.reached, start-between lengths block next l)

  -- up to a block within the same 256 blocks no start is stored
  pub recent_within : (next after : ℕ) → block ≤ next → next ≤ (block / 256 + 1) * 256 → ¬ (next % 256 ≡ 0) → next ≤ length lengths → after ≡ start lengths next → AreRecentStarts lengths next after recent
  recent_within next after l within odd there e = record {
    there = there;
    reached = e;
    buffer_len = h.buffer_len;
    starts = λ k le lt. h.starts k (omega arith) (omega arith);
  }

  -- at the end of the 256 blocks one is stored
  pub recent_more : (next m after : ℕ) → next ≡ 256 * m → m ≡ block / 256 + 1 → next ≤ length lengths → after ≡ start lengths next → AreRecentStarts lengths next after (set recent (m % 257) after)
  recent_more next m after is step there e = record {
    there = there;
    reached = e;
    buffer_len = omega (arith, length-set recent (m % 257) after, h.buffer_len);
    starts = λ k le lt.
        elim (cases_lt k m) [
          | inl less ↦
              let o : get_or (set recent (m % 257) after) (k % 257) 0 ≡ get_or recent (k % 257) 0 =
              get_or-set_other recent (m % 257) (k % 257) after 0 (λ q. apart k m less (omega arith) (sym q)) in
              o ∙ h.starts k (omega arith) (omega arith)
          | inr more ↦
              let z : k ≡ m = omega arith in
              let buffer_len : length recent ≡ 257 = h.buffer_len in
              let o : get_or (set recent (m % 257) after) (m % 257) 0 ≡ after = get_or-set_same recent (m % 257) after 0 (omega arith) in
              let s : start lengths next ≡ start lengths (256 * k) = ap (λ n. start lengths n) (omega arith) in
              ap (λ n. get_or (set recent (m % 257) after) (n % 257) 0) z ∙ o ∙ e ∙ s
        ];
  }

  -- the start of an earlier block, from the last stored start at or before it
  pub recent_start : (k first earlier : ℕ) → 256 * k ≤ block → block < 256 * (k + 257) → first ≡ 256 * k → first ≤ earlier → slice_index recent (k % 257) + sum_by (λ n. n + 1) (slice_range lengths first earlier) ≡ start lengths earlier
  recent_start k first earlier le lt e b =
      let s = h.starts k le lt in
      let t : start lengths first ≡ start lengths (256 * k) = ap (λ n. start lengths n) e in
      omega (arith, s, t, start-between lengths first earlier b)

-- ---- how far back the block of an entry may be

middle-sum : (span_bits k : ℕ) → middle_of_span span_bits k ≡ k * 2 ^ span_bits + 2 ^ span_bits / 2
unfolding middle_of_span
middle-sum span_bits k = refl

module _ (lengths : List ℕ) (old new block k span_bits : ℕ) (step : new ≡ max old block) (near : start lengths old ≤ k * 2 ^ span_bits) where
  -- the block that was reached starts before the end of span k, also after the step to this block
  pub near_more : start lengths block ≤ middle_of_span span_bits k → start lengths new ≤ (k + 1) * 2 ^ span_bits
  near_more l =
      let m : middle_of_span span_bits k ≡ k * 2 ^ span_bits + 2 ^ span_bits / 2 = middle-sum span_bits k in
      let e : (k + 1) * 2 ^ span_bits ≡ k * 2 ^ span_bits + 2 ^ span_bits = omega arith in
      elim (cases_lt old block) [
        | inl less ↦
            let s : start lengths new ≡ start lengths block = ap (λ u. start lengths u) (omega arith) in
            omega arith
        | inr more ↦
            let s : start lengths new ≡ start lengths old = ap (λ u. start lengths u) (omega arith) in
            omega arith
      ]

  -- if the block is more than 65,536 blocks before the one that was reached, no 16-bit offset leads from it to the middle
  pub too_far : (offset : ℕ) → block + 65536 < new → new ≤ length lengths → offset < 65536 → ¬ (start lengths block + offset ≡ middle_of_span span_bits k)
  too_far offset h l f e =
      let m : middle_of_span span_bits k ≡ k * 2 ^ span_bits + 2 ^ span_bits / 2 = middle-sum span_bits k in
      let s : start lengths new ≡ start lengths old = ap (λ u. start lengths u) (omega arith) in
      let b : start lengths block + (new - block) ≤ start lengths new = start-below lengths block new (omega arith) l in
      omega arith
