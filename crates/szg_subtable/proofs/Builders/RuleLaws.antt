-- A subtable as the builder makes it follows the builder's rule.
use Rattle.std.proofs.Common.{ℕ, zero, suc, ◌≡◌, ◌+◌, ◌-◌, ◌*◌, ◌^◌, ◌<◌, ◌≤◌, Bool, List, [], ◌∷◌, length, drop, Some, refl, sym, ap, ◌∙◌, arith, inl, inr}
use Rattle.std.specs.Prelude.{if◌then◌else◌}
use Rattle.std.specs.List.{slice_get}
use Rattle.std.proofs.Math.Nat.{le-div_iff_mul-le}
use Rattle.std.proofs.Math.Seq.{drop-append_seam}
use Rattle.std.proofs.lemmas.Nat.{pow_pos}
use Rattle.std.proofs.lemmas.Bool.{cases_lt, lt-ltb, le-ltb}
use Rattle.szg_block.specs.Layout.{Layout, SparseEntry}
use Rattle.szg_block.specs.Block.{start}
use Rattle.szg_block.specs.Sound.{entry_count, middle_of_span}
use Rattle.szg_subtable.specs.Building.{IsIndexOf, IsExtended, extras_for}
use Rattle.szg_subtable.specs.SubtableRule.{IsSpanIndex, extra_lengths}
use Rattle.szg_subtable.proofs.Builders.Entries.{start-front}

-- ---- extra lengths

-- there are no extra lengths if the last entry leads to a block, or if there is no entry
pub extras_inside : (blocks : ℕ) (entry : SparseEntry) → entry.block < blocks → extras_for blocks (Some entry) ≡ []
extras_inside blocks entry lt = ap (λ (b : Bool). if b then [] else 65535 ∷ []) (lt-ltb entry.block blocks lt)

pub extras_beyond : (blocks : ℕ) (entry : SparseEntry) → blocks ≤ entry.block → extras_for blocks (Some entry) ≡ 65535 ∷ []
extras_beyond blocks entry le = ap (λ (b : Bool). if b then [] else 65535 ∷ []) (le-ltb entry.block blocks le)

-- a subtable that has a value has a span
span_some : (span_bits size : ℕ) → 0 < size → 0 < entry_count span_bits size
unfolding entry_count
span_some span_bits size some =
    let w : ℕ = 2 ^ span_bits in
    let p : 0 < w = pow_pos span_bits in
    let m : 1 * w ≤ size + w - 1 = omega (arith, some) in
    (le-div_iff_mul-le p).1 m

there_at : (sparse : List SparseEntry) (i : ℕ) → i < length sparse → (entry : SparseEntry) × (slice_get sparse i ≡ Some entry)
there_at [] i lt = absurd (omega (arith, lt))
there_at (x ∷ sparse) zero lt = (x, refl)
there_at (x ∷ sparse) (suc i) lt = there_at sparse i (omega (arith, lt))

extras_are : (own : List ℕ) (span_bits size : ℕ) (sparse : List SparseEntry) → IsIndexOf own span_bits sparse → length sparse ≡ entry_count span_bits size → start own (length own) ≡ size → 0 < size →
    extras_for (length own) (slice_get sparse (length sparse - 1)) ≡ extra_lengths span_bits size
extras_are own span_bits size sparse index count total some =
    let spans : 0 < entry_count span_bits size = span_some span_bits size some in
    let last = there_at sparse (length sparse - 1) (omega (arith, count, spans)) in
    let stated = index (length sparse - 1) last.0 last.1 in
    let middle : ℕ = middle_of_span span_bits (entry_count span_bits size - 1) in
    let same : middle_of_span span_bits (length sparse - 1) ≡ middle = ap (λ (k : ℕ). middle_of_span span_bits (k - 1)) count in
    elim (cases_lt middle size) [
      | inl less ↦
          ap (extras_for (length own)) last.1 ∙ extras_inside (length own) last.0 (stated.inside (omega (arith, less, same, total))).0
          ∙ sym (ap (λ (b : Bool). if b then [] else 65535 ∷ []) (lt-ltb middle size less))
      | inr more ↦
          let at : last.0.block ≡ length own = stated.beyond (omega (arith, more, same, total)) in
          ap (extras_for (length own)) last.1 ∙ extras_beyond (length own) last.0 (omega (arith, at))
          ∙ sym (ap (λ (b : Bool). if b then [] else 65535 ∷ []) (le-ltb middle size more))
    ]

-- ---- the sparse index

pub index_is : (layout : Layout) (own : List ℕ) (size : ℕ) → IsIndexOf own layout.span_bits layout.sparse → length layout.sparse ≡ entry_count layout.span_bits size → start own (length own) ≡ size → 0 < size →
    layout.blocks ≡ length own → IsExtended layout.sparse own layout.lengths layout.extra → IsSpanIndex layout size
index_is layout own size index count total some blocks extended =
    let extras : List ℕ = extras_for (length own) (slice_get layout.sparse (length layout.sparse - 1)) in
    let same : extras ≡ extra_lengths layout.span_bits size = extras_are own layout.span_bits size layout.sparse index count total some in
    let front : (k : ℕ) → k ≤ length own → start layout.lengths k ≡ start own k = λ k le. ap (λ (z : List ℕ). start z k) extended.1 ∙ start-front own extras k le in
    record {
      total = ap (start layout.lengths) blocks ∙ front (length own) (omega arith) ∙ total;
      entries = λ j entry there.
          let stated = index j entry there in
          record {
            location = ap (λ (k : ℕ). k + entry.offset) (front entry.block stated.block) ∙ stated.place;
            inside = λ lt.
                let held = stated.inside (omega (arith, lt, total)) in
                (omega (arith, held.0, blocks), omega (arith, held.1, front (entry.block + 1) (omega (arith, held.0))));
            beyond = λ le. stated.beyond (omega (arith, le, total)) ∙ sym blocks;
          };
      extra = extended.0 ∙ ap length same;
      lengths = ap (λ (k : ℕ). drop k layout.lengths) blocks ∙ ap (drop (length own)) extended.1 ∙ drop-append_seam own extras ∙ same;
    }
