-- The middles of spans, and entries that lead to them.
use Rattle.std.proofs.Common.{ℕ, zero, suc, ◌≡◌, ◌+◌, ◌-◌, ◌*◌, ◌/◌, ◌^◌, ◌<◌, ◌≤◌, List, [], ◌∷◌, ◌++◌, length, get_or, Some, refl, sym, ap, subst, ◌∙◌, arith, inl, inr}
use Rattle.std.specs.List.{slice_get}
use Rattle.std.proofs.lemmas.Bool.{cases_lt}
use Rattle.szg_block.specs.Layout.{SparseEntry}
use Rattle.szg_block.specs.Block.{start}
use Rattle.szg_block.specs.Sound.{middle_of_span}
use Rattle.szg_block.proofs.Values.{start-more}
use Rattle.szg_subtable.specs.Building.{IsEntryOf, IsIndexOf}

pub middle-is : (span_bits j span : ℕ) → span ≡ 2 ^ span_bits → j * span + span / 2 ≡ middle_of_span span_bits j
unfolding middle_of_span
middle-is span_bits j span e = rw e refl

pub middle-next : (span_bits j : ℕ) → middle_of_span span_bits j ≤ middle_of_span span_bits (j + 1)
unfolding middle_of_span
middle-next span_bits j = let next : (j + 1) * 2 ^ span_bits ≡ j * 2 ^ span_bits + 2 ^ span_bits = omega arith in omega (arith, next)

-- an index past this block is in the next block or later
pub next_start : (lengths : List ℕ) (block begun index : ℕ) → block < length lengths → begun ≡ start lengths block → index < start lengths (length lengths) → get_or lengths block 0 < index - begun →
    (block + 1 < length lengths) × (begun + (get_or lengths block 0 + 1) ≡ start lengths (block + 1)) × (begun + (get_or lengths block 0 + 1) ≤ index)
next_start lengths block begun index there at inside far =
    let more : start lengths (block + 1) ≡ start lengths block + (get_or lengths block 0 + 1) = start-more lengths block there in
    let following : begun + (get_or lengths block 0 + 1) ≤ index = omega (arith, far) in
    let here : begun + (get_or lengths block 0 + 1) ≡ start lengths (block + 1) = omega (arith, more, at) in (
      elim (cases_lt (block + 1) (length lengths)) [
        | inl less ↦ less
        | inr last ↦
            let all : block + 1 ≡ length lengths = omega (arith, last, there) in
            let same : start lengths (block + 1) ≡ start lengths (length lengths) = ap (start lengths) all in
            absurd (omega (arith, same, here, following, inside))
      ],
      here,
      following,
    )

-- ---- entries

last_or_before : {P : Type 0} (front : List SparseEntry) (entry : SparseEntry) (j : ℕ) (e : SparseEntry) → slice_get (front ++ entry ∷ []) j ≡ Some e →
    (slice_get front j ≡ Some e → P) → (j ≡ length front → entry ≡ e → P) → P
last_or_before [] entry zero e there inside last = last refl cc
last_or_before [] entry (suc j) e there inside last = absurd cc
last_or_before (x ∷ front) entry zero e there inside last = inside there
last_or_before (x ∷ front) entry (suc j) e there inside last = last_or_before front entry j e there inside (λ h same. last (ap suc h) same)

pub index_none : (lengths : List ℕ) (span_bits : ℕ) (sparse : List SparseEntry) → sparse ≡ [] → IsIndexOf lengths span_bits sparse
index_none lengths span_bits sparse e =
    subst (λ (z : List SparseEntry). IsIndexOf lengths span_bits z) (sym e) (λ j entry there. absurd cc)

pub index_more : (lengths : List ℕ) (span_bits j : ℕ) (sparse after : List SparseEntry) (entry : SparseEntry) → IsIndexOf lengths span_bits sparse → length sparse ≡ j → after ≡ sparse ++ entry ∷ [] →
    IsEntryOf lengths span_bits j entry → IsIndexOf lengths span_bits after
index_more lengths span_bits j sparse after entry h count made stated =
    subst (λ (z : List SparseEntry). IsIndexOf lengths span_bits z) (sym made)
    (λ i e at. last_or_before sparse entry i e at (h i e)
    (λ last same. subst (λ (x : SparseEntry). IsEntryOf lengths span_bits i x) same
    (subst (λ (k : ℕ). IsEntryOf lengths span_bits k entry) (let k : j ≡ i = omega (arith, last, count) in k) stated)))

-- an entry that leads to the middle of a span is the span's entry
pub entry_is : (lengths : List ℕ) (span_bits j index size : ℕ) (entry : SparseEntry) → index ≡ middle_of_span span_bits j → start lengths (length lengths) ≡ size → entry.block ≤ length lengths →
    start lengths entry.block + entry.offset ≡ index → (index < size → (entry.block < length lengths) × (index < start lengths (entry.block + 1))) → (size ≤ index → entry.block ≡ length lengths) →
    IsEntryOf lengths span_bits j entry
entry_is lengths span_bits j index size entry at total there place inside beyond = record {
  block = there;
  place = place ∙ at;
  inside = λ lt. let h = inside (omega (arith, lt, at, total)) in (h.0, omega (arith, h.1, at));
  beyond = λ le. beyond (omega (arith, le, at, total));
}

-- an index that is at most the length of a block after its start is in the block
pub held_by : (lengths : List ℕ) (block begun index : ℕ) → block < length lengths → begun ≡ start lengths block → index - begun ≤ get_or lengths block 0 → index < start lengths (block + 1)
held_by lengths block begun index there at near =
    let more : start lengths (block + 1) ≡ start lengths block + (get_or lengths block 0 + 1) = start-more lengths block there in
    omega (arith, more, at, near)
